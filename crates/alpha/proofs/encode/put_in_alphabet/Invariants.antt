use Rattle.std.proofs.Common.{◌≡◌, ◌++◌, [], drop}
use Rattle.std.specs.List.{flat_map}
use Rattle.std.specs.Option.{unwrap_or}
use Rattle.alpha.specs.Names.{alphabet_bytes}
use Rattle.alpha.proofs.encode.put_in_alphabet.Given as goal

abbrev pub invariant-loop-character : goal.invariant-loop-character
invariant-loop-character l =
    l.fn.bytes.items ++ flat_map (λ c. unwrap_or (alphabet_bytes c) []) l.characters
    ≡ l.bytes.items ++ flat_map (λ c. unwrap_or (alphabet_bytes c) []) (drop l.character-index l.characters)
