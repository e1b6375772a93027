use Rattle.std.proofs.Common.{◌≡◌, ◌++◌, drop}
use Rattle.std.specs.List.{flat_map}
use Rattle.apdu.specs.Words.{two_bytes}
use Rattle.alpha.proofs.encode.put_in_units.Given as goal

abbrev pub invariant-loop-character : goal.invariant-loop-character
invariant-loop-character l =
    l.fn.bytes.items ++ flat_map two_bytes l.characters ≡ l.bytes.items ++ flat_map two_bytes (drop l.character-index l.characters)
