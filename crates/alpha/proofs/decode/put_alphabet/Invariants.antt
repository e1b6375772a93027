use Rattle.std.proofs.Common.{◌≡◌, ◌++◌, drop, false, string_bytes}
use Rattle.std.specs.Str.{encode_utf8_all}
use Rattle.alpha.specs.Names.{alphabet_characters}
use Rattle.alpha.proofs.decode.put_alphabet.Given as goal

abbrev pub invariant-loop-byte : goal.invariant-loop-byte
invariant-loop-byte l =
    string_bytes l.fn.name ++ encode_utf8_all (alphabet_characters l.base false l.bytes)
    ≡ string_bytes l.name ++ encode_utf8_all (alphabet_characters l.base l.after_escape (drop l.byte-index l.bytes))
