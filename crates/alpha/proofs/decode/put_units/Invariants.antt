use Rattle.std.proofs.Common.{◌≡◌, ◌++◌, length, string_bytes}
use Rattle.std.specs.Str.{encode_utf8_all}
use Rattle.alpha.specs.Names.{unit_characters}
use Rattle.alpha.proofs.decode.put_units.Given as goal

abbrev pub invariant-loop-rest : goal.invariant-loop-rest
invariant-loop-rest l =
    string_bytes l.fn.name ++ encode_utf8_all (unit_characters l.bytes) ≡ string_bytes l.name ++ encode_utf8_all (unit_characters l.rest)

abbrev pub decreases-loop-rest : goal.decreases-loop-rest
decreases-loop-rest l = length l.rest
