use Rattle.std.proofs.Common.{◌≡◌, length}
use Rattle.std.specs.Option.{option_copied, option_or}
use Rattle.tlv.specs.Objects.{value_of_tag}
use Rattle.tlv.proofs.reader.Cursor.first_value.Given as goal

abbrev pub invariant-objects : goal.invariant-objects
invariant-objects l = record {
  value : option_or (option_copied l.first) (value_of_tag l.tag l.self.parts) ≡ value_of_tag l.tag l.fn.self.parts;
  damage : l.self.damage ≡ l.fn.self.damage;
}

abbrev pub decreases-objects : goal.decreases-objects
decreases-objects l = length l.self.parts
