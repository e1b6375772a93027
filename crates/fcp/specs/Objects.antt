-- The objects of a template of control parameters that are read, ETSI TS 102 221 clause 11.1.1.3.
use Rattle.std.specs.Prelude.{ℕ, List, Option}
use Rattle.tlv.specs.Objects.{Part, value_of_tag}

-- descriptor, id, life cycle status, reference to EF_ARR and size: each the value of the first object of its tag
pub record Objects : Type 0 where
  pub descriptor : Option (List ℕ)
  pub file_id : Option (List ℕ)
  pub life_cycle : Option (List ℕ)
  pub reference : Option (List ℕ)
  pub size : Option (List ℕ)

abbrev pub objects_of : List Part → Objects
objects_of parts = record {
  descriptor = value_of_tag 0x82 parts;
  file_id = value_of_tag 0x83 parts;
  life_cycle = value_of_tag 0x8A parts;
  reference = value_of_tag 0x8B parts;
  size = value_of_tag 0x80 parts;
}
