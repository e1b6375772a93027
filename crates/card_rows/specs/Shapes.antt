-- What the room of a file depends on.
use Rattle.std.specs.Prelude.{ℕ, Bool, true, false, List, length, map, Option, option_map}
use Rattle.fcp.specs.declared.rows.FileKind.{FileKind}
use Rattle.card_model.specs.declared.instruction.Instruction.{Instruction}
use Rattle.card_model.specs.declared.instruction.Instruction.TheVariants.{Fetch}
use Rattle.card_model.specs.declared.world.FileState.{FileState}

-- the path of a file, the kind, width and number of its rows, and the length of its own control parameters
pub record Shape : Type 0 where
  pub path : List ℕ
  pub kind : FileKind
  pub width : ℕ
  pub count : ℕ
  pub template : Option ℕ

abbrev pub shape_of : FileState → Shape
shape_of file = record {
  path = file.path;
  kind = file.rows.kind;
  width = file.rows.width;
  count = length file.rows.rows;
  template = option_map length file.fcp;
}

abbrev pub shapes : List FileState → List Shape
shapes files = map shape_of files

-- the one row of the table that may change a file's shape
abbrev pub is_fetch : Instruction → Bool
is_fetch Fetch = true
is_fetch _ = false
