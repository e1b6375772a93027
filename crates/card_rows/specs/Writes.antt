-- What the checks of an UPDATE say of the file that it writes.
use Rattle.std.specs.Prelude.{◌≡◌, ◌≤◌, ◌<◌, ◌+◌, ℕ, length, Option, IfNone, IsTrue}
use Rattle.apdu.specs.Values.{CommandValue}
use Rattle.fcp.specs.Content.{is_transparent, first_row}
use Rattle.card_model.specs.declared.instruction.Part.{Part}
use Rattle.card_model.specs.declared.instruction.Part.TheVariants.{Binary, Record}
use Rattle.card_model.specs.declared.world.FileState.{FileState}
use Rattle.card_model.specs.declared.world.CardState.{CardState}
use Rattle.card_model.specs.Answers.{body_len, parameters}
use Rattle.card_model.specs.Update.{update_refusal}

-- the bytes of the body lie within those of the file
pub record TakesBytes (file : FileState) (c : CommandValue) : Type 0 where
  pub transparent : IsTrue (is_transparent file.rows.kind)
  pub within : parameters c + body_len c ≤ length (first_row file.rows.rows)

-- the record is there, and as wide as the body
pub record TakesRecord (file : FileState) (c : CommandValue) : Type 0 where
  pub counted : 0 < c.p1
  pub within : c.p1 ≤ length file.rows.rows
  pub width : body_len c ≡ file.rows.width

-- the body can be written over the part
abbrev pub Takes : Part → FileState → CommandValue → Type 0
Takes Binary file c = TakesBytes file c
Takes Record file c = TakesRecord file c

-- the word of the first check that fails; where none does, the body can be written
pub record IsRefusal (card : CardState) (part : Part) (c : CommandValue) (word : Option ℕ) (file : FileState) : Type 0 where
  pub value : word ≡ update_refusal card part file c
  pub takes : IfNone word (Takes part file c)
