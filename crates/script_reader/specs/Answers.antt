-- What the readers answer: the reading, except that want of memory says nothing.
use Rattle.std.specs.Prelude.{◌≡◌, ℕ, List, Result, Ok, Err}
use denote.Ref.{Bor}
use Rattle.script_reader.specs.declared.error.Part.{Part}
use Rattle.script_reader.specs.declared.error.Why.{Why}
use Rattle.script_reader.specs.declared.error.ItemError.{ItemError}
use Rattle.script_reader.specs.declared.error.ItemError.TheVariants as item
use Rattle.script_reader.specs.declared.error.ScriptError.{ScriptError}
use Rattle.script_reader.specs.declared.error.ScriptError.TheVariants as script
use Rattle.script_reader.specs.Reading.{Refusal, refusal}

-- of an item: its value, or the first rule that it breaks
abbrev pub ReadsAs : {T : Type 0} → Result T Why → Result T ItemError → Type 0
ReadsAs read (Ok value) = read ≡ Ok value
ReadsAs read (Err (item.Broken why)) = read ≡ Err why
ReadsAs read (Err item.Memory) = Unit {0}

-- of a text that is lent
abbrev pub ReadsTextAs : Result (List ℕ) Why → Result (Bor (List ℕ)) ItemError → Type 0
ReadsTextAs read (Ok text) = read ≡ Ok text.now
ReadsTextAs read (Err error) = ReadsAs {T = List ℕ} read (Err error)

-- of a script or a part of it: its value, or where it is refused
abbrev pub AnswersAs : {T : Type 0} → Result T Refusal → Result T ScriptError → Type 0
AnswersAs read (Ok value) = read ≡ Ok value
AnswersAs read (Err (script.Refused part index why)) = read ≡ Err (refusal part index why)
AnswersAs read (Err script.Memory) = Unit {0}

-- the error at an item of a part
abbrev pub placed : Part → ℕ → ItemError → ScriptError
placed part index (item.Broken why) = script.Refused part index why
placed part index item.Memory = script.Memory
