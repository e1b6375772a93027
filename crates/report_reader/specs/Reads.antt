-- Readings: the value, or none where there is none; and what the readers answer, of which want of memory says nothing.
use Rattle.std.specs.Prelude.{◌≡◌, ℕ, Bool, if◌then◌else◌, List, [], ◌∷◌, map, Option, Some, None, Result, Ok, Err}
use denote.Ref.{Bor}
use Rattle.report_reader.specs.declared.error.LineError.{LineError}
use Rattle.report_reader.specs.declared.error.LineError.TheVariants as line
use Rattle.report_reader.specs.declared.error.ReportError.{ReportError}
use Rattle.report_reader.specs.declared.error.ReportError.TheVariants as report

-- readings in order: none, where one is none
infixl 10 ◌>>=◌
abbrev pub ◌>>=◌ : {A B : Type 0} → Option A → (A → Option B) → Option B
Some x >>= next = next x
None >>= next = None

-- the rule has to hold
abbrev pub rule : Bool → Option (Unit {0})
rule holds = if holds then Some tt else None

-- what each of the list is read as
abbrev pub all_of : {A B : Type 0} → (A → Option B) → List A → Option (List B)
all_of read [] = Some []
all_of read (x ∷ xs) = do
  y ← read x
  ys ← all_of read xs
  Some (y ∷ ys)

-- the texts that are lent
abbrev pub texts : List (Bor (List ℕ)) → List (List ℕ)
texts words = map (λ word. word.now) words

-- of a line or a part of it
abbrev pub ReadsAs : {T : Type 0} → Option T → Result T LineError → Type 0
ReadsAs read (Ok value) = read ≡ Some value
ReadsAs read (Err line.NoPlace) = read ≡ None
ReadsAs read (Err line.Memory) = Unit {0}

-- of lines: their value, or the number of the first that has no place
abbrev pub AnswersAs : {T : Type 0} → Result T ℕ → Result T ReportError → Type 0
AnswersAs read (Ok value) = read ≡ Ok value
AnswersAs read (Err (report.Refused number)) = read ≡ Err number
AnswersAs read (Err report.Memory) = Unit {0}

-- of what is changed by it
abbrev pub ChangesTo : {T : Type 0} → Result T ℕ → T → Result (Unit {0}) ReportError → Type 0
ChangesTo read new (Ok done) = read ≡ Ok new
ChangesTo read new (Err (report.Refused number)) = read ≡ Err number
ChangesTo read new (Err report.Memory) = Unit {0}

-- the error of the line of this number
abbrev pub at_line : ℕ → LineError → ReportError
at_line number line.NoPlace = report.Refused number
at_line number line.Memory = report.Memory

-- what is read of the line of this number
abbrev pub placed : {A : Type 0} → ℕ → Option A → Result A ℕ
placed number None = Err number
placed number (Some x) = Ok x
