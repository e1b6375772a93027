-- What the reader of a field answers.
use Rattle.std.specs.Prelude.{◌≡◌, ℕ, Result, Ok, Err}
use Rattle.sim_codecs.specs.declared.error.FieldError.{FieldError}
use Rattle.sim_codecs.specs.declared.error.FieldError.TheVariants.{Malformed, Memory}

-- the value, or the index where the field is damaged; want of memory says nothing
abbrev pub ReadsAs : {T : Type 0} → Result T ℕ → Result T FieldError → Type 0
ReadsAs read (Ok value) = read ≡ Ok value
ReadsAs read (Err (Malformed at)) = read ≡ Err at
ReadsAs read (Err Memory) = Unit {0}

-- the answer of a reader that takes no memory
abbrev pub answer_of : {T : Type 0} → Result T ℕ → Result T FieldError
answer_of (Ok value) = Ok value
answer_of (Err at) = Err (Malformed at)
