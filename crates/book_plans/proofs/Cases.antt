-- What every plan is.
use Rattle.std.proofs.Common.{◌≡◌, ◌≤◌, ◌-◌, ◌&&◌, ◌||◌, not, ℕ, Bool, true, false, cond, nat_lt, List, length, drop, Option, Some, None, refl, ap, subst, arith}
use Rattle.std.proofs.lemmas.List.{length-drop}
use Rattle.std.proofs.lemmas.Bool.Decides.{nat_tests}
use Rattle.std.specs.Prelude.{nat_le, Result, Ok, Err, IfOk}
use Rattle.std.specs.Str.{chars}
use Rattle.apdu.specs.Words.{is_between, is_empty}
use Rattle.fcp.specs.Content.{Content, is_linear}
use Rattle.alpha.specs.Names.{encode_name, name_refusal}
use Rattle.alpha.specs.declared.encode.AlphaError.{AlphaError}
use Rattle.bcd.specs.Digits.{written_digits, digit_refusal}
use Rattle.bcd.specs.declared.DigitError.{DigitError}
use Rattle.adn.specs.declared.entry.AdnEntry.{AdnEntry}
use Rattle.adn.specs.declared.edit.Edit.{Edit}
use Rattle.adn.specs.declared.edit.Edit.TheVariants.{Set, Clear}
use Rattle.adn.specs.declared.edit.Plan.{Plan}
use Rattle.adn.specs.declared.edit.PlanError.{PlanError}
use Rattle.adn.specs.declared.edit.PlanError.TheVariants.{BadFile, NoRecord, BadDigit}
use Rattle.adn.specs.Book.{extension_rows}
use Rattle.families.specs.Plans.{◌>>=◌, target_of, row_from_target, row_to_edit, free_extension, has_plus, without_plus, digits_or, name_or, extension_or_full, extension_for, set_plan, clear_plan, plan_at, plan_edit, digit_bytes}
use Rattle.book_plans.specs.Phonebook.{Files}
use Rattle.book_plans.specs.Law.{book_of}
use Rattle.book_plans.proofs.Apart.{or_parts}
use Rattle.book_plans.proofs.Written.{length_written}
use Rattle.book_plans.proofs.Back.{can_write}
use Rattle.book_plans.proofs.Behind.{IsFree, free_is}

-- ---- the row of an edit

target_step : (count k at : ℕ) (b : Bool) → is_between 1 count k ≡ b → cond {A = Result ℕ PlanError} b (Ok k) (Err (NoRecord k)) ≡ Ok at → (Some k ≡ Some at) × (is_between 1 count at ≡ true)
target_step count k at true is e = let same : k ≡ at = cc in (ap Some same, subst (λ n. is_between 1 count n ≡ true) same is)
target_step count k at false is e = absurd (cc)

target_is : (count : ℕ) (target : Option ℕ) (at : ℕ) → row_from_target count target ≡ Ok at → (target ≡ Some at) × (is_between 1 count at ≡ true)
target_is count None at e = absurd (cc)
target_is count (Some k) at e = target_step count k at (is_between 1 count k) refl e

-- this is the edit's row, in a file whose rows have room for a number
pub record IsRow (files : Files) (e : Edit) (at : ℕ) : Type 0 where
  pub linear : is_linear files.main.kind ≡ true
  pub wide : nat_lt files.main.width 14 ≡ false
  pub target : target_of (book_of files) e ≡ Some at
  pub within : is_between 1 (length files.main.rows) at ≡ true

-- an entry that can be written
pub record CanWrite (main : Content) (entry : AdnEntry) : Type 0 where
  pub name : name_refusal (chars entry.name) (main.width - 14) ≡ None
  pub digits : digit_refusal (without_plus entry.number) ≡ None
  pub some : (has_plus entry.number && is_empty (without_plus entry.number)) ≡ false

-- what an extension row has to hold
pub further_length : (digits : List ℕ) → digit_refusal digits ≡ None → length (drop 10 (written_digits digits)) ≤ 10
further_length digits e =
    let most : length (written_digits digits) ≤ 20 = length_written 20 digits (let few = (can_write digits e).1 in omega arith) in
    omega (arith, length-drop 10 (written_digits digits))

-- P of the plans that write an entry: no extension row is needed, or this one is free
pub record SetCases (files : Files) (entry : AdnEntry) (at : ℕ) (P : Plan → Type 0) : Type 0 where
  pub none : CanWrite files.main entry → length (written_digits (without_plus entry.number)) ≤ 10 → P (set_plan files.main files.ext at (encode_name entry.name (files.main.width - 14)) (has_plus entry.number) (written_digits (without_plus entry.number)) None)
  pub some : (n : ℕ) → CanWrite files.main entry → IsFree files.main files.ext n → P (set_plan files.main files.ext at (encode_name entry.name (files.main.width - 14)) (has_plus entry.number) (written_digits (without_plus entry.number)) (Some n))

-- P of the plans of an edit that has this row
abbrev pub AtCases : Edit → Files → ℕ → (Plan → Type 0) → Type 0
AtCases (Clear stated) files at P = P (clear_plan files.main files.ext at)
AtCases (Set stated entry) files at P = SetCases files entry at P

free_step : (files : Files) (entry : AdnEntry) (at : ℕ) (P : Plan → Type 0) → SetCases files entry at P → CanWrite files.main entry → (found : Option ℕ) → free_extension files.main files.ext ≡ found
    → IfOk (extension_or_full (length (extension_rows files.ext)) found >>= λ extension. Ok (set_plan files.main files.ext at (encode_name entry.name (files.main.width - 14)) (has_plus entry.number) (written_digits (without_plus entry.number)) extension)) P
free_step files entry at P cases can None e = tt
free_step files entry at P cases can (Some n) e = cases.some n can (free_is files.main files.ext n e)

extension_step : (files : Files) (entry : AdnEntry) (at : ℕ) (P : Plan → Type 0) → SetCases files entry at P → CanWrite files.main entry → (b : Bool) → nat_le (length (written_digits (without_plus entry.number))) 10 ≡ b
    → IfOk (cond b (Ok None) (extension_or_full (length (extension_rows files.ext)) (free_extension files.main files.ext)) >>= λ extension. Ok (set_plan files.main files.ext at (encode_name entry.name (files.main.width - 14)) (has_plus entry.number) (written_digits (without_plus entry.number)) extension)) P
extension_step files entry at P cases can true e = cases.none can (grind (arith, nat_tests))
extension_step files entry at P cases can false e = free_step files entry at P cases can (free_extension files.main files.ext) refl

digits_step : (files : Files) (entry : AdnEntry) (at : ℕ) (P : Plan → Type 0) → SetCases files entry at P → name_refusal (chars entry.name) (files.main.width - 14) ≡ None
    → (has_plus entry.number && is_empty (without_plus entry.number)) ≡ false → (r : Option DigitError) → digit_refusal (without_plus entry.number) ≡ r
    → IfOk (digits_or entry.number r >>= λ bytes. extension_for files.main files.ext bytes >>= λ extension. Ok (set_plan files.main files.ext at (encode_name entry.name (files.main.width - 14)) (has_plus entry.number) bytes extension)) P
digits_step files entry at P cases name some (Some error) e = tt
digits_step files entry at P cases name some None e =
    extension_step files entry at P cases (record { name = name; digits = e; some = some }) (nat_le (length (written_digits (without_plus entry.number))) 10) refl

number_step : (files : Files) (entry : AdnEntry) (at : ℕ) (P : Plan → Type 0) → SetCases files entry at P → name_refusal (chars entry.name) (files.main.width - 14) ≡ None
    → (b : Bool) → (has_plus entry.number && is_empty (without_plus entry.number)) ≡ b
    → IfOk (cond b (Err (BadDigit 1)) (digits_or entry.number (digit_refusal (without_plus entry.number))) >>= λ bytes. extension_for files.main files.ext bytes >>= λ extension. Ok (set_plan files.main files.ext at (encode_name entry.name (files.main.width - 14)) (has_plus entry.number) bytes extension)) P
number_step files entry at P cases name true e = tt
number_step files entry at P cases name false e = digits_step files entry at P cases name e (digit_refusal (without_plus entry.number)) refl

name_step : (files : Files) (entry : AdnEntry) (at : ℕ) (P : Plan → Type 0) → SetCases files entry at P → (r : Option AlphaError) → name_refusal (chars entry.name) (files.main.width - 14) ≡ r
    → IfOk (name_or entry.name (files.main.width - 14) r >>= λ name. digit_bytes entry.number >>= λ bytes. extension_for files.main files.ext bytes >>= λ extension. Ok (set_plan files.main files.ext at name (has_plus entry.number) bytes extension)) P
name_step files entry at P cases (Some error) e = tt
name_step files entry at P cases None e = number_step files entry at P cases e (has_plus entry.number && is_empty (without_plus entry.number)) refl

at_step : (e : Edit) (files : Files) (at : ℕ) (P : Plan → Type 0) → AtCases e files at P → IfOk (plan_at files.main files.ext e at) P
at_step (Clear stated) files at P cases = cases
at_step (Set stated entry) files at P cases = name_step files entry at P cases (name_refusal (chars entry.name) (files.main.width - 14)) refl

row_step : (e : Edit) (files : Files) (P : Plan → Type 0) → ((at : ℕ) → IsRow files e at → AtCases e files at P) → is_linear files.main.kind ≡ true → nat_lt files.main.width 14 ≡ false
    → (r : Result ℕ PlanError) → row_to_edit files.main files.ext e ≡ r → IfOk (r >>= plan_at files.main files.ext e) P
row_step e files P cases linear wide (Err refusal) is = tt
row_step e files P cases linear wide (Ok at) is =
    let row = target_is (length files.main.rows) (target_of (book_of files) e) at is in
    at_step e files at P (cases at (record { linear = linear; wide = wide; target = row.0; within = row.1 }))

not_not : (b : Bool) → not b ≡ false → b ≡ true
not_not true e = refl
not_not false e = absurd (cc)

file_step : (e : Edit) (files : Files) (P : Plan → Type 0) → ((at : ℕ) → IsRow files e at → AtCases e files at P) → (b : Bool) → (not (is_linear files.main.kind) || nat_lt files.main.width 14) ≡ b
    → IfOk (let r : Result Plan PlanError = elim b [ true ↦ Err (BadFile files.main.width) | false ↦ (row_to_edit files.main files.ext e >>= plan_at files.main files.ext e) ] in r) P
file_step e files P cases true is = tt
file_step e files P cases false is =
    let parts = or_parts (not (is_linear files.main.kind)) (nat_lt files.main.width 14) is in
    row_step e files P cases (not_not (is_linear files.main.kind) parts.0) parts.1 (row_to_edit files.main files.ext e) refl

-- P of every plan of an edit
pub plan_cases : (e : Edit) (files : Files) (P : Plan → Type 0) → ((at : ℕ) → IsRow files e at → AtCases e files at P) → IfOk (plan_edit e files.main files.ext) P
plan_cases e files P cases = file_step e files P cases (not (is_linear files.main.kind) || nat_lt files.main.width 14) refl
