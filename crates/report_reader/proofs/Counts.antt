-- Lists of fewer or more words than are read.
use Rattle.std.proofs.Common.{◌≡◌, ◌≢◌, get_or, ℕ, Bool, ◌<◌, ◌≤◌, List, [], ◌∷◌, length, Err, Option, None, refl, arith}
use denote.Ref.{Bor}
use Rattle.script_reader.specs.declared.types.Script.{Script}
use Rattle.report.specs.declared.line.Line.{Line}
use Rattle.report_reader.specs.Reads.{texts}
use Rattle.report_reader.specs.Answers.{of_words}
use Rattle.report_reader.specs.Lines.{answered, of_three}
use Rattle.report_reader.specs.Reports.{report_of_parts}

pub many_words : (ends : Bool) (name : List ℕ) (words : List (Bor (List ℕ))) → 5 ≤ length words → of_words ends name (texts words) ≡ None
many_words ends name [] h = absurd (omega (arith, h))
many_words ends name (a ∷ []) h = absurd (omega (arith, h))
many_words ends name (a ∷ b ∷ []) h = absurd (omega (arith, h))
many_words ends name (a ∷ b ∷ c ∷ []) h = absurd (omega (arith, h))
many_words ends name (a ∷ b ∷ c ∷ d ∷ []) h = absurd (omega (arith, h))
many_words ends name (a ∷ b ∷ c ∷ d ∷ e ∷ words) h = refl

pub few_words : (s : Script) (words : List (Bor (List ℕ))) → length words < 3 → answered s (texts words) ≡ None
few_words s [] h = refl
few_words s (a ∷ []) h = refl
few_words s (a ∷ b ∷ []) h = refl
few_words s (a ∷ b ∷ c ∷ words) h = absurd (omega (arith, h))

pub few_parts : (parts : List (Bor (List ℕ))) → length parts < 2 → report_of_parts (texts parts) ≡ Err 1
few_parts [] h = refl
few_parts (a ∷ []) h = refl
few_parts (a ∷ b ∷ parts) h = absurd (omega (arith, h))

-- other than three words
pub other_count : (read : List ℕ → List ℕ → List ℕ → Option Line) (words : List (Bor (List ℕ))) → length words ≢ 3 → of_three read (texts words) ≡ None
other_count read [] h = refl
other_count read (a ∷ []) h = refl
other_count read (a ∷ b ∷ []) h = refl
other_count read (a ∷ b ∷ c ∷ []) h = absurd (h refl)
other_count read (a ∷ b ∷ c ∷ d ∷ words) h = refl

-- three words
pub three_words : (read : List ℕ → List ℕ → List ℕ → Option Line) (words : List (Bor (List ℕ))) (d : Bor (List ℕ)) → length words ≡ 3 → of_three read (texts words) ≡ read (get_or words 0 d).now (get_or words 1 d).now (get_or words 2 d).now
three_words read [] d h = absurd (omega (arith, h))
three_words read (a ∷ []) d h = absurd (omega (arith, h))
three_words read (a ∷ b ∷ []) d h = absurd (omega (arith, h))
three_words read (a ∷ b ∷ c ∷ []) d h = refl
three_words read (a ∷ b ∷ c ∷ e ∷ words) d h = absurd (omega (arith, h))
