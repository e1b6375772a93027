-- Digits put at the end of an empty text are the text.
use Rattle.std.proofs.Common.{◌≡◌, ℕ, List, [], Option, None, Result, Ok, Err, refl, sym, ap, ◌∙◌}
use Rattle.sim_codecs.specs.Digits.{onto, ends_at}

onto_nothing : (r : Result (List ℕ) ℕ) → onto [] r ≡ r
onto_nothing (Ok digits) = refl
onto_nothing (Err at) = refl

pub read_whole : (r : Result (List ℕ) ℕ) (place : Option ℕ) (before out text : List ℕ) → before ≡ [] → text ≡ out → place ≡ None → ends_at place out ≡ onto before r → r ≡ Ok text
read_whole r place before out text empty is none e =
    sym (onto_nothing r) ∙ ap (λ xs. onto xs r) (sym empty) ∙ sym e ∙ ap (λ (p : Option ℕ). ends_at p out) none ∙ ap (λ (xs : List ℕ). ends_at None xs) (sym is)
