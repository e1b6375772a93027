-- Texts that are put one behind the other.
use Rattle.std.proofs.Common.{◌≡◌, ℕ, List, ◌++◌, ap, sym, ◌∙◌, append_assoc}

pub eight_words : (a b c d e f g h last : List ℕ) → ((((a ++ b) ++ (c ++ d)) ++ (e ++ f)) ++ (g ++ h)) ++ last ≡ a ++ b ++ c ++ d ++ e ++ f ++ g ++ h ++ last
eight_words a b c d e f g h last =
    let four = sym (append_assoc (a ++ b) c d) in
    let six = ap (λ x. x ++ (e ++ f)) four ∙ sym (append_assoc (a ++ b ++ c ++ d) e f) in
    ap (λ x. x ++ last) (ap (λ x. x ++ (g ++ h)) six ∙ sym (append_assoc (a ++ b ++ c ++ d ++ e ++ f) g h))
