-- Rows taken one after another.
use Rattle.std.proofs.Common.{◌≡◌, ℕ, ◌+◌, List, [], ◌∷◌, ◌++◌, length, map, drop, Some, None, slice_get, sym, ap, ◌∙◌, arith, rules, zero, suc}
use Rattle.std.proofs.Math.ListN.{drop_of_length-le}
use Rattle.std.proofs.lemmas.List.{drop_more, length-append, append_assoc}
use Rattle.std.proofs.lemmas.Option.{slice_get_within, get_or_from_slice_get, none-some}

next : {X : Type 0} (xs : List X) (i : ℕ) (x : X) → slice_get xs i ≡ Some x → drop i xs ≡ x ∷ drop (i + 1) xs
next xs i x e = drop_more xs i x (slice_get_within xs i x e) ∙ ap (λ y. y ∷ drop (i + 1) xs) (get_or_from_slice_get xs i x x e)

left : {X : Type 0} (xs : List X) (i : ℕ) → slice_get xs i ≡ None → drop i xs ≡ []
left [] i e = drop_of_length-le [] (omega arith)
left (x ∷ xs) zero e = absurd (none-some x (sym e))
left (x ∷ xs) (suc i) e = left xs i e

-- one row more
pub row_taken : {A B : Type 0} (f : A → B) (rows : List A) (so_far new : List B) (row : A)
    → map f rows ≡ so_far ++ map f (drop (length so_far) rows) → slice_get rows (length so_far) ≡ Some row → new ≡ so_far ++ f row ∷ []
    → map f rows ≡ new ++ map f (drop (length new) rows)
row_taken {B = B} f rows so_far new row before is more =
    before
    ∙ ap (λ xs. so_far ++ map f xs) (next rows (length so_far) row is)
    ∙ sym (append_assoc so_far (f row ∷ []) (map f (drop (length so_far + 1) rows)))
    ∙ ap (λ n. (so_far ++ f row ∷ []) ++ map f (drop n rows)) (sym (length-append so_far (f row ∷ [])))
    ∙ ap (λ (xs : List B). xs ++ map f (drop (length xs) rows)) (sym more)

-- no row is left
pub rows_taken : {A B : Type 0} (f : A → B) (rows : List A) (so_far : List B)
    → map f rows ≡ so_far ++ map f (drop (length so_far) rows) → slice_get rows (length so_far) ≡ None → so_far ≡ map f rows
rows_taken f rows so_far before none = sym (before ∙ ap (λ xs. so_far ++ map f xs) (left rows (length so_far) none) ∙ search rules)
