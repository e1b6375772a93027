-- Rows taken one after another.
use Rattle.std.proofs.Common.{◌≡◌, ℕ, ◌+◌, List, [], ◌∷◌, ◌++◌, length, map, drop, Some, None, slice_get, sym, ap, ◌∙◌, arith, rules, zero, suc}
use Rattle.std.proofs.Math.ListN.{drop_of_length-le}
use Rattle.std.proofs.lemmas.List.{drop_more, length-append, append_assoc}
use Rattle.std.proofs.lemmas.Option.{slice_get_within, get_or_from_slice_get, none-some}
use Rattle.adn.specs.declared.entry.BookRow.{BookRow}

pub next : {X : Type 0} (xs : List X) (i : ℕ) (x : X) → slice_get xs i ≡ Some x → drop i xs ≡ x ∷ drop (i + 1) xs
next xs i x e = drop_more xs i x (slice_get_within xs i x e) ∙ ap (λ y. y ∷ drop (i + 1) xs) (get_or_from_slice_get xs i x x e)

pub left : {X : Type 0} (xs : List X) (i : ℕ) → slice_get xs i ≡ None → drop i xs ≡ []
left [] i e = drop_of_length-le [] (omega arith)
left (x ∷ xs) zero e = absurd (none-some x (sym e))
left (x ∷ xs) (suc i) e = left xs i e

-- one row more
pub row_read : (f : List ℕ → BookRow) (rows : List (List ℕ)) (book new : List BookRow) (row : List ℕ)
    → map f rows ≡ book ++ map f (drop (length book) rows) → slice_get rows (length book) ≡ Some row → new ≡ book ++ f row ∷ []
    → map f rows ≡ new ++ map f (drop (length new) rows)
row_read f rows book new row before is more =
    before
    ∙ ap (λ xs. book ++ map f xs) (next rows (length book) row is)
    ∙ sym (append_assoc book (f row ∷ []) (map f (drop (length book + 1) rows)))
    ∙ ap (λ n. (book ++ f row ∷ []) ++ map f (drop n rows)) (sym (length-append book (f row ∷ [])))
    ∙ ap (λ (xs : List BookRow). xs ++ map f (drop (length xs) rows)) (sym more)

-- no row is left
pub rows_read : (f : List ℕ → BookRow) (rows : List (List ℕ)) (book : List BookRow)
    → map f rows ≡ book ++ map f (drop (length book) rows) → slice_get rows (length book) ≡ None → book ≡ map f rows
rows_read f rows book before none = sym (before ∙ ap (λ xs. book ++ map f xs) (left rows (length book) none) ∙ search rules)
