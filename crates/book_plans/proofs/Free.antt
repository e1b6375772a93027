-- The lowest free extension row.
use Rattle.std.proofs.Common.{◌≡◌, ◌<◌, ◌≤◌, ◌+◌, ◌-◌, ◌&&◌, ℕ, zero, suc, Bool, true, false, not, cond, List, [], ◌∷◌, drop, get_or, Option, Some, None, refl, sym, ap, ◌∙◌, arith}
use Rattle.std.proofs.Math.ListN.{drop_of_length-le}
use Rattle.std.proofs.lemmas.List.{drop_more}
use Rattle.std.proofs.lemmas.Option.{slice_get_within, get_or_from_slice_get, none-some}
use Rattle.std.proofs.lemmas.Bool.Decides.{nat_tests}
use Rattle.std.specs.Prelude.{slice_get}
use Rattle.fcp.specs.Content.{Content}
use Rattle.apdu.specs.Words.{is_between, is_one_of}
use Rattle.families.specs.Plans.{is_free_extension, first_free, is_named}
use Rattle.adn.specs.Book.{extension_rows, main_rows}

next : (rows : List (List ℕ)) (i : ℕ) (row : List ℕ) → slice_get rows i ≡ Some row → drop i rows ≡ row ∷ drop (i + 1) rows
next rows i row e = drop_more rows i row (slice_get_within rows i row e) ∙ ap (λ y. y ∷ drop (i + 1) rows) (get_or_from_slice_get rows i row row e)

left : (rows : List (List ℕ)) (i : ℕ) → slice_get rows i ≡ None → drop i rows ≡ []
left [] i e = drop_of_length-le [] (omega arith)
left (row ∷ rows) zero e = absurd (none-some row (sym e))
left (row ∷ rows) (suc i) e = left rows i e

taken : (b : Bool) (n : ℕ) (rest : Option ℕ) → b ≡ true → cond b (Some n) rest ≡ Some n
taken true n rest e = refl
taken false n rest e = cc

passed : (b : Bool) (n : ℕ) (rest : Option ℕ) → b ≡ false → cond b (Some n) rest ≡ rest
passed true n rest e = cc
passed false n rest e = refl

-- the row is free
pub free_here : (main ext : Content) (n : ℕ) (rows : List (List ℕ)) (row : List ℕ) → slice_get rows (n - 1) ≡ Some row → is_free_extension main ext n row ≡ true → first_free main ext n (drop (n - 1) rows) ≡ Some n
free_here main ext n rows row e free =
    ap (λ xs. first_free main ext n xs) (next rows (n - 1) row e) ∙ taken (is_free_extension main ext n row) n (first_free main ext (n + 1) (drop (n - 1 + 1) rows)) free

-- the row is not
pub free_behind : (main ext : Content) (n : ℕ) (rows : List (List ℕ)) (row : List ℕ) → 1 ≤ n → slice_get rows (n - 1) ≡ Some row → is_free_extension main ext n row ≡ false
    → first_free main ext n (drop (n - 1) rows) ≡ first_free main ext (n + 1) (drop (n + 1 - 1) rows)
free_behind main ext n rows row first e taken_row =
    let at : n - 1 + 1 ≡ n + 1 - 1 = omega arith in
    ap (λ xs. first_free main ext n xs) (next rows (n - 1) row e)
    ∙ passed (is_free_extension main ext n row) n (first_free main ext (n + 1) (drop (n - 1 + 1) rows)) taken_row
    ∙ ap (λ k. first_free main ext (n + 1) (drop k rows)) at

-- there are no more rows
pub none_left : (main ext : Content) (n : ℕ) (rows : List (List ℕ)) → slice_get rows (n - 1) ≡ None → first_free main ext n (drop (n - 1) rows) ≡ None
none_left main ext n rows e = ap (λ xs. first_free main ext n xs) (left rows (n - 1) e)

and_first : (a b : Bool) → a ≡ false → (a && b) ≡ false
and_first true b e = cc
and_first false b e = refl

past : (n : ℕ) → 254 < n → is_between 1 254 n ≡ false
past n h = grind (arith, nat_tests)

and_third : (a b c : Bool) → a ≡ false → (a && b && c) ≡ false
and_third true b c e = cc
and_third false b c e = refl

not_free : (main ext : Content) (n : ℕ) (row : List ℕ) → 254 < n → is_free_extension main ext n row ≡ false
not_free main ext n row h =
    and_third (is_between 1 254 n) (is_one_of (get_or row 0 0) (0x00 ∷ 0xFF ∷ [])) (not (is_named (extension_rows ext) (main_rows main) n)) (past n h)

-- past the first 254 none is free
pub none_past : (main ext : Content) (n : ℕ) (rows : List (List ℕ)) → 254 < n → first_free main ext n rows ≡ None
none_past main ext n [] h = refl
none_past main ext n (row ∷ rows) h = passed (is_free_extension main ext n row) n (first_free main ext (n + 1) rows) (not_free main ext n row h) ∙ none_past main ext (n + 1) rows (omega arith)
