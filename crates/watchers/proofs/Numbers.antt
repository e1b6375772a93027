-- The numbers of notices, one by one.
use Rattle.std.proofs.Common.{◌≡◌, ◌+◌, ℕ, zero, suc, List, [], ◌∷◌, ◌++◌, map, take, Some, ap, add-one}
use Rattle.std.specs.Prelude.{slice_get}
use Rattle.watchers.specs.declared.filter.Notice.{Notice}

abbrev numbers : List Notice → List ℕ
numbers notices = map (λ (n : Notice). n.number) notices

next_number : (notices : List Notice) (i : ℕ) (n : Notice) → slice_get notices i ≡ Some n → numbers (take (suc i) notices) ≡ numbers (take i notices) ++ n.number ∷ []
next_number [] i n e = absurd (cc)
next_number (x ∷ xs) zero n e = let same : x ≡ n = cc in ap (λ (m : Notice). m.number ∷ []) same
next_number (x ∷ xs) (suc i) n e = ap (λ (l : List ℕ). x.number ∷ l) (next_number xs i n e)

pub one_more : (notices : List Notice) (i : ℕ) (n : Notice) → slice_get notices i ≡ Some n → numbers (take (i + 1) notices) ≡ numbers (take i notices) ++ n.number ∷ []
one_more notices i n e = rw add-one (next_number notices i n e)
