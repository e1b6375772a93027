-- Rows one behind another, of which the last may be shorter.
use Rattle.std.proofs.Common.{◌≡◌, ◌≤◌, ◌+◌, ◌*◌, ℕ, zero, suc, List, [], ◌∷◌, ◌++◌, length, take, drop, refl, ap, ◌∙◌, arith, add-one, length-drop}
use Rattle.std.specs.Prelude.{flat_map}
use Rattle.std.proofs.Math.Nat as nat
use Rattle.std.proofs.lemmas.List.{take_all, take-append-drop, take-append-le, drop-append-le}
use Rattle.fcp.specs.Buffer.{rows_of}

pub row_count : (n w : ℕ) (bs : List ℕ) → length (rows_of n w bs) ≡ n
row_count zero w bs = refl
row_count (suc n) w bs = ap suc (row_count n w (drop w bs))

row_within : (n w len : ℕ) → len ≡ suc n * w → w ≤ len
row_within n w len e = let s = nat.suc-mul n w in omega (arith, e, s)

behind : (n w : ℕ) (bs : List ℕ) → length bs ≡ suc n * w → length (drop w bs) ≡ n * w
behind n w bs e = let s = nat.suc-mul n w in let d = length-drop w bs in omega (arith, s, d, e)

appended : (n w : ℕ) (bs row : List ℕ) → length bs ≡ n * w → length row ≤ w → rows_of (suc n) w (bs ++ row) ≡ rows_of n w bs ++ row ∷ []
appended zero w [] row e short = ap (λ (r : List ℕ). r ∷ []) (take_all w row short)
appended zero w (b ∷ bs) row e short = absurd (omega (arith, e))
appended (suc n) w bs row e short =
    let m = row_within n w (length bs) e in
    rw (take-append-le w bs row m, drop-append-le w bs row m) (ap (λ l. take w bs ∷ l) (appended n w (drop w bs) row (behind n w bs e) short))

-- a row is appended to rows that are whole
pub row_appended : (n w : ℕ) (bs row : List ℕ) → length bs ≡ n * w → length row ≤ w → rows_of (n + 1) w (bs ++ row) ≡ rows_of n w bs ++ row ∷ []
row_appended n w bs row e short = rw add-one (appended n w bs row e short)

-- all rows together are the bytes
pub rows_together : (n w : ℕ) (bs : List ℕ) → length bs ≤ n * w → flat_map (λ (row : List ℕ). row) (rows_of n w bs) ≡ bs
rows_together zero w [] short = refl
rows_together zero w (b ∷ bs) short = absurd (omega (arith, short))
rows_together (suc n) w bs short =
    let s = nat.suc-mul n w in
    let d = length-drop w bs in
    ap (λ l. take w bs ++ l) (rows_together n w (drop w bs) (omega (arith, s, d, short))) ∙ take-append-drop w bs
