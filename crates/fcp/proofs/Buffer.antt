-- Rows one behind another in a list of bytes: reading one, writing over a part of one, and appending one.
use Rattle.std.proofs.Common.{◌≡◌, ◌<◌, ◌≤◌, ◌+◌, ◌*◌, ℕ, zero, suc, List, [], ◌∷◌, ◌++◌, length, take, drop, None, Some, refl, ap, ◌∙◌, sym, arith, append_assoc, append-nil}
use Rattle.std.proofs.Math.ListN.{set, drop_of_length-le}
use Rattle.std.proofs.Math.Nat as nat
use Rattle.std.proofs.Math.Seq.{take-append_seam, take-append-add, drop-append_seam, drop-append-add}
use Rattle.std.proofs.lemmas.List.{take_all, take-append-drop, take-append-le, drop-append-le, drop-drop, length-append, length-take-le, length-drop}
use Rattle.std.proofs.lemmas.List.Elements.{All-cons, All-nil}
use Rattle.std.proofs.lemmas.Option.{slice_get_past}
use Rattle.std.specs.Prelude.{All, slice_get}
use Rattle.apdu.specs.Words.{written_at}
use Rattle.fcp.specs.declared.rows.FileKind.{FileKind}
use Rattle.fcp.specs.declared.rows.FileKind.TheVariants.{Transparent, Linear, Directory}
use Rattle.fcp.specs.Content.{HasRows, HasWidth}
use Rattle.fcp.specs.Buffer.{rows_of, IsBuffer}

-- ---- numbers

row_more : (n w len : ℕ) → len ≡ suc n * w → (w ≤ len) × (len ≡ w + n * w)
row_more n w len e = let s = nat.suc-mul n w in (omega (arith, e, s), omega (arith, e, s))

-- a row ends with the buffer or before
row_within : (i n w : ℕ) → i < n → i * w + w ≤ n * w
row_within i n w lt =
    let s = nat.suc-mul i w in
    let m : suc i * w ≤ n * w = nat.mul-le-mul_right w (omega arith) in
    omega (arith, s, m)

-- ---- a list that is written over

behind_length : (n w : ℕ) (bs : List ℕ) → length bs ≡ suc n * w → length (drop w bs) ≡ n * w
behind_length n w bs e =
    let m = row_more n w (length bs) e in
    let d = length-drop w bs in
    omega (arith, m, d)

written-behind : (at : ℕ) (part xs ys : List ℕ) → written_at (length xs + at) part (xs ++ ys) ≡ xs ++ written_at at part ys
written-behind at part xs ys =
    rw (take-append-add xs ys at, nat.add_assoc (length xs) at (length part), drop-append-add xs ys (at + length part)) (ap (λ l. l ++ drop (at + length part) ys) (append_assoc xs (take at ys) part) ∙ append_assoc xs (take at ys ++ part) (drop (at + length part) ys))

written-front : (at : ℕ) (part xs ys : List ℕ) → at + length part ≤ length xs → written_at at part (xs ++ ys) ≡ written_at at part xs ++ ys
written-front at part xs ys fits =
    rw (take-append-le at xs ys (omega (arith, fits)), drop-append-le (at + length part) xs ys fits) (sym (append_assoc (take at xs ++ part) (drop (at + length part) xs) ys))

length-written : (at : ℕ) (part xs : List ℕ) → at + length part ≤ length xs → length (written_at at part xs) ≡ length xs
length-written at part xs fits =
    let a = length-append (take at xs ++ part) (drop (at + length part) xs) in
    let b = length-append (take at xs) part in
    let c = length-take-le at xs (omega (arith, fits)) in
    let d = length-drop (at + length part) xs in
    omega (arith, a, b, c, d, fits)

written-whole : (part xs : List ℕ) → length xs ≡ length part → written_at 0 part xs ≡ part
written-whole part xs e = ap (λ l. part ++ l) (drop_of_length-le xs (omega (arith, e))) ∙ append-nil part

-- ---- the rows

pub row_count : (n w : ℕ) (bs : List ℕ) → length (rows_of n w bs) ≡ n
row_count zero w bs = refl
row_count (suc n) w bs = ap suc (row_count n w (drop w bs))

widths : (n w : ℕ) (bs : List ℕ) → length bs ≡ n * w → All (HasWidth w) (rows_of n w bs)
widths zero w bs e = All-nil (HasWidth w)
widths (suc n) w bs e = All-cons (HasWidth w) (take w bs) (rows_of n w (drop w bs)) (length-take-le w bs (row_more n w (length bs) e).0) (widths n w (drop w bs) (behind_length n w bs e))

pub has_rows : (kind : FileKind) (n w : ℕ) (bs : List ℕ) → IsBuffer kind w n bs → HasRows kind w (rows_of n w bs)
has_rows Transparent zero w bs b = let one = b.shape.0 in absurd (omega (arith, one))
has_rows Transparent (suc zero) w bs b = (length-take-le w bs (row_more zero w (length bs) b.whole).0, b.shape.1)
has_rows Transparent (suc (suc n)) w bs b = let one = b.shape.0 in absurd (omega (arith, one))
has_rows Linear n w bs b = (b.shape.0, rw (row_count n w bs) b.shape.1, widths n w bs b.whole)
has_rows Directory n w bs b = absurd b.shape

pub one_row : (bs : List ℕ) → rows_of 1 (length bs) bs ≡ bs ∷ []
one_row bs = ap (λ (row : List ℕ). row ∷ []) (take_all (length bs) bs (omega arith))

rows_cons : (n w : ℕ) (xs ys : List ℕ) → length xs ≡ w → rows_of (suc n) w (xs ++ ys) ≡ xs ∷ rows_of n w ys
rows_cons n w xs ys e = rw (sym e) (ap (λ (h : List ℕ). h ∷ rows_of n (length xs) (drop (length xs) (xs ++ ys))) (take-append_seam xs ys) ∙ ap (λ (t : List ℕ). xs ∷ rows_of n (length xs) t) (drop-append_seam xs ys))

first_place : (w : ℕ) → 0 ≡ 0 * w
first_place w = omega arith

next_place : (i w : ℕ) (bs : List ℕ) → drop (i * w) (drop w bs) ≡ drop (suc i * w) bs
next_place i w bs = let s = nat.suc-mul i w in drop-drop (i * w) w bs ∙ ap (λ at. drop at bs) (omega (arith, s))

pub row_at : (n w i : ℕ) (bs : List ℕ) → i < n → slice_get (rows_of n w bs) i ≡ Some (take w (drop (i * w) bs))
row_at zero w i bs lt = absurd (omega arith)
row_at (suc n) w zero bs lt = ap (λ at. Some (take w (drop at bs))) (first_place w)
row_at (suc n) w (suc i) bs lt = row_at n w i (drop w bs) (omega arith) ∙ ap (λ l. Some (take w l)) (next_place i w bs)

pub no_row : (n w i : ℕ) (bs : List ℕ) → n ≤ i → slice_get (rows_of n w bs) i ≡ None
no_row n w i bs past = let c = row_count n w bs in slice_get_past (rows_of n w bs) i (omega (arith, c, past))

pub row_length : (n w i : ℕ) (bs : List ℕ) → i < n → length bs ≡ n * w → length (take w (drop (i * w) bs)) ≡ w
row_length n w i bs lt e =
    let m = row_within i n w lt in
    let d = length-drop (i * w) bs in
    length-take-le w (drop (i * w) bs) (omega (arith, m, d, e))

-- a part of a row is written over
pub row_written : (n w i at : ℕ) (part bs : List ℕ) → i < n → at + length part ≤ w → length bs ≡ n * w → rows_of n w (written_at (i * w + at) part bs) ≡ set (rows_of n w bs) i (written_at at part (take w (drop (i * w) bs)))
row_written zero w i at part bs lt fits e = absurd (omega arith)
row_written (suc n) w zero at part bs lt fits e =
    let m = row_more n w (length bs) e in
    let wide : length (take w bs) ≡ w = length-take-le w bs m.0 in
    let front : written_at at part bs ≡ written_at at part (take w bs) ++ drop w bs = ap (λ l. written_at at part l) (sym (take-append-drop w bs)) ∙ written-front at part (take w bs) (drop w bs) (omega (arith, fits, wide)) in
    let first = ap (λ l. rows_of (suc n) w l) front ∙ rows_cons n w (written_at at part (take w bs)) (drop w bs) (length-written at part (take w bs) (omega (arith, fits, wide)) ∙ wide) in
    let start : 0 * w + at ≡ at = omega arith in
    rw (start, sym (first_place w)) first
row_written (suc n) w (suc i) at part bs lt fits e =
    let m = row_more n w (length bs) e in
    let s = nat.suc-mul i w in
    let wide : length (take w bs) ≡ w = length-take-le w bs m.0 in
    let place : suc i * w + at ≡ length (take w bs) + (i * w + at) = omega (arith, s, wide) in
    let behind : written_at (suc i * w + at) part bs ≡ take w bs ++ written_at (i * w + at) part (drop w bs) =
    ap (λ l. written_at (suc i * w + at) part l) (sym (take-append-drop w bs)) ∙ ap (λ p. written_at p part (take w bs ++ drop w bs)) place ∙ written-behind (i * w + at) part (take w bs) (drop w bs) in
    let rest = row_written n w i at part (drop w bs) (omega arith) fits (behind_length n w bs e) in
    let row : written_at at part (take w (drop (i * w) (drop w bs))) ≡ written_at at part (take w (drop (suc i * w) bs)) = ap (λ l. written_at at part (take w l)) (next_place i w bs) in
    ap (λ l. rows_of (suc n) w l) behind ∙ rows_cons n w (take w bs) (written_at (i * w + at) part (drop w bs)) wide ∙ ap (λ l. take w bs ∷ l) (rest ∙ ap (λ r. set (rows_of n w (drop w bs)) i r) row)

-- a row is written over
pub row_set : (n w i : ℕ) (row bs : List ℕ) → i < n → length row ≡ w → length bs ≡ n * w → rows_of n w (written_at (i * w) row bs) ≡ set (rows_of n w bs) i row
row_set n w i row bs lt wide e =
    let place : i * w ≡ i * w + 0 = omega arith in
    let old = row_length n w i bs lt e in
    ap (λ at. rows_of n w (written_at at row bs)) place ∙ row_written n w i 0 row bs lt (omega (arith, wide)) e ∙ ap (λ r. set (rows_of n w bs) i r) (written-whole row (take w (drop (i * w) bs)) (old ∙ sym wide))

-- a row is appended
pub row_pushed : (n w : ℕ) (bs row : List ℕ) → length bs ≡ n * w → length row ≡ w → rows_of (suc n) w (bs ++ row) ≡ rows_of n w bs ++ row ∷ []
row_pushed zero w [] row e wide = ap (λ (r : List ℕ). r ∷ []) (take_all w row (omega (arith, wide)))
row_pushed zero w (b ∷ bs) row e wide = absurd (omega (arith, e))
row_pushed (suc n) w bs row e wide =
    let m = row_more n w (length bs) e in
    rw (take-append-le w bs row m.0, drop-append-le w bs row m.0) (ap (λ l. take w bs ∷ l) (row_pushed n w (drop w bs) row (behind_length n w bs e) wide))

-- ---- the bytes of a part of a row, in the buffer

pub part_within : (n w i at : ℕ) (part bs : List ℕ) → i < n → at + length part ≤ w → length bs ≡ n * w → i * w + at + length part ≤ length bs
part_within n w i at part bs lt fits e = let m = row_within i n w lt in omega (arith, m, fits, e)

pub same_length : (n w i at : ℕ) (part bs : List ℕ) → i < n → at + length part ≤ w → length bs ≡ n * w → length (written_at (i * w + at) part bs) ≡ n * w
same_length n w i at part bs lt fits e = length-written (i * w + at) part bs (part_within n w i at part bs lt fits e) ∙ e

pub same_length_set : (n w i : ℕ) (row bs : List ℕ) → i < n → length row ≡ w → length bs ≡ n * w → length (written_at (i * w) row bs) ≡ n * w
same_length_set n w i row bs lt wide e = let m = row_within i n w lt in length-written (i * w) row bs (omega (arith, m, wide, e)) ∙ e

pub row_end : (n w i : ℕ) (bs : List ℕ) → i < n → length bs ≡ n * w → (i + 1) * w ≤ length bs
row_end n w i bs lt e = let m : (i + 1) * w ≤ n * w = nat.mul-le-mul_right w (omega arith) in omega (arith, m, e)

pub more_bytes : (n w : ℕ) (bs row : List ℕ) → length bs ≡ n * w → length row ≡ w → length (bs ++ row) ≡ (n + 1) * w
more_bytes n w bs row e wide = let s = nat.suc-mul n w in let a = length-append bs row in omega (arith, s, a, e, wide)
