-- One more row in the bytes of a reading.
use Rattle.std.proofs.Common.{◌≡◌, ◌<◌, ◌≤◌, ◌+◌, ◌-◌, ◌*◌, ℕ, List, ◌++◌, length, take, replicate, min, true, Option, Some, None, refl, ap, ◌∙◌, arith, length-append}
use Rattle.std.proofs.Math.Nat as nat
use Rattle.std.proofs.lemmas.Bool.{eqb-true}
use Rattle.std.proofs.lemmas.List.{length-take, length-replicate}
use Rattle.apdu.specs.Reserved.{Room}
use Rattle.apdu.specs.Words.{filled_to, same_number}
use Rattle.fcp.specs.declared.control.Fcp.{Fcp}
use Rattle.fcp.specs.declared.rows.FileKind.{FileKind}
use Rattle.fcp.specs.declared.rows.FileKind.TheVariants.{Transparent, Linear, Directory}
use Rattle.loader.specs.Reading.{piece_len, reads_needed, reads_needed_by, read_by, read_number, asked_len}
use Rattle.loader.specs.Buffer.{row_len, row_len_by, len_of_rows_by, IsBuffer}

-- how long the row of a READ is
abbrev next_len_by : FileKind → ℕ → ℕ → ℕ → ℕ
next_len_by Transparent size width i = min piece_len (size - i * piece_len)
next_len_by Linear size width i = width
next_len_by Directory size width i = width

asked_by : (kind : FileKind) (f : Fcp) (i : ℕ) → asked_len (read_by kind f i).le ≡ next_len_by kind f.size f.width i
asked_by Transparent f i = refl
asked_by Linear f i = refl
asked_by Directory f i = refl

more_by : (kind : FileKind) (size width count i : ℕ) → i < reads_needed_by kind size count → len_of_rows_by kind size width (i + 1) ≡ len_of_rows_by kind size width i + next_len_by kind size width i
more_by Transparent size width count i lt = omega (arith, lt)
more_by Linear size width count i lt = let s = nat.suc-mul i width in omega (arith, s)
more_by Directory size width count i lt = absurd (omega (arith, lt))

most_by : (kind : FileKind) (size width count i : ℕ) → i ≤ reads_needed_by kind size count → len_of_rows_by kind size width i ≤ len_of_rows_by kind size width (reads_needed_by kind size count)
most_by Transparent size width count i le = omega (arith, le)
most_by Linear size width count i le = nat.mul-le-mul_right width le
most_by Directory size width count i le = omega arith

-- while a READ is left, the rows so far are whole
whole_by : (kind : FileKind) (size width count i : ℕ) → i < reads_needed_by kind size count → len_of_rows_by kind size width i ≡ i * row_len_by kind width
whole_by Transparent size width count i lt = omega (arith, lt)
whole_by Linear size width count i lt = refl
whole_by Directory size width count i lt = absurd (omega (arith, lt))

short_by : (kind : FileKind) (size width i : ℕ) → next_len_by kind size width i ≤ row_len_by kind width
short_by Transparent size width i = omega arith
short_by Linear size width i = omega arith
short_by Directory size width i = omega arith

pub asked_fits : (f : Fcp) (i : ℕ) (bytes : Room ℕ) → IsBuffer f i bytes → i < reads_needed f → asked_len (read_number f i).le ≤ bytes.spare
asked_fits f i bytes b lt =
    let a = asked_by f.kind f i in
    let m = more_by f.kind f.size f.width f.count i lt in
    let t = most_by f.kind f.size f.width f.count (i + 1) (omega (arith, lt)) in
    let w = b.whole in
    let r = b.room in
    omega (arith, a, m, t, w, r)

pub whole_rows : (f : Fcp) (i : ℕ) (bytes : Room ℕ) → IsBuffer f i bytes → i < reads_needed f → length bytes.items ≡ i * row_len f
whole_rows f i bytes b lt = b.whole ∙ whole_by f.kind f.size f.width f.count i lt

pub asked_within : (f : Fcp) (i : ℕ) → asked_len (read_number f i).le ≤ row_len f
asked_within f i = let a = asked_by f.kind f i in let s = short_by f.kind f.size f.width i in omega (arith, a, s)

pub one_more : (f : Fcp) (i : ℕ) (bytes new : Room ℕ) (row : List ℕ) → IsBuffer f i bytes → i < reads_needed f → length row ≡ asked_len (read_number f i).le → new.items ≡ bytes.items ++ row → bytes.spare ≤ new.spare + length row → IsBuffer f (i + 1) new
one_more f i bytes new row b lt len items spare =
    let a = asked_by f.kind f i in
    let m = more_by f.kind f.size f.width f.count i lt in
    let w = b.whole in
    let r = b.room in
    let n : length new.items ≡ length bytes.items + length row = ap length items ∙ length-append bytes.items row in
    record {
      readable = b.readable;
      within = omega (arith, lt);
      whole = omega (arith, a, m, w, n, len);
      room = omega (arith, r, n, spare);
    }

-- a body that is cut or filled has the length that was asked for
pub row_len_asked : (len : ℕ) (body : List ℕ) → length (take len (filled_to 0xFF len body)) ≡ len
row_len_asked len body =
    let t = length-take len (filled_to 0xFF len body) in
    let a = length-append body (replicate (len - length body) 0xFF) in
    let r = length-replicate {A = ℕ} (len - length body) 0xFF in
    omega (arith, t, a, r)

-- the same command asks for the same
pub same_asked : (a b : Option ℕ) → same_number a b ≡ true → asked_len a ≡ asked_len b
same_asked None None e = refl
same_asked None (Some b) e = absurd (cc)
same_asked (Some a) None e = absurd (cc)
same_asked (Some a) (Some b) e = eqb-true a b e
