-- Rows that were read, against the rows of a file. No card is in it.
use Rattle.std.proofs.Common.{◌≡◌, ℕ, zero, suc, ◌+◌, ◌-◌, ◌*◌, ◌/◌, ◌%◌, ◌<◌, true, Option, Some, None, List, [], ◌∷◌, ◌++◌, length, take, drop, refl, ap, sym, ◌∙◌, subst, arith, min, length-append, length-drop, get_or, replicate}
use Rattle.std.specs.Prelude.{slice_get, nat_lt, All, Ok, is_ok}
use Rattle.std.specs.List.{flat_map}
use Rattle.std.proofs.lemmas.Bool.{false≢true}
use Rattle.std.proofs.lemmas.List.{take_more, length-take, take_min, take_at, append-nil}
use Rattle.std.proofs.lemmas.Option.{slice_get_within, slice_get-get_or}
use Rattle.std.proofs.lemmas.Grind.{flat_map-append}
use Rattle.apdu.specs.Words.{pair_value, filled_to}
use Rattle.fcp.specs.declared.control.Fcp.{Fcp}
use Rattle.fcp.specs.declared.rows.FileKind.{FileKind}
use Rattle.fcp.specs.declared.rows.FileKind.TheVariants.{Transparent, Linear, Directory}
use Rattle.fcp.specs.Content.{Content, is_linear, is_transparent, first_row, HasRows, HasWidth}
use Rattle.fcp.specs.Control.{read_fcp, write_fcp}
use Rattle.fcp.proofs.ReadBack.{read_fcp-write_fcp}
use Rattle.card_model.specs.declared.world.FileState.{FileState}
use Rattle.card_model.specs.Card.{fields_of_file, file_parameters, record_at}
use Rattle.card_effects.specs.Fine.{FineFile}
use Rattle.card_effects.specs.Rows.{RowsTrue}

-- ---- control parameters

fcp_by : (file : FileState) (control : Fcp) → FineFile file → (o : Option (List ℕ)) → file.fcp ≡ o → read_fcp (file_parameters file) ≡ Ok control → control ≡ fields_of_file file
fcp_by file control fine (Some bytes) e h =
    let q : read_fcp bytes ≡ Ok control = (rw e at h) in
    let n : is_ok (read_fcp bytes) ≡ true = rw q refl in absurd (false≢true (sym (fine.template bytes e) ∙ n))
fcp_by file control fine None e h =
    let q : read_fcp (write_fcp (fields_of_file file) []) ≡ Ok control = (rw e at h) in
    let r : read_fcp (write_fcp (fields_of_file file) []) ≡ Ok (fields_of_file file) = read_fcp-write_fcp (fields_of_file file) [] fine.size fine.describes in cc

-- what SELECT gives of a file is read as its own fields
pub fcp_of_file : (file : FileState) (control : Fcp) → FineFile file → read_fcp (file_parameters file) ≡ Ok control → control ≡ fields_of_file file
fcp_of_file file control fine h = fcp_by file control fine file.fcp refl h

-- ---- a beginning of the rows

pub no_rows : (content : Content) → RowsTrue content []
no_rows content = record { linear = λ h. refl; transparent = λ h. refl }

-- ---- one row, or one piece, more

cut_exact : (len : ℕ) (body : List ℕ) → length body ≡ len → take len (filled_to 0xFF len body) ≡ body
cut_exact len body e = take_at body (replicate (len - length body) 0xFF) len e

row_there : (all : List (List ℕ)) (width i : ℕ) (body : List ℕ) → All (HasWidth width) all → slice_get all i ≡ Some body → length body ≡ width
row_there all width i body ok h =
    let n : i < length all = slice_get_within all i body h in
    let e : Some (get_or all i body) ≡ Some body = sym (slice_get-get_or all i body n) ∙ h in
    let same : get_or all i body ≡ body = cc in
    subst (λ (x : List ℕ). length x ≡ width) same (ok i body n)

take_one : (all : List (List ℕ)) (i : ℕ) (body : List ℕ) → slice_get all i ≡ Some body → take (i + 1) all ≡ take i all ++ body ∷ []
take_one all i body h =
    let n : i < length all = slice_get_within all i body h in
    let e : Some (get_or all i body) ≡ Some body = sym (slice_get-get_or all i body n) ∙ h in
    let same : get_or all i body ≡ body = cc in
    take_more all i body n ∙ ap (λ x. take i all ++ x ∷ []) same

length_one : (rows : List (List ℕ)) (body : List ℕ) → length (rows ++ body ∷ []) ≡ length rows + 1
length_one rows body = length-append rows (body ∷ [])

row_number : (file : FileState) (i : ℕ) (body : List ℕ) → record_at (i + 1) file ≡ Some body → slice_get file.rows.rows i ≡ Some body
row_number file i body h = let e : nat_lt 0 (i + 1) ≡ true = grind arith in let m : i + 1 - 1 ≡ i = omega arith in rw (e, m) at h

linear_width : (kind : FileKind) (width : ℕ) (all : List (List ℕ)) → HasRows kind width all → is_linear kind ≡ true → All (HasWidth width) all
linear_width Linear width all ok h = ok.2
linear_width Transparent width all ok h = absurd (cc)
linear_width Directory width all ok h = absurd (cc)

pub not_both : (kind : FileKind) → is_linear kind ≡ true → is_transparent kind ≡ true → ⊥
not_both Linear a b = cc
not_both Transparent a b = cc
not_both Directory a b = cc

pub linear_more : (file : FileState) → FineFile file → (rows : List (List ℕ)) (body : List ℕ) → RowsTrue file.rows rows → is_linear file.rows.kind ≡ true → record_at (length rows + 1) file ≡ Some body → RowsTrue file.rows (rows ++ take file.rows.width (filled_to 0xFF file.rows.width body) ∷ [])
linear_more file fine rows body t kind h =
    let there : slice_get file.rows.rows (length rows) ≡ Some body = row_number file (length rows) body h in
    let w : length body ≡ file.rows.width = row_there file.rows.rows file.rows.width (length rows) body (linear_width file.rows.kind file.rows.width file.rows.rows fine.rows kind) there in
    rw (cut_exact file.rows.width body w) (record {
      linear = λ k. rw (length_one rows body, take_one file.rows.rows (length rows) body there) (ap (λ (x : List (List ℕ)). x ++ body ∷ []) (t.linear kind));
      transparent = λ k. absurd (not_both file.rows.kind kind k);
    })

pub offset_is : (n : ℕ) → pair_value (n / 256) (n % 256) ≡ n
offset_is n = omega arith

take_none : (b : ℕ) → take {A = ℕ} b [] ≡ []
take_none zero = refl
take_none (suc b) = refl

take_both : (a b : ℕ) (bytes : List ℕ) → take (a + b) bytes ≡ take a bytes ++ take b (drop a bytes)
take_both zero b bytes = let e : 0 + b ≡ b = omega arith in rw e refl
take_both (suc a) b [] = let e : suc a + b ≡ suc (a + b) = omega arith in rw e (sym (take_none b))
take_both (suc a) b (x ∷ bytes) = let e : suc a + b ≡ suc (a + b) = omega arith in rw e (ap (λ (xs : List ℕ). x ∷ xs) (take_both a b bytes))

rest_len : (at : ℕ) (bytes : List ℕ) → length (drop at bytes) ≡ length bytes - at
rest_len at bytes = length-drop at bytes

take_piece : (at : ℕ) (bytes : List ℕ) → take (min 255 (length bytes - at)) (drop at bytes) ≡ take 255 (drop at bytes)
take_piece at bytes = ap (λ n. take (min 255 n) (drop at bytes)) (sym (rest_len at bytes)) ∙ take_min 255 (drop at bytes)

piece_len_is : (at : ℕ) (bytes : List ℕ) → length (take (min 255 (length bytes - at)) (drop at bytes)) ≡ min 255 (length bytes - at)
piece_len_is at bytes = omega (arith, length-take (min 255 (length bytes - at)) (drop at bytes), rest_len at bytes)

one_piece : (rows : List (List ℕ)) (body : List ℕ) → flat_map (λ row. row) (rows ++ body ∷ []) ≡ flat_map (λ row. row) rows ++ body
one_piece rows body = flat_map-append (λ (row : List ℕ). row) rows (body ∷ []) ∙ ap (λ (x : List ℕ). flat_map (λ row. row) rows ++ x) (append-nil body)

pub binary_more : (file : FileState) (rows : List (List ℕ)) (body : List ℕ) → RowsTrue file.rows rows → is_transparent file.rows.kind ≡ true → (bytes : List ℕ) → first_row file.rows.rows ≡ bytes → (le : ℕ) → le ≡ min 255 (length bytes - length rows * 255) → body ≡ take le (drop (length rows * 255) bytes) → RowsTrue file.rows (rows ++ take le (filled_to 0xFF le body) ∷ [])
binary_more file rows body t kind bytes is le e h =
    let w : length body ≡ le = rw (h, e) (piece_len_is (length rows * 255) bytes) in
    let n : 255 * length rows ≡ length rows * 255 = omega arith in
    let more : 255 * (length rows + 1) ≡ length rows * 255 + 255 = omega arith in
    let before : flat_map (λ row. row) rows ≡ take (length rows * 255) bytes = t.transparent kind ∙ rw (n, is) refl in
    let piece : body ≡ take 255 (drop (length rows * 255) bytes) = h ∙ ap (λ m. take m (drop (length rows * 255) bytes)) e ∙ take_piece (length rows * 255) bytes in
    rw (cut_exact le body w) (record {
      linear = λ k. absurd (not_both file.rows.kind k kind);
      transparent = λ k. one_piece rows body ∙ ap (λ (x : List ℕ). x ++ body) before ∙ ap (λ (x : List ℕ). take (length rows * 255) bytes ++ x) piece ∙ sym (take_both (length rows * 255) 255 bytes) ∙ ap (λ m. take m bytes) (sym more) ∙ ap (λ m. take (255 * m) bytes) (sym (length_one rows body)) ∙ ap (λ (x : List ℕ). take (255 * length (rows ++ body ∷ [])) x) (sym is);
    })
