-- A READ takes a reading one row or piece further.
use Rattle.std.proofs.Common.{◌≡◌, ◌⊎◌, inl, inr, ℕ, ◌+◌, ◌-◌, ◌*◌, ◌==◌, true, false, ◌||◌, Some, List, [], ◌∷◌, ◌++◌, length, take, drop, refl, ap, sym, ◌∙◌, subst, arith, min}
use Rattle.std.specs.Prelude.{nat_lt}
use Rattle.std.proofs.lemmas.Bool.{and_from, eq-eqb, or_left, false≢true}
use Rattle.apdu.specs.Values.{CommandValue, ResponseValue}
use Rattle.apdu.specs.Words.{filled_to, pair_value}
use Rattle.apdu.specs.Apdu.{select_ins, read_binary_ins, read_record_ins, has_more, is_success}
use Rattle.fcp.specs.declared.control.Fcp.{Fcp}
use Rattle.fcp.specs.declared.rows.FileKind.{FileKind}
use Rattle.fcp.specs.declared.rows.FileKind.TheVariants.{Transparent, Linear, Directory}
use Rattle.fcp.specs.Content.{is_linear, is_transparent, first_row, HasRows}
use Rattle.card_model.specs.declared.world.FileState.{FileState}
use Rattle.card_model.specs.declared.world.ChannelState.{ChannelState}
use Rattle.card_model.specs.declared.world.Change.{Change}
use Rattle.card_model.specs.declared.world.CardState.{CardState}
use Rattle.card_model.specs.Card.{file_at, current_file, fields_of_file, record_at, content_size}
use Rattle.card_model.specs.Answers.{parameters, wanted_le}
use Rattle.card_effects.specs.Effect.{acted, Keeps, Effect, quiet, refuses_select, reads_record, reads_binary, gets, selects, updates_record, updates_binary, opens, closes, hands_over, acts, IsQuiet}
use Rattle.card_effects.specs.Fine.{FineFile}
use Rattle.card_effects.specs.Rows.{RowsTrue}
use Rattle.card_effects.proofs.Rows.{linear_more, binary_more, offset_is}
use Rattle.card_effects.proofs.Fine.{transparent_width}
use Rattle.card_effects.specs.Basic.{HasCurrent}
use Rattle.loader.specs.Reading.{read_by, read_row, read_piece}
use Rattle.rules.specs.Agreement.{is_application, SameButLe, Stands, itself, again, waits}
use Rattle.rules.proofs.Chains.{is_on_basic}
use Rattle.rules.proofs.Truth.{file_there}

-- a READ that was done, in the words of the file that is current on the basic channel
pub record ReadDone (card : CardState) (file : FileState) (p : CardState × ResponseValue) (rows : List (List ℕ)) : Type 0 where
  pub keeps : Keeps card p
  pub rows_true : RowsTrue file.rows rows

pub row_by : (kind : FileKind) (f : Fcp) (i : ℕ) → is_linear kind ≡ true → read_by kind f i ≡ read_row f i
row_by Linear f i h = refl
row_by Transparent f i h = absurd (cc)
row_by Directory f i h = absurd (cc)

pub piece_by : (kind : FileKind) (f : Fcp) (i : ℕ) → is_transparent kind ≡ true → read_by kind f i ≡ read_piece f i
piece_by Transparent f i h = refl
piece_by Linear f i h = absurd (cc)
piece_by Directory f i h = absurd (cc)

pub kinds : (kind : FileKind) (width : ℕ) (rows : List (List ℕ)) → HasRows kind width rows → (is_linear kind ≡ true) ⊎ (is_transparent kind ≡ true)
kinds Linear width rows h = inl refl
kinds Transparent width rows h = inr refl
kinds Directory width rows h = absurd h

pub not_linear : (kind : FileKind) → is_transparent kind ≡ true → is_linear kind ≡ false
not_linear Transparent h = refl
not_linear Linear h = absurd (cc)
not_linear Directory h = refl

module _ (changes : List Change) (card : CardState) (c : CommandValue) (p : CardState × ResponseValue) (e : Effect changes card c p) (path : List ℕ) (n : is_application path ≡ false) (file : FileState) (fine : FineFile file) (now : HasCurrent card path) (at : file_at path card ≡ Some file) (s : is_success p.1.sw ≡ true) where
  here : current_file card now.channel ≡ Some file
  here = file_there card now.channel path now.current (now.visible n) ∙ at

  same_file : (channel : ChannelState) (other : FileState) → channel ≡ now.channel → current_file card channel ≡ Some other → other ≡ file
  same_file channel other same found = let f : current_file card now.channel ≡ Some other = ap (current_file card) (sym same) ∙ found in let h = here in cc

  quiet_none : acts c.ins ≡ true → IsQuiet card c p.1.sw → ⊥
  quiet_none a q = false≢true (sym q.acts ∙ and_from (acts c.ins) (acted p.1.sw) a (or_left (is_success p.1.sw) (has_more p.1.sw) s))

  -- ---- READ RECORD

  record_given : c.class ≡ 0 → c.ins ≡ read_record_ins → Effect changes card c p → Keeps card p × (record_at c.p1 file ≡ Some p.1.body)
  record_given class ins (quiet k q) = absurd (quiet_none (rw ins refl) q)
  record_given class ins (reads_record number place channel on j d) =
      let g = d.given s in
      let same : g.file ≡ file = same_file channel g.file (is_on_basic changes card c p e number place channel now.channel on (rw class refl) now.found) g.at in
      (d.keeps, subst (λ (x : FileState). record_at c.p1 x ≡ Some p.1.body) same g.row)
  record_given class ins (refuses_select number place other on j d) = absurd (omega arith)
  record_given class ins (reads_binary number place other on j d) = absurd (omega arith)
  record_given class ins (gets number place other on j d) = absurd (omega arith)
  record_given class ins (selects number place other on j d) = absurd (omega arith)
  record_given class ins (updates_record number place other on j d) = absurd (omega arith)
  record_given class ins (updates_binary number place other on j d) = absurd (omega arith)
  record_given class ins (opens j d) = absurd (omega arith)
  record_given class ins (closes j d) = absurd (omega arith)
  record_given class ins (hands_over j d) = absurd (omega arith)

  row_header : (first : CommandValue) → Stands card (Some path) first c → (first.ins == select_ins) ≡ false → SameButLe first c
  row_header first (itself i) h = subst (λ (x : CommandValue). SameButLe first x) i (record { class = refl; ins = refl; p1 = refl; p2 = refl; body = refl })
  row_header first (again i long) h = i
  row_header first (waits i g w) h = absurd (false≢true (sym h ∙ eq-eqb first.ins select_ins i))

  pub record_step : (first : CommandValue) (rows : List (List ℕ)) → Stands card (Some path) first c → first ≡ read_row (fields_of_file file) (length rows) → is_linear file.rows.kind ≡ true → RowsTrue file.rows rows → ReadDone card file p (rows ++ take file.rows.width (filled_to 0xFF file.rows.width p.1.body) ∷ [])
  record_step first rows t is kind before =
      let same = row_header first t (ap (λ (x : CommandValue). x.ins == select_ins) is) in
      let class : c.class ≡ 0 = sym same.class ∙ ap (λ (x : CommandValue). x.class) is in
      let ins : c.ins ≡ read_record_ins = sym same.ins ∙ ap (λ (x : CommandValue). x.ins) is in
      let p1 : c.p1 ≡ length rows + 1 = sym same.p1 ∙ ap (λ (x : CommandValue). x.p1) is in
      let g = record_given class ins e in
      record { keeps = g.0; rows_true = linear_more file fine rows p.1.body before kind (ap (λ n. record_at n file) (sym p1) ∙ g.1) }

  -- ---- READ BINARY

  pub record BinaryOf : Type 0 where
    pub keeps : Keeps card p
    pub endless : file.endless ≡ false
    pub le : ℕ
    pub wanted : wanted_le c ≡ Some le
    pub bytes : p.1.body ≡ take le (drop (parameters c) (first_row file.rows.rows))

  binary_given : c.class ≡ 0 → c.ins ≡ read_binary_ins → Effect changes card c p → BinaryOf
  binary_given class ins (quiet k q) = absurd (quiet_none (rw ins refl) q)
  binary_given class ins (reads_binary number place channel on j d) =
      let g = d.given s in
      let same : g.file ≡ file = same_file channel g.file (is_on_basic changes card c p e number place channel now.channel on (rw class refl) now.found) g.at in
      record { keeps = d.keeps; endless = ap (λ (x : FileState). x.endless) (sym same) ∙ g.endless; le = g.le; wanted = g.wanted; bytes = g.bytes ∙ ap (λ (x : FileState). take g.le (drop (parameters c) (first_row x.rows.rows))) same }
  binary_given class ins (refuses_select number place other on j d) = absurd (omega arith)
  binary_given class ins (reads_record number place other on j d) = absurd (omega arith)
  binary_given class ins (gets number place other on j d) = absurd (omega arith)
  binary_given class ins (selects number place other on j d) = absurd (omega arith)
  binary_given class ins (updates_record number place other on j d) = absurd (omega arith)
  binary_given class ins (updates_binary number place other on j d) = absurd (omega arith)
  binary_given class ins (opens j d) = absurd (omega arith)
  binary_given class ins (closes j d) = absurd (omega arith)
  binary_given class ins (hands_over j d) = absurd (omega arith)

  le_asked : (first : CommandValue) (le : ℕ) → Stands card (Some path) first c → first.ins ≡ read_binary_ins → first.class ≡ 0 → wanted_le first ≡ Some le → nat_lt (length (first_row file.rows.rows) - parameters first) le ≡ false → (b : BinaryOf) → b.le ≡ le
  le_asked first le (itself i) ins class wanted fits b = let w : wanted_le c ≡ Some le = ap wanted_le (sym i) ∙ wanted in let v = b.wanted in cc
  le_asked first le (again i long) ins class wanted fits b =
      let m = long (rw class refl) (rw ins refl) now.channel now.found file here le wanted in
      let e1 = b.endless in
      let none : (file.endless || nat_lt (length (first_row file.rows.rows) - parameters first) le) ≡ false = rw (e1, fits) refl in absurd (false≢true (sym none ∙ m))
  le_asked first le (waits i g w) ins class wanted fits b = absurd (omega arith)

  fits_rest : (len at : ℕ) → nat_lt (len - at) (min 255 (len - at)) ≡ false
  fits_rest len at = grind arith

  pub binary_step : (first : CommandValue) (rows : List (List ℕ)) → Stands card (Some path) first c → first ≡ read_piece (fields_of_file file) (length rows) → is_transparent file.rows.kind ≡ true → RowsTrue file.rows rows → (le : ℕ) → le ≡ min 255 (content_size file.rows - length rows * 255) → ReadDone card file p (rows ++ take le (filled_to 0xFF le p.1.body) ∷ [])
  binary_step first rows t is kind before le le_is =
      let same = row_header first t (ap (λ (x : CommandValue). x.ins == select_ins) is) in
      let first_class : first.class ≡ 0 = ap (λ (x : CommandValue). x.class) is in
      let first_ins : first.ins ≡ read_binary_ins = ap (λ (x : CommandValue). x.ins) is in
      let class : c.class ≡ 0 = sym same.class ∙ first_class in
      let ins : c.ins ≡ read_binary_ins = sym same.ins ∙ first_ins in
      let b = binary_given class ins e in
      let len : length (first_row file.rows.rows) ≡ content_size file.rows = transparent_width file.rows.kind file.rows.width file.rows.rows fine.rows kind ∙ sym (size_by (not_linear file.rows.kind kind)) in
      let le_len : le ≡ min 255 (length (first_row file.rows.rows) - length rows * 255) = rw len le_is in
      let offset : parameters first ≡ length rows * 255 = ap parameters is ∙ offset_is (length rows * 255) in
      let offset_now : parameters c ≡ length rows * 255 = let e1 = same.p1 in let e2 = same.p2 in ap (λ n. pair_value n c.p2) (sym e1) ∙ ap (λ n. pair_value first.p1 n) (sym e2) ∙ offset in
      let wanted : wanted_le first ≡ Some le = ap wanted_le is ∙ ap (λ n. Some n) (sym le_is) in
      let fits : nat_lt (length (first_row file.rows.rows) - parameters first) le ≡ false = rw (offset, le_len) (fits_rest (length (first_row file.rows.rows)) (length rows * 255)) in
      let same_le : b.le ≡ le = le_asked first le t first_ins first_class wanted fits b in
      record { keeps = b.keeps; rows_true = binary_more file rows p.1.body before kind (first_row file.rows.rows) refl le le_len (b.bytes ∙ ap (λ n. take n (drop (parameters c) (first_row file.rows.rows))) same_le ∙ ap (λ n. take le (drop n (first_row file.rows.rows))) offset_now) }
    where
      size_by : is_linear file.rows.kind ≡ false → content_size file.rows ≡ file.rows.width
      size_by h = rw h refl
