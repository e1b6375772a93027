-- The current files behind a command.
use Rattle.std.proofs.Common.{◌≡◌, ℕ, ◌-◌, ◌==◌, Bool, true, false, ◌&&◌, ◌||◌, if◌then◌else◌, Option, Some, None, List, [], ◌∷◌, ◌++◌, refl, ap, sym, ◌∙◌, subst, arith}
use Rattle.std.specs.Prelude.{not, is_none, filter, option_map, option_and_then, unwrap_or}
use Rattle.std.proofs.lemmas.Bool.{and_parts, and_from, or_left, eqb-true, false≢true}
use Rattle.apdu.specs.Values.{CommandValue, ResponseValue}
use Rattle.apdu.specs.Words.{same_bytes}
use Rattle.apdu.specs.Apdu.{has_more, is_success, is_update_ins, update_record_ins}
use Rattle.fcp.specs.Content.{missing, with_row}
use Rattle.card_model.specs.declared.world.FileState.{FileState}
use Rattle.card_model.specs.declared.world.Change.{Change}
use Rattle.card_model.specs.declared.world.CardState.{CardState}
use Rattle.card_model.specs.Card.{is_in_application, usim_of, file_at, file_of, rows_of}
use Rattle.card_model.specs.Update.{with_record}
use Rattle.card_effects.specs.Effect.{acted, RecordFits, Effect, quiet, refuses_select, reads_record, reads_binary, gets, selects, updates_record, updates_binary, opens, closes, hands_over, acts}
use Rattle.card_effects.proofs.Basic.{effect_aids}
use Rattle.card_effects.proofs.Files.{RowWritten}
use Rattle.card_effects.proofs.Same.{same_bytes_is, same_bytes_self}
use Rattle.epoch_cache.specs.declared.cached.CachedFile.{CachedFile}
use Rattle.epoch_cache.specs.declared.cached.Touch.{Touch}
use Rattle.epoch_cache.specs.declared.cached.Written.{Written}
use Rattle.epoch_cache.specs.declared.cached.Written.TheVariants as written
use Rattle.epoch_cache.specs.Cache.{is_update, written_by, is_overwritten, touch_exchanged, is_moved, is_spoiled, is_of, is_row_of, patched, written_files, forgotten, with_completed}
use Rattle.loader.specs.Values.{ReadingValue}
use Rattle.loader.specs.Reading.{unspoiled}
use Rattle.rules.specs.Agreement.{is_application, HasFile, IsSelected, FileTrue, FilesTrue, arr_at, ReadingTrue, ReadingsTrue}
use Rattle.rules.proofs.Sane.{FineChanges}
use Rattle.rules.proofs.Truth.{FineCard, sees}
use Rattle.rules.proofs.Readings.{CompletedTrue, same_reading, file_of_same}
use Rattle.rules.proofs.Spared.{WritesRow, Writes, by_raw, unknown, one_row, writes, row_written, spared}

pub same_true : (old new : CardState) (file : CachedFile) → new.aids ≡ old.aids → file_at file.path new ≡ file_at file.path old → FileTrue old file → FileTrue new file
same_true old new file a f u n =
    let t = u n in
    let g = file_of_same old new file.path a f in
    record { content = t.content ∙ ap (λ (o : Option FileState). unwrap_or (option_map (λ (x : FileState). x.rows) o) missing) (sym g); arr = t.arr ∙ ap (λ (o : Option FileState). option_and_then (λ (x : FileState). x.arr) o) (sym g) }

-- ---- what is left of files and readings

module _ (old new : CardState) (aids : new.aids ≡ old.aids) where
  module _ (t : Touch) (same : (path : List ℕ) → is_moved t path ≡ false → file_at path new ≡ file_at path old) where
    one_file : (file : CachedFile) (files : List CachedFile) → FileTrue old file → FilesTrue new (forgotten t files) → (b : Bool) → is_moved t file.path ≡ b → FilesTrue new (if not b then file ∷ forgotten t files else forgotten t files)
    one_file file files h rest true e = rest
    one_file file files h rest false e = (same_true old new file aids (same file.path e) h, rest)

    pub forgotten_true : (files : List CachedFile) → FilesTrue old files → FilesTrue new (forgotten t files)
    forgotten_true [] h = tt
    forgotten_true (file ∷ files) h = one_file file files h.0 (forgotten_true files h.1) (is_moved t file.path) refl

  module _ (t : Touch) (selected : Option (List ℕ)) (same : (path : List ℕ) → is_spoiled t selected path ≡ false → file_at path new ≡ file_at path old) where
    one_reading : (g : ReadingValue) (gs : List ReadingValue) → ReadingTrue old g → ReadingsTrue new (unspoiled t selected gs) → (b : Bool) → is_spoiled t selected g.path ≡ b → ReadingsTrue new (if not b then g ∷ unspoiled t selected gs else unspoiled t selected gs)
    one_reading g gs h rest true e = rest
    one_reading g gs h rest false e = (same_reading old new g aids (same g.path e) h, rest)

    pub unspoiled_true : (gs : List ReadingValue) → ReadingsTrue old gs → ReadingsTrue new (unspoiled t selected gs)
    unspoiled_true [] h = tt
    unspoiled_true (g ∷ gs) h = one_reading g gs h.0 (unspoiled_true gs h.1) (is_spoiled t selected g.path) refl

keep_file : (card : CardState) (test : CachedFile → Bool) (file : CachedFile) (files : List CachedFile) → FileTrue card file → FilesTrue card (filter test files) → (b : Bool) → FilesTrue card (if b then file ∷ filter test files else filter test files)
keep_file card test file files h t true = (h, t)
keep_file card test file files h t false = t

filter_files : (card : CardState) (test : CachedFile → Bool) (files : List CachedFile) → FilesTrue card files → FilesTrue card (filter test files)
filter_files card test [] h = tt
filter_files card test (file ∷ files) h = keep_file card test file files h.0 (filter_files card test files h.1) (test file)

append_file : (card : CardState) (files : List CachedFile) (file : CachedFile) → FilesTrue card files → FileTrue card file → FilesTrue card (files ++ file ∷ [])
append_file card [] file h t = (t, tt)
append_file card (x ∷ files) file h t = (h.0, append_file card files file h.1 t)

pub completed_put : (card : CardState) (o : Option CachedFile) (files : List CachedFile) → CompletedTrue card o → FilesTrue card files → FilesTrue card (with_completed o files)
completed_put card None files c h = h
completed_put card (Some file) files c h = append_file card (filter (λ (other : CachedFile). not (is_of file.path other)) files) file (filter_files card (λ (other : CachedFile). not (is_of file.path other)) files h) c

seen_if : (b : Bool) (old new : Option FileState) (file : FileState) → (if b then None else old) ≡ Some file → (if b then None else new) ≡ new
seen_if true old new file h = absurd (cc)
seen_if false old new file h = refl

-- a file that the card has is one where it stands, also behind a command
pub seen_still : (old new : CardState) (path : List ℕ) (file : FileState) → new.aids ≡ old.aids → file_of path old ≡ Some file → file_of path new ≡ file_at path new
seen_still old new path file a h =
    let test : (is_in_application path && is_none (usim_of old)) ≡ (is_in_application path && is_none (usim_of new)) = ap (λ (aids : List (List ℕ)). is_in_application path && is_none (usim_of (record new { aids = aids }))) (sym a) in
    seen_if (is_in_application path && is_none (usim_of new)) (file_at path old) (file_at path new) file (ap (λ (b : Bool). if b then None else file_at path old) (sym test) ∙ h)

-- the row that an own update wrote
pub record OwnWrite (card : CardState) (p : CardState × ResponseValue) (path : List ℕ) (c : CommandValue) : Type 0 where
  pub file : FileState
  pub wrote : RowWritten card.files p.0.files path file (c.p1 - 1) c.body
  pub fits : RecordFits file c

row_fits : (file : FileState) (c : CommandValue) → RecordFits file c → is_row_of c.p1 c.body file.rows ≡ true
row_fits file c f = grind (arith, f.numbered, f.row, f.width)

module _ (changes : List Change) (card : CardState) (c : CommandValue) (p : CardState × ResponseValue) (e : Effect changes card c p) (fines : FineChanges changes) (fine : FineCard card) (selected : Option (List ℕ)) (here : IsSelected card selected) (raw : Bool) where
  abbrev touch : Touch
  touch = touch_exchanged raw selected c p.1

  own_write : is_update c p.1 ≡ true → (w : WritesRow changes card c p e fines selected here raw) → OwnWrite card p w.path c
  own_write u w = by_effect e
    where
      header : ((c.class == 0) ≡ true) × ((c.ins == update_record_ins) ≡ true)
      header = and_parts (c.class == 0) (c.ins == update_record_ins) (and_parts ((c.class == 0) && (c.ins == update_record_ins)) (c.p2 == 0x04) w.row).0

      ins : c.ins ≡ update_record_ins
      ins = eqb-true c.ins update_record_ins header.1

      done : is_success p.1.sw ≡ true
      done = (and_parts (is_update_ins c.ins) (is_success p.1.sw) u).1

      by_effect : Effect changes card c p → OwnWrite card p w.path c
      by_effect (updates_record number place channel on j d) =
          let r = row_written changes card c p e fines selected here raw number place channel on d.updates w in
          record { file = d.updates.file; wrote = subst (λ n. RowWritten card.files p.0.files w.path d.updates.file n c.body) d.index (subst (λ (x : List ℕ). RowWritten card.files p.0.files w.path d.updates.file d.updates.index x) d.row r); fits = d.fits }
      by_effect (quiet k q) = absurd (false≢true (sym q.acts ∙ and_from (acts c.ins) (acted p.1.sw) (let i = ins in rw i refl) (or_left (is_success p.1.sw) (has_more p.1.sw) done)))
      by_effect (refuses_select number place channel on j d) = absurd (let i = ins in omega arith)
      by_effect (reads_record number place channel on j d) = absurd (let i = ins in omega arith)
      by_effect (reads_binary number place channel on j d) = absurd (let i = ins in omega arith)
      by_effect (gets number place channel on j d) = absurd (let i = ins in omega arith)
      by_effect (selects number place channel on j d) = absurd (let i = ins in omega arith)
      by_effect (updates_binary number place channel on j d) = absurd (let i = ins in omega arith)
      by_effect (opens j d) = absurd (let i = ins in omega arith)
      by_effect (closes j d) = absurd (let i = ins in omega arith)
      by_effect (hands_over j d) = absurd (let i = ins in omega arith)

  aids : p.0.aids ≡ card.aids
  aids = effect_aids changes card c p e

  module _ (u : is_update c p.1 ≡ true) (w : WritesRow changes card c p e fines selected here raw) (o : OwnWrite card p w.path c) where
    other_true : (file : CachedFile) → FileTrue card file → is_of w.path file ≡ false → FileTrue p.0 file
    other_true file t h = same_true card p.0 file aids (o.wrote.others file.path (turn w.path file.path h)) t
      where
        turn : (a b : List ℕ) → same_bytes b a ≡ false → same_bytes a b ≡ false
        turn a b h = by_test (same_bytes a b) refl
          where
            by_test : (x : Bool) → same_bytes a b ≡ x → x ≡ false
            by_test false q = refl
            by_test true q = absurd (let e : a ≡ b = same_bytes_is a b q in let r : same_bytes b a ≡ true = subst (λ (y : List ℕ). same_bytes y a ≡ true) e (same_bytes_self a) in false≢true (sym h ∙ r))

    module _ (n : is_application w.path ≡ false) where
      file_before : file_of w.path card ≡ Some o.file
      file_before = sees card w.now.channel w.path (w.now.visible n) ∙ o.wrote.before

      file_behind : file_of w.path p.0 ≡ Some (with_record o.file (c.p1 - 1) c.body)
      file_behind = seen_still card p.0 w.path o.file aids file_before ∙ o.wrote.behind

      content_before : (file : CachedFile) → HasFile card file → file.path ≡ w.path → file.content ≡ o.file.rows
      content_before file t path = t.content ∙ ap (λ (x : List ℕ). rows_of x card) path ∙ ap (λ (x : Option FileState). unwrap_or (option_map (λ (y : FileState). y.rows) x) missing) file_before

      own_true : (file : CachedFile) → HasFile card file → file.path ≡ w.path → HasFile p.0 (record file { content = with_row (c.p1 - 1) c.body file.content })
      own_true file t path =
          let content = content_before file t path in
          let arr : file.arr ≡ o.file.arr = t.arr ∙ ap (λ (x : List ℕ). arr_at x card) path ∙ ap (λ (x : Option FileState). option_and_then (λ (y : FileState). y.arr) x) file_before in
          record {
            content = ap (with_row (c.p1 - 1) c.body) content ∙ sym (ap (λ (x : List ℕ). rows_of x p.0) path ∙ ap (λ (x : Option FileState). unwrap_or (option_map (λ (y : FileState). y.rows) x) missing) file_behind);
            arr = arr ∙ sym (ap (λ (x : List ℕ). arr_at x p.0) path ∙ ap (λ (x : Option FileState). option_and_then (λ (y : FileState). y.arr) x) file_behind);
          }

      row_true : (file : CachedFile) → HasFile card file → file.path ≡ w.path → HasFile p.0 (if is_row_of c.p1 c.body file.content then record file { content = with_row (c.p1 - 1) c.body file.content } else file)
      row_true file t path =
          let row : is_row_of c.p1 c.body file.content ≡ true = ap (is_row_of c.p1 c.body) (content_before file t path) ∙ row_fits o.file c o.fits in
          subst (λ (b : Bool). HasFile p.0 (if b then record file { content = with_row (c.p1 - 1) c.body file.content } else file)) (sym row) (own_true file t path)

    same_path : (file : CachedFile) (b : Bool) → (if b then record file { content = with_row (c.p1 - 1) c.body file.content } else file).path ≡ file.path
    same_path file true = refl
    same_path file false = refl

    patched_true : (file : CachedFile) → FileTrue card file → (a : Bool) → is_of w.path file ≡ a → FileTrue p.0 (if a && is_row_of c.p1 c.body file.content then record file { content = with_row (c.p1 - 1) c.body file.content } else file)
    patched_true file t false h m = other_true file t h m
    patched_true file t true h m =
        let path : file.path ≡ w.path = same_bytes_is file.path w.path h in
        let n : is_application file.path ≡ false = ap is_application (sym (same_path file (is_row_of c.p1 c.body file.content))) ∙ m in
        row_true (ap is_application (sym path) ∙ n) file (t n) path

    pub patched_all : (files : List CachedFile) → FilesTrue card files → FilesTrue p.0 (patched (Some w.path) c files)
    patched_all [] t = tt
    patched_all (file ∷ files) t = (patched_true file t.0 (is_of w.path file) refl, patched_all files t.1)

  moves_all : (w : Written) → written_by raw selected c p.1 ≡ w → ((path : List ℕ) → is_overwritten selected path w ≡ false) → (path : List ℕ) → is_moved touch path ≡ false → file_at path p.0 ≡ file_at path card
  moves_all w by none path h = spared changes card c p e fines selected here raw path (both_not (is_moved touch path) (is_overwritten selected path touch.written) h (ap (λ (x : Written). is_overwritten selected path x) by ∙ none path))
    where
      both_not : (a b : Bool) → a ≡ false → b ≡ false → (a || b) ≡ false
      both_not a b x y = rw (x, y) refl

  untouched : (w : Written) → written_by raw selected c p.1 ≡ w → ((path : List ℕ) → is_overwritten selected path w ≡ false) → ((files : List CachedFile) → written_files selected c files w ≡ files) → (files : List CachedFile) → FilesTrue card files → FilesTrue p.0 (forgotten touch (written_files selected c files touch.written))
  untouched w by none same files t = subst (λ (x : List CachedFile). FilesTrue p.0 (forgotten touch x)) (sym (ap (written_files selected c files) by ∙ same files)) (forgotten_true card p.0 aids touch (moves_all w by none) files t)

  filtered : (files : List CachedFile) → FilesTrue p.0 files → FilesTrue p.0 (forgotten touch files)
  filtered files t = filter_files p.0 (λ (file : CachedFile). not (is_moved touch file.path)) files t

  written_true : is_update c p.1 ≡ true → Writes changes card c p e fines selected here raw → (files : List CachedFile) → FilesTrue card files → FilesTrue p.0 (forgotten touch (written_files selected c files touch.written))
  written_true u (by_raw by) files t = untouched written.Raw by (λ path. refl) (λ fs. refl) files t
  written_true u (unknown by) files t = filtered (written_files selected c files touch.written) (subst (λ (x : Written). FilesTrue p.0 (written_files selected c files x)) (sym by) tt)
  written_true u (one_row w) files t = filtered (written_files selected c files touch.written) (subst (λ (x : Written). FilesTrue p.0 (written_files selected c files x)) (sym w.by) (subst (λ (o : Option (List ℕ)). FilesTrue p.0 (patched o c files)) (sym w.is_selected) (patched_all u w (own_write u w) files t)))

  kept_by : (b : Bool) → is_update c p.1 ≡ b → (files : List CachedFile) → FilesTrue card files → FilesTrue p.0 (forgotten touch (written_files selected c files touch.written))
  kept_by true u files t = written_true u (writes changes card c p e fines selected here raw u) files t
  kept_by false u files t = untouched written.Nothing (rw u refl) (λ path. refl) (λ fs. refl) files t

  -- the files that were current, behind a command
  pub files_kept : (files : List CachedFile) → FilesTrue card files → FilesTrue p.0 (forgotten touch (written_files selected c files touch.written))
  files_kept files t = kept_by (is_update c p.1) refl files t
