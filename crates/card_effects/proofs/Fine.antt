-- The cards of a world stay fine: an UPDATE keeps the width of a row, and a FETCH puts files that are fine.
use Rattle.std.proofs.Common.{◌≡◌, ◌⊎◌, inl, inr, ℕ, zero, suc, ◌+◌, ◌<◌, ◌≤◌, Bool, true, false, if◌then◌else◌, Option, Some, None, List, [], ◌∷◌, length, refl, ap, sym, ◌∙◌, subst, arith, get_or, length-append, length-drop}
use Rattle.std.specs.Prelude.{slice_get, slice_set, find, position, option_and_then}
use Rattle.std.proofs.lemmas.List.{length-set, length-take}
use Rattle.apdu.specs.Values.{CommandValue, ResponseValue}
use Rattle.apdu.specs.Words.{same_bytes, written_at}
use Rattle.fcp.specs.declared.rows.FileKind.{FileKind}
use Rattle.fcp.specs.declared.rows.FileKind.TheVariants.{Transparent, Linear, Directory}
use Rattle.fcp.specs.Content.{is_linear, is_transparent, first_row, HasRows, HasWidth}
use Rattle.card_model.specs.declared.world.FileState.{FileState}
use Rattle.card_model.specs.declared.world.Change.{Change}
use Rattle.card_model.specs.declared.world.CardState.{CardState}
use Rattle.card_model.specs.declared.world.ChannelState.{ChannelState}
use Rattle.card_model.specs.Card.{file_place, has_path}
use Rattle.card_model.specs.Answers.{parameters}
use Rattle.card_model.specs.Update.{with_record}
use Rattle.std.specs.Option.{option_or}
use Rattle.std.proofs.lemmas.List.Folds.{find-append}
use Rattle.card_model.specs.Toolkit.{file_put, with_file, with_files}
use Rattle.card_effects.specs.Effect.{Updates, Effect, quiet, refuses_select, reads_record, reads_binary, gets, selects, updates_record, updates_binary, opens, closes, hands_over}
use Rattle.card_effects.specs.Fine.{FineFile, FineFiles, AllFine, FineImages}
use Rattle.card_effects.proofs.Same.{same_bytes_is}
use Rattle.card_effects.proofs.Basic.{set_at_place}
use Rattle.card_effects.proofs.Files.{RowWritten, update_files, placed_by, put_other}
use Rattle.card_effects.proofs.Rows.{not_both}

pub transparent_width : (kind : FileKind) (width : ℕ) (rows : List (List ℕ)) → HasRows kind width rows → is_transparent kind ≡ true → length (first_row rows) ≡ width
transparent_width Transparent width (row ∷ []) h t = h.0
transparent_width Transparent width [] h t = absurd h
transparent_width Transparent width (row ∷ other ∷ rows) h t = absurd h
transparent_width Linear width rows h t = absurd (cc)
transparent_width Directory width rows h t = absurd h

get_set_other : {X : Type 0} (xs : List X) (i k : ℕ) (v d : X) → (P : X → Type 0) → P v → P (get_or xs k d) → P (get_or (slice_set xs i v) k d)
get_set_other [] i k v d P p q = q
get_set_other (x ∷ xs) zero zero v d P p q = p
get_set_other (x ∷ xs) zero (suc k) v d P p q = q
get_set_other (x ∷ xs) (suc i) zero v d P p q = q
get_set_other (x ∷ xs) (suc i) (suc k) v d P p q = get_set_other xs i k v d P p q

rows_set : (kind : FileKind) (width : ℕ) (rows : List (List ℕ)) (i : ℕ) (row : List ℕ) → (is_linear kind ≡ true → length row ≡ width) → (is_transparent kind ≡ true → (length row ≡ width) × (i ≡ 0)) → HasRows kind width rows → HasRows kind width (slice_set rows i row)
rows_set Linear width rows i row l t h = (h.0, subst (λ n. n ≤ 255) (sym (length-set rows i row)) h.1, λ k d n. get_set_other rows i k row d (HasWidth width) (l refl) (h.2 k d (subst (λ m. k < m) (length-set rows i row) n)))
rows_set Transparent width [] i row l t h = absurd h
rows_set Transparent width (x ∷ []) i row l t h = let q = t refl in subst (λ n. HasRows Transparent width (slice_set (x ∷ []) n row)) (sym q.1) (q.0, h.1)
rows_set Transparent width (x ∷ y ∷ rows) i row l t h = absurd h
rows_set Directory width rows i row l t h = absurd h

-- a file with another row as wide
pub fine_written : (file : FileState) (i : ℕ) (row : List ℕ) → (is_linear file.rows.kind ≡ true → length row ≡ file.rows.width) → (is_transparent file.rows.kind ≡ true → (length row ≡ file.rows.width) × (i ≡ 0)) → FineFile file → FineFile (with_record file i row)
fine_written file i row l t fine = record {
  template = fine.template;
  rows = rows_set file.rows.kind file.rows.width file.rows.rows i row l t fine.rows;
  describes = rw (length-set file.rows.rows i row) fine.describes;
  size = rw (length-set file.rows.rows i row) fine.size;
}

-- ---- a card behind a command

found_or : (a b : Option FileState) (file : FileState) → option_or a b ≡ Some file → (a ≡ Some file) ⊎ (b ≡ Some file)
found_or None b file h = inr h
found_or (Some x) b file h = inl h

new_found : (new file : FileState) (b : Bool) → (if b then Some new else None) ≡ Some file → new ≡ file
new_found new file true h = cc
new_found new file false h = absurd (cc)

put_fine : (files : List FileState) (new : FileState) → FineFile new → FineFiles files → (o : Option ℕ) → position (has_path new.path) files ≡ o → FineFiles (file_put files new o)
put_fine files new n f None e path file h = elim (found_or (find (has_path path) files) (find (has_path path) (new ∷ [])) file (sym (find-append (has_path path) files (new ∷ [])) ∙ h)) [
  | inl q ↦ f path file q
  | inr q ↦ subst FineFile (new_found new file (has_path path new) q) n
]
put_fine files new n f (Some place) e path file h = by_path (same_bytes new.path path) refl
  where
    by_path : (b : Bool) → same_bytes new.path path ≡ b → FineFile file
    by_path true q =
        let same : new.path ≡ path = same_bytes_is new.path path q in
        let at : position (has_path path) files ≡ Some place = subst (λ (x : List ℕ). position (has_path x) files ≡ Some place) same e in
        let there : find (has_path path) (slice_set files place new) ≡ Some new = set_at_place (has_path path) files place new at q in
        let is : new ≡ file = cc in subst FineFile is n
    by_path false q = f path file (sym (put_other files new path q (Some place) e) ∙ h)

files_fine : (files more : List FileState) → AllFine more → FineFiles files → FineFiles (with_files files more)
files_fine files [] m f = f
files_fine files (new ∷ more) m f = files_fine (with_file files new) more m.1 (put_fine files new m.0 f (position (has_path new.path) files) refl)

written_fine : (card : CardState) (channel : ChannelState) (p : CardState × ResponseValue) (u : Updates card channel p) → FineFiles card.files → (is_linear u.file.rows.kind ≡ true → length u.row ≡ u.file.rows.width) → (is_transparent u.file.rows.kind ≡ true → (length u.row ≡ u.file.rows.width) × (u.index ≡ 0)) → FineFiles p.0.files
written_fine card channel p u f l t path file h = by_path (same_bytes q.0 path) refl
  where
    q : (path : List ℕ) × (channel.current ≡ Some path) × (file_place path card ≡ Some u.place)
    q = placed_by card channel u.place channel.current u.at

    w : RowWritten card.files p.0.files q.0 u.file u.index u.row
    w = update_files card channel p q.0 u q.1

    by_path : (b : Bool) → same_bytes q.0 path ≡ b → FineFile file
    by_path true e =
        let same : q.0 ≡ path = same_bytes_is q.0 path e in
        let there : find (has_path path) p.0.files ≡ Some (with_record u.file u.index u.row) = subst (λ (x : List ℕ). find (has_path x) p.0.files ≡ Some (with_record u.file u.index u.row)) same w.behind in
        let is : with_record u.file u.index u.row ≡ file = cc in
        subst FineFile is (fine_written u.file u.index u.row l t (f q.0 u.file w.before))
    by_path false e = f path file (sym (w.others path e) ∙ h)

written_len : (at : ℕ) (new old : List ℕ) → at + length new ≤ length old → length (written_at at new old) ≡ length old
written_len at new old h = simp (length-append, length-take, length-drop) (omega arith)

placed_found : (card : CardState) (channel : ChannelState) (p : CardState × ResponseValue) (u : Updates card channel p) → find (has_path (placed_by card channel u.place channel.current u.at).0) card.files ≡ Some u.file
placed_found card channel p u = let q = placed_by card channel u.place channel.current u.at in (update_files card channel p q.0 u q.1).before

module _ (changes : List Change) (card : CardState) (c : CommandValue) (p : CardState × ResponseValue) (fine : FineFiles card.files) (all : FineImages changes) where
  same_fine : p.0.files ≡ card.files → FineFiles p.0.files
  same_fine h = subst FineFiles (sym h) fine

  change_fine : (ch : Change) (o : Option ℕ) → option_and_then (slice_get changes) o ≡ Some ch → AllFine ch.files
  change_fine ch None h = absurd (cc)
  change_fine ch (Some i) h = all i ch h

  pub effect_fine : Effect changes card c p → FineFiles p.0.files
  effect_fine (quiet k q) = same_fine k.files
  effect_fine (refuses_select number place channel on j d) = same_fine d.keeps.files
  effect_fine (reads_record number place channel on j d) = same_fine d.keeps.files
  effect_fine (reads_binary number place channel on j d) = same_fine d.keeps.files
  effect_fine (gets number place channel on j d) = same_fine d.keeps.files
  effect_fine (selects number place channel on j d) = same_fine d.files
  effect_fine (opens j d) = same_fine d.files
  effect_fine (closes j d) = same_fine d.files
  effect_fine (updates_record number place channel on j d) = written_fine card channel p d.updates fine (λ k. ap length d.row ∙ d.fits.width) (λ k. absurd (not_both d.updates.file.rows.kind d.fits.linear k))
  effect_fine (updates_binary number place channel on j d) = written_fine card channel p d.updates fine (λ k. absurd (not_both d.updates.file.rows.kind k d.fits.transparent)) (λ k.
      let file_fine = fine _ d.updates.file (placed_found card channel p d.updates) in
      (ap length d.row ∙ written_len (parameters c) c.body (first_row d.updates.file.rows.rows) d.fits.from ∙ transparent_width d.updates.file.rows.kind d.updates.file.rows.width d.updates.file.rows.rows file_fine.rows k, d.index))
  effect_fine (hands_over j d) = subst FineFiles (sym d.files) (files_fine card.files d.change.files (change_fine d.change (slice_get card.armed 0) d.armed) fine)
