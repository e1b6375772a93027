-- A row of a family's file that was written.
use Rattle.std.proofs.Common.{◌≡◌, ◌<◌, ◌-◌, ◌==◌, ◌&&◌, ℕ, zero, suc, Bool, true, false, cond, List, [], ◌∷◌, get_or, map, Option, Some, None, IfSome, option_map, refl, sym, ap, subst, ◌∙◌, arith}
use Rattle.std.proofs.lemmas.List.{set-get_or}
use Rattle.apdu.specs.Words.{same_bytes, path_is_in}
use Rattle.fcp.specs.Content.{Content, with_row}
use Rattle.families.specs.declared.content.StandardContent.{StandardContent}
use Rattle.families.specs.Contents.{decoded, is_editable}
use Rattle.families.specs.Families.{View, family_paths, has_path}
use Rattle.families.specs.Patches.{WasContent, path_at}
use Rattle.epoch_cache.specs.declared.cached.CachedFile.{CachedFile}
use Rattle.epoch_cache.specs.Cache.{content_or_missing, is_of, is_row_of, patched_file, taken, view_of_files}
use Rattle.epoch_cache.proofs.LookUps.{same_equal, taken_patched, others_patched}
use Rattle.content_tracker.specs.declared.follow.WrittenRow.{WrittenRow}
use Rattle.content_tracker.specs.Contents.{WasBefore, number_of}
use Rattle.content_tracker.proofs.Views.{same_decoded}

-- ---- the file of one path

-- the bytes that stand in the row afterwards
row_behind : ℕ → List ℕ → Content → List ℕ
row_behind row bytes content = cond (is_row_of row bytes content) bytes (get_or content.rows (row - 1) [])

same_row : (content : Content) (i : ℕ) → with_row i (get_or content.rows i []) content ≡ content
same_row content i = ap (λ rows. let c : Content = record { kind = content.kind; width = content.width; rows = rows } in c) (set-get_or content.rows i [])

found_of : (q : List ℕ) (files : List CachedFile) (file : CachedFile) → taken q files ≡ Some file → is_of q file ≡ true
found_of q [] file e = absurd (cc)
found_of q (x ∷ files) file e = by (is_of q x) refl (λ h. found_of q files file h) e
  where
    by : (b : Bool) → is_of q x ≡ b → (taken q files ≡ Some file → is_of q file ≡ true) → cond b (Some x) (taken q files) ≡ Some file → is_of q file ≡ true
    by true is rest h = let same : x ≡ file = cc in subst (λ (y : CachedFile). is_of q y ≡ true) same is
    by false is rest h = rest h

patched_by : (q : List ℕ) (row : ℕ) (bytes : List ℕ) (file : CachedFile) (own fits : Bool) → own ≡ true → is_row_of row bytes file.content ≡ fits
    → (let f : CachedFile = cond (own && fits) (record file { content = with_row (row - 1) bytes file.content }) file in f).content ≡ with_row (row - 1) (cond fits bytes (get_or file.content.rows (row - 1) [])) file.content
patched_by q row bytes file true true own fits = refl
patched_by q row bytes file true false own fits = sym (same_row file.content (row - 1))
patched_by q row bytes file false fits own e = absurd (cc)

written_by : (q : List ℕ) (row : ℕ) (bytes : List ℕ) (o : Option CachedFile) → IfSome o (λ file. is_of q file ≡ true)
    → content_or_missing (option_map (patched_file q row bytes) o) ≡ with_row (row - 1) (row_behind row bytes (content_or_missing o)) (content_or_missing o)
unfolding row_behind
written_by q row bytes None own = refl
written_by q row bytes (Some file) own = patched_by q row bytes file (is_of q file) (is_row_of row bytes file.content) own refl

-- the file of the path has the row
written_view : (q : List ℕ) (row : ℕ) (bytes : List ℕ) (files : List CachedFile)
    → view_of_files (map (patched_file q row bytes) files) q ≡ with_row (row - 1) (row_behind row bytes (view_of_files files q)) (view_of_files files q)
written_view q row bytes files =
    ap content_or_missing (taken_patched q row bytes files q) ∙ written_by q row bytes (taken q files) (own (taken q files) refl)
  where
    own : (o : Option CachedFile) → taken q files ≡ o → IfSome o (λ file. is_of q file ≡ true)
    own None e = tt
    own (Some file) e = found_of q files file e

-- that of another path is as before
other_view : (path q : List ℕ) (row : ℕ) (bytes : List ℕ) (files : List CachedFile) → same_bytes path q ≡ false → view_of_files (map (patched_file path row bytes) files) q ≡ view_of_files files q
other_view path q row bytes files apart = ap content_or_missing (others_patched path row bytes files q apart)

-- ---- a family of two files

module _ (decode : View → StandardContent) (p0 p1 : List ℕ) (apart : same_bytes p0 p1 ≡ false) (back : same_bytes p1 p0 ≡ false)
    (in0 : path_is_in (p0 ∷ p1 ∷ []) p0 ≡ true) (in1 : path_is_in (p0 ∷ p1 ∷ []) p1 ≡ true)
    (row : ℕ) (bytes : List ℕ) (content : StandardContent) (before files : List CachedFile) (was : content ≡ decode (view_of_files before)) where
  main_written : ((q : List ℕ) → path_is_in (p0 ∷ p1 ∷ []) q ≡ true → view_of_files files q ≡ view_of_files (map (patched_file p0 row bytes) before) q)
      → WasContent decode (p0 ∷ p1 ∷ []) 0 row content (view_of_files files)
  main_written same = record {
    before = view_of_files before;
    bytes = row_behind row bytes (view_of_files before p0);
    decoded = was;
    files = at;
  }
    where
      at : (i : ℕ) → i < 2 → view_of_files files (path_at (p0 ∷ p1 ∷ []) i) ≡ cond (0 == i) (with_row (row - 1) (row_behind row bytes (view_of_files before p0)) (view_of_files before (path_at (p0 ∷ p1 ∷ []) i))) (view_of_files before (path_at (p0 ∷ p1 ∷ []) i))
      at zero h = same p0 in0 ∙ written_view p0 row bytes before
      at (suc zero) h = same p1 in1 ∙ other_view p0 p1 row bytes before apart
      at (suc (suc i)) h = absurd (omega arith)

  extension_written : ((q : List ℕ) → path_is_in (p0 ∷ p1 ∷ []) q ≡ true → view_of_files files q ≡ view_of_files (map (patched_file p1 row bytes) before) q)
      → WasContent decode (p0 ∷ p1 ∷ []) 1 row content (view_of_files files)
  extension_written same = record {
    before = view_of_files before;
    bytes = row_behind row bytes (view_of_files before p1);
    decoded = was;
    files = at;
  }
    where
      at : (i : ℕ) → i < 2 → view_of_files files (path_at (p0 ∷ p1 ∷ []) i) ≡ cond (1 == i) (with_row (row - 1) (row_behind row bytes (view_of_files before p1)) (view_of_files before (path_at (p0 ∷ p1 ∷ []) i))) (view_of_files before (path_at (p0 ∷ p1 ∷ []) i))
      at zero h = same p0 in0 ∙ other_view p1 p0 row bytes before back
      at (suc zero) h = same p1 in1 ∙ written_view p1 row bytes before
      at (suc (suc i)) h = absurd (omega arith)

  one_of_two : (path : List ℕ) (b0 b1 : Bool) → same_bytes path p0 ≡ b0 → same_bytes path p1 ≡ b1 → path_is_in (p0 ∷ p1 ∷ []) path ≡ true
      → ((q : List ℕ) → path_is_in (p0 ∷ p1 ∷ []) q ≡ true → view_of_files files q ≡ view_of_files (map (patched_file path row bytes) before) q)
      → WasContent decode (p0 ∷ p1 ∷ []) (cond b0 0 1) row content (view_of_files files)
  one_of_two path true b1 e0 e1 known same =
      let own : path ≡ p0 = same_equal path p0 e0 in
      main_written (λ q h. same q h ∙ ap (λ p. view_of_files (map (patched_file p row bytes) before) q) own)
  one_of_two path false true e0 e1 known same =
      let own : path ≡ p1 = same_equal path p1 e1 in
      extension_written (λ q h. same q h ∙ ap (λ p. view_of_files (map (patched_file p row bytes) before) q) own)
  one_of_two path false false e0 e1 known same = absurd (neither known)
    where
      neither : path_is_in (p0 ∷ p1 ∷ []) path ≡ true → ⊥
      neither h = let none : path_is_in (p0 ∷ p1 ∷ []) path ≡ false = rw (e0, e1) refl in let clash : true ≡ false = sym h ∙ none in absurd (cc)

pub row_content : (f : ℕ) (w : WrittenRow) (content : StandardContent) (files : List CachedFile) → f < 3 → is_editable f ≡ true → has_path f w.path ≡ true → WasBefore f (Some w) content files
    → WasContent (decoded f) (family_paths f) (number_of w.path (family_paths f)) w.row content (view_of_files files)
row_content zero w content files known edits has t = absurd (cc)
row_content (suc zero) w content files known edits has t =
    one_of_two (decoded 1) (0x7F10 ∷ 0x6F3A ∷ []) (0x7F10 ∷ 0x6F4A ∷ []) refl refl refl refl w.row t.bytes content t.before files t.was w.path _ _ refl refl has t.same
row_content (suc (suc zero)) w content files known edits has t =
    one_of_two (decoded 2) (0x7FFF ∷ 0x6F3B ∷ []) (0x7FFF ∷ 0x6F4B ∷ []) refl refl refl refl w.row t.bytes content t.before files t.was w.path _ _ refl refl has t.same
row_content (suc (suc (suc f))) w content files known edits has t = absurd (omega arith)

-- a row of a file of another family
pub apart_by : (f : ℕ) (path q : List ℕ) (b : Bool) → same_bytes path q ≡ b → has_path f path ≡ false → has_path f q ≡ true → b ≡ false
apart_by f path q false e none has = refl
apart_by f path q true e none has =
    let same : path ≡ q = same_equal path q e in
    let clash : true ≡ false = sym has ∙ sym (ap (has_path f) same) ∙ none in
    absurd (cc)

pub other_row : (f : ℕ) (w : WrittenRow) (content : StandardContent) (files : List CachedFile) → f < 3 → has_path f w.path ≡ false → WasBefore f (Some w) content files → content ≡ decoded f (view_of_files files)
other_row f w content files known none t =
    t.was ∙ sym (same_decoded f (view_of_files files) (view_of_files t.before) known (λ q has. t.same q has ∙ other_view w.path q w.row t.bytes t.before (apart_by f w.path q (same_bytes w.path q) refl none has)))

pub no_row : (f : ℕ) (content : StandardContent) (files : List CachedFile) → f < 3 → WasBefore f None content files → content ≡ decoded f (view_of_files files)
no_row f content files known t = t.was ∙ sym (same_decoded f (view_of_files files) (view_of_files t.before) known t.same)
