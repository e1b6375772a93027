-- A path is current where a reading of it was completed and nothing cleared it since.
use Rattle.std.proofs.Common.{◌≡◌, ℕ, ◌-◌, ◌==◌, ◌||◌, ◌&&◌, not, Bool, true, false, if◌then◌else◌, List, [], ◌∷◌, ◌++◌, Option, Some, None, is_some, refl, sym, ap, ◌∙◌, subst, arith, true≢false}
use Rattle.std.specs.Prelude.{filter, find, map}
use Rattle.std.specs.Cmp.Lexicographic.{same_text}
use Rattle.apdu.specs.Values.{CommandValue}
use Rattle.apdu.specs.Words.{has_value, same_bytes}
use Rattle.fcp.specs.Content.{with_row}
use Rattle.script_reader.specs.declared.types.Script.{Script}
use Rattle.report.specs.declared.line.Line.{Line}
use Rattle.report.specs.declared.line.Line.TheVariants as line
use Rattle.epoch_cache.specs.declared.cached.CachedFile.{CachedFile}
use Rattle.epoch_cache.specs.declared.cached.Touch.{Touch}
use Rattle.epoch_cache.specs.declared.cached.Written.{Written}
use Rattle.epoch_cache.specs.declared.cached.Written.TheVariants as written
use Rattle.rules.specs.declared.kept.Kept.{Kept}
use Rattle.rules.specs.History.{stops_epoch}
use Rattle.epoch_cache.specs.Cache.{is_of, is_current, is_row_of, is_moved, is_unknown_write, forgotten, with_file, with_completed, patched_file, patched, written_files, files_exchanged}
use Rattle.rules.specs.Cache.{files_behind}
use Rattle.rules.specs.After.{facts_of, kept_of}
use Rattle.rules.specs.LookingBack.{completed_in, was_completed}

-- ---- lists of files

same_self : (xs : List ℕ) → same_bytes xs xs ≡ true
same_self [] = refl
same_self (x ∷ xs) = rw (nat_self x) (same_self xs)
  where
    nat_self : (n : ℕ) → (n == n) ≡ true
    nat_self n = grind arith

found_or : (b : Bool) (x : CachedFile) (o : Option CachedFile) → is_some (if b then Some x else o) ≡ b || is_some o
found_or true x o = refl
found_or false x o = refl

and_false : (b : Bool) → b && false ≡ false
and_false true = refl
and_false false = refl

and_true : (b : Bool) → b && true ≡ b
and_true true = refl
and_true false = refl

module _ (path : List ℕ) where
  -- those of some paths are left out
  kept_by : (m : List ℕ → Bool) (file : CachedFile) (files : List CachedFile) (a b : Bool) → is_of path file ≡ a → m file.path ≡ b → is_current (filter (λ (x : CachedFile). not (m x.path)) files) path ≡ (not (m path) && is_current files path) → is_some (find (is_of path) (if not b then file ∷ filter (λ (x : CachedFile). not (m x.path)) files else filter (λ (x : CachedFile). not (m x.path)) files)) ≡ (not (m path) && is_some (if a then Some file else find (is_of path) files))
  kept_by m file files true true ea eb h =
      let same : m path ≡ true = ap m (sym (same_text file.path path (sym ea))) ∙ eb in
      h ∙ rw same refl
  kept_by m file files true false ea eb h =
      let same : m path ≡ false = ap m (sym (same_text file.path path (sym ea))) ∙ eb in
      rw (ea, same) refl
  kept_by m file files false true ea eb h = h
  kept_by m file files false false ea eb h = rw ea h

  pub current_filter : (m : List ℕ → Bool) (files : List CachedFile) → is_current (filter (λ (x : CachedFile). not (m x.path)) files) path ≡ (not (m path) && is_current files path)
  current_filter m [] = sym (and_false (not (m path)))
  current_filter m (file ∷ files) = kept_by m file files (is_of path file) (m file.path) refl refl (current_filter m files)

  by_head : (file x : CachedFile) (files : List CachedFile) (a : Bool) → is_some (find (is_of path) (files ++ file ∷ [])) ≡ (is_current files path || is_of path file) → is_some (if a then Some x else find (is_of path) (files ++ file ∷ [])) ≡ (is_some (if a then Some x else find (is_of path) files) || is_of path file)
  by_head file x files true h = refl
  by_head file x files false h = h

  or_none : (b : Bool) (file : CachedFile) (o : Option CachedFile) → is_some o ≡ false → is_some (if b then Some file else o) ≡ b
  or_none true file o e = refl
  or_none false file o e = e

  current_append : (file : CachedFile) (files : List CachedFile) → is_current (files ++ file ∷ []) path ≡ (is_current files path || is_of path file)
  current_append file [] = or_none (is_of path file) file None refl
  current_append file (x ∷ files) = by_head file x files (is_of path x) (current_append file files)

  by_same : (file : CachedFile) (a b c : Bool) → is_of path file ≡ a → same_bytes path file.path ≡ b → ((not b && c) || a) ≡ (a || c)
  by_same file true true c ea eb = refl
  by_same file true false c ea eb = or_true c
    where
      or_true : (x : Bool) → (x || true) ≡ true
      or_true true = refl
      or_true false = refl
  by_same file false true c ea eb = absurd (true≢false (sym (subst (λ (q : List ℕ). same_bytes q path ≡ true) (same_text path file.path (sym eb)) (same_self path)) ∙ ea))
  by_same file false false c ea eb = or_false c
    where
      or_false : (x : Bool) → (x || false) ≡ x
      or_false true = refl
      or_false false = refl

  pub current_with : (file : CachedFile) (files : List CachedFile) → is_current (with_file file files) path ≡ (is_of path file || is_current files path)
  current_with file files =
      current_append file (filter (λ (x : CachedFile). not (same_bytes x.path file.path)) files)
      ∙ ap (λ b. b || is_of path file) (current_filter (λ q. same_bytes q file.path) files)
      ∙ by_same file (is_of path file) (same_bytes path file.path) (is_current files path) refl refl

  current_completed : (o : Option CachedFile) (files : List CachedFile) → is_current (with_completed o files) path ≡ (has_value (is_of path) o || is_current files path)
  current_completed None files = refl
  current_completed (Some file) files = current_with file files

  by_patch : (b : Bool) (file new : CachedFile) → new.path ≡ file.path → is_of path (if b then new else file) ≡ is_of path file
  by_patch true file new e = ap (λ q. same_bytes q path) e
  by_patch false file new e = refl

  patched_path : (q : List ℕ) (row : ℕ) (bytes : List ℕ) (file : CachedFile) → is_of path (patched_file q row bytes file) ≡ is_of path file
  patched_path q row bytes file = by_patch (is_of q file && is_row_of row bytes file.content) file (record file { content = with_row (row - 1) bytes file.content }) refl

  by_first : (b : Bool) (x y : CachedFile) (o p : Option CachedFile) → is_some o ≡ is_some p → is_some (if b then Some x else o) ≡ is_some (if b then Some y else p)
  by_first true x y o p h = refl
  by_first false x y o p h = h

  current_map : (q : List ℕ) (row : ℕ) (bytes : List ℕ) (files : List CachedFile) → is_current (map (patched_file q row bytes) files) path ≡ is_current files path
  current_map q row bytes [] = refl
  current_map q row bytes (file ∷ files) =
      ap (λ b. is_some (if b then Some (patched_file q row bytes file) else find (is_of path) (map (patched_file q row bytes) files))) (patched_path q row bytes file)
      ∙ by_first (is_of path file) (patched_file q row bytes file) file (find (is_of path) (map (patched_file q row bytes) files)) (find (is_of path) files) (current_map q row bytes files)

  current_patched : (selected : Option (List ℕ)) (c : CommandValue) (files : List CachedFile) → is_current (patched selected c files) path ≡ is_current files path
  current_patched None c files = refl
  current_patched (Some q) c files = current_map q c.p1 c.body files

  current_written : (selected : Option (List ℕ)) (c : CommandValue) (files : List CachedFile) (w : Written) → is_current (written_files selected c files w) path ≡ (not (is_unknown_write w) && is_current files path)
  current_written selected c files written.Nothing = refl
  current_written selected c files written.Row = current_patched selected c files
  current_written selected c files written.Unknown = refl
  current_written selected c files written.Raw = refl

  -- ---- a line

  either : (x a b c : Bool) → (x || (not a && (not b && c))) ≡ (x || (not (a || b) && c))
  either x true b c = refl
  either x false b c = refl

  exchanged : (t : Touch) (selected : Option (List ℕ)) (c : CommandValue) (o : Option CachedFile) (files : List CachedFile) → is_current (files_exchanged t selected c o files) path ≡ (has_value (is_of path) o || (not (is_moved t path || is_unknown_write t.written) && is_current files path))
  exchanged t selected c o files =
      current_completed o (forgotten t (written_files selected c files t.written))
      ∙ ap (λ b. has_value (is_of path) o || b) (current_filter (is_moved t) (written_files selected c files t.written) ∙ ap (λ b. not (is_moved t path) && b) (current_written selected c files t.written))
      ∙ either (has_value (is_of path) o) (is_moved t path) (is_unknown_write t.written) (is_current files path)

  stopped : (stops : Bool) (t : Touch) (files : List CachedFile) → is_unknown_write t.written ≡ false → is_current (if stops then [] else forgotten t files) path ≡ (not (stops || (is_moved t path || is_unknown_write t.written)) && is_current files path)
  stopped true t files e = refl
  stopped false t files e = current_filter (is_moved t) files ∙ rw e (ap (λ b. not b && is_current files path) (sym (or_false (is_moved t path))))
    where
      or_false : (x : Bool) → (x || false) ≡ x
      or_false true = refl
      or_false false = refl

  module _ (s : Script) where
    line_current : (l : Line) (k : Kept) → is_current (files_behind l (facts_of s l k).touch k.selected (completed_in l (facts_of s l k) k) k.files) path ≡ (has_value (is_of path) (completed_in l (facts_of s l k) k) || (not (stops_epoch l || (is_moved (facts_of s l k).touch path || is_unknown_write (facts_of s l k).touch.written)) && is_current k.files path))
    line_current (line.Exchange a c r) k = exchanged (facts_of s (line.Exchange a c r) k).touch k.selected c (completed_in (line.Exchange a c r) (facts_of s (line.Exchange a c r) k) k) k.files
    line_current (line.Turn a) k = stopped false (facts_of s (line.Turn a) k).touch k.files refl
    line_current (line.Begin a i) k = stopped false (facts_of s (line.Begin a i) k).touch k.files refl
    line_current (line.Failed a c d) k = stopped true (facts_of s (line.Failed a c d) k).touch k.files refl
    line_current (line.Reset a) k = stopped false (facts_of s (line.Reset a) k).touch k.files refl
    line_current (line.ResetFailed a) k = stopped true (facts_of s (line.ResetFailed a) k).touch k.files refl
    line_current (line.World a e) k = stopped (stops_epoch (line.World a e)) (facts_of s (line.World a e) k).touch k.files refl
    line_current (line.Published n f e v text) k = stopped false (facts_of s (line.Published n f e v text) k).touch k.files refl
    line_current (line.EpochEnd n e v) k = stopped false (facts_of s (line.EpochEnd n e v) k).touch k.files refl
    line_current (line.Refused f n) k = stopped false (facts_of s (line.Refused f n) k).touch k.files refl
    line_current (line.Answered a i given) k = stopped false (facts_of s (line.Answered a i given) k).touch k.files refl

    pub paths : (lines : List Line) → is_current (kept_of s lines).files path ≡ was_completed s path lines
    paths [] = refl
    paths (l ∷ earlier) =
        line_current l (kept_of s earlier)
        ∙ ap (λ b. has_value (is_of path) (completed_in l (facts_of s l (kept_of s earlier)) (kept_of s earlier)) || (not (stops_epoch l || (is_moved (facts_of s l (kept_of s earlier)).touch path || is_unknown_write (facts_of s l (kept_of s earlier)).touch.written)) && b)) (paths earlier)
