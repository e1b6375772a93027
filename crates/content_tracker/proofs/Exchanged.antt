-- What an exchange does to the files of a family whose content is kept.
use Rattle.std.proofs.Common.{◌≡◌, ◌<◌, ◌⊎◌, inl, inr, ◌==◌, ◌&&◌, ◌||◌, not, ℕ, Bool, true, false, cond, List, [], ◌∷◌, ◌++◌, find, Option, Some, None, IfSome, is_some, option_map, refl, sym, ap, subst, ◌∙◌, true≢false, lit<, ◌+◌, ◌-◌}
use Rattle.std.specs.Prelude.{option_and_then}
use Rattle.std.proofs.lemmas.Bool.{and_parts}
use Rattle.apdu.specs.Values.{CommandValue, ResponseValue}
use Rattle.apdu.specs.Words.{same_bytes, path_is_in, has_value}
use Rattle.apdu.specs.Apdu.{fetch_ins, is_success, is_update_ins, same_command}
use Rattle.refresh_cmd.specs.Values.{ProactiveValue}
use Rattle.refresh_cmd.specs.Proactive.{read_proactive}
use Rattle.fcp.specs.Control.{read_fcp}
use Rattle.fcp.specs.declared.control.Fcp.{Fcp}
use Rattle.fcp.specs.declared.control.FcpError.{FcpError}
use Rattle.std.specs.Prelude.{Result, Ok, Err}
use Rattle.families.specs.declared.content.StandardContent.{StandardContent}
use Rattle.families.specs.Contents.{decoded}
use Rattle.families.specs.Families.{family_paths, has_path}
use Rattle.link.specs.declared.chain.Chain.{Chain}
use Rattle.link.specs.declared.chain.Final.{Final}
use Rattle.link.specs.Commands.{asks_more, chain_count, chain_first, final_after, first_of, is_reading_select, named_path}
use Rattle.epoch_cache.specs.declared.cached.CachedFile.{CachedFile}
use Rattle.epoch_cache.specs.declared.cached.Touch.{Touch}
use Rattle.epoch_cache.specs.declared.cached.Written.{Written}
use Rattle.epoch_cache.specs.declared.cached.Written.TheVariants as written
use Rattle.epoch_cache.specs.Cache.{all_current, content_or_missing, files_exchanged, forgotten, handed_refresh, refresh_of, is_current, is_moved, is_of, is_row_update, is_update, taken, touch_exchanged, view_of_files, with_completed, written_by, written_files}
use Rattle.epoch_cache.proofs.LookUps.{same_equal, others_with}
use Rattle.loader.specs.Values.{ReadingValue, is_readable}
use Rattle.loader.specs.Reading.{next_read, row_read, begun, begun_by, completed_by, file_of_complete, file_read, further, is_basic_read, is_complete, no_file, reading_at, reading_of, is_reading_of}
use Rattle.script_reader.specs.declared.types.Script.{Script}
use Rattle.report.specs.declared.line.Line.TheVariants.{Exchange}
use Rattle.rules.specs.declared.kept.Job.{Job}
use Rattle.rules.specs.declared.kept.Kept.{Kept}
use Rattle.rules.specs.Kept.{job_of}
use Rattle.rules.specs.After.{completed_of, facts_of, is_raw_line, is_started, jobs_beside, kept_after}
use Rattle.content_tracker.specs.declared.contents.Contents.{Contents}
use Rattle.content_tracker.specs.declared.follow.WrittenRow.{WrittenRow}
use Rattle.content_tracker.specs.Contents.{IsOf, AreOf, WasBefore, Follows, AllFollow, path_read, first_read, unless_in, without_readings, row_written, behind_row, may_write}
use Rattle.content_tracker.proofs.Views.{same_decoded}
use Rattle.content_tracker.proofs.Rows.{apart_by}

-- ---- the file of a reading that is completed

path_of_file : (g : ReadingValue) (file : CachedFile) → file_of_complete (Some g) ≡ Some file → file.path ≡ g.path
path_of_file g file e = by (is_complete g) e
  where
    by : (b : Bool) → option_map file_read (cond b (Some g) None) ≡ Some file → file.path ≡ g.path
    by true h = let same : file_read g ≡ file = cc in ap (λ (x : CachedFile). x.path) (sym same)
    by false h = absurd (cc)

begun_path : (o : Option (List ℕ)) (n : ℕ) (read : Result Fcp FcpError) (file : CachedFile) → file_of_complete (begun_by o n read) ≡ Some file → o ≡ Some file.path
begun_path None n read file e = absurd (cc)
begun_path (Some path) n (Err x) file e = absurd (cc)
begun_path (Some path) n (Ok control) file e = by (is_readable control) e
  where
    by : (b : Bool) → file_of_complete (cond b (Some (record { path = path; control = control; rows = []; first_event = n })) None) ≡ Some file → Some path ≡ Some file.path
    by true h = ap (λ p. Some p) (sym (path_of_file (record { path = path; control = control; rows = []; first_event = n }) file h))
    by false h = absurd (cc)

select_path : (f : Final) (file : CachedFile) → file_of_complete (begun f) ≡ Some file → named_path f.command ≡ Some file.path
select_path f file e = by (is_success f.response.sw) e
  where
    by : (b : Bool) → file_of_complete (elim b [ true ↦ begun_by (named_path f.command) f.first_event (read_fcp f.response.body) | false ↦ None ]) ≡ Some file → named_path f.command ≡ Some file.path
    by true h = begun_path (named_path f.command) f.first_event (read_fcp f.response.body) file h
    by false h = absurd (cc)

reading_path : (path : List ℕ) (readings : List ReadingValue) (g : ReadingValue) → reading_of path readings ≡ Some g → g.path ≡ path
reading_path path [] g e = absurd (cc)
reading_path path (x ∷ readings) g e = by (is_reading_of path x) refl (λ h. reading_path path readings g h) e
  where
    by : (b : Bool) → is_reading_of path x ≡ b → (reading_of path readings ≡ Some g → g.path ≡ path) → cond b (Some x) (reading_of path readings) ≡ Some g → g.path ≡ path
    by true is rest h = let same : x ≡ g = cc in subst (λ (y : ReadingValue). y.path ≡ path) same (same_equal x.path path is)
    by false is rest h = rest h

further_path : (f : Final) (g : ReadingValue) (file : CachedFile) → file_of_complete (further f g) ≡ Some file → file.path ≡ g.path
further_path f g file e = by (is_success f.response.sw && has_value (same_command f.command) (next_read g)) e
  where
    by : (b : Bool) → file_of_complete (cond b (Some (record g { rows = g.rows ++ row_read f ∷ [] })) None) ≡ Some file → file.path ≡ g.path
    by true h = path_of_file (record g { rows = g.rows ++ row_read f ∷ [] }) file h
    by false h = absurd (cc)

at_path : (f : Final) (selected : Option (List ℕ)) (readings : List ReadingValue) (o : Option ReadingValue) (file : CachedFile) → reading_at selected readings ≡ o → file_of_complete (option_and_then (further f) o) ≡ Some file → selected ≡ Some file.path
at_path f selected readings None file is e = absurd (cc)
at_path f None readings (Some g) file is e = absurd (cc)
at_path f (Some path) readings (Some g) file is e = ap (λ p. Some p) (sym (reading_path path readings g is) ∙ sym (further_path f g file e))

no_file_path : (o : Option (List ℕ)) (file : CachedFile) → option_map no_file o ≡ Some file → o ≡ Some file.path
no_file_path None file e = absurd (cc)
no_file_path (Some path) file e = let same : no_file path ≡ file = cc in ap (λ (x : CachedFile). Some x.path) same

-- it is that of the path that the command reads
completed_path : (started : Bool) (f : Final) (selected : Option (List ℕ)) (readings : List ReadingValue) (file : CachedFile) → completed_by started f selected readings ≡ Some file → path_read selected f.command ≡ Some file.path
completed_path started f selected readings file e = by (is_reading_select f.command) _ _ (is_basic_read f.command) e
  where
    by : (b n y r : Bool) → cond ((b && n) && y) (option_map no_file (named_path f.command)) (file_of_complete (cond b (begun f) (cond r (option_and_then (further f) (reading_at selected readings)) None))) ≡ Some file
        → cond b (named_path f.command) (cond r selected None) ≡ Some file.path
    by true true true r h = no_file_path (named_path f.command) file h
    by true true false r h = select_path f file h
    by true false y r h = select_path f file h
    by false n y true h = at_path f selected readings (reading_at selected readings) file refl h
    by false n y false h = absurd (cc)

-- ---- what is not read

kept_in : (f : ℕ) (path : Option (List ℕ)) (kept : Option StandardContent) (P : StandardContent → Type 0) → IfSome kept P → IfSome (unless_in f path kept) P
kept_in f None kept P h = h
kept_in f (Some path) kept P h = by (has_path f path)
  where
    by : (b : Bool) → IfSome (cond b None kept) P
    by true = tt
    by false = h

some_path : (p q : List ℕ) (b : Bool) (f : ℕ) → has_path f p ≡ b → b ≡ false → let x : Option (List ℕ) = Some p in x ≡ Some q → has_path f q ≡ false
some_path p q b f is none e = let same : p ≡ q = cc in sym (ap (has_path f) same) ∙ is ∙ none

always : {A : Type 0} (o : Option A) (P : Type 0) → P → IfSome o (λ _. P)
always None P h = tt
always (Some x) P h = h

unread : (f : ℕ) (path : Option (List ℕ)) (kept : Option StandardContent) → IfSome (unless_in f path kept) (λ _. (p : List ℕ) → path ≡ Some p → has_path f p ≡ false)
unread f None kept = always kept _ (λ p e. absurd (cc))
unread f (Some path) kept = by (has_path f path) refl
  where
    by : (b : Bool) → has_path f path ≡ b → IfSome (cond b None kept) (λ _. (p : List ℕ) → Some path ≡ Some p → has_path f p ≡ false)
    by true is = tt
    by false is = always kept _ (λ p e. some_path path p false f is refl e)

-- ---- the files behind an exchange

found_at : (q : List ℕ) (file : CachedFile) → is_of q file ≡ true → file.path ≡ q
found_at q file e = same_equal file.path q e

-- what moved is not current
taken_forgotten : (t : Touch) (q : List ℕ) (files : List CachedFile) (b : Bool) → is_moved t q ≡ b → taken q (forgotten t files) ≡ cond b None (taken q files)
taken_forgotten t q [] true e = refl
taken_forgotten t q [] false e = refl
taken_forgotten t q (file ∷ files) b e = by (is_of q file) refl (is_moved t file.path) refl (taken_forgotten t q files b e)
  where
    by : (own : Bool) → is_of q file ≡ own → (gone : Bool) → is_moved t file.path ≡ gone → taken q (forgotten t files) ≡ cond b None (taken q files)
        → find (is_of q) (cond (not gone) (file ∷ forgotten t files) (forgotten t files)) ≡ cond b None (cond own (Some file) (taken q files))
    by true own true gone rest =
        let here : b ≡ true = sym e ∙ sym (ap (is_moved t) (found_at q file own)) ∙ gone in
        rest ∙ ap (λ x. cond x None (taken q files)) here ∙ sym (ap (λ x. cond x None (Some file)) here)
    by true own false gone rest =
        let here : b ≡ false = sym e ∙ sym (ap (is_moved t) (found_at q file own)) ∙ gone in
        ap (λ x. cond x (Some file) (taken q (forgotten t files))) own ∙ sym (ap (λ x. cond x None (Some file)) here)
    by false own true gone rest = rest
    by false own false gone rest = ap (λ x. cond x (Some file) (taken q (forgotten t files))) own ∙ rest

pub Apart : ℕ → Option CachedFile → Type 0
Apart f completed = (file : CachedFile) → completed ≡ Some file → has_path f file.path ≡ false

taken_completed : (f : ℕ) (completed : Option CachedFile) (files : List CachedFile) (q : List ℕ) → Apart f completed → has_path f q ≡ true → taken q (with_completed completed files) ≡ taken q files
unfolding Apart
taken_completed f None files q apart has = refl
taken_completed f (Some file) files q apart has = others_with file files q (apart_by f file.path q (same_bytes file.path q) refl (apart file refl) has)

one_current : (files : List CachedFile) (paths : List (List ℕ)) (q : List ℕ) → all_current files paths ≡ true → path_is_in paths q ≡ true → is_current files q ≡ true
one_current files [] q all has = absurd (true≢false (sym has))
one_current files (p ∷ paths) q all has =
    let parts = and_parts (is_current files p) (all_current files paths) all in
    by (same_bytes q p) refl parts.0 (λ h. one_current files paths q parts.1 h) has
  where
    by : (b : Bool) → same_bytes q p ≡ b → is_current files p ≡ true → (path_is_in paths q ≡ true → is_current files q ≡ true) → (b || path_is_in paths q) ≡ true → is_current files q ≡ true
    by true is here rest h = ap (is_current files) (same_equal q p is) ∙ here
    by false is here rest h = rest h

module _ (f : ℕ) (selected : Option (List ℕ)) (c : CommandValue) (r : ResponseValue) (raw : Bool) (completed : Option CachedFile) (files : List CachedFile) (apart : Apart f completed) where
  pub touch : Touch
  touch = touch_exchanged raw selected c r

  pub behind : List CachedFile
  behind = files_exchanged touch selected c completed files

  taken_behind : (q : List ℕ) → has_path f q ≡ true → (b : Bool) → is_moved touch q ≡ b → taken q behind ≡ cond b None (taken q (written_files selected c files (written_by raw selected c r)))
  unfolding behind touch
  taken_behind q has b e = taken_completed f completed _ q apart has ∙ taken_forgotten touch q (written_files selected c files (written_by raw selected c r)) b e

  none_moved : (q : List ℕ) (w : Written) → written_by raw selected c r ≡ w → is_moved (record { begins = false; written = w; refresh = touch.refresh }) q ≡ is_moved touch q
  unfolding touch
  none_moved q w e = ap (λ (x : Written). is_moved (record { begins = false; written = x; refresh = touch.refresh }) q) (sym e)

  -- a current file of the family is as the command wrote it
  current_behind : (q : List ℕ) → has_path f q ≡ true → is_current behind q ≡ true → (b : Bool) → is_moved touch q ≡ b → (b ≡ false) × (taken q behind ≡ taken q (written_files selected c files (written_by raw selected c r)))
  current_behind q has current true e = absurd (true≢false (sym current ∙ ap is_some (taken_behind q has true e)))
  current_behind q has current false e = (refl, taken_behind q has false e)

  row_by : (o : Option (List ℕ)) → Bool → Bool → Option WrittenRow
  row_by None u ru = None
  row_by (Some path) u ru = cond (u && ru) (Some (record { path = path; row = c.p1 })) None

  written_row : (o : Option (List ℕ)) (u rw ru : Bool) (q : List ℕ) (now : Option CachedFile)
      → is_moved (record { begins = false; written = cond (not u) written.Nothing (cond rw written.Raw (cond (ru && is_some o) written.Row written.Unknown)); refresh = touch.refresh }) q ≡ false
      → now ≡ taken q (written_files o c files (cond (not u) written.Nothing (cond rw written.Raw (cond (ru && is_some o) written.Row written.Unknown)))) → is_some now ≡ true
      → now ≡ taken q (behind_row (row_by o u ru) c.body files)
  unfolding row_by
  written_row None false rw ru q now still h current = h
  written_row None true true ru q now still h current = absurd (true≢false still)
  written_row None true false true q now still h current = absurd (true≢false (sym current ∙ ap is_some h))
  written_row None true false false q now still h current = absurd (true≢false (sym current ∙ ap is_some h))
  written_row (Some path) false rw ru q now still h current = h
  written_row (Some path) true true ru q now still h current = absurd (true≢false still)
  written_row (Some path) true false true q now still h current = h
  written_row (Some path) true false false q now still h current = absurd (true≢false (sym current ∙ ap is_some h))

  row_is : (o : Option (List ℕ)) → row_by o (is_update c r) (is_row_update c) ≡ row_written o c r
  unfolding row_by
  row_is None = refl
  row_is (Some path) = refl

  one_behind : (q : List ℕ) → has_path f q ≡ true → is_current behind q ≡ true → view_of_files behind q ≡ view_of_files (behind_row (row_written selected c r) c.body files) q
  unfolding behind touch
  one_behind q has current =
      let h = current_behind q has current (is_moved touch q) refl in
      ap content_or_missing (written_row selected (is_update c r) raw (is_row_update c) q (taken q behind) h.0 h.1 current)
      ∙ ap (λ row. view_of_files (behind_row row c.body files) q) (row_is selected)

  pub follows_one : (content : StandardContent) → content ≡ decoded f (view_of_files files) → all_current behind (family_paths f) ≡ true → WasBefore f (row_written selected c r) content behind
  follows_one content was all = record { before = files; bytes = c.body; was = was; same = λ q has. one_behind q has (one_current behind (family_paths f) q all has) }

  pub behind_is : behind ≡ files_exchanged (touch_exchanged raw selected c r) selected c completed files
  unfolding behind touch
  behind_is = refl

  -- a command that writes nothing and fetches nothing
  quiet_write : (i s : Bool) (rest : Written) → i ≡ false → cond (not (i && s)) written.Nothing rest ≡ written.Nothing
  quiet_write true s rest e = absurd (true≢false e)
  quiet_write false s rest e = refl

  quiet_fetch : (i s : Bool) (rest : Option ProactiveValue) → i ≡ false → (let x : Option ProactiveValue = elim (i && s) [ true ↦ rest | false ↦ None ] in x) ≡ None
  quiet_fetch true s rest e = absurd (true≢false e)
  quiet_fetch false s rest e = refl

  writes_nothing : is_update_ins c.ins ≡ false → written_by raw selected c r ≡ written.Nothing
  writes_nothing e = quiet_write (is_update_ins c.ins) (is_success r.sw) _ e

  hands_nothing : (c.ins == fetch_ins) ≡ false → handed_refresh c r ≡ None
  hands_nothing e = quiet_fetch (c.ins == fetch_ins) (is_success r.sw) (refresh_of (read_proactive r.body)) e

  moves_nothing : is_update_ins c.ins ≡ false → (c.ins == fetch_ins) ≡ false → (q : List ℕ) → is_moved touch q ≡ false
  unfolding touch
  moves_nothing e h q =
      ap (λ (x : Written). is_moved (record { begins = false; written = x; refresh = handed_refresh c r }) q) (writes_nothing e)
      ∙ ap (λ (x : Option ProactiveValue). is_moved (record { begins = false; written = written.Nothing; refresh = x }) q) (hands_nothing h)

  pub unchanged_one : is_update_ins c.ins ≡ false → (c.ins == fetch_ins) ≡ false → f < 3 → (content : StandardContent) → content ≡ decoded f (view_of_files files) → content ≡ decoded f (view_of_files behind)
  unfolding behind touch
  unchanged_one e h known content was =
      was ∙ sym (same_decoded f (view_of_files behind) (view_of_files files) known (λ q has.
      ap content_or_missing (taken_behind q has false (moves_nothing e h q) ∙ ap (λ w. taken q (written_files selected c files w)) (writes_nothing e))))

-- ---- all families

or_parts : (a b : Bool) → (a || b) ≡ false → (a ≡ false) × (b ≡ false)
or_parts true b e = absurd (true≢false e)
or_parts false b e = (refl, e)

read_of : (selected : Option (List ℕ)) (c : CommandValue) (chain : Option Chain) (p : List ℕ) → path_read selected (chain_first c chain) ≡ Some p → (path_read selected c ≡ Some p) ⊎ (first_read selected chain ≡ Some p)
read_of selected c None p e = inl e
read_of selected c (Some chain) p e = by (same_command c chain.next) e
  where
    by : (b : Bool) → path_read selected (first_of (cond b (Some chain) None) c) ≡ Some p → (path_read selected c ≡ Some p) ⊎ (path_read selected chain.first ≡ Some p)
    by true h = inr h
    by false h = inl h

module _ (s : Script) (k : Kept) (a : ℕ) (c : CommandValue) (r : ResponseValue) where
  beside : List Job
  beside = jobs_beside (Exchange a c r) k.history.epoch (facts_of s (Exchange a c r) k) k.selected k.jobs

  completed : Option CachedFile
  completed = completed_of (is_started k.startup) k.selected beside (final_after a c r k.history.events k.chain)

  -- the file of a reading that the exchange completes is one that was read
  completed_read : (file : CachedFile) → completed ≡ Some file → (path_read k.selected c ≡ Some file.path) ⊎ (first_read k.selected k.chain ≡ Some file.path)
  unfolding completed
  completed_read file e = read_of k.selected c k.chain file.path (by (asks_more (chain_count c k.chain + 1) c r) e)
    where
      by : (b : Bool) → completed_of (is_started k.startup) k.selected beside (cond b None (Some (record { actor = a; command = chain_first c k.chain; response = r; event = k.history.events + 1; first_event = k.history.events + 1 - chain_count c k.chain }))) ≡ Some file
          → path_read k.selected (chain_first c k.chain) ≡ Some file.path
      by true h = absurd (cc)
      by false h = completed_path (is_started k.startup) (record { actor = a; command = chain_first c k.chain; response = r; event = k.history.events + 1; first_event = k.history.events + 1 - chain_count c k.chain }) k.selected (job_of a beside).readings file h

  apart_if : (f : ℕ) (kept : Option StandardContent)
      → IfSome kept (λ _. (p : List ℕ) → path_read k.selected c ≡ Some p → has_path f p ≡ false) → IfSome kept (λ _. (p : List ℕ) → first_read k.selected k.chain ≡ Some p → has_path f p ≡ false)
      → IfSome kept (λ _. Apart f completed)
  unfolding Apart
  apart_if f None g h = tt
  apart_if f (Some content) g h = λ file e. elim (completed_read file e) [ inl x ↦ g file.path x | inr x ↦ h file.path x ]

  kept_of_family : ℕ → Option StandardContent → Option StandardContent
  kept_of_family f kept = unless_in f (first_read k.selected k.chain) (unless_in f (path_read k.selected c) kept)

  apart_kept : (f : ℕ) (kept : Option StandardContent) → IfSome (kept_of_family f kept) (λ _. Apart f completed)
  unfolding kept_of_family
  apart_kept f kept =
      apart_if f (kept_of_family f kept)
      (kept_in f (first_read k.selected k.chain) (unless_in f (path_read k.selected c) kept) _ (unread f (path_read k.selected c) kept))
      (unread f (first_read k.selected k.chain) (unless_in f (path_read k.selected c) kept))

  still_of : (f : ℕ) (kept : Option StandardContent) → IsOf f k.files kept → IsOf f k.files (kept_of_family f kept)
  unfolding kept_of_family
  still_of f kept h = kept_in f (first_read k.selected k.chain) (unless_in f (path_read k.selected c) kept) _ (kept_in f (path_read k.selected c) kept _ h)

  abbrev files_now : List CachedFile
  files_now = (kept_after s (Exchange a c r) k).files

  follow_by : (f : ℕ) (kept : Option StandardContent) → IsOf f k.files kept → IfSome kept (λ _. Apart f completed) → Follows f (row_written k.selected c r) kept files_now
  unfolding completed beside
  follow_by f None h apart = tt
  follow_by f (Some content) h apart =
      λ all. subst (λ files. WasBefore f (row_written k.selected c r) content files) (behind_is f k.selected c r (is_raw_line s (Exchange a c r) k.jobs) completed k.files apart)
      (follows_one f k.selected c r (is_raw_line s (Exchange a c r) k.jobs) completed k.files apart content h
      (subst (λ files. all_current files (family_paths f) ≡ true) (sym (behind_is f k.selected c r (is_raw_line s (Exchange a c r) k.jobs) completed k.files apart)) all))

  still_by : (f : ℕ) (kept : Option StandardContent) → f < 3 → is_update_ins c.ins ≡ false → (c.ins == fetch_ins) ≡ false → IsOf f k.files kept → IfSome kept (λ _. Apart f completed) → IsOf f files_now kept
  unfolding completed beside
  still_by f None known u w h apart = tt
  still_by f (Some content) known u w h apart =
      unchanged_one f k.selected c r (is_raw_line s (Exchange a c r) k.jobs) completed k.files apart u w known content h
      ∙ ap (λ files. decoded f (view_of_files files)) (behind_is f k.selected c r (is_raw_line s (Exchange a c r) k.jobs) completed k.files apart)

  pub all_follow : (contents : Contents) → AreOf k.files contents → AllFollow (row_written k.selected c r) (without_readings k.selected c k.chain contents) files_now
  unfolding kept_of_family
  all_follow contents h = record {
    records = follow_by 0 (kept_of_family 0 contents.records) (still_of 0 contents.records h.records) (apart_kept 0 contents.records);
    phonebook = follow_by 1 (kept_of_family 1 contents.phonebook) (still_of 1 contents.phonebook h.phonebook) (apart_kept 1 contents.phonebook);
    fixed = follow_by 2 (kept_of_family 2 contents.fixed) (still_of 2 contents.fixed h.fixed) (apart_kept 2 contents.fixed);
  }

  pub all_still : (contents : Contents) → may_write c ≡ false → AreOf k.files contents → AreOf files_now (without_readings k.selected c k.chain contents)
  unfolding kept_of_family
  all_still contents quiet h =
      let parts = or_parts (is_update_ins c.ins) (c.ins == fetch_ins) quiet in
      record {
        records = still_by 0 (kept_of_family 0 contents.records) (lit< tt) parts.0 parts.1 (still_of 0 contents.records h.records) (apart_kept 0 contents.records);
        phonebook = still_by 1 (kept_of_family 1 contents.phonebook) (lit< tt) parts.0 parts.1 (still_of 1 contents.phonebook h.phonebook) (apart_kept 1 contents.phonebook);
        fixed = still_by 2 (kept_of_family 2 contents.fixed) (lit< tt) parts.0 parts.1 (still_of 2 contents.fixed h.fixed) (apart_kept 2 contents.fixed);
      }

  -- ---- as a call finds them

  pub unread_is : (selected : Option (List ℕ)) (chain : Option Chain) (contents unread : Contents) → selected ≡ k.selected → chain ≡ k.chain
      → unread ≡ without_readings selected c chain contents → unread ≡ without_readings k.selected c k.chain contents
  unread_is selected chain contents unread es ec e = e ∙ ap (λ o. without_readings o c chain contents) es ∙ ap (λ o. without_readings k.selected c o contents) ec

  pub call_follows : (now : Kept) (selected : Option (List ℕ)) (row : Option WrittenRow) (contents unread : Contents) → now ≡ kept_after s (Exchange a c r) k → selected ≡ k.selected
      → row ≡ row_written selected c r → unread ≡ without_readings k.selected c k.chain contents → AreOf k.files contents → AllFollow row unread now.files
  call_follows now selected row contents unread e es er eu h =
      subst (λ (files : List CachedFile). AllFollow row unread files) (sym (ap (λ (x : Kept). x.files) e))
      (subst (λ (x : Contents). AllFollow row x files_now) (sym eu)
      (subst (λ (o : Option WrittenRow). AllFollow o (without_readings k.selected c k.chain contents) files_now) (sym (er ∙ ap (λ o. row_written o c r) es)) (all_follow contents h)))

  pub call_stays : (now : Kept) (contents unread : Contents) → now ≡ kept_after s (Exchange a c r) k → unread ≡ without_readings k.selected c k.chain contents
      → AreOf k.files contents → may_write c ≡ false → AreOf now.files unread
  call_stays now contents unread e eu h quiet =
      subst (λ (files : List CachedFile). AreOf files unread) (sym (ap (λ (x : Kept). x.files) e))
      (subst (λ (x : Contents). AreOf files_now x) (sym eu) (all_still contents quiet h))
