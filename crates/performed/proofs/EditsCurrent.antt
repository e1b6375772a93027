-- While an attempt is under way that nobody moved, all paths of its edit are current.
use Rattle.std.proofs.Common.{◌≡◌, ℕ, suc, ◌+◌, ◌&&◌, ◌||◌, not, Bool, true, false, if◌then◌else◌, Option, Some, None, is_some, List, [], ◌∷◌, ◌++◌, refl, sym, ap, ◌∙◌, subst, true≢false}
use Rattle.std.specs.Prelude.{option_map}
use Rattle.std.proofs.lemmas.Bool.{and_parts, and_from}
use Rattle.apdu.specs.Values.{CommandValue, ResponseValue}
use Rattle.apdu.specs.Apdu.{is_update_ins, is_success}
use Rattle.card_model.specs.declared.world.WorldEvent.TheVariants.{Arm, Out, Insert}
use Rattle.script_reader.specs.declared.types.Script.{Script}
use Rattle.script_reader.specs.Rules.{keeps_rules}
use Rattle.report.specs.declared.line.Line.{Line}
use Rattle.report.specs.declared.line.Line.TheVariants as line
use Rattle.link.specs.declared.chain.Chain.{Chain}
use Rattle.epoch_cache.specs.declared.cached.CachedFile.{CachedFile}
use Rattle.epoch_cache.specs.declared.cached.Touch.{Touch}
use Rattle.epoch_cache.specs.declared.cached.Written.TheVariants as written
use Rattle.epoch_cache.specs.Cache.{all_current, is_current, is_moved, is_row_update, is_unknown_write, is_update, moves_one}
use Rattle.editor.specs.declared.editing.Attempt.{Attempt}
use Rattle.editor.specs.declared.editing.Decided.{Decided}
use Rattle.editor.specs.declared.editing.Editing.{Editing}
use Rattle.editor.specs.Editing.{attempt_behind, moved_attempt, sent_update, with_attempt}
use Rattle.rules.specs.declared.kept.Begun.{Begun}
use Rattle.rules.specs.declared.kept.Kept.{Kept}
use Rattle.rules.specs.History.{is_epoch_border, stops_epoch, lives_in}
use Rattle.rules.specs.Kept.{begun_of, operation_at, operation_now}
use Rattle.rules.specs.After.{decision_at, edit_of, editing_sent, facts_of, fresh_begun, is_raw_line, kept_of}
use Rattle.rules.specs.Laws.{KeptAgrees, KeptLooksBack, PlansForCard}
use Rattle.rules.specs.LookingBack.{completes, was_completed}
use Rattle.rules.specs.Rules.{has_right_response}
use Rattle.rules.specs.State.{world_of}
use Rattle.performed.specs.Names.{has_utf8_names}
use Rattle.performed.specs.Followed.{is_followed, are_followed}
use Rattle.performed.specs.Told.{is_told, are_told}
use Rattle.performed.proofs.CalmAnswers.{told_response}
use Rattle.performed.proofs.CalmSends.{never}
use Rattle.performed.proofs.EditsAttempt.{answered_same}
use Rattle.performed.proofs.EditsBegun.{near, Came, stays, marks, begins, exchanges, fails, came}
use Rattle.performed.proofs.EditsKept.{How, still, by_raw, by_edit, how}
use Rattle.performed.proofs.EditsState.{Edited, none_moved}
use Rattle.performed.proofs.EditsWhole.{edited_of}
use Rattle.performed.proofs.EpochBegun.{first_begun}
use Rattle.performed.proofs.EpochPast.{past_dead}
use Rattle.performed.proofs.EpochSince.{begun_past}
use Rattle.performed.proofs.EditsDecides.{begun_made}
use Rattle.performed.proofs.WantedFamilies.{or_later}
use Rattle.rules.specs.Kept.{actor_count}

-- ---- a path stays current

module _ (looks : KeptLooksBack) (s : Script) (earlier : List Line) (l : Line) where
  abbrev k : Kept
  k = kept_of s earlier

  abbrev touch : Touch
  touch = (facts_of s l k).touch

  path_stays : (path : List ℕ) → stops_epoch l ≡ false → is_moved touch path ≡ false → is_unknown_write touch.written ≡ false → is_current k.files path ≡ true → is_current (kept_of s (l ∷ earlier)).files path ≡ true
  path_stays path stops moved known h =
      let clear : (stops_epoch l || (is_moved touch path || is_unknown_write touch.written)) ≡ false = ap (λ (b : Bool). b || (is_moved touch path || is_unknown_write touch.written)) stops ∙ ap (λ (b : Bool). b || is_unknown_write touch.written) moved ∙ known in
      (looks s (l ∷ earlier)).paths path
      ∙ or_later (completes s path l earlier) (not (stops_epoch l || (is_moved touch path || is_unknown_write touch.written)) && was_completed s path earlier)
      (and_from (not (stops_epoch l || (is_moved touch path || is_unknown_write touch.written))) (was_completed s path earlier) (ap not clear) (sym ((looks s earlier).paths path) ∙ h))

  -- and so do all of a list, of which none is moved
  pub paths_stay : (list : List (List ℕ)) → stops_epoch l ≡ false → moves_one touch list ≡ false → is_unknown_write touch.written ≡ false → all_current k.files list ≡ true → all_current (kept_of s (l ∷ earlier)).files list ≡ true
  paths_stay [] stops moved known h = refl
  paths_stay (path ∷ list) stops moved known h =
      let m = neither (is_moved touch path) (moves_one touch list) moved in
      let c = and_parts (is_current k.files path) (all_current k.files list) h in
      and_from (is_current (kept_of s (l ∷ earlier)).files path) (all_current (kept_of s (l ∷ earlier)).files list) (path_stays path stops m.0 known c.0) (paths_stay list stops m.1 known c.1)
    where
      neither : (a b : Bool) → (a || b) ≡ false → (a ≡ false) × (b ≡ false)
      neither false b e = (refl, e)
      neither true b e = absurd (true≢false e)

-- the front of a list
pub front_current : (files : List CachedFile) (list rest : List (List ℕ)) → all_current files (list ++ rest) ≡ true → all_current files list ≡ true
front_current files [] rest h = refl
front_current files (path ∷ list) rest h =
    let p = and_parts (is_current files path) (all_current files (list ++ rest)) h in
    and_from (is_current files path) (all_current files list) p.0 (front_current files list rest p.1)

-- ---- an attempt behind what another does, and behind a command of its own

behind_is : (t : Touch) (d : Option Decided) (o : Option Attempt) (a : Attempt) → attempt_behind t d o ≡ Some a → a.moved ≡ false → (o ≡ Some a) × (moves_one t a.paths ≡ false)
behind_is t d None a h unmoved = absurd (cc)
behind_is t d (Some x) a h unmoved = by_moves (moves_one t x.paths) refl h
  where
    by_decided : (d : Option Decided) → moved_attempt d x ≡ Some a → (Some x ≡ Some a) × (moves_one t a.paths ≡ false)
    by_decided None q = absurd (cc)
    by_decided (Some y) q = let same : record x { moved = true } ≡ a = cc in never (sym unmoved ∙ ap (λ (z : Attempt). z.moved) (sym same))

    by_moves : (b : Bool) → moves_one t x.paths ≡ b → (if b then moved_attempt d x else Some x) ≡ Some a → (Some x ≡ Some a) × (moves_one t a.paths ≡ false)
    by_moves true e q = by_decided d q
    by_moves false e q = let same : x ≡ a = cc in (q, ap (λ (z : Attempt). moves_one t z.paths) (sym same) ∙ e)

-- the same attempt, but for how much of it was sent
record IsLater (x a : Attempt) : Type 0 where
  paths : a.paths ≡ x.paths
  moved : a.moved ≡ x.moved

record HasLater (o : Option Attempt) (a : Attempt) : Type 0 where
  old : Attempt
  there : o ≡ Some old
  later : IsLater old a

sent_later : (c : CommandValue) (chain : Option Chain) (e : Editing) (a : Attempt) → (editing_sent c chain e).attempt ≡ Some a → HasLater e.attempt a
sent_later c (Some chain) e a h = record { old = a; there = h; later = record { paths = refl; moved = refl } }
sent_later c None e a h = by_update (is_update_ins c.ins) h
  where
    by_attempt : (o : Option Attempt) → e.attempt ≡ o → option_map (λ (x : Attempt). record x { sent = x.sent + 1 }) o ≡ Some a → HasLater e.attempt a
    by_attempt None is q = absurd (cc)
    by_attempt (Some x) is q = let same : record x { sent = x.sent + 1 } ≡ a = cc in record { old = x; there = is; later = record { paths = ap (λ (z : Attempt). z.paths) (sym same); moved = ap (λ (z : Attempt). z.moved) (sym same) } }

    by_update : (b : Bool) → (if b then sent_update e else e).attempt ≡ Some a → HasLater e.attempt a
    by_update true q = by_attempt e.attempt refl q
    by_update false q = record { old = a; there = q; later = record { paths = refl; moved = refl } }

-- ---- a line

-- those of attempts that nobody moved, in the epoch that lives
abbrev pub AttemptsCurrent : Kept → Type 0
AttemptsCurrent k = (i : ℕ) (b : Begun) (a : Attempt) → begun_of i k.jobs ≡ Some b → b.editing.attempt ≡ Some a → a.moved ≡ false → lives_in k.history b.epoch ≡ true → all_current k.files a.paths ≡ true

module _ (looks : KeptLooksBack) (s : Script) (earlier : List Line) (before : AttemptsCurrent (kept_of s earlier)) where
  abbrev kept : Kept
  kept = kept_of s earlier

  border_current : (l : Line) → is_epoch_border l ≡ true → AttemptsCurrent (kept_of s (l ∷ earlier))
  border_current l border i b a here at unmoved lives = never (sym (past_dead (kept_of s (l ∷ earlier)).history b.epoch (begun_past s earlier l border i b here)) ∙ lives)

  module _ (l : Line) (stops : stops_epoch l ≡ false) (known : is_unknown_write (facts_of s l kept).touch.written ≡ false) (living : (o : Option ℕ) → lives_in (kept_of s (l ∷ earlier)).history o ≡ true → lives_in kept.history o ≡ true) where
    -- what another does
    near_current : (i : ℕ) (b : Begun) (a : Attempt) → begun_of i kept.jobs ≡ Some b → (near s l kept b).editing.attempt ≡ Some a → a.moved ≡ false → lives_in (kept_of s (l ∷ earlier)).history b.epoch ≡ true → all_current (kept_of s (l ∷ earlier)).files a.paths ≡ true
    near_current i b a here at unmoved lives =
        let x = behind_is (facts_of s l kept).touch b.editing.decided b.editing.attempt a at unmoved in
        paths_stay looks s earlier l a.paths stops x.1 known (before i b a here x.0 unmoved (living b.epoch lives))

    -- an attempt that begins, where nothing moves
    with_current : (i : ℕ) (b : Begun) (d : Option Attempt) (e : Editing) (a : Attempt) → ((x : Attempt) → d ≡ Some x → all_current kept.files x.paths ≡ true) → ((path : List ℕ) → is_moved (facts_of s l kept).touch path ≡ false) → (e.attempt ≡ Some a → all_current (kept_of s (l ∷ earlier)).files a.paths ≡ true) → (with_attempt d e).attempt ≡ Some a → all_current (kept_of s (l ∷ earlier)).files a.paths ≡ true
    with_current i b None e a fine quiet old at = old at
    with_current i b (Some x) e a fine quiet old at =
        let same : x ≡ a = cc in
        subst (λ (y : Attempt). all_current (kept_of s (l ∷ earlier)).files y.paths ≡ true) same
        (paths_stay looks s earlier l x.paths stops (none_moved (facts_of s l kept).touch quiet x.paths) known (fine x refl))

    came_current : (i : ℕ) (now : Begun) (a : Attempt) → Came s l kept i now → now.editing.attempt ≡ Some a → a.moved ≡ false → lives_in (kept_of s (l ∷ earlier)).history now.epoch ≡ true → all_current (kept_of s (l ∷ earlier)).files a.paths ≡ true
    came_current i now a (stays b here other is) at unmoved lives =
        near_current i b a here (ap (λ (x : Begun). x.editing.attempt) (sym is) ∙ at) unmoved (ap (λ (x : Begun). lives_in (kept_of s (l ∷ earlier)).history x.epoch) (sym is) ∙ lives)
    came_current i now a (marks m b mine e here is) at unmoved lives =
        with_current i b (decision_at s l kept).attempt (near s l kept b).editing a
        (λ x h. (begun_made kept (suc m) (begun_of (suc m) kept.jobs) (operation_now s (suc m) kept.jobs) x (ap (λ (y : Line). (decision_at s y kept).attempt) (sym e) ∙ h)).current)
        (λ path. ap (λ (y : Line). is_moved (facts_of s y kept).touch path) e)
        (λ z. near_current i b a here z unmoved (ap (λ (x : Begun). lives_in (kept_of s (l ∷ earlier)).history x.epoch) (sym is) ∙ lives))
        (ap (λ (x : Begun). x.editing.attempt) (sym is) ∙ at)
    came_current i now a (begins m n mine e is) at unmoved lives =
        with_current i (fresh_begun n kept.history) (decision_at s l kept).attempt (fresh_begun n kept.history).editing a
        (λ x h. (begun_made kept m (Some (fresh_begun n kept.history)) (operation_at s m n) x (ap (λ (y : Line). (decision_at s y kept).attempt) (sym e) ∙ h)).current)
        (λ path. ap (λ (y : Line). is_moved (facts_of s y kept).touch path) e)
        (λ z. absurd (cc))
        (ap (λ (x : Begun). x.editing.attempt) (sym is) ∙ at)
    came_current i now a (exchanges m c r b mine e here is) at unmoved lives =
        let old : Editing = (near s l kept b).editing in
        let z : (editing_sent c kept.chain old).attempt ≡ Some a = sym (answered_same (edit_of (operation_now s m kept.jobs)) kept.selected (kept.history.events + 1) c r (editing_sent c kept.chain old)) ∙ ap (λ (x : Begun). x.editing.attempt) (sym is) ∙ at in
        let x = sent_later c kept.chain old a z in
        ap (all_current (kept_of s (l ∷ earlier)).files) x.later.paths
        ∙ near_current i b x.old here x.there (sym x.later.moved ∙ unmoved) (ap (λ (y : Begun). lives_in (kept_of s (l ∷ earlier)).history y.epoch) (sym is) ∙ lives)
    came_current i now a (fails m c d b mine e here is) at unmoved lives = never (sym stops ∙ ap stops_epoch e)

    line_current : AttemptsCurrent (kept_of s (l ∷ earlier))
    line_current i b a here at unmoved lives = came_current i b a (came s l kept i b here) at unmoved lives

-- ---- an exchange

module _ (agrees : KeptAgrees) (s : Script) (rules : keeps_rules s ≡ true) (served : has_utf8_names s ≡ true) (earlier : List Line) (followed : are_followed s earlier ≡ true) (told : are_told s earlier ≡ true) (t : Edited s (world_of s earlier) (kept_of s earlier)) (a : ℕ) (c : CommandValue) (r : ResponseValue) (h : is_followed s (kept_of s earlier) (line.Exchange a c r) ≡ true) (right : has_right_response (world_of s earlier) (line.Exchange a c r) ≡ true) where
  abbrev here : Kept
  here = kept_of s earlier

  -- what was written is known
  pub writes_known : is_unknown_write (facts_of s (line.Exchange a c r) here).touch.written ≡ false
  writes_known = by_how (how agrees s rules served earlier followed told t a c r h right)
    where
      by_write : (update raw row : Bool) → (update ≡ true → raw ≡ false → row ≡ true) → is_unknown_write (if not update then written.Nothing else if raw then written.Raw else if row then written.Row else written.Unknown) ≡ false
      by_write false raw row z = refl
      by_write true true row z = refl
      by_write true false true z = refl
      by_write true false false z = never (z refl refl)

      by_how : How agrees s rules served earlier followed told t a c r h right → is_unknown_write (facts_of s (line.Exchange a c r) here).touch.written ≡ false
      by_how (still idle) = by_write (is_update c r) (is_raw_line s (line.Exchange a c r) here.jobs) (is_row_update c && is_some here.selected) (λ u raw. never (sym (ap (λ (b : Bool). b && is_success r.sw) idle) ∙ u))
      by_how (by_raw raw) = by_write (is_update c r) (is_raw_line s (line.Exchange a c r) here.jobs) (is_row_update c && is_some here.selected) (λ u none. never (sym none ∙ raw))
      by_how (by_edit x) = by_write (is_update c r) (is_raw_line s (line.Exchange a c r) here.jobs) (is_row_update c && is_some here.selected) (λ u none. and_from (is_row_update c) (is_some here.selected) (ap is_row_update x.is) (ap is_some x.selected))

-- ---- every line

module _ (agrees : KeptAgrees) (looks : KeptLooksBack) (s : Script) (rules : keeps_rules s ≡ true) (served : has_utf8_names s ≡ true) (earlier : List Line) (followed : are_followed s earlier ≡ true) (told : are_told s earlier ≡ true) (t : Edited s (world_of s earlier) (kept_of s earlier)) (before : AttemptsCurrent (kept_of s earlier)) where
  abbrev was : Kept
  was = kept_of s earlier

  every_line : (l : Line) → is_followed s was l ≡ true → is_told s (world_of s earlier) was l ≡ true → AttemptsCurrent (kept_of s (l ∷ earlier))
  every_line (line.Turn a) h q = line_current looks s earlier before (line.Turn a) refl refl (λ o z. z)
  every_line (line.Begin a n) h q = line_current looks s earlier before (line.Begin a n) refl refl (λ o z. z)
  every_line (line.Exchange a c r) h q = line_current looks s earlier before (line.Exchange a c r) refl (writes_known agrees s rules served earlier followed told t a c r h (told_response s (world_of s earlier) was (line.Exchange a c r) q)) (λ o z. z)
  every_line (line.Failed a c d) h q = border_current looks s earlier before (line.Failed a c d) refl
  every_line (line.Reset a) h q = border_current looks s earlier before (line.Reset a) refl
  every_line (line.ResetFailed a) h q = border_current looks s earlier before (line.ResetFailed a) refl
  every_line (line.World a (Insert j)) h q = border_current looks s earlier before (line.World a (Insert j)) refl
  every_line (line.World a Out) h q = border_current looks s earlier before (line.World a Out) refl
  every_line (line.World a (Arm i)) h q = line_current looks s earlier before (line.World a (Arm i)) refl refl (λ o z. z)
  every_line (line.Published n f e v text) h q = line_current looks s earlier before (line.Published n f e v text) refl refl (λ o z. z)
  every_line (line.EpochEnd n e v) h q = line_current looks s earlier before (line.EpochEnd n e v) refl refl (λ o z. z)
  every_line (line.Refused f n) h q = line_current looks s earlier before (line.Refused f n) refl refl (λ o z. z)
  every_line (line.Answered a n given) h q = line_current looks s earlier before (line.Answered a n given) refl refl (λ o z. z)

pub attempts_current : KeptAgrees → KeptLooksBack → PlansForCard → (s : Script) (lines : List Line) → keeps_rules s ≡ true → has_utf8_names s ≡ true → are_followed s lines ≡ true → are_told s lines ≡ true → AttemptsCurrent (kept_of s lines)
attempts_current agrees looks plans s [] rules served followed told = λ i b a here at unmoved lives. absurd (let n = first_begun (actor_count s + 1) i in let q : Some b ≡ None = sym here ∙ n in cc)
attempts_current agrees looks plans s (l ∷ earlier) rules served followed told =
    let p = and_parts (are_followed s earlier) (is_followed s (kept_of s earlier) l) followed in
    let q = and_parts (are_told s earlier) (is_told s (world_of s earlier) (kept_of s earlier) l) told in
    every_line agrees looks s rules served earlier p.0 q.0 (edited_of agrees plans s earlier rules served p.0 q.0) (attempts_current agrees looks plans s earlier rules served p.0 q.0) l p.1 q.1
