-- What a turn publishes before any event of its own was ready before the turn.
use Rattle.std.proofs.Common.{◌≡◌, ◌≤◌, ◌&&◌, ◌+◌, ◌++◌, ℕ, zero, suc, not, Bool, true, false, if◌then◌else◌, List, [], ◌∷◌, Option, Some, None, is_none, refl, sym, ap, ◌∙◌, subst, true≢false, arith}
use Rattle.std.specs.Prelude.{option_and_then, option_map}
use Rattle.std.proofs.lemmas.Bool.{and_parts}
use Rattle.families.specs.Families.{family_paths}
use Rattle.script_reader.specs.declared.types.Script.{Script}
use Rattle.script_reader.specs.declared.types.Operation.{Operation}
use Rattle.report.specs.declared.line.Line.{Line}
use Rattle.report.specs.declared.line.Line.TheVariants as line
use Rattle.epoch_cache.specs.declared.cached.CachedFile.{CachedFile}
use Rattle.epoch_cache.specs.declared.past.Past.{Past}
use Rattle.epoch_cache.specs.Cache.{all_current}
use Rattle.epoch_cache.specs.Past.{counted}
use Rattle.rules.specs.declared.due.Due.TheVariants.{Publish as publish}
use Rattle.rules.specs.declared.kept.Begun.{Begun}
use Rattle.rules.specs.declared.kept.Kept.{Kept}
use Rattle.rules.specs.History.{is_event, lives_in}
use Rattle.rules.specs.Kept.{begun_of, job_of, operation_at, operation_now}
use Rattle.rules.specs.After.{family_at, family_of_begun, fresh_begun, is_mark, kept_after, kept_of}
use Rattle.rules.specs.Due.{due, published_by}
use Rattle.rules.specs.Rules.{is_turn_of}
use Rattle.rules.specs.Performed.{is_refusal_told}
use Rattle.rules.specs.Work.{family_of_operation}
use Rattle.performed.specs.Followed.{are_followed, is_followed}
use Rattle.performed.specs.Laws.{has_no_mark}
use Rattle.performed.proofs.ProgressMarks.{all_kept, same_work, seen_of}
use Rattle.performed.proofs.TurnsKept.{goes_on}
use Rattle.performed.proofs.TurnsPhase.{end_stands, refusal_stands, some_number}
use Rattle.performed.proofs.TurnsSays.{begins_now, says_of}
use Rattle.hub.specs.Ready.{family_anew, family_by, family_next, family_ready, if_current}
use Rattle.hub.proofs.Turning.{turn_actor, unmarked}

-- as the turn was at its mark
record Starts (a : ℕ) (before k : Kept) : Type 0 where
  history : k.history ≡ before.history
  free : begun_of a k.jobs ≡ None → begun_of a before.jobs ≡ None
  answered : (job_of a k.jobs).answered ≡ (job_of a before.jobs).answered

record Calm (s : Script) (a : ℕ) (before k : Kept) : Type 0 where
  files : k.files ≡ before.files
  ended : k.turn.ended ≡ None
  refused : k.turn.refused ≡ None
  family : (f : ℕ) → k.turn.family ≡ Some f → family_next s before a ≡ Some f
  start : k.turn.bare ≡ true → Starts a before k

none_of : {A : Type 0} (o : Option A) → is_none o ≡ true → o ≡ None
none_of None h = refl
none_of (Some x) h = absurd (true≢false (sym h))

-- ---- the mark

unseen : (o p : Option Begun) → option_map seen_of o ≡ option_map seen_of p → o ≡ None → p ≡ None
unseen None None e h = refl
unseen None (Some b) e h = absurd (cc)
unseen (Some b) p e h = absurd (cc)

marked_family : (s : Script) (k : Kept) (a f : ℕ) (o : Option Begun) → begun_of (suc a) k.jobs ≡ o → family_of_begun k o (operation_now s (suc a) k.jobs) ≡ Some f → family_by s k (suc a) o ≡ Some f
marked_family s k a f None e h = absurd (cc)
marked_family s k a f (Some b) e h = ap (λ (o : Option Begun). family_of_begun k o (operation_now s (suc a) k.jobs)) e ∙ h

mark_family : (s : Script) (k : Kept) (a f : ℕ) → family_at s a k ≡ Some f → family_next s k a ≡ Some f
mark_family s k zero f h = h
mark_family s k (suc a) f h = marked_family s k a f (begun_of (suc a) k.jobs) refl h

mark_calm : (s : Script) (k : Kept) (a : ℕ) → Calm s a k (kept_after s (line.Turn a) k)
mark_calm s k a =
    let w = (same_work s k a).jobs a in
    record {
      files = all_kept k.files;
      ended = refl;
      refused = refl;
      family = mark_family s k a;
      start = λ b. record { history = refl; free = unseen _ _ w.begun; answered = w.answered };
    }

-- ---- the first line of an operation

same_family : (k before : Kept) (b : Begun) (o : Option Operation) → k.history ≡ before.history → family_of_begun k (Some b) o ≡ family_of_begun before (Some b) o
same_family k before b None e = refl
same_family k before b (Some op) e = ap (λ (h : Past). if lives_in h b.epoch then family_of_operation b op else None) e

begin_family : (s : Script) (a i f : ℕ) (before k : Kept) → Starts (suc a) before k → is_none (begun_of (suc a) k.jobs) ≡ true → i ≡ (job_of (suc a) k.jobs).answered → family_of_begun k (Some (fresh_begun i k.history)) (operation_at s (suc a) i) ≡ Some f → family_next s before (suc a) ≡ Some f
begin_family s a i f before k t free index h =
    let none : begun_of (suc a) before.jobs ≡ None = t.free (none_of (begun_of (suc a) k.jobs) free) in
    let number : i ≡ (job_of (suc a) before.jobs).answered = index ∙ t.answered in
    ap (family_by s before (suc a)) none
    ∙ ap (family_anew s before (suc a)) (sym number)
    ∙ ap (λ (x : Past). family_of_begun before (Some (fresh_begun i x)) (operation_at s (suc a) i)) (sym t.history)
    ∙ sym (same_family k before (fresh_begun i k.history) (operation_at s (suc a) i) t.history)
    ∙ h

-- ---- lines that are no event

module _ (s : Script) (a : ℕ) (before k : Kept) (actor : k.turn.actor ≡ Some a) (t : Calm s a before k) where
  begin_calm : (b i : ℕ) → is_followed s k (line.Begin b i) ≡ true → Calm s a before (kept_after s (line.Begin b i) k)
  begin_calm b i h =
      let now = begins_now s k b i h in
      let at : a ≡ suc now.begins.actor = some_number a (suc now.begins.actor) (sym actor ∙ now.begins.turn) in
      record {
        files = all_kept k.files ∙ t.files;
        ended = t.ended;
        refused = t.refused;
        family = λ f g.
            subst (λ (n : ℕ). family_next s before n ≡ Some f) (sym at)
            (begin_family s now.begins.actor i f before k
            (subst (λ (n : ℕ). Starts n before k) at (t.start now.begins.bare)) now.begins.free now.begins.index
            (subst (λ (n : ℕ). family_of_begun k (Some (fresh_begun i k.history)) (operation_at s n i) ≡ Some f) now.same g));
        start = λ e. absurd (true≢false (sym e));
      }

  line_calm : (l : Line) → is_mark l ≡ false → is_event l ≡ false → is_followed s k l ≡ true → Calm s a before (kept_after s l k)
  line_calm (line.Turn b) m e h = absurd (true≢false m)
  line_calm (line.Begin b i) m e h = begin_calm b i h
  line_calm (line.Exchange b c r) m e h = absurd (true≢false e)
  line_calm (line.Failed b c d) m e h = absurd (true≢false e)
  line_calm (line.Reset b) m e h = absurd (true≢false e)
  line_calm (line.ResetFailed b) m e h = absurd (true≢false e)
  line_calm (line.World b event) m e h = absurd (true≢false e)
  line_calm (line.Published n g x y text) m e h = record { files = all_kept k.files ∙ t.files; ended = t.ended; refused = t.refused; family = t.family; start = λ b. absurd (true≢false (sym b)) }
  line_calm (line.EpochEnd n x y) m e h = absurd (end_stands s k n x y h t.ended)
  line_calm (line.Refused g n) m e h = absurd (refusal_stands s k g n (and_parts (is_turn_of 0 k.turn) (is_refusal_told g n (due s k)) h).1 t.refused)
  line_calm (line.Answered b i given) m e h = record { files = all_kept k.files ∙ t.files; ended = t.ended; refused = t.refused; family = λ f g. absurd (cc); start = λ x. absurd (true≢false (sym x)) }

-- ---- all lines of a turn while no event came

pub events_rise : (s : Script) (added lines : List Line) → (kept_of s lines).history.events ≤ (kept_of s (added ++ lines)).history.events
events_rise s [] lines = omega arith
events_rise s (l ∷ added) lines =
    let one = (goes_on s l (kept_of s (added ++ lines))).events in
    let rest = events_rise s added lines in
    omega arith

no_event : (s : Script) (l : Line) (lines : List Line) (n : ℕ) (b : Bool) → is_event l ≡ b → n ≤ (kept_of s lines).history.events → (kept_of s (l ∷ lines)).history.events ≡ n → b ≡ false
no_event s l lines n false e h same = refl
no_event s l lines n true e h same =
    let more : (kept_of s (l ∷ lines)).history.events ≡ (kept_of s lines).history.events + 1 = ap (λ (x : Bool). counted x (kept_of s lines).history.events) e in
    absurd (omega arith)

same_before : (s : Script) (l : Line) (lines : List Line) (n : ℕ) → is_event l ≡ false → (kept_of s (l ∷ lines)).history.events ≡ n → (kept_of s lines).history.events ≡ n
same_before s l lines n e same = sym (ap (λ (x : Bool). counted x (kept_of s lines).history.events) e) ∙ same

calm_of : (s : Script) (a : ℕ) (earlier added : List Line) → are_followed s (added ++ line.Turn a ∷ earlier) ≡ true → has_no_mark added ≡ true → (kept_of s (added ++ line.Turn a ∷ earlier)).history.events ≡ (kept_of s earlier).history.events → Calm s a (kept_of s earlier) (kept_of s (added ++ line.Turn a ∷ earlier))
calm_of s a earlier [] f own same = mark_calm s (kept_of s earlier) a
calm_of s a earlier (l ∷ added) f own same =
    let lines : List Line = added ++ line.Turn a ∷ earlier in
    let p = and_parts (are_followed s lines) (is_followed s (kept_of s lines) l) f in
    let q = and_parts (not (is_mark l)) (has_no_mark added) own in
    let risen : (kept_of s (line.Turn a ∷ earlier)).history.events ≤ (kept_of s lines).history.events = events_rise s added (line.Turn a ∷ earlier) in
    let none : is_event l ≡ false = no_event s l lines (kept_of s earlier).history.events (is_event l) refl risen same in
    line_calm s a (kept_of s earlier) (kept_of s lines) (turn_actor s added earlier a q.1)
    (calm_of s a earlier added p.0 q.1 (same_before s l lines (kept_of s earlier).history.events none same))
    l (unmarked (is_mark l) q.0) none p.1

-- ---- a publication

pub record Publishes (k : Kept) (f : ℕ) : Type 0 where
  pub family : k.turn.family ≡ Some f
  pub free : k.turn.published ≡ None
  pub current : all_current k.files (family_paths f) ≡ true

by_test : (k : Kept) (f g : ℕ) (free current : Bool) → k.turn.family ≡ Some g → is_none k.turn.published ≡ free → all_current k.files (family_paths g) ≡ current → (if free && current then Some g else None) ≡ Some f → Publishes k f
by_test k f g true true e p q h =
    let same : g ≡ f = some_number g f h in
    record {
      family = e ∙ ap (λ (n : ℕ). Some n) same;
      free = none_of k.turn.published p;
      current = ap (λ (n : ℕ). all_current k.files (family_paths n)) (sym same) ∙ q;
    }
by_test k f g true false e p q h = absurd (cc)
by_test k f g false current e p q h = absurd (cc)

by_family : (k : Kept) (f : ℕ) (o : Option ℕ) → k.turn.family ≡ o → option_and_then (published_by k) o ≡ Some f → Publishes k f
by_family k f None e h = absurd (cc)
by_family k f (Some g) e h = by_test k f g (is_none k.turn.published) (all_current k.files (family_paths g)) e refl refl h

pub publishes : (s : Script) (k : Kept) (f : ℕ) → due s k ≡ publish f → Publishes k f
publishes s k f h = by_family k f k.turn.family refl (says_of s k (publish f) h)

pub record WasReady (s : Script) (a f : ℕ) (before k : Kept) : Type 0 where
  pub ready : family_ready s before a ≡ Some f
  pub files : k.files ≡ before.files

pub was_ready : (s : Script) (a f : ℕ) (earlier added : List Line) → are_followed s (added ++ line.Turn a ∷ earlier) ≡ true → has_no_mark added ≡ true → (kept_of s (added ++ line.Turn a ∷ earlier)).history.events ≡ (kept_of s earlier).history.events → due s (kept_of s (added ++ line.Turn a ∷ earlier)) ≡ publish f → WasReady s a f (kept_of s earlier) (kept_of s (added ++ line.Turn a ∷ earlier))
was_ready s a f earlier added follow own same h =
    let before : Kept = kept_of s earlier in
    let k : Kept = kept_of s (added ++ line.Turn a ∷ earlier) in
    let t = calm_of s a earlier added follow own same in
    let p = publishes s k f h in
    let current : all_current before.files (family_paths f) ≡ true = ap (λ (files : List CachedFile). all_current files (family_paths f)) (sym t.files) ∙ p.current in
    record {
      ready = ap (option_and_then (if_current before)) (t.family f p.family) ∙ ap (λ (b : Bool). if b then Some f else None) current;
      files = t.files;
    }
