-- Each line that is due has its place, its answer, its fault and its text right; so has the turn that ends where nothing is due.
use Rattle.std.proofs.Common.{◌≡◌, ℕ, suc, ◌+◌, ◌==◌, ◌&&◌, ◌||◌, not, Bool, true, false, if◌then◌else◌, Option, Some, None, List, [], ◌∷◌, refl, sym, ap, ◌∙◌, subst, true≢false, arith}
use Rattle.std.specs.Prelude.{is_none, nat_le, nat_lt, option_and_then}
use Rattle.std.proofs.lemmas.Bool.{and_parts, and_from, eqb-true, eq-eqb}
use Rattle.apdu.specs.Words.{same_bytes, is_one_of}
use Rattle.card_effects.proofs.Same.{same_bytes_is}
use Rattle.card_model.specs.declared.world.World.{World}
use Rattle.script_reader.specs.declared.types.Operation.{Operation}
use Rattle.script_reader.specs.declared.types.Script.{Script}
use Rattle.script_reader.specs.Rules.{keeps_rules}
use Rattle.report.specs.Values.{SeenValue}
use Rattle.report.specs.declared.answer.Answer.TheVariants as answer
use Rattle.report.specs.declared.line.Line.{Line}
use Rattle.report.specs.declared.line.Line.TheVariants as line
use Rattle.report.specs.declared.line.Mode.{Mode}
use Rattle.report.specs.declared.line.Mode.TheVariants.{Replay, Run}
use Rattle.families.specs.Families.{all_families, family_paths}
use Rattle.epoch_cache.specs.Cache.{all_current}
use Rattle.link.specs.declared.chain.Final.{Final}
use Rattle.loader.specs.declared.reading.RefusedReading.{RefusedReading}
use Rattle.rules.specs.declared.due.Due.{Due}
use Rattle.rules.specs.declared.due.Due.TheVariants.{Publish as publish, Give as give}
use Rattle.rules.specs.declared.kept.Facts.{Facts}
use Rattle.rules.specs.declared.kept.Job.{Job}
use Rattle.rules.specs.declared.kept.Kept.{Kept}
use Rattle.rules.specs.declared.kept.Turn.{Turn}
use Rattle.rules.specs.Channels.{held_numbers}
use Rattle.rules.specs.Kept.{actor_count, job_of, begun_of, operation_now}
use Rattle.rules.specs.Work.{is_idle, is_finished, has_operations_left}
use Rattle.rules.specs.After.{facts_of, refused_of, jobs_beside, turn_exchanged, kept_of}
use Rattle.rules.specs.State.{world_of, shown_in, same_shown, boards_of, texts_of, State}
use Rattle.rules.specs.Due.{due, published_by, kept_text}
use Rattle.rules.specs.Laws.{ShowsCard, KeptLooksBack}
use Rattle.rules.specs.Performed.{ends_turn, begins_as, is_published}
use Rattle.rules.specs.Rules.{is_turn_of, is_begun_at, has_right_answer, has_right_fault, has_right_response, is_snapshot_right, has_right_snapshot, is_actor_right, is_bare_turn_right, is_turn_done, is_turn_right, is_mark_right, is_begin_right, has_right_place}
use Rattle.performed.specs.Names.{has_utf8_names}
use Rattle.performed.specs.Followed.{is_given_or_refused, is_followed, are_followed}
use Rattle.performed.specs.Told.{is_told, are_told}
use Rattle.performed.specs.Placed.{is_turn_allowed, is_placed}
use Rattle.performed.specs.Laws.{MarksMove}
use Rattle.performed.proofs.CalmAnswers.{responses_right}
use Rattle.performed.proofs.TurnsSays.{Begins, BeginsNow, says_of, begins_now}
use Rattle.performed.proofs.EpochLives.{published_lives}
use Rattle.performed.proofs.LegalDue.{does_line}
use Rattle.performed.proofs.LegalScript.{is_family_or_none, family_known}
use Rattle.performed.proofs.LegalResets.{turn_calm}
use Rattle.performed.proofs.LegalLooks.{look_placed}
use Rattle.performed.proofs.LegalLines.{exchange_placed, failed_placed, reset_placed, event_placed, answer_right, refusal_right, end_of, published_of, ends_done}

-- ---- the turn that ends

idle_or : (q e : Bool) → (q ≡ false → e ≡ false) → e ≡ true → q ≡ true
idle_or true e h t = refl
idle_or false e h t = absurd (true≢false (sym t ∙ h refl))

exchanged_bare : (op : Option Operation) (job : Job) (held : List ℕ) (facts : Facts) (refused : Option RefusedReading) (t : Turn) (o : Option Final) → facts.answered ≡ o → (turn_exchanged op job held facts refused t).bare ≡ false
exchanged_bare op job held facts refused t None e = rw e refl
exchanged_bare op job held facts refused t (Some f) e = rw e refl

-- a turn without lines waits, or finds nothing left
bare_idle : MarksMove → (s : Script) (lines : List Line) → keeps_rules s ≡ true → has_utf8_names s ≡ true → are_followed s lines ≡ true → are_told s lines ≡ true → ends_turn (due s (kept_of s lines)) ≡ true → (kept_of s lines).turn.bare ≡ true → (kept_of s lines).turn.idle ≡ true
bare_idle moves s [] rules v f t e b = absurd (true≢false (sym b))
bare_idle moves s (line.Turn a ∷ earlier) rules v f t e b =
    idle_or (is_idle s (kept_of s earlier) a) (ends_turn (due s (kept_of s (line.Turn a ∷ earlier))))
    (moves s earlier a rules v f (and_parts (are_told s earlier) (is_told s (world_of s earlier) (kept_of s earlier) (line.Turn a)) t).0) e
bare_idle moves s (line.Exchange a c r ∷ earlier) rules v f t e b =
    let k : Kept = kept_of s earlier in
    let facts : Facts = facts_of s (line.Exchange a c r) k in
    absurd (true≢false (sym b ∙ exchanged_bare (operation_now s a k.jobs) (job_of a (kept_of s (line.Exchange a c r ∷ earlier)).jobs) (held_numbers k.history k.handles) facts
    (refused_of k.selected (jobs_beside (line.Exchange a c r) k.history.epoch facts k.selected k.jobs) facts.answered) k.turn facts.answered refl))
bare_idle moves s (l ∷ earlier) rules v f t e b = absurd (true≢false (sym b))

bare_right : (m : Mode) (t : Turn) → is_turn_allowed m t ≡ true → t.bare ≡ true → t.idle ≡ true → is_bare_turn_right m t ≡ true
bare_right Replay t h b i = i
bare_right Run t h b i = absurd (true≢false (sym h ∙ ap (λ (x : Bool). not x || false) b))

by_bare : (b x y : Bool) → (b ≡ true → x ≡ true) → y ≡ true → elim b [ true ↦ x | false ↦ y ] ≡ true
by_bare true x y h g = h refl
by_bare false x y h g = g

by_actor : (a x : Bool) → x ≡ true → elim a [ true ↦ true | false ↦ x ] ≡ true
by_actor true x h = refl
by_actor false x h = h

pub turn_right : MarksMove → (s : Script) (m : Mode) (lines : List Line) → keeps_rules s ≡ true → has_utf8_names s ≡ true → are_followed s lines ≡ true → are_told s lines ≡ true → ends_turn (due s (kept_of s lines)) ≡ true → is_turn_allowed m (kept_of s lines).turn ≡ true → is_turn_right m (world_of s lines) (kept_of s lines) ≡ true
turn_right moves s m lines rules v f t e allowed =
    let k : Kept = kept_of s lines in
    let w : World = world_of s lines in
    by_actor (is_none k.turn.actor) (elim k.turn.bare [ true ↦ is_bare_turn_right m k.turn | false ↦ is_turn_done w k ])
    (by_bare k.turn.bare (is_bare_turn_right m k.turn) (is_turn_done w k) (λ b. bare_right m k.turn allowed b (bare_idle moves s lines rules v f t e b)) (ends_done s k e w).1)

-- ---- snapshots

published_in : (b : Bool) (g f : ℕ) → is_one_of g all_families ≡ true → (if b then Some g else None) ≡ Some f → is_one_of f all_families ≡ true
published_in true g f h e = let same : g ≡ f = cc in subst (λ (n : ℕ). is_one_of n all_families ≡ true) same h
published_in false g f h e = absurd (cc)

one_family : (k : Kept) (family : Option ℕ) (f : ℕ) → is_family_or_none family ≡ true → option_and_then (published_by k) family ≡ Some f → is_one_of f all_families ≡ true
one_family k None f h e = absurd (cc)
one_family k (Some g) f h e = published_in (is_none k.turn.published && all_current k.files (family_paths g)) g f h e

snapshot_of : ShowsCard → (s : Script) (lines : List Line) → keeps_rules s ≡ true → has_utf8_names s ≡ true → are_followed s lines ≡ true → are_told s lines ≡ true → (number f e n : ℕ) (text : List ℕ) (d : Due) → due s (kept_of s lines) ≡ d → is_published (kept_of s lines) number f e n text d ≡ true → is_snapshot_right (world_of s lines) (kept_of s lines) number f e n text ≡ true
snapshot_of shows s lines rules v followed told number f e n text (publish g) is h =
    let k : Kept = kept_of s lines in
    let w : World = world_of s lines in
    let q1 = and_parts ((f == g) && (number == k.publications + 1) && (e == k.history.epoch) && (n == k.history.events)) (same_bytes text (kept_text f k)) h in
    let q2 = and_parts ((f == g) && (number == k.publications + 1) && (e == k.history.epoch)) (n == k.history.events) q1.0 in
    let q3 = and_parts ((f == g) && (number == k.publications + 1)) (e == k.history.epoch) q2.0 in
    let q4 = and_parts (f == g) (number == k.publications + 1) q3.0 in
    let is_f : due s k ≡ publish f = subst (λ (x : ℕ). due s k ≡ publish x) (sym (eqb-true f g q4.0)) is in
    let one : is_one_of f all_families ≡ true = one_family k k.turn.family f (family_known s lines rules v) (says_of s k (publish f) is_f) in
    let shown : same_shown (shown_in w f) (Some (kept_text f k)) ≡ true = shows s lines f rules (responses_right s lines told) one is_f in
    let same : kept_text f k ≡ text = sym (same_bytes_is text (kept_text f k) q1.1) in
    let living : k.history.living ≡ true = published_lives s lines number f e n text followed one (ap (is_published k number f e n text) is ∙ h) in
    and_from ((number == k.publications + 1) && k.history.living && (e == k.history.epoch) && (n == k.history.events)) (same_shown (shown_in w f) (Some text))
    (and_from ((number == k.publications + 1) && k.history.living && (e == k.history.epoch)) (n == k.history.events)
    (and_from ((number == k.publications + 1) && k.history.living) (e == k.history.epoch)
    (and_from (number == k.publications + 1) k.history.living q4.1 living) q3.1) q2.1)
    (subst (λ (x : List ℕ). same_shown (shown_in w f) (Some x) ≡ true) same shown)
snapshot_of shows s lines rules v followed told number f e n text d is h = absurd (true≢false (sym h))

-- ---- an operation begins

some_before : (n : ℕ) → nat_lt 0 (suc n) ≡ true
some_before n = grind arith

not_false : (b : Bool) → not b ≡ false → b ≡ true
not_false true h = refl
not_false false h = absurd (true≢false h)

begins_placed : (s : Script) (k : Kept) (i : ℕ) (b : Begins s k i) → is_begin_right s k (suc b.actor) i ≡ true
begins_placed s k i b =
    rw (b.bare, b.turn, b.free, b.waits, b.index, eq-eqb (suc b.actor) (suc b.actor) refl, some_before b.actor, eq-eqb (job_of (suc b.actor) k.jobs).answered (job_of (suc b.actor) k.jobs).answered refl, not_false (has_operations_left s k (suc b.actor)) b.left) refl

begin_placed : (s : Script) (k : Kept) (a i : ℕ) → is_turn_of a k.turn && begins_as i (due s k) ≡ true → is_begin_right s k a i ≡ true
begin_placed s k a i h =
    let b : BeginsNow s k a i = begins_now s k a i h in
    subst (λ (n : ℕ). is_begin_right s k n i ≡ true) (sym b.same) (begins_placed s k i b.begins)

-- ---- a line

-- the world behind the lines, and what is kept of them
abbrev pub known : Script → List Line → State
known s lines = record { world = world_of s lines; kept = kept_of s lines; boards = boards_of s lines; texts = texts_of lines }

module _ (moves : MarksMove) (shows : ShowsCard) (looks : KeptLooksBack) (s : Script) (rules : keeps_rules s ≡ true) (v : has_utf8_names s ≡ true) (m : Mode) (earlier : List Line) (followed : are_followed s earlier ≡ true) (told : are_told s earlier ≡ true) where
  mark_right : (a : ℕ) → is_followed s (kept_of s earlier) (line.Turn a) ≡ true → is_placed s m (kept_of s earlier) (line.Turn a) ≡ true → is_mark_right s m (world_of s earlier) (kept_of s earlier) a ≡ true
  mark_right a h p =
      let k : Kept = kept_of s earlier in
      let q1 = and_parts (ends_turn (due s k) && not (is_finished s k)) (nat_le a (actor_count s)) h in
      let q2 = and_parts (ends_turn (due s k)) (not (is_finished s k)) q1.0 in
      let p1 = and_parts (is_actor_right s m a k) (is_turn_allowed m k.turn) p in
      and_from (not (is_finished s k) && is_actor_right s m a k) (is_turn_right m (world_of s earlier) k)
      (and_from (not (is_finished s k)) (is_actor_right s m a k) q2.1 p1.0)
      (turn_right moves s m earlier rules v followed told q2.0 p1.1)

  look_by : (a : ℕ) (seen : SeenValue) (d : Due) → due s (kept_of s earlier) ≡ d → is_given_or_refused (answer.Look seen) d ≡ true → has_right_place s m (known s earlier) (line.Answered a 0 (answer.Look seen)) ≡ true
  look_by a seen (give x) e h = look_placed looks s earlier m a seen x (says_of s (kept_of s earlier) (give x) e) h
  look_by a seen d e h = absurd (true≢false (sym h))

  pub line_placed : (l : Line) → is_followed s (kept_of s earlier) l ≡ true → is_told s (world_of s earlier) (kept_of s earlier) l ≡ true → is_placed s m (kept_of s earlier) l ≡ true → has_right_place s m (known s earlier) l ≡ true
  line_placed (line.Turn a) h t p = mark_right a h p
  line_placed (line.Begin a i) h t p = begin_placed s (kept_of s earlier) a i h
  line_placed (line.Exchange a c r) h t p = exchange_placed s (kept_of s earlier) a c r h
  line_placed (line.Failed a c acted) h t p = failed_placed s (kept_of s earlier) a c acted h
  line_placed (line.Reset a) h t p = reset_placed s (kept_of s earlier) (turn_calm s earlier rules v followed) a h
  line_placed (line.ResetFailed a) h t p = reset_placed s (kept_of s earlier) (turn_calm s earlier rules v followed) a h
  line_placed (line.World a e) h t p = event_placed s (kept_of s earlier) (world_of s earlier) a e (does_line s (world_of s earlier) (kept_of s earlier) (line.World a e) h t)
  line_placed (line.Published number f e n text) h t p = published_of s (kept_of s earlier) number f e n text (due s (kept_of s earlier)) refl h
  line_placed (line.EpochEnd number e n) h t p = refl
  line_placed (line.Refused f n) h t p = refl
  line_placed (line.Answered a i (answer.Look seen)) h t p =
      let k : Kept = kept_of s earlier in
      look_by a seen (due s k) refl
      (and_parts (is_begun_at i (begun_of a k.jobs)) (is_given_or_refused (answer.Look seen) (due s k))
      (and_parts (is_turn_of a k.turn) (is_begun_at i (begun_of a k.jobs) && is_given_or_refused (answer.Look seen) (due s k)) h).1).1
  line_placed (line.Answered a i given) h t p = refl

  pub snapshot_right : (l : Line) → is_followed s (kept_of s earlier) l ≡ true → has_right_snapshot (world_of s earlier) (kept_of s earlier) l ≡ true
  snapshot_right (line.Published number f e n text) h = snapshot_of shows s earlier rules v followed told number f e n text (due s (kept_of s earlier)) refl h
  snapshot_right l h = refl

-- answers and faults
module _ (s : Script) (w : World) (k : Kept) where
  pub line_answers : (l : Line) → is_followed s k l ≡ true → is_told s w k l ≡ true → has_right_answer s w k l ≡ true
  line_answers (line.Answered a i given) h t = answer_right s k w a i given (does_line s w k (line.Answered a i given) h t)
  line_answers (line.Refused f n) h t = refusal_right s k f n h
  line_answers l h t = refl

  pub line_fails : (l : Line) → is_followed s k l ≡ true → is_told s w k l ≡ true → has_right_fault s w k l ≡ true
  line_fails (line.Exchange a c r) h t = (and_parts (has_right_response w (line.Exchange a c r)) (has_right_fault s w k (line.Exchange a c r)) t).1
  line_fails (line.Failed a c acted) h t = (and_parts (has_right_response w (line.Failed a c acted)) (has_right_fault s w k (line.Failed a c acted)) t).1
  line_fails (line.Reset a) h t = t
  line_fails (line.ResetFailed a) h t = t
  line_fails (line.EpochEnd number e n) h t = end_of s k number e n (due s k) refl h
  line_fails l h t = refl
