-- A whole turn that neither waits nor finds nothing left moves: it adds an event, answers an operation, or publishes what was stale.
use Rattle.std.proofs.Common.{◌≡◌, ℕ, zero, suc, ◌++◌, not, Bool, true, false, List, [], ◌∷◌, Some, None, is_some, refl, sym, ap, ◌∙◌, subst, true≢false}
use Rattle.std.specs.Prelude.{is_none}
use Rattle.std.proofs.lemmas.Bool.{and_parts, eqb-true}
use Rattle.script_reader.specs.declared.types.Script.{Script}
use Rattle.script_reader.specs.Rules.{keeps_rules}
use Rattle.report.specs.declared.line.Line.{Line}
use Rattle.report.specs.declared.line.Line.TheVariants as line
use Rattle.rules.specs.declared.kept.Kept.{Kept}
use Rattle.rules.specs.History.{is_event}
use Rattle.rules.specs.Work.{is_idle}
use Rattle.rules.specs.Due.{due, due_answer}
use Rattle.rules.specs.Rules.{is_turn_of}
use Rattle.rules.specs.Performed.{ends_turn, begins_as, is_refusal_told}
use Rattle.rules.specs.After.{is_mark, kept_after, kept_of}
use Rattle.performed.specs.Names.{has_utf8_names}
use Rattle.performed.specs.Followed.{are_followed, is_followed}
use Rattle.performed.specs.Told.{are_told}
use Rattle.performed.specs.Progress.{Moves}
use Rattle.performed.specs.Laws.{has_no_mark, MarksMove, TurnsMove}
use Rattle.performed.proofs.TurnsSays.{turn_done, BeginsNow, begins_now}
use Rattle.performed.proofs.TurnsKept.{GoesOn, goes_on, then_on, first_on, both_on, event_moves, answer_moves}
use Rattle.performed.proofs.TurnsStale.{keeps_time}
use Rattle.performed.proofs.TurnsPhase.{Publishes, publishes, end_stands, refusal_stands, framework_moves}
use Rattle.performed.proofs.TurnsPublish.{HasPublisher, marked_publisher, begin_publisher, publisher_answered}
use Rattle.performed.proofs.JobPlaces.{job_count}
use Rattle.performed.proofs.ProgressBegins.{Starts, starts}
use Rattle.performed.proofs.ProgressMoves.{begins_move}
use Rattle.performed.proofs.Plain.{keeps}

-- ---- how far a turn is

-- no end and no refusal is to be told
record IsCalm (k : Kept) : Type 0 where
  ended : k.turn.ended ≡ None
  refused : k.turn.refused ≡ None

-- the family of its operation is published, and the answer is due
record IsTold (s : Script) (k : Kept) : Type 0 where
  calm : IsCalm k
  number : ℕ
  published : k.turn.published ≡ Some number
  answer : is_some (due_answer s k) ≡ true

-- behind the lines that were added to its mark
abbrev behind : Script → List Line → ℕ → List Line → Kept
behind s earlier a added = kept_of s (added ++ line.Turn a ∷ earlier)

data Phase (s : Script) (earlier : List Line) (a : ℕ) (added : List Line) : Type 0 where
  moved : Moves s (kept_of s earlier) (behind s earlier a added) → Phase s earlier a added
  marked : added ≡ [] → Phase s earlier a added
  begun : (i : ℕ) → added ≡ line.Begin a i ∷ [] → Starts s (behind s earlier a []) a i → Phase s earlier a added
  told : IsTold s (behind s earlier a added) → Phase s earlier a added

module _ (s : Script) (serving : has_utf8_names s ≡ true) (earlier : List Line) (a : ℕ) where
  abbrev at : List Line → Kept
  at added = behind s earlier a added

  goes : (added : List Line) → GoesOn s (kept_of s earlier) (at added)
  goes [] = goes_on s (line.Turn a) (kept_of s earlier)
  goes (l ∷ added) = both_on s (kept_of s earlier) (at added) (at (l ∷ added)) (goes added) (goes_on s l (at added))

  moves_now : (l : Line) (added : List Line) → Moves s (at added) (at (l ∷ added)) → Phase s earlier a (l ∷ added)
  moves_now l added m = moved (first_on s (kept_of s earlier) (at added) (at (l ∷ added)) (goes added) m)

  -- ---- what a publication leaves

  publication_told : (k : Kept) (actor number f e n : ℕ) (text : List ℕ) → IsCalm k → HasPublisher s k actor → k.turn.actor ≡ Some actor → is_some k.turn.family ≡ true → IsTold s (kept_after s (line.Published number f e n text) k)
  publication_told k actor number f e n text calm p whose family = record {
    calm = record { ended = calm.ended; refused = calm.refused };
    number = number;
    published = refl;
    answer = publisher_answered s k actor p number f e n text whose family;
  }

-- behind the mark
mark_publishes : (s : Script) → has_utf8_names s ≡ true → (earlier : List Line) (a number f e n : ℕ) (text : List ℕ) → is_followed s (behind s earlier a []) (line.Published number f e n text) ≡ true → Phase s earlier a (line.Published number f e n text ∷ [])
mark_publishes s serving earlier zero number f e n text h =
    let l : Line = line.Published number f e n text in
    let k : Kept = behind s earlier zero [] in
    let p : Publishes k f n = publishes s k number f e n text h in
    moves_now s serving earlier zero l [] (framework_moves s (kept_of s earlier) number f e n text p (keeps_time s (line.Turn zero ∷ earlier)).stale)
mark_publishes s serving earlier (suc b) number f e n text h =
    let k : Kept = behind s earlier (suc b) [] in
    let p : Publishes k f n = publishes s k number f e n text h in
    let q : HasPublisher s k (suc b) = marked_publisher s (kept_of s earlier) b f p.family in
    told (publication_told s serving earlier (suc b) k (suc b) number f e n text (record { ended = refl; refused = refl }) q refl (ap is_some p.family))

module _ (s : Script) (serving : has_utf8_names s ≡ true) (earlier : List Line) (a : ℕ) where
  -- a line behind those that moved nothing, given what comes of a begin and of a publication
  module _ (added : List Line) (calm : IsCalm (behind s earlier a added)) where
    abbrev now : Kept
    now = behind s earlier a added

    refusal_told : (g n : ℕ) → is_followed s now (line.Refused g n) ≡ true → ⊥
    refusal_told g n h = refusal_stands s now g n (and_parts (is_turn_of 0 now.turn) (is_refusal_told g n (due s now)) h).1 calm.refused

    event : (l : Line) → is_event l ≡ true → Phase s earlier a (l ∷ added)
    event l h = moves_now s serving earlier a l added (event_moves s now l h)

    module _ (begins : (x i : ℕ) → is_followed s now (line.Begin x i) ≡ true → Phase s earlier a (line.Begin x i ∷ added)) (publishes : (number f e n : ℕ) (text : List ℕ) → is_followed s now (line.Published number f e n text) ≡ true → Phase s earlier a (line.Published number f e n text ∷ added)) where
      from : (l : Line) → is_mark l ≡ false → is_followed s now l ≡ true → are_followed s (added ++ line.Turn a ∷ earlier) ≡ true → Phase s earlier a (l ∷ added)
      from (line.Turn x) u h f = absurd (true≢false u)
      from (line.Begin x i) u h f = begins x i h
      from (line.Published number g e n text) u h f = publishes number g e n text h
      from (line.EpochEnd number e n) u h f = absurd (end_stands s now number e n h calm.ended)
      from (line.Refused g n) u h f = absurd (refusal_told g n h)
      from (line.Answered x op given) u h f = moves_now s serving earlier a (line.Answered x op given) added (answer_moves s now x op given h (keeps s (added ++ line.Turn a ∷ earlier) f))
      from (line.Exchange x c r) u h f = event (line.Exchange x c r) refl
      from (line.Failed x c d) u h f = event (line.Failed x c d) refl
      from (line.Reset x) u h f = event (line.Reset x) refl
      from (line.ResetFailed x) u h f = event (line.ResetFailed x) refl
      from (line.World x e) u h f = event (line.World x e) refl

  -- behind the mark
  own_begin : (x i : ℕ) → is_followed s (behind s earlier a []) (line.Begin x i) ≡ true → Phase s earlier a (line.Begin x i ∷ [])
  own_begin x i h =
      let p = and_parts (is_turn_of x (behind s earlier a []).turn) (begins_as i (due s (behind s earlier a []))) h in
      let same : x ≡ a = sym (eqb-true a x p.0) in
      begun i (ap (λ (n : ℕ). line.Begin n i ∷ []) same) (subst (λ (n : ℕ). Starts s (behind s earlier a []) n i) same (starts s (behind s earlier a []) i x h))

  from_mark : (l : Line) → is_mark l ≡ false → is_followed s (behind s earlier a []) l ≡ true → are_followed s (line.Turn a ∷ earlier) ≡ true → Phase s earlier a (l ∷ [])
  from_mark = from [] (record { ended = refl; refused = refl }) own_begin (mark_publishes s serving earlier a)

  -- behind the begin
  module _ (i : ℕ) (st : Starts s (behind s earlier a []) a i) where
    abbrev front : List Line
    front = line.Begin a i ∷ []

    begin_publishes : (number f e n : ℕ) (text : List ℕ) → is_followed s (behind s earlier a front) (line.Published number f e n text) ≡ true → Phase s earlier a (line.Published number f e n text ∷ front)
    begin_publishes number f e n text h =
        let k : Kept = behind s earlier a front in
        let p : Publishes k f n = publishes s k number f e n text h in
        let q : HasPublisher s k a = begin_publisher s (behind s earlier a []) a i f st (job_count s (line.Turn a ∷ earlier)) p.family in
        told (publication_told s serving earlier a k a number f e n text (record { ended = refl; refused = refl }) q refl (ap is_some p.family))

    begins_once : (x j : ℕ) → is_followed s (behind s earlier a front) (line.Begin x j) ≡ true → ⊥
    begins_once x j h =
        let n : BeginsNow s (behind s earlier a front) x j = begins_now s (behind s earlier a front) x j h in
        true≢false (sym n.begins.bare)

    from_begin : (l : Line) → is_mark l ≡ false → is_followed s (behind s earlier a front) l ≡ true → are_followed s (front ++ line.Turn a ∷ earlier) ≡ true → Phase s earlier a (l ∷ front)
    from_begin = from front (record { ended = refl; refused = refl }) (λ x j h. absurd (begins_once x j h)) begin_publishes

  -- behind the publication
  module _ (added : List Line) (t : IsTold s (behind s earlier a added)) where
    answers_first : (x j : ℕ) → is_followed s (behind s earlier a added) (line.Begin x j) ≡ true → ⊥
    answers_first x j h =
        let n : BeginsNow s (behind s earlier a added) x j = begins_now s (behind s earlier a added) x j h in
        true≢false (sym t.answer ∙ ap is_some n.done.answer)

    publishes_once : (number f e n : ℕ) (text : List ℕ) → is_followed s (behind s earlier a added) (line.Published number f e n text) ≡ true → ⊥
    publishes_once number f e n text h =
        let p : Publishes (behind s earlier a added) f n = publishes s (behind s earlier a added) number f e n text h in
        true≢false (sym p.free ∙ ap is_none t.published)

    from_told : (l : Line) → is_mark l ≡ false → is_followed s (behind s earlier a added) l ≡ true → are_followed s (added ++ line.Turn a ∷ earlier) ≡ true → Phase s earlier a (l ∷ added)
    from_told = from added t.calm (λ x j h. absurd (answers_first x j h)) (λ number f e n text h. absurd (publishes_once number f e n text h))

  -- ---- all lines

  abbrev Follows : Line → List Line → Type 0
  Follows l added = is_followed s (behind s earlier a added) l ≡ true → are_followed s (added ++ line.Turn a ∷ earlier) ≡ true → Phase s earlier a (l ∷ added)

  step : (l : Line) (added : List Line) → is_mark l ≡ false → Phase s earlier a added → Follows l added
  step l added u (moved m) = λ h f. moved (then_on s (kept_of s earlier) (behind s earlier a added) (behind s earlier a (l ∷ added)) m (goes_on s l (behind s earlier a added)))
  step l added u (marked e) = subst (λ (xs : List Line). Follows l xs) (sym e) (from_mark l u)
  step l added u (begun i e st) = subst (λ (xs : List Line). Follows l xs) (sym e) (from_begin i st l u)
  step l added u (told t) = from_told added t l u

  not_true : (b : Bool) → not b ≡ true → b ≡ false
  not_true true h = absurd (true≢false (sym h))
  not_true false h = refl

  phase : (added : List Line) → are_followed s (added ++ line.Turn a ∷ earlier) ≡ true → has_no_mark added ≡ true → Phase s earlier a added
  phase [] f u = marked refl
  phase (l ∷ added) f u =
      let p = and_parts (are_followed s (added ++ line.Turn a ∷ earlier)) (is_followed s (behind s earlier a added) l) f in
      let q = and_parts (not (is_mark l)) (has_no_mark added) u in
      step l added (not_true (is_mark l) q.0) (phase added p.0 q.1) p.1 p.0

  -- ---- its end

  module _ (marks : MarksMove) (rules : keeps_rules s ≡ true) (tells : are_told s earlier ≡ true) (idle : is_idle s (kept_of s earlier) a ≡ false) where
    abbrev Ends : List Line → Type 0
    Ends added = are_followed s (added ++ line.Turn a ∷ earlier) ≡ true → ends_turn (due s (behind s earlier a added)) ≡ true → ⊥

    mark_goes_on : Ends []
    mark_goes_on f ends = true≢false (sym ends ∙ marks s earlier a rules serving f tells idle)

    begin_goes_on : (i : ℕ) → Ends (line.Begin a i ∷ [])
    begin_goes_on i f ends = true≢false (sym ends ∙ begins_move s (line.Turn a ∷ earlier) a i serving f)

    told_goes_on : (added : List Line) → IsTold s (behind s earlier a added) → Ends added
    told_goes_on added t f ends = true≢false (sym t.answer ∙ ap is_some (turn_done s (behind s earlier a added) ends).answer)

    finish : (added : List Line) → Phase s earlier a added → are_followed s (added ++ line.Turn a ∷ earlier) ≡ true → ends_turn (due s (behind s earlier a added)) ≡ true → Moves s (kept_of s earlier) (behind s earlier a added)
    finish added (moved m) f ends = m
    finish added (marked e) f ends = absurd (subst (λ (xs : List Line). Ends xs) (sym e) mark_goes_on f ends)
    finish added (begun i e st) f ends = absurd (subst (λ (xs : List Line). Ends xs) (sym e) (begin_goes_on i) f ends)
    finish added (told t) f ends = absurd (told_goes_on added t f ends)

pub turns_move : MarksMove → TurnsMove
turns_move marks s earlier added a rules serving followed tells unmarked idle ends = finish s serving earlier a marks rules tells idle added (phase s serving earlier a added followed unmarked) followed ends
