-- An edit that has decided in the epoch that lives, and whose family nobody moved since: its family is published before it is answered.
use Rattle.std.proofs.Common.{◌≡◌, ℕ, zero, suc, ◌==◌, ◌&&◌, not, Bool, true, false, if◌then◌else◌, Option, Some, None, is_some, is_none, List, [], ◌∷◌, refl, sym, ap, ◌∙◌, subst, true≢false}
use Rattle.std.specs.Prelude.{option_map}
use Rattle.std.proofs.lemmas.Bool.{and_parts, eq-eqb}
use Rattle.apdu.specs.Values.{CommandValue, ResponseValue}
use Rattle.apdu.specs.Words.{has_value}
use Rattle.apdu.specs.Apdu.{same_command}
use Rattle.card_model.specs.declared.world.WorldEvent.TheVariants.{Arm}
use Rattle.script_reader.specs.declared.types.Script.{Script}
use Rattle.report.specs.declared.answer.Answer.{Answer}
use Rattle.report.specs.declared.answer.Answer.TheVariants as answer
use Rattle.report.specs.declared.line.Line.{Line}
use Rattle.report.specs.declared.line.Line.TheVariants as line
use Rattle.adn.specs.declared.edit.Edit.{Edit}
use Rattle.adn.specs.declared.edit.RowUpdate.{RowUpdate}
use Rattle.families.specs.Families.{family_paths}
use Rattle.epoch_cache.specs.declared.cached.CachedFile.{CachedFile}
use Rattle.epoch_cache.specs.Cache.{all_current, first_missing, is_current, is_moved, is_unknown_write, moves_one}
use Rattle.editor.specs.declared.editing.Decided.{Decided}
use Rattle.editor.specs.declared.editing.Editing.{Editing}
use Rattle.editor.specs.Editing.{left_rows, owed_of}
use Rattle.rules.specs.declared.due.Due.{Due}
use Rattle.rules.specs.declared.due.Due.TheVariants.{Give as give, TryEvent as try_event}
use Rattle.rules.specs.declared.kept.Begun.{Begun}
use Rattle.rules.specs.declared.kept.Decision.{Decision}
use Rattle.rules.specs.declared.kept.Kept.{Kept}
use Rattle.rules.specs.declared.kept.Turn.{Turn}
use Rattle.rules.specs.declared.kept.Work.{Work}
use Rattle.rules.specs.declared.kept.Work.TheVariants.{Rests as rests, Reads as reads, Writes as writes}
use Rattle.rules.specs.History.{lives_in, stops_epoch}
use Rattle.rules.specs.Channels.{held_numbers}
use Rattle.rules.specs.Kept.{begun_of, begun_operation, job_of, operation_at, operation_now}
use Rattle.rules.specs.Work.{decided_work, decides, edit_work, is_edit_over, reads_first, undecided_work}
use Rattle.rules.specs.After.{decision_of_begun, edit_of, facts_of, family_of_begun, jobs_beside, refused_of, kept_after, kept_of}
use Rattle.rules.specs.Due.{due, due_answer, due_command, edit_answer, decided_answer, done_in_turn, first_command}
use Rattle.rules.specs.Laws.{KeptLooksBack}
use Rattle.rules.specs.Performed.{is_sent, is_refusal_told}
use Rattle.rules.specs.Rules.{is_turn_of, is_begun_at}
use Rattle.performed.specs.Followed.{is_followed, are_followed, is_given_or_refused, is_tried}
use Rattle.performed.proofs.CalmBehind.{actor_is}
use Rattle.performed.proofs.CalmLent.{given_of, sent_of}
use Rattle.performed.proofs.CalmLines.{exchanged_actor}
use Rattle.performed.proofs.CalmSends.{never}
use Rattle.performed.proofs.EditsCurrent.{paths_stay}
use Rattle.performed.proofs.EditsLines.{edit_answers, decides_edit}
use Rattle.performed.proofs.EditsOver.{begun_over}
use Rattle.performed.proofs.EditsState.{none_moved}
use Rattle.performed.proofs.EditsWork.{edit_untried}
use Rattle.performed.proofs.EpochBegun.{living_unended}
use Rattle.performed.proofs.EpochDecided.{IsDecided, decided_behind, begin_free}
use Rattle.performed.proofs.EpochFamily.{turn_edits}
use Rattle.performed.proofs.TurnsPhase.{Publishes, publishes, some_number}
use Rattle.performed.proofs.TurnsSays.{begins_now, says_of}
use Rattle.performed.proofs.WantedFamilies.{exchanged_family}

-- nothing was done in the turn, and nothing is to be sent
pub record IsQuiet (k : Kept) : Type 0 where
  pub published : k.turn.published ≡ None
  pub came : k.turn.outcome ≡ None
  pub silent : due_command k ≡ None

-- an edit of the family has decided, all paths of it are current, and in the turn that publishes it nothing else is to be done
pub record IsAwaited (s : Script) (k : Kept) (f : ℕ) : Type 0 where
  pub who : ℕ
  pub decided : IsDecided s k who f
  pub current : all_current k.files (family_paths f) ≡ true
  pub quiet : k.turn.actor ≡ Some who → is_some k.turn.family ≡ true → IsQuiet k

-- ---- what its turn does

none_missing_of : (files : List CachedFile) (list : List (List ℕ)) → all_current files list ≡ true → first_missing files list ≡ None
none_missing_of files [] h = refl
none_missing_of files (path ∷ list) h =
    let p = and_parts (is_current files path) (all_current files list) h in
    ap (λ (x : Bool). if not x then Some path else first_missing files list) p.0 ∙ none_missing_of files list p.1

-- where nothing is left to send, and all paths of the family are current
over_rests : (k : Kept) (a f : ℕ) (e : Edit) (editing : Editing) → is_edit_over editing ≡ true → first_missing k.files (family_paths f) ≡ None → (edit_work k a f e editing).work ≡ rests
over_rests k a f e editing over missing =
    let p = and_parts (is_some editing.decided) (is_none (owed_of true editing.attempt)) over in
    by_decided editing.decided p.0 (none_some (owed_of true editing.attempt) p.1)
  where
    none_some : (o : Option RowUpdate) → is_none o ≡ true → is_some o ≡ false
    none_some None q = refl
    none_some (Some u) q = never q

    by_decided : (o : Option Decided) → is_some o ≡ true → is_some (owed_of true editing.attempt) ≡ false → (elim o as (λ x. Decision) [ None ↦ undecided_work k a f e editing.attempt | Some d ↦ decides (decided_work k f editing) ]).work ≡ rests
    by_decided None q none = never q
    by_decided (Some d) q none =
        ap (λ (x : Bool). if x then writes else reads_first k.files (family_paths f)) none
        ∙ ap (λ (o : Option (List ℕ)). elim o as (λ x. Work) [ None ↦ rests | Some path ↦ reads path ]) missing

-- ---- its answer is not due

-- the framework edits nothing
who_acts : (s : Script) (k : Kept) (i f : ℕ) → IsDecided s k i f → 0 ≡ i → ⊥
who_acts s k i f t e = absurd (let none : edit_of (operation_at s 0 t.begun.index) ≡ Some (f, t.edit) = ap (λ (j : ℕ). edit_of (operation_at s j t.begun.index)) e ∙ t.op in cc)

unpublished_by : (b : Begun) (t : Turn) (d : Decided) → b.told ≡ None → (is_some t.family ≡ true → (t.published ≡ None) × (t.outcome ≡ None)) → decided_answer b d t ≡ None
unpublished_by b t d told quiet = ap (option_map (λ k. answer.Done d.event k (left_rows b.editing d))) (ap (λ (o : Option ℕ). elim o as (λ x. Option (Option ℕ)) [ Some k ↦ Some (Some k) | None ↦ if is_some t.family then done_in_turn t.published t.outcome else None ]) told ∙ by_family (is_some t.family) refl)
  where
    by_family : (x : Bool) → is_some t.family ≡ x → (if x then done_in_turn t.published t.outcome else None) ≡ None
    by_family false e = refl
    by_family true e = let q = quiet e in ap (λ (o : Option ℕ). done_in_turn o t.outcome) q.0 ∙ ap (done_in_turn None) q.1

module _ (looks : KeptLooksBack) (s : Script) (earlier : List Line) (followed : are_followed s earlier ≡ true) (f : ℕ) (t : IsAwaited s (kept_of s earlier) f) where
  abbrev k : Kept
  k = kept_of s earlier

  abbrev b : Begun
  b = t.decided.begun

  unanswered : k.turn.actor ≡ Some t.who → due_answer s k ≡ None
  unanswered actor = edit_answers s k t.who b f t.decided.edit actor t.decided.here t.decided.op ∙ by_decided b.editing.decided t.decided.decided
    where
      by_decided : (o : Option Decided) → is_some o ≡ true → edit_answer b k.turn o ≡ None
      by_decided None h = never h
      by_decided (Some d) h = unpublished_by b k.turn d (living_unended s earlier followed t.who b t.decided.here t.decided.lives).told (λ some. let q = t.quiet actor some in (q.published, q.came))

  -- it is not answered
  pub awaited_unanswered : (n : ℕ) (given : Answer) → is_followed s k (line.Answered t.who n given) ≡ true → ⊥
  awaited_unanswered n given h =
      let p = and_parts (is_turn_of t.who k.turn) (is_begun_at n (begun_of t.who k.jobs) && is_given_or_refused given (due s k)) h in
      by_due (actor_is k t.who p.0) (due s k) refl (and_parts (is_begun_at n (begun_of t.who k.jobs)) (is_given_or_refused given (due s k)) p.1).1
    where
      by_due : k.turn.actor ≡ Some t.who → (d : Due) → due s k ≡ d → is_given_or_refused given d ≡ true → ⊥
      by_due actor (give x) is q = absurd (let z : None ≡ Some x = sym (unanswered actor) ∙ given_of s k x is in cc)
      by_due actor (try_event e) is q = absurd (let z : None ≡ Some e = sym (edit_untried s earlier followed t.who f b t.decided.edit actor t.decided.here t.decided.op) ∙ says_of s k (try_event e) is in cc)
      by_due actor d is q = true≢false (sym q)

  -- ---- behind a line

  module _ (l : Line) (h : is_followed s k l ≡ true) where
    abbrev new : Kept
    new = kept_after s l k

    -- where its family stays current and nothing was done in its turn
    stays_awaited : ((n : ℕ) (given : Answer) → l ≡ line.Answered t.who n given → ⊥) → lives_in new.history b.epoch ≡ true → all_current new.files (family_paths f) ≡ true → (new.turn.actor ≡ Some t.who → is_some new.turn.family ≡ true → IsQuiet new) → IsAwaited s new f
    stays_awaited answers lives current quiet = record { who = t.who; decided = decided_behind s k l t.who f t.decided h answers lives; current = current; quiet = quiet }

    -- a line that moves nothing
    still_current : stops_epoch l ≡ false → ((path : List ℕ) → is_moved (facts_of s l k).touch path ≡ false) → is_unknown_write (facts_of s l k).touch.written ≡ false → all_current new.files (family_paths f) ≡ true
    still_current stops quiet known = paths_stay looks s earlier l (family_paths f) stops (none_moved (facts_of s l k).touch quiet (family_paths f)) known t.current

  -- an operation begins
  pub begin_awaited : (a n : ℕ) → is_followed s k (line.Begin a n) ≡ true → IsAwaited s (kept_after s (line.Begin a n) k) f
  begin_awaited a n h =
      let x = begins_now s k a n h in
      stays_awaited (line.Begin a n) h (λ m given e. absurd (cc)) t.decided.lives (still_current (line.Begin a n) h refl (λ path. refl) refl)
      (λ actor some. absurd (begin_free s k a n b h (ap (λ (j : ℕ). begun_of j k.jobs) (x.same ∙ some_number (suc x.begins.actor) t.who (sym x.begins.turn ∙ actor)) ∙ t.decided.here)))

  -- a command
  pub exchange_awaited : (a : ℕ) (c : CommandValue) (r : ResponseValue) → is_followed s k (line.Exchange a c r) ≡ true → moves_one (facts_of s (line.Exchange a c r) k).touch (family_paths f) ≡ false → is_unknown_write (facts_of s (line.Exchange a c r) k).touch.written ≡ false → IsAwaited s (kept_after s (line.Exchange a c r) k) f
  exchange_awaited a c r h unmoved known =
      let l : Line = line.Exchange a c r in
      let refused_now = refused_of k.selected (jobs_beside l k.history.epoch (facts_of s l k) k.selected k.jobs) (facts_of s l k).answered in
      stays_awaited l h (λ m given e. absurd (cc)) t.decided.lives (paths_stay looks s earlier l (family_paths f) refl unmoved known t.current)
      (λ actor some.
      let turn : k.turn.actor ≡ Some t.who = sym (exchanged_actor (operation_now s a k.jobs) (job_of a (kept_after s l k).jobs) (held_numbers k.history k.handles) (facts_of s l k) refused_now k.turn (facts_of s l k).answered) ∙ actor in
      let family : is_some k.turn.family ≡ true = ap is_some (sym (exchanged_family (operation_now s a k.jobs) (job_of a (kept_after s l k).jobs) (held_numbers k.history k.handles) (facts_of s l k) refused_now k.turn (facts_of s l k).answered refl)) ∙ some in
      absurd (true≢false (sym (sent_of s k a c r (and_parts (is_turn_of a k.turn) (is_sent (due s k) l) h).1) ∙ ap (has_value (same_command c)) (t.quiet turn family).silent)))

  -- an armed change
  pub arm_awaited : (a i : ℕ) → is_followed s k (line.World a (Arm i)) ≡ true → IsAwaited s (kept_after s (line.World a (Arm i)) k) f
  arm_awaited a i h =
      let l : Line = line.World a (Arm i) in
      stays_awaited l h (λ m given e. absurd (cc)) t.decided.lives (still_current l h refl (λ path. refl) refl)
      (λ actor some. absurd (by_due (due s k) refl actor (and_parts (is_turn_of a k.turn) (is_tried (Arm i) (due s k)) h).1))
    where
      by_due : (d : Due) → due s k ≡ d → k.turn.actor ≡ Some t.who → is_tried (Arm i) d ≡ true → ⊥
      by_due (try_event e) is actor q = absurd (let z : None ≡ Some e = sym (edit_untried s earlier followed t.who f b t.decided.edit actor t.decided.here t.decided.op) ∙ says_of s k (try_event e) is in cc)
      by_due d is actor q = true≢false (sym q)

  -- a refusal is told by the framework
  pub refusal_awaited : (g n : ℕ) → is_followed s k (line.Refused g n) ≡ true → IsAwaited s (kept_after s (line.Refused g n) k) f
  refusal_awaited g n h =
      let l : Line = line.Refused g n in
      stays_awaited l h (λ m given e. absurd (cc)) t.decided.lives (still_current l h refl (λ path. refl) refl)
      (λ actor some. absurd (who_acts s k t.who f t.decided (some_number 0 t.who (sym (actor_is k 0 (and_parts (is_turn_of 0 k.turn) (is_refusal_told g n (due s k)) h).0) ∙ actor))))

  -- another's answer
  pub answer_awaited : (a n : ℕ) (given : Answer) → is_followed s k (line.Answered a n given) ≡ true → IsAwaited s (kept_after s (line.Answered a n given) k) f
  answer_awaited a n given h =
      let l : Line = line.Answered a n given in
      stays_awaited l h
      (λ m x e. let same : a ≡ t.who = cc in awaited_unanswered n given (subst (λ (j : ℕ). is_followed s k (line.Answered j n given) ≡ true) same h))
      t.decided.lives (still_current l h refl (λ path. refl) refl) (λ actor some. never some)

  -- another family is published
  pub publication_awaited : (number g e n : ℕ) (text : List ℕ) → is_followed s k (line.Published number g e n text) ≡ true → (g == f) ≡ false → IsAwaited s (kept_after s (line.Published number g e n text) k) f
  publication_awaited number g e n text h other =
      let l : Line = line.Published number g e n text in
      let p : Publishes k g n = publishes s k number g e n text h in
      stays_awaited l h (λ m x q. absurd (cc)) t.decided.lives (still_current l h refl (λ path. refl) refl)
      (λ actor some. absurd (true≢false (sym (eq-eqb g f (turn_edits s earlier followed t.who g f b t.decided.edit actor p.family t.decided.here t.decided.op)) ∙ other)))

  -- ---- a mark

  marked_rests : (a : ℕ) → suc a ≡ t.who → is_some (kept_after s (line.Turn (suc a)) k).turn.family ≡ true → (kept_after s (line.Turn (suc a)) k).turn.work ≡ rests
  marked_rests a is some =
      let at : begun_of (suc a) k.jobs ≡ Some b = ap (λ (j : ℕ). begun_of j k.jobs) is ∙ t.decided.here in
      let edits : edit_of (operation_at s (suc a) b.index) ≡ Some (f, t.decided.edit) = ap (λ (j : ℕ). edit_of (operation_at s j b.index)) is ∙ t.decided.op in
      let family : is_some (family_of_begun k (Some b) (operation_at s (suc a) b.index)) ≡ true = ap (λ (o : Option Begun). is_some (family_of_begun k o (begun_operation s (suc a) o))) (sym at) ∙ some in
      let over : is_edit_over b.editing ≡ true = begun_over k b (operation_at s (suc a) b.index) f t.decided.edit edits family in
      ap (λ (o : Option Begun). (decision_of_begun k (suc a) o (begun_operation s (suc a) o)).work) at
      ∙ ap (λ (d : Decision). d.work) (decides_edit k (suc a) b (operation_at s (suc a) b.index) f t.decided.edit edits)
      ∙ ap (λ (x : Bool). (elim x as (λ y. Decision) [ true ↦ edit_work k (suc a) f t.decided.edit b.editing | false ↦ decides rests ]).work) t.decided.lives
      ∙ over_rests k (suc a) f t.decided.edit b.editing over (none_missing_of k.files (family_paths f) t.current)

  pub mark_awaited : (a : ℕ) → is_followed s k (line.Turn a) ≡ true → IsAwaited s (kept_after s (line.Turn a) k) f
  mark_awaited zero h =
      stays_awaited (line.Turn zero) h (λ m given e. absurd (cc)) t.decided.lives (still_current (line.Turn zero) h refl (λ path. refl) refl)
      (λ actor some. absurd (who_acts s k t.who f t.decided (some_number 0 t.who actor)))
  mark_awaited (suc a) h =
      let l : Line = line.Turn (suc a) in
      stays_awaited l h (λ m given e. absurd (cc)) t.decided.lives (still_current l h refl (λ path. refl) refl)
      (λ actor some. record {
        published = refl;
        came = refl;
        silent = ap (λ (w : Work). first_command k.selected (job_of (suc a) (kept_after s l k).jobs) w) (marked_rests a (some_number (suc a) t.who actor) some);
      })
