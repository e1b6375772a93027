-- How far each edit is behind a mark, and behind the line that begins one.
use Rattle.std.proofs.Common.{◌≡◌, ◌⊎◌, inl, inr, ℕ, zero, suc, true, false, Option, Some, None, is_some, List, refl, sym, ap, ◌∙◌, subst, true≢false}
use Rattle.std.proofs.lemmas.Bool.{eq-eqb}
use Rattle.fcp.specs.declared.rule.Need.{Need}
use Rattle.card_model.specs.declared.world.CardState.{CardState}
use Rattle.card_model.specs.declared.world.World.{World}
use Rattle.card_model.specs.Step.{card_inside}
use Rattle.script_reader.specs.declared.types.Script.{Script}
use Rattle.script_reader.specs.Rules.{keeps_rules}
use Rattle.report.specs.declared.line.Line.{Line}
use Rattle.report.specs.declared.line.Line.TheVariants as line
use Rattle.adn.specs.declared.edit.Edit.{Edit}
use Rattle.epoch_cache.specs.declared.cached.Touch.{Touch}
use Rattle.epoch_cache.specs.Cache.{is_moved}
use Rattle.editor.specs.declared.editing.Attempt.{Attempt}
use Rattle.editor.specs.declared.editing.Editing.{Editing}
use Rattle.editor.specs.Editing.{moved_editing}
use Rattle.rules.specs.declared.kept.Begun.{Begun}
use Rattle.rules.specs.declared.kept.Decision.{Decision}
use Rattle.rules.specs.declared.kept.Kept.{Kept}
use Rattle.rules.specs.declared.kept.Work.TheVariants.{Writes as writes}
use Rattle.rules.specs.History.{lives_in}
use Rattle.rules.specs.Sessions.{lacking_key}
use Rattle.rules.specs.Kept.{begun_of, operation_at, operation_now, begun_operation}
use Rattle.rules.specs.After.{edit_of, begun_with, fresh_begun, decision_of_begun, decision_at, facts_of, kept_after, kept_of}
use Rattle.rules.specs.Agreement.{edit_at}
use Rattle.rules.specs.Laws.{KeptAgrees, PlansForCard}
use Rattle.rules.specs.State.{world_of}
use Rattle.performed.specs.Names.{has_utf8_names}
use Rattle.performed.specs.Followed.{are_followed}
use Rattle.performed.specs.Told.{are_told}
use Rattle.performed.proofs.CalmCards.{lives_of}
use Rattle.performed.proofs.CalmGiven.{given_of}
use Rattle.performed.proofs.CalmAnswers.{responses_right}
use Rattle.performed.proofs.EditsBegun.{near, Came, stays, marks, begins, exchanges, fails, came}
use Rattle.performed.proofs.EditsMarks.{IsBegun, turn_begins}
use Rattle.performed.proofs.EditsScript.{edit_book}
use Rattle.performed.proofs.EditsSends.{is_book}
use Rattle.performed.proofs.EditsState.{EditAt, IsActive, Edited, unmoved_attempt}
use Rattle.performed.proofs.ProgressBegins.{Starts}
use Rattle.performed.proofs.TurnsJobs.{is_own}
use Rattle.performed.proofs.TurnsSays.{IsDone, BeginsNow}
use Rattle.performed.proofs.EditsLines.{decides_edit, done_unfresh, done_unrefused, living_lives, IsBare, bare_of, turn_lacks, begin_lacks}
use Rattle.performed.proofs.EditsState.{unplanned, writing, refused, finished, past}
use Rattle.performed.proofs.EpochPast.{past_stays}

module _ (agrees : KeptAgrees) (plans : PlansForCard) (s : Script) (rules : keeps_rules s ≡ true) (served : has_utf8_names s ≡ true) (earlier : List Line) (followed : are_followed s earlier ≡ true) (told : are_told s earlier ≡ true) (t : Edited s (world_of s earlier) (kept_of s earlier)) where
  abbrev k : Kept
  k = kept_of s earlier

  abbrev w : World
  w = world_of s earlier

  card_of : (o : Option ℕ) → lives_in k.history o ≡ true → (card : CardState) × (card_inside w ≡ Some card)
  card_of o h = let x = lives_of s (given_of s rules served) earlier followed told (living_lives k.history o h) in (x.card, x.inside)

  module _ (l : Line) (done : IsDone s k) (quiet : (path : List ℕ) → is_moved (facts_of s l k).touch path ≡ false) (lives : (o : Option ℕ) → lives_in (kept_after s l k).history o ≡ lives_in k.history o) where
    abbrev touch : Touch
    touch = (facts_of s l k).touch

    editing_same : (e : Editing) → moved_editing touch e ≡ e
    editing_same e = ap (λ (o : Option Attempt). record e { attempt = o }) (unmoved_attempt touch quiet e.decided e.attempt)

    -- an edit whose turn it is not
    rested : (i : ℕ) (b : Begun) (f : ℕ) (e : Edit) → begun_of i k.jobs ≡ Some b → edit_of (operation_at s i b.index) ≡ Some (f, e) → EditAt w (kept_after s l k) i f e b.epoch (moved_editing touch b.editing)
    rested i b f e here op = subst (EditAt w (kept_after s l k) i f e b.epoch) (sym (editing_same b.editing)) (by_edit (t.edits i b f e here op))
      where
        by_edit : EditAt w k i f e b.epoch b.editing → EditAt w (kept_after s l k) i f e b.epoch b.editing
        by_edit (unplanned a d) = unplanned a d
        by_edit (writing a h q) = writing a h (record {
          family = q.family;
          rest = q.rest;
          paths = q.paths;
          still = q.still;
          lives = lives b.epoch ∙ q.lives;
          place = q.place;
          update = q.update;
          at = q.at;
          sent = q.sent;
          behind = q.behind;
          old = q.old;
          plan = q.plan;
          now = q.now;
          fresh = λ z. absurd (done_unfresh s w k t done i (q.fresh z));
        })
        by_edit (refused d actor came) = absurd (done_unrefused s w k t done i b f e here op d actor came)
        by_edit (finished d h owed) = finished d (lives b.epoch ∙ h) owed
        by_edit (past x) = past (past_stays l k.history b.epoch x)

    rested_now : (i : ℕ) (b now : Begun) (f : ℕ) (e : Edit) → begun_of i k.jobs ≡ Some b → now ≡ near s l k b → edit_of (operation_at s i now.index) ≡ Some (f, e) → EditAt w (kept_after s l k) i f e now.epoch now.editing
    rested_now i b now f e here is op = subst (λ (x : Begun). EditAt w (kept_after s l k) i f e x.epoch x.editing) (sym is) (rested i b f e here (ap (λ (x : Begun). edit_of (operation_at s i x.index)) (sym is) ∙ op))

    -- the edit whose turn begins
    module _ (i : ℕ) (b now : Begun) (f : ℕ) (e : Edit) (decides : decision_at s l k ≡ decision_of_begun k i (Some b) (operation_at s i b.index)) (edits : edit_at s l k ≡ Some (f, e)) (op : edit_of (operation_at s i b.index) ≡ Some (f, e)) (before : EditAt w k i f e b.epoch b.editing) (unrefused : b.editing.decided ≡ None → k.turn.actor ≡ Some i → is_some k.turn.outcome ≡ true → ⊥) where
      abbrev d : Decision
      d = decision_at s l k

      begun_by : (kept_after s l k).turn.actor ≡ Some i → IsBare (kept_after s l k).turn → (kept_after s l k).chain ≡ None → (kept_after s l k).turn.work ≡ d.work → ((need : Need) → lacking_key (kept_after s l k).history i (kept_after s l k).sessions need ≡ lacking_key k.history i k.sessions need) → begun_of i (kept_after s l k).jobs ≡ Some now → now ≡ begun_with d.attempt b → IsBegun s w k (kept_after s l k) i f e d b.editing b.epoch now
      begun_by actor bare chain work lacks here is = record {
        actor = actor;
        stage = bare.stage;
        chain = chain;
        came = bare.came;
        unsent = bare.unsent;
        work = work;
        lives = lives;
        over = past_stays l k.history;
        lacks = lacks;
        here = here;
        editing = ap (λ (x : Begun). x.editing) is;
        since = ap (λ (x : Begun). x.epoch) is;
        op = ap (λ (x : Begun). edit_of (operation_at s i x.index)) is ∙ op;
        decides = decides ∙ decides_edit k i b (operation_at s i b.index) f e op;
        planned = λ card inside p. plans s earlier l card f e rules (responses_right s earlier told) inside (edit_book s rules i b.index f e op) edits p;
        inside = λ h. card_of b.epoch h;
        before = before;
        unrefused = unrefused;
        unfresh = done_unfresh s w k t done i;
      }

  -- how far an edit is whose turn begins, and what that turn has to write
  pub record TurnEdit (l : Line) (i f : ℕ) (e : Edit) (now : Begun) : Type 0 where
    pub edit : EditAt w (kept_after s l k) i f e now.epoch now.editing
    pub active : (kept_after s l k).turn.actor ≡ Some i → (kept_after s l k).turn.work ≡ writes → IsActive s w (kept_after s l k)

  module _ (l : Line) (i f : ℕ) (e : Edit) (book : is_book f ≡ true) (b now : Begun) (work : (kept_after s l k).turn.work ≡ (decision_at s l k).work) (x : IsBegun s w k (kept_after s l k) i f e (decision_at s l k) b.editing b.epoch now) where
    begins_here : TurnEdit l i f e now
    begins_here = record {
      edit = (turn_begins s w k (kept_after s l k) i f e book (decision_at s l k) b.editing b.epoch now x).edit;
      active = λ actor h. (turn_begins s w k (kept_after s l k) i f e book (decision_at s l k) b.editing b.epoch now x).active (sym work ∙ h);
    }

  -- ---- a mark

  own_is : (a i : ℕ) (l : Line) → l ≡ line.Turn (suc a) → (is_own i l ≡ false) ⊎ (l ≡ line.Turn zero) → Some (suc a) ≡ Some i → ⊥
  own_is a i l e (inl h) q = let same : suc a ≡ i = cc in true≢false (sym (eq-eqb (suc a) i same) ∙ sym (ap (is_own i) e) ∙ h)
  own_is a i l e (inr h) q = absurd (let z : line.Turn (suc a) ≡ line.Turn zero = sym e ∙ h in cc)

  module _ (a : ℕ) (done : IsDone s k) where
    abbrev mark : Line
    mark = line.Turn (suc a)

    quiet_mark : (path : List ℕ) → is_moved (facts_of s mark k).touch path ≡ false
    quiet_mark path = refl

    mark_lives : (o : Option ℕ) → lives_in (kept_after s mark k).history o ≡ lives_in k.history o
    mark_lives None = refl
    mark_lives (Some n) = refl

    marked : (b now : Begun) (f : ℕ) (e : Edit) → begun_of (suc a) k.jobs ≡ Some b → now ≡ begun_with (decision_at s mark k).attempt (near s mark k b) → begun_of (suc a) (kept_after s mark k).jobs ≡ Some now → edit_of (operation_at s (suc a) now.index) ≡ Some (f, e) → TurnEdit mark (suc a) f e now
    marked b now f e here is there op =
        let old : edit_of (operation_at s (suc a) b.index) ≡ Some (f, e) = ap (λ (x : Begun). edit_of (operation_at s (suc a) x.index)) (sym is) ∙ op in
        let now_op : operation_now s (suc a) k.jobs ≡ operation_at s (suc a) b.index = ap (begun_operation s (suc a)) here in
        begins_here mark (suc a) f e (edit_book s rules (suc a) b.index f e old) b now refl
        (begun_by mark done quiet_mark mark_lives (suc a) b now f e
        (ap (λ (o : Option Begun). decision_of_begun k (suc a) o (begun_operation s (suc a) o)) here)
        (ap edit_of now_op ∙ old) old (t.edits (suc a) b f e here old)
        (done_unrefused s w k t done (suc a) b f e here old)
        refl (record { stage = refl; came = refl; unsent = refl }) refl refl (turn_lacks s k (suc a) (suc a)) there
        (is ∙ ap (λ (x : Editing). begun_with (decision_at s mark k).attempt (record (near s mark k b) { editing = x })) (editing_same mark done quiet_mark mark_lives b.editing)))

    pub mark_edit : (i : ℕ) (now : Begun) (f : ℕ) (e : Edit) → begun_of i (kept_after s mark k).jobs ≡ Some now → edit_of (operation_at s i now.index) ≡ Some (f, e) → Came s mark k i now → TurnEdit mark i f e now
    mark_edit i now f e there op (stays b here other is) = record { edit = rested_now mark done quiet_mark mark_lives i b now f e here is op; active = λ actor h. absurd (own_is a i mark refl other actor) }
    mark_edit i now f e there op (marks c b own l here is) =
        let q : line.Turn (suc c) ≡ line.Turn (suc a) = sym l in
        let same : suc a ≡ i = (let z : c ≡ a = cc in ap suc (sym z)) ∙ own in
        mark_own i same now f e there op b here is
      where
        mark_own : (i : ℕ) → suc a ≡ i → (now : Begun) (f : ℕ) (e : Edit) → begun_of i (kept_after s mark k).jobs ≡ Some now → edit_of (operation_at s i now.index) ≡ Some (f, e) → (b : Begun) → begun_of i k.jobs ≡ Some b → now ≡ begun_with (decision_at s mark k).attempt (near s mark k b) → TurnEdit mark i f e now
        mark_own i same now f e there op b here is = subst (λ (n : ℕ). begun_of n (kept_after s mark k).jobs ≡ Some now → edit_of (operation_at s n now.index) ≡ Some (f, e) → begun_of n k.jobs ≡ Some b → TurnEdit mark n f e now) same (λ x y z. marked b now f e z is x y) there op here
    mark_edit i now f e there op (begins c n own l is) = absurd (cc)
    mark_edit i now f e there op (exchanges c x r b own l here is) = absurd (cc)
    mark_edit i now f e there op (fails c x z b own l here is) = absurd (cc)

  -- ---- a mark of the framework

  module _ (done : IsDone s k) where
    abbrev idle : Line
    idle = line.Turn zero

    idle_lives : (o : Option ℕ) → lives_in (kept_after s idle k).history o ≡ lives_in k.history o
    idle_lives None = refl
    idle_lives (Some n) = refl

    pub idle_edit : (i : ℕ) (now : Begun) (f : ℕ) (e : Edit) → edit_of (operation_at s i now.index) ≡ Some (f, e) → Came s idle k i now → EditAt w (kept_after s idle k) i f e now.epoch now.editing
    idle_edit i now f e op (stays b here other is) = rested_now idle done (λ path. refl) idle_lives i b now f e here is op
    idle_edit i now f e op (marks c b own l here is) = absurd (cc)
    idle_edit i now f e op (begins c n own l is) = absurd (cc)
    idle_edit i now f e op (exchanges c x r b own l here is) = absurd (cc)
    idle_edit i now f e op (fails c x z b own l here is) = absurd (cc)

  -- ---- an operation begins

  module _ (a n : ℕ) (now_begins : BeginsNow s k a n) (start : Starts s k a n) where
    abbrev front : Line
    front = line.Begin a n

    front_lives : (o : Option ℕ) → lives_in (kept_after s front k).history o ≡ lives_in k.history o
    front_lives None = refl
    front_lives (Some m) = refl

    bare_now : IsBare (kept_after s front k).turn
    bare_now = let x = bare_of s earlier start.bare in record { stage = x.stage; came = x.came; unsent = x.unsent }

    begun_edit : (now : Begun) (f : ℕ) (e : Edit) → begun_of a (kept_after s front k).jobs ≡ Some now → edit_of (operation_at s a now.index) ≡ Some (f, e) → now ≡ begun_with (decision_at s front k).attempt (fresh_begun n k.history) → TurnEdit front a f e now
    begun_edit now f e there op is =
        let b : Begun = fresh_begun n k.history in
        let old : edit_of (operation_at s a n) ≡ Some (f, e) = ap (λ (x : Begun). edit_of (operation_at s a x.index)) (sym is) ∙ op in
        begins_here front a f e (edit_book s rules a n f e old) b now refl
        (begun_by front now_begins.done (λ path. refl) front_lives a b now f e refl old old (unplanned refl refl)
        (λ d actor h. let came = (bare_of s earlier start.bare).came in true≢false (sym h ∙ ap is_some came))
        start.turn bare_now refl refl (begin_lacks s k a n a) there is)

    pub front_edit : (i : ℕ) (now : Begun) (f : ℕ) (e : Edit) → begun_of i (kept_after s front k).jobs ≡ Some now → edit_of (operation_at s i now.index) ≡ Some (f, e) → Came s front k i now → TurnEdit front i f e now
    front_edit i now f e there op (stays b here other is) = record { edit = rested_now front now_begins.done (λ path. refl) front_lives i b now f e here is op; active = λ actor h. absurd (front_own other (sym start.turn ∙ actor)) }
      where
        front_own : (is_own i front ≡ false) ⊎ (front ≡ line.Turn zero) → Some a ≡ Some i → ⊥
        front_own (inl h) q = let same : a ≡ i = cc in true≢false (sym (eq-eqb a i same) ∙ h)
        front_own (inr h) q = absurd (cc)
    front_edit i now f e there op (begins c m own l is) =
        let z : line.Begin a n ≡ line.Begin c m = l in
        let same : a ≡ i = (let q : a ≡ c = cc in q) ∙ own in
        let index : n ≡ m = cc in
        subst (λ (j : ℕ). begun_of j (kept_after s front k).jobs ≡ Some now → edit_of (operation_at s j now.index) ≡ Some (f, e) → TurnEdit front j f e now) same
        (λ x y. begun_edit now f e x y (is ∙ ap (λ (j : ℕ). begun_with (decision_at s front k).attempt (fresh_begun j k.history)) (sym index))) there op
    front_edit i now f e there op (marks c b own l here is) = absurd (cc)
    front_edit i now f e there op (exchanges c x r b own l here is) = absurd (cc)
    front_edit i now f e there op (fails c x z b own l here is) = absurd (cc)
