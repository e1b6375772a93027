-- How far each edit is, over all lines.
use Rattle.std.proofs.Common.{◌≡◌, ◌⊎◌, inl, inr, ℕ, zero, suc, ◌+◌, ◌&&◌, not, Bool, true, false, if◌then◌else◌, Option, Some, None, is_some, List, [], ◌∷◌, refl, sym, ap, ◌∙◌, subst, true≢false}
use Rattle.std.proofs.lemmas.Bool.{and_parts, and_from, eq-eqb}
use Rattle.apdu.specs.Values.{CommandValue, ResponseValue}
use Rattle.apdu.specs.Apdu.{is_update_ins}
use Rattle.card_model.specs.declared.world.World.{World}
use Rattle.card_model.specs.declared.world.WorldEvent.{WorldEvent}
use Rattle.card_model.specs.declared.world.WorldEvent.TheVariants.{Arm, Out, Insert}
use Rattle.card_model.specs.Step.{step}
use Rattle.script_reader.specs.declared.types.Script.{Script}
use Rattle.script_reader.specs.Rules.{keeps_rules}
use Rattle.report.specs.declared.answer.Answer.{Answer}
use Rattle.report.specs.declared.line.Line.{Line}
use Rattle.report.specs.declared.line.Line.TheVariants as line
use Rattle.adn.specs.declared.edit.Edit.{Edit}
use Rattle.families.specs.Families.{family_path}
use Rattle.epoch_cache.specs.declared.past.Past.{Past}
use Rattle.rules.specs.Channels.{held_numbers}
use Rattle.editor.specs.declared.editing.Editing.{Editing}
use Rattle.editor.specs.Editing.{moved_editing}
use Rattle.rules.specs.declared.due.Due.{Due}
use Rattle.rules.specs.declared.due.Due.TheVariants.{TellEnd as tell_end, TryEvent as try_event, TellRefusal as tell_refusal, Publish as publish, Give as give}
use Rattle.rules.specs.declared.kept.Begun.{Begun}
use Rattle.rules.specs.declared.kept.Kept.{Kept}
use Rattle.rules.specs.declared.kept.Work.TheVariants.{Writes as writes}
use Rattle.rules.specs.History.{lives_in}
use Rattle.rules.specs.Kept.{begun_of, job_of, operation_at, operation_now, begun_operation, next_operation, actor_count}
use Rattle.rules.specs.After.{edit_of, begun_exchanged, facts_of, refused_of, jobs_beside, kept_after, kept_of}
use Rattle.rules.specs.Laws.{KeptAgrees, PlansForCard}
use Rattle.rules.specs.Due.{due_command, due}
use Rattle.rules.specs.Rules.{is_turn_of}
use Rattle.rules.specs.Performed.{ends_turn, is_published, is_refusal_told}
use Rattle.rules.specs.State.{world_of}
use Rattle.performed.specs.Names.{has_utf8_names}
use Rattle.performed.specs.Followed.{is_given_or_refused, is_tried, is_followed, are_followed}
use Rattle.performed.specs.Told.{is_told, are_told}
use Rattle.performed.proofs.CalmLines.{sends_of}
use Rattle.performed.proofs.CalmAnswers.{told_response}
use Rattle.performed.proofs.CalmSends.{never}
use Rattle.performed.proofs.EditsBegun.{near, Came, stays, marks, begins, exchanges, fails, came, keeps_begun, IsNear, near_of}
use Rattle.performed.proofs.EditsScript.{begins_alone, seen_alone}
use Rattle.performed.proofs.EditsSends.{Does, writes_row, selects_file, sends_still}
use Rattle.performed.proofs.EditsState.{files_in, is_over, IsFresh, EditAt, IsActive, Edited, edit_left}
use Rattle.performed.proofs.EditsSteps.{exchanged_same, select_came_to, update_over, updated_edit, now_there}
use Rattle.performed.proofs.EpochBegun.{first_begun}
use Rattle.performed.proofs.EpochFiles.{files_armed}
use Rattle.performed.proofs.EpochOver.{ended_over}
use Rattle.performed.proofs.EpochSince.{begun_past}
use Rattle.rules.specs.Rules.{has_right_response}
use Rattle.rules.specs.History.{is_epoch_border}
use Rattle.performed.proofs.ProgressBegins.{Starts, starts}
use Rattle.performed.proofs.TurnsJobs.{is_own}
use Rattle.performed.proofs.TurnsSays.{turn_done, BeginsNow, begins_now, says_of}
use Rattle.performed.proofs.EditsLines.{behind_command, Origin, was, newly, origin, Writer, writer_of, bare_of, turn_work}
use Rattle.performed.proofs.EditsState.{past}
use Rattle.std.specs.Prelude.{nat_le}
use Rattle.card_model.specs.Step.{after_event}
use Rattle.rules.specs.State.{world_after}
use Rattle.rules.specs.Rules.{is_begun_at}
use Rattle.rules.specs.Performed.{is_end_told}
use Rattle.rules.specs.Work.{is_finished}
use Rattle.performed.proofs.EditsTurns.{mark_edit, front_edit}
use Rattle.performed.proofs.EditsTurns as turns
use Rattle.performed.proofs.EditsKept.{Wrote, How, still, by_raw, by_edit, how, raw_edits, other_edit, idle_edit, own, own_actor, own_book, own_does, own_card, current}

module _ (agrees : KeptAgrees) (plans : PlansForCard) (s : Script) (rules : keeps_rules s ≡ true) (served : has_utf8_names s ≡ true) (earlier : List Line) (followed : are_followed s earlier ≡ true) (told : are_told s earlier ≡ true) (t : Edited s (world_of s earlier) (kept_of s earlier)) where
  abbrev k : Kept
  k = kept_of s earlier

  abbrev w : World
  w = world_of s earlier

  -- ---- one edit of a family at a time

  living_epoch : (h : Past) → is_some (if h.living then Some h.epoch else None) ≡ true → h.living ≡ true
  living_epoch h q = by_living h.living q
    where
      by_living : (b : Bool) → is_some (if b then Some h.epoch else None) ≡ true → b ≡ true
      by_living true z = refl
      by_living false z = never z

  -- an edit that begins is the only one of its family
  begun_alone : (a n f : ℕ) (d : Edit) → is_followed s k (line.Begin a n) ≡ true → edit_of (operation_at s a n) ≡ Some (f, d) → k.history.living ≡ true → (j : ℕ) (c : Begun) (e : Edit) → begun_of j k.jobs ≡ Some c → edit_of (operation_at s j c.index) ≡ Some (f, e) → ⊥
  begun_alone a n f d h op living j c e here other =
      let x : BeginsNow s k a n = begins_now s k a n h in
      let next : edit_of (next_operation s (suc x.begins.actor) k.jobs) ≡ Some (f, d) =
      ap edit_of (ap (operation_at s (suc x.begins.actor)) (sym x.begins.index)) ∙ ap (λ (m : ℕ). edit_of (operation_at s m n)) (sym x.same) ∙ op in
      seen_alone s k f (begins_alone s k f x.begins.actor d x.begins.free x.begins.waits living next) j c e here other

  module _ (l : Line) (h : is_followed s k l ≡ true) where
    alone_by : (i j : ℕ) (b c : Begun) (f : ℕ) (d e : Edit) → Origin s l k i b → Origin s l k j c → edit_of (operation_at s i b.index) ≡ Some (f, d) → edit_of (operation_at s j c.index) ≡ Some (f, e) → is_some b.epoch ≡ true → is_some c.epoch ≡ true → i ≡ j
    alone_by i j b c f d e (was x at n m) (was y to p q) x_op y_op x_some y_some =
        t.alone i j x y f d e at to (ap (λ (v : ℕ). edit_of (operation_at s i v)) (sym n) ∙ x_op) (ap (λ (v : ℕ). edit_of (operation_at s j v)) (sym p) ∙ y_op) (ap is_some (sym m) ∙ x_some) (ap is_some (sym q) ∙ y_some)
    alone_by i j b c f d e (newly a n own is index epoch) (newly a2 n2 own2 is2 index2 epoch2) x_op y_op x_some y_some =
        let z : line.Begin a n ≡ line.Begin a2 n2 = sym is ∙ is2 in
        let same : a ≡ a2 = cc in
        sym own ∙ same ∙ own2
    alone_by i j b c f d e (newly a n own is index epoch) (was y to p q) x_op y_op x_some y_some =
        absurd (begun_alone a n f d (subst (λ (x : Line). is_followed s k x ≡ true) is h)
        (ap (λ (v : ℕ). edit_of (operation_at s v n)) own ∙ ap (λ (v : ℕ). edit_of (operation_at s i v)) (sym index) ∙ x_op)
        (living_epoch k.history (ap is_some (sym epoch) ∙ x_some)) j y e to (ap (λ (v : ℕ). edit_of (operation_at s j v)) (sym p) ∙ y_op))
    alone_by i j b c f d e (was x at n m) (newly a n2 own is index epoch) x_op y_op x_some y_some =
        absurd (begun_alone a n2 f e (subst (λ (x : Line). is_followed s k x ≡ true) is h)
        (ap (λ (v : ℕ). edit_of (operation_at s v n2)) own ∙ ap (λ (v : ℕ). edit_of (operation_at s j v)) (sym index) ∙ y_op)
        (living_epoch k.history (ap is_some (sym epoch) ∙ y_some)) i x d at (ap (λ (v : ℕ). edit_of (operation_at s i v)) (sym n) ∙ x_op))

    alone_now : (i j : ℕ) (b c : Begun) (f : ℕ) (d e : Edit) → begun_of i (kept_after s l k).jobs ≡ Some b → begun_of j (kept_after s l k).jobs ≡ Some c → edit_of (operation_at s i b.index) ≡ Some (f, d) → edit_of (operation_at s j c.index) ≡ Some (f, e) → is_some b.epoch ≡ true → is_some c.epoch ≡ true → i ≡ j
    alone_now i j b c f d e at to = alone_by i j b c f d e (origin s l k i b (came s l k i b at)) (origin s l k j c (came s l k j c to))

  -- ---- a mark, and the line that begins an operation

  mark_edited : (a : ℕ) → is_followed s k (line.Turn a) ≡ true → Edited s w (kept_after s (line.Turn a) k)
  mark_edited zero h =
      let l : Line = line.Turn zero in
      let done = turn_done s k (and_parts (ends_turn (due s k)) (not (is_finished s k)) (and_parts (ends_turn (due s k) && not (is_finished s k)) (nat_le 0 (actor_count s)) h).0).0 in
      record {
        edits = λ i b f e here op. turns.idle_edit agrees plans s rules served earlier followed told t done i b f e op (came s l k i b here);
        active = λ work goes. absurd (no_writer (writer_of s (kept_after s l k) (sends_of s (line.Turn zero ∷ earlier) served (and_from (are_followed s earlier) (is_followed s k (line.Turn zero)) followed h)) work refl));
        alone = alone_now l h;
      }
    where
      no_writer : Writer s (kept_after s (line.Turn zero) k) → ⊥
      no_writer x = let same : zero ≡ x.who = (let z : Some zero ≡ Some x.who = x.actor in cc) in
          absurd (let q : edit_of (operation_at s zero x.begun.index) ≡ Some (x.family, x.edit) = ap (λ (n : ℕ). edit_of (operation_at s n x.begun.index)) same ∙ x.op in cc)
  mark_edited (suc a) h =
      let l : Line = line.Turn (suc a) in
      let done = turn_done s k (and_parts (ends_turn (due s k)) (not (is_finished s k)) (and_parts (ends_turn (due s k) && not (is_finished s k)) (nat_le (suc a) (actor_count s)) h).0).0 in
      record {
        edits = λ i b f e here op. (mark_edit agrees plans s rules served earlier followed told t a done i b f e here op (came s l k i b here)).edit;
        active = λ work goes. let x = writer_of s (kept_after s l k) (sends_of s (line.Turn (suc a) ∷ earlier) served (and_from (are_followed s earlier) (is_followed s k (line.Turn (suc a))) followed h)) work refl in
            (mark_edit agrees plans s rules served earlier followed told t a done x.who x.begun x.family x.edit x.here x.op (came s l k x.who x.begun x.here)).active x.actor work;
        alone = alone_now l h;
      }

  begin_edited : (a n : ℕ) → is_followed s k (line.Begin a n) ≡ true → Edited s w (kept_after s (line.Begin a n) k)
  begin_edited a n h =
      let l : Line = line.Begin a n in
      let x : BeginsNow s k a n = begins_now s k a n h in
      let start : Starts s k a n = starts s k n a h in
      record {
        edits = λ i b f e here edits. (front_edit agrees plans s rules served earlier followed told t a n x start i b f e here edits (came s l k i b here)).edit;
        active = λ work goes. let y = writer_of s (kept_after s l k) (sends_of s (line.Begin a n ∷ earlier) served (and_from (are_followed s earlier) (is_followed s k (line.Begin a n)) followed h)) work (bare_of s earlier start.bare).stage in
            (front_edit agrees plans s rules served earlier followed told t a n x start y.who y.begun y.family y.edit y.here y.op (came s l k y.who y.begun y.here)).active y.actor work;
        alone = alone_now l h;
      }

  -- ---- an exchange

  module _ (a : ℕ) (c : CommandValue) (r : ResponseValue) (h : is_followed s k (line.Exchange a c r) ≡ true) (q : has_right_response w (line.Exchange a c r) ≡ true) where
    abbrev l : Line
    l = line.Exchange a c r

    abbrev new : Kept
    new = kept_after s l k

    abbrev v : World
    v = (step w c).0

    abbrev now_of : IsActive s w k → ℕ → Begun
    now_of o n = begun_exchanged (edit_of (operation_now s n k.jobs)) k.selected k.chain (k.history.events + 1) c r (near s (line.Exchange n c r) k o.begun)

    -- the edit whose update it is
    wrote_edit : (x : Wrote agrees s rules served earlier followed told t a c r h q) (i : ℕ) (b : Begun) (f : ℕ) (e : Edit) → a ≡ i → begun_of i new.jobs ≡ Some b → edit_of (operation_at s i b.index) ≡ Some (f, e) → EditAt v new i f e b.epoch b.editing
    wrote_edit x i b f e mine here op =
        let o = own agrees s rules served earlier followed told t a c r h q x.work in
        let who : o.who ≡ a = own_actor agrees s rules served earlier followed told t a c r h q x.work in
        let at = updated_edit s w k x.work o (own_book agrees s rules served earlier followed told t a c r h q x.work) c r (own_card agrees s rules served earlier followed told t a c r h q x.work) x.is x.selected x.chain (current agrees s rules served earlier followed told t a c r h q (own_card agrees s rules served earlier followed told t a c r h q x.work) (family_path o.family o.write.update.file) x.selected) in
        let there = now_there s w k x.work o (own_book agrees s rules served earlier followed told t a c r h q x.work) c r (own_card agrees s rules served earlier followed told t a c r h q x.work) in
        by_who o who at there
      where
        by_begun : (n m : Begun) → Some n ≡ Some m → n ≡ m
        by_begun n m z = cc

        by_pair : (p q : ℕ × Edit) → Some p ≡ Some q → p ≡ q
        by_pair p q z = cc

        by_who : (o : IsActive s w k) → o.who ≡ a → EditAt v (kept_after s (line.Exchange o.who c r) k) o.who o.family o.edit o.begun.epoch (now_of o o.who).editing → begun_of o.who (kept_after s (line.Exchange o.who c r) k).jobs ≡ Some (now_of o o.who) → EditAt v new i f e b.epoch b.editing
        by_who o who at there =
            let at_a = subst (λ (n : ℕ). EditAt v (kept_after s (line.Exchange n c r) k) n o.family o.edit o.begun.epoch (now_of o n).editing) who at in
            let there_a = subst (λ (n : ℕ). begun_of n (kept_after s (line.Exchange n c r) k).jobs ≡ Some (now_of o n)) who there in
            let same : now_of o a ≡ b = by_begun (now_of o a) b (sym there_a ∙ subst (λ (n : ℕ). begun_of n new.jobs ≡ Some b) (sym mine) here) in
            let pair = by_pair (o.family, o.edit) (f, e)
            (sym (subst (λ (n : ℕ). edit_of (operation_at s n o.begun.index) ≡ Some (o.family, o.edit)) who o.op)
            ∙ ap (λ (x : Begun). edit_of (operation_at s a x.index)) same
            ∙ subst (λ (n : ℕ). edit_of (operation_at s n b.index) ≡ Some (f, e)) (sym mine) op) in
            subst (λ (n : ℕ). EditAt v new n f e b.epoch b.editing) mine
            (subst (λ (p : ℕ × Edit). EditAt v new a p.0 p.1 b.epoch b.editing) pair
            (subst (λ (x : Begun). EditAt v new a o.family o.edit x.epoch x.editing) same at_a))

    exchange_edit : (i : ℕ) (b : Begun) (f : ℕ) (e : Edit) → begun_of i new.jobs ≡ Some b → edit_of (operation_at s i b.index) ≡ Some (f, e) → Came s l k i b → EditAt v new i f e b.epoch b.editing
    exchange_edit i b f e here op (stays b0 there other is) = by_other other
      where
        old : edit_of (operation_at s i b0.index) ≡ Some (f, e)
        old = ap (λ (x : Begun). edit_of (operation_at s i x.index)) (sym is) ∙ op

        not_own : is_own i l ≡ false → i ≡ a → ⊥
        not_own n same = true≢false (sym (eq-eqb a i (sym same)) ∙ n)

        by_other : (is_own i l ≡ false) ⊎ (l ≡ line.Turn zero) → EditAt v new i f e b.epoch b.editing
        by_other (inl n) = subst (λ (x : Begun). EditAt v new i f e x.epoch x.editing) (sym is) (other_edit agrees s rules served earlier followed told t a c r h q i b0 f e there old (not_own n) (t.edits i b0 f e there old))
        by_other (inr n) = absurd (cc)
    exchange_edit i b f e here op (exchanges a2 c2 r2 b0 mine2 l2 there is) = by_how (how agrees s rules served earlier followed told t a c r h q)
      where
        mine : a ≡ i
        mine = (let z : a ≡ a2 = cc in z) ∙ mine2

        same_command : c ≡ c2
        same_command = cc

        old : edit_of (operation_at s i b0.index) ≡ Some (f, e)
        old = ap (λ (x : Begun). edit_of (operation_at s i x.index)) (sym is) ∙ op

        still_one : is_update_ins c.ins ≡ false → EditAt v new i f e b.epoch b.editing
        still_one idle =
            let moved : b.editing ≡ moved_editing (facts_of s l k).touch b0.editing =
            ap (λ (x : Begun). x.editing) is
            ∙ exchanged_same (edit_of (operation_now s a2 k.jobs)) k.selected k.chain (k.history.events + 1) c2 r2 (moved_editing (facts_of s l k).touch b0.editing) (ap (λ (d : CommandValue). is_update_ins d.ins) (sym same_command) ∙ idle) in
            subst (λ (x : Editing). EditAt v new i f e b.epoch x) (sym moved)
            (subst (λ (o : Option ℕ). EditAt v new i f e o (moved_editing (facts_of s l k).touch b0.editing)) (sym (ap (λ (x : Begun). x.epoch) is))
            (idle_edit agrees s rules served earlier followed told t a c r h q i b0 f e there old (sym mine) idle (t.edits i b0 f e there old)))

        by_how : How agrees s rules served earlier followed told t a c r h q → EditAt v new i f e b.epoch b.editing
        by_how (still idle) = still_one idle
        by_how (by_raw raw) = absurd (raw_edits (operation_now s a k.jobs) f e raw (ap edit_of (ap (λ (n : ℕ). operation_now s n k.jobs) mine ∙ ap (begun_operation s i) there) ∙ old))
        by_how (by_edit x) = wrote_edit x i b f e mine here op
    exchange_edit i b f e here op (marks a2 b0 own l2 there is) = absurd (cc)
    exchange_edit i b f e here op (begins a2 n own l2 is) = absurd (cc)
    exchange_edit i b f e here op (fails a2 c2 d b0 own l2 there is) = absurd (cc)

    exchange_active : new.turn.work ≡ writes → is_over new.turn.stage ≡ false → IsActive s v new
    exchange_active work goes = by_does (own_does agrees s rules served earlier followed told t a c r h q before)
      where
        before : k.turn.work ≡ writes
        before = sym (turn_work (operation_now s a k.jobs) (job_of a new.jobs) (held_numbers k.history k.handles) (facts_of s l k) (refused_of k.selected (jobs_beside l k.history.epoch (facts_of s l k) k.selected k.jobs) (facts_of s l k).answered) k.turn (facts_of s l k).answered) ∙ work

        who : (own agrees s rules served earlier followed told t a c r h q before).who ≡ a
        who = own_actor agrees s rules served earlier followed told t a c r h q before

        is_open : (b : Bool) → is_over new.turn.stage ≡ b → b ≡ true → ⊥
        is_open b x y = true≢false (sym y ∙ sym x ∙ goes)

        by_does : Does s w k before (own agrees s rules served earlier followed told t a c r h q before) c → IsActive s v new
        by_does (writes_row is selected chain) = absurd (is_open true (subst (λ (n : ℕ). is_over (kept_after s (line.Exchange n c r) k).turn.stage ≡ true) who (update_over s w k before (own agrees s rules served earlier followed told t a c r h q before) (own_book agrees s rules served earlier followed told t a c r h q before) c r (own_card agrees s rules served earlier followed told t a c r h q before) is selected chain)) refl)
        by_does (selects_file first x waits stage) = by_came (subst (λ (n : ℕ). IsActive s v (kept_after s (line.Exchange n c r) k) ⊎ ((is_over (kept_after s (line.Exchange n c r) k).turn.stage ≡ true) × (is_some (kept_after s (line.Exchange n c r) k).turn.outcome ≡ true))) who
            (select_came_to s w k before (own agrees s rules served earlier followed told t a c r h q before) (own_book agrees s rules served earlier followed told t a c r h q before) c r (own_card agrees s rules served earlier followed told t a c r h q before) first x waits stage))
          where
            by_came : IsActive s v new ⊎ ((is_over new.turn.stage ≡ true) × (is_some new.turn.outcome ≡ true)) → IsActive s v new
            by_came (inl z) = z
            by_came (inr z) = absurd (is_open true z.0 refl)

    exchange_edited : Edited s v new
    exchange_edited = record {
      edits = λ i b f e here op. exchange_edit i b f e here op (came s l k i b here);
      active = exchange_active;
      alone = alone_now l h;
    }

  -- ---- a line between two epochs

  border_edited : (l : Line) (v : World) → is_epoch_border l ≡ true → is_followed s k l ≡ true → is_over (kept_after s l k).turn.stage ≡ true → Edited s v (kept_after s l k)
  border_edited l v border h ends = record {
    edits = λ i b f e here op. past (begun_past s earlier l border i b here);
    active = λ work goes. absurd (true≢false (sym ends ∙ goes));
    alone = alone_now l h;
  }

  -- ---- a line that moves nothing, and sends nothing

  module _ (l : Line) (v : World) (h : is_followed s k l ≡ true) (silent : (i : ℕ) → IsFresh k.turn i → ⊥) (files : (f : ℕ) → files_in v f ≡ files_in w f) (lives : (o : Option ℕ) → lives_in k.history o ≡ true → lives_in (kept_after s l k).history o ≡ true) (actor : (kept_after s l k).turn.actor ≡ k.turn.actor) (outcome : (kept_after s l k).turn.outcome ≡ k.turn.outcome) where
    silent_edit : (i : ℕ) (b : Begun) (f : ℕ) (e : Edit) → begun_of i k.jobs ≡ Some b → edit_of (operation_at s i b.index) ≡ Some (f, e) → EditAt v (kept_after s l k) i f e b.epoch (moved_editing (facts_of s l k).touch b.editing)
    silent_edit i b f e here op = edit_left s l w v k i f e (record {
      files = λ more m. files f;
      lives = lives;
      refused = λ own came. (actor ∙ own, ap is_some outcome ∙ came);
    }) b.epoch b.editing (λ g x n fr. absurd (silent i fr)) (t.edits i b f e here op)

    silent_now : (i : ℕ) (b : Begun) (f : ℕ) (e : Edit) → edit_of (operation_at s i b.index) ≡ Some (f, e) → IsNear s l k i b → EditAt v (kept_after s l k) i f e b.epoch b.editing
    silent_now i b f e op x = subst (λ (y : Begun). EditAt v (kept_after s l k) i f e y.epoch y.editing) (sym x.is) (silent_edit i x.old f e x.here (ap (λ (y : Begun). edit_of (operation_at s i y.index)) (sym x.is) ∙ op))

    silent_edited : keeps_begun l ≡ true → (((kept_after s l k).turn.work ≡ writes → is_over (kept_after s l k).turn.stage ≡ false → ⊥)) → Edited s v (kept_after s l k)
    silent_edited kept none = record {
      edits = λ i b f e here op. silent_now i b f e op (near_of s l k i b kept (came s l k i b here));
      active = λ work goes. absurd (none work goes);
      alone = alone_now l h;
    }

  -- ---- every line

  -- no command is due
  unsent_fresh : due_command k ≡ None → k.turn.work ≡ writes → is_over k.turn.stage ≡ false → ⊥
  unsent_fresh none work goes = true≢false (sym (sends_still s w k work (t.active work goes)) ∙ ap is_some none)

  -- the end of an epoch is to be told
  ending_over : (o : Option (ℕ × ℕ)) → k.turn.ended ≡ o → is_some o ≡ true → is_over k.turn.stage ≡ true
  ending_over o e some = ended_over s earlier followed (ap is_some e ∙ some)

  published_silent : (n f e v : ℕ) (text : List ℕ) (d : Due) → due s k ≡ d → is_published k n f e v text d ≡ true → due_command k ≡ None
  published_silent n f e v text (publish g) is h = behind_command s k (publish g) is refl
  published_silent n f e v text d is h = never h

  given_silent : (given : Answer) (d : Due) → due s k ≡ d → is_given_or_refused given d ≡ true → due_command k ≡ None
  given_silent given (give x) is h = behind_command s k (give x) is refl
  given_silent given (try_event x) is h = behind_command s k (try_event x) is refl
  given_silent given d is h = never h

  tried_silent : (e : WorldEvent) (d : Due) → due s k ≡ d → is_tried e d ≡ true → due_command k ≡ None
  tried_silent e (try_event x) is h = behind_command s k (try_event x) is refl
  tried_silent e d is h = never h

  told_silent : (f n : ℕ) (d : Due) → due s k ≡ d → is_refusal_told f n d ≡ true → due_command k ≡ None
  told_silent f n (tell_refusal g m) is h = behind_command s k (tell_refusal g m) is refl
  told_silent f n d is h = never h

  end_over : (n e v : ℕ) (d : Due) → due s k ≡ d → is_end_told k n e v d ≡ true → is_over k.turn.stage ≡ true
  end_over n e v (tell_end x y) is h = ending_over (Some (x, y)) (says_of s k (tell_end x y) is) refl
  end_over n e v d is h = never h

  world_edited : (a : ℕ) (e : WorldEvent) → is_followed s k (line.World a e) ≡ true → Edited s (after_event w e) (kept_after s (line.World a e) k)
  world_edited a Out h = border_edited (line.World a Out) (after_event w Out) refl h refl
  world_edited a (Insert j) h = border_edited (line.World a (Insert j)) (after_event w (Insert j)) refl h refl
  world_edited a (Arm i) h =
      let silent = tried_silent (Arm i) (due s k) refl (and_parts (is_turn_of a k.turn) (is_tried (Arm i) (due s k)) h).1 in
      silent_edited (line.World a (Arm i)) (after_event w (Arm i)) h (λ i z. unsent_fresh silent z.work z.goes) (files_armed w i) (λ o z. z) refl refl refl (λ work goes. true≢false goes)

  line_edited : (l : Line) → is_followed s k l ≡ true → is_told s w k l ≡ true → Edited s (world_after l w) (kept_after s l k)
  line_edited (line.Turn a) h q = mark_edited a h
  line_edited (line.Begin a n) h q = begin_edited a n h
  line_edited (line.Exchange a c r) h q = exchange_edited a c r h (told_response s w k (line.Exchange a c r) q)
  line_edited (line.Failed a c d) h q = border_edited (line.Failed a c d) (world_after (line.Failed a c d) w) refl h refl
  line_edited (line.Reset a) h q = border_edited (line.Reset a) (world_after (line.Reset a) w) refl h refl
  line_edited (line.ResetFailed a) h q = border_edited (line.ResetFailed a) (world_after (line.ResetFailed a) w) refl h refl
  line_edited (line.World a e) h q = world_edited a e h
  line_edited (line.EpochEnd n e v) h q =
      let ends = end_over n e v (due s k) refl h in
      silent_edited (line.EpochEnd n e v) w h (λ i z. true≢false (sym ends ∙ z.goes)) (λ f. refl) (λ o z. z) refl refl refl (λ work goes. true≢false (sym ends ∙ goes))
  line_edited (line.Published n f e v text) h q =
      let silent = published_silent n f e v text (due s k) refl h in
      silent_edited (line.Published n f e v text) w h (λ i z. unsent_fresh silent z.work z.goes) (λ g. refl) (λ o z. z) refl refl refl (λ work goes. true≢false goes)
  line_edited (line.Answered a i given) h q =
      let silent = given_silent given (due s k) refl (and_parts (is_begun_at i (begun_of a k.jobs)) (is_given_or_refused given (due s k)) (and_parts (is_turn_of a k.turn) (is_begun_at i (begun_of a k.jobs) && is_given_or_refused given (due s k)) h).1).1 in
      silent_edited (line.Answered a i given) w h (λ i z. unsent_fresh silent z.work z.goes) (λ g. refl) (λ o z. z) refl refl refl (λ work goes. true≢false goes)
  line_edited (line.Refused f n) h q =
      let silent = told_silent f n (due s k) refl (and_parts (is_turn_of 0 k.turn) (is_refusal_told f n (due s k)) h).1 in
      silent_edited (line.Refused f n) w h (λ i z. unsent_fresh silent z.work z.goes) (λ g. refl) (λ o z. z) refl refl refl (unsent_fresh silent)

none_first : (s : Script) (i : ℕ) (b : Begun) → begun_of i (kept_of s []).jobs ≡ Some b → ⊥
none_first s i b h = let n = first_begun (actor_count s + 1) i in let q : Some b ≡ None = sym h ∙ n in cc

-- behind lines that are due and show what a card gave, each edit is as far as its plan says
pub edited_of : KeptAgrees → PlansForCard → (s : Script) (lines : List Line) → keeps_rules s ≡ true → has_utf8_names s ≡ true → are_followed s lines ≡ true → are_told s lines ≡ true → Edited s (world_of s lines) (kept_of s lines)
edited_of agrees plans s [] rules served followed told = record {
  edits = λ i b f e h op. absurd (none_first s i b h);
  active = λ work goes. absurd (true≢false goes);
  alone = λ i j b c f d e h g x y p q. absurd (none_first s i b h);
}
edited_of agrees plans s (l ∷ earlier) rules served followed told =
    let p = and_parts (are_followed s earlier) (is_followed s (kept_of s earlier) l) followed in
    let q = and_parts (are_told s earlier) (is_told s (world_of s earlier) (kept_of s earlier) l) told in
    line_edited agrees plans s rules served earlier p.0 q.0 (edited_of agrees plans s earlier rules served p.0 q.0) l p.1 q.1
