-- The turn of an edit that publishes is one at whose mark nothing of the edit was left to send, and so it stays.
use Rattle.std.proofs.Common.{◌≡◌, ◌⊎◌, inl, inr, ℕ, zero, suc, ◌+◌, ◌&&◌, not, Bool, true, false, if◌then◌else◌, Option, Some, None, is_some, List, [], ◌∷◌, refl, sym, ap, ◌∙◌, subst, true≢false}
use Rattle.std.specs.Prelude.{is_none}
use Rattle.std.proofs.lemmas.Bool.{and_parts, and_from, eq-eqb}
use Rattle.apdu.specs.Values.{CommandValue, ResponseValue}
use Rattle.apdu.specs.Apdu.{is_update_ins}
use Rattle.card_model.specs.declared.world.World.{World}
use Rattle.card_model.specs.declared.world.WorldEvent.{WorldEvent}
use Rattle.card_model.specs.declared.world.WorldEvent.TheVariants.{Arm, Out, Insert}
use Rattle.script_reader.specs.declared.types.Script.{Script}
use Rattle.script_reader.specs.declared.types.Operation.{Operation}
use Rattle.script_reader.specs.Rules.{keeps_rules}
use Rattle.report.specs.declared.line.Line.{Line}
use Rattle.report.specs.declared.line.Line.TheVariants as line
use Rattle.adn.specs.declared.edit.Edit.{Edit}
use Rattle.adn.specs.declared.edit.RowUpdate.{RowUpdate}
use Rattle.epoch_cache.specs.declared.cached.Touch.{Touch}
use Rattle.editor.specs.declared.editing.Attempt.{Attempt}
use Rattle.editor.specs.declared.editing.Decided.{Decided}
use Rattle.editor.specs.declared.editing.Editing.{Editing}
use Rattle.editor.specs.Editing.{moved_editing, attempt_behind, next_update, owed_of, with_attempt}
use Rattle.rules.specs.declared.kept.Begun.{Begun}
use Rattle.rules.specs.declared.kept.Kept.{Kept}
use Rattle.rules.specs.History.{is_epoch_border, lives_in}
use Rattle.rules.specs.Kept.{begun_of, job_of, operation_at, operation_now, begun_operation}
use Rattle.rules.specs.Channels.{held_numbers}
use Rattle.rules.specs.Editing.{family_edit}
use Rattle.rules.specs.Work.{is_edit_over, family_of_operation, decides, edit_work}
use Rattle.rules.specs.After.{edit_of, begun_with, fresh_begun, decision_at, decision_of_begun, facts_of, family_of_begun, jobs_beside, refused_of, kept_after, kept_of}
use Rattle.rules.specs.Laws.{KeptAgrees, PlansForCard}
use Rattle.rules.specs.State.{world_of}
use Rattle.epoch_cache.specs.declared.past.Past.{Past}
use Rattle.rules.specs.declared.kept.Decision.{Decision}
use Rattle.rules.specs.declared.kept.Work.TheVariants.{Rests as rests}
use Rattle.rules.specs.History.{history_after}
use Rattle.rules.specs.After.{begun_exchanged}
use Rattle.rules.specs.Due.{due}
use Rattle.rules.specs.Performed.{is_sent}
use Rattle.rules.specs.Rules.{is_turn_of, has_right_response}
use Rattle.performed.proofs.EditsScript.{Edits, sets, clears, edits_by}
use Rattle.performed.specs.Names.{has_utf8_names}
use Rattle.performed.specs.Followed.{is_followed, are_followed}
use Rattle.performed.specs.Told.{is_told, are_told}
use Rattle.performed.proofs.CalmBehind.{actor_is}
use Rattle.performed.proofs.CalmLines.{exchanged_actor}
use Rattle.performed.proofs.CalmAnswers.{told_response}
use Rattle.performed.proofs.CalmSends.{never}
use Rattle.performed.proofs.EditsBegun.{near, Came, stays, marks, begins, exchanges, fails, came, keeps_begun, near_of}
use Rattle.performed.proofs.EditsKept.{How, still, by_raw, by_edit, how, raw_edits, own, own_actor}
use Rattle.performed.proofs.EditsLines.{decides_edit}
use Rattle.performed.proofs.EditsState.{Edited, owed_moved, next_is}
use Rattle.performed.proofs.EditsSteps.{exchanged_same}
use Rattle.performed.proofs.EditsWhole.{edited_of}
use Rattle.performed.proofs.EpochPast.{past_dead}
use Rattle.performed.proofs.EpochSince.{begun_past}
use Rattle.performed.proofs.TurnsJobs.{is_own}
use Rattle.performed.proofs.TurnsPhase.{some_number}
use Rattle.performed.proofs.TurnsSays.{begins_now}
use Rattle.performed.proofs.WantedFamilies.{exchanged_family}

-- in the turn of an edit that publishes
abbrev pub TurnOver : Script → Kept → Type 0
TurnOver s k = (i : ℕ) (b : Begun) (f : ℕ) (e : Edit) → k.turn.actor ≡ Some i → is_some k.turn.family ≡ true → begun_of i k.jobs ≡ Some b → edit_of (operation_at s i b.index) ≡ Some (f, e) → lives_in k.history b.epoch ≡ true → is_edit_over b.editing ≡ true

pub begun_same : (b c : Begun) → Some b ≡ Some c → b ≡ c
begun_same b c h = cc

none_is : (o : Option RowUpdate) → is_none o ≡ true → o ≡ None
none_is None h = refl
none_is (Some u) h = never h

-- what another does leaves it so
over_moved : (t : Touch) (e : Editing) → is_edit_over e ≡ true → is_edit_over (moved_editing t e) ≡ true
over_moved t e h =
    let p = and_parts (is_some e.decided) (is_none (owed_of true e.attempt)) h in
    and_from (is_some e.decided) (is_none (owed_of true (attempt_behind t e.decided e.attempt))) p.0 (ap is_none (owed_moved t e.decided e.attempt p.0 (none_is (owed_of true e.attempt) p.1)))

-- nothing of one that is over is to be sent
pub over_sent : (e : Editing) (a : Attempt) (u : RowUpdate) → is_edit_over e ≡ true → e.attempt ≡ Some a → a.moved ≡ false → next_update a ≡ Some u → ⊥
over_sent e a u h at unmoved next =
    let p = and_parts (is_some e.decided) (is_none (owed_of true e.attempt)) h in
    let owed : owed_of true e.attempt ≡ Some u = ap (owed_of true) at ∙ ap (λ (b : Bool). if true && not b then next_update a else None) unmoved ∙ next in
    true≢false (sym p.1 ∙ ap is_none owed)

-- ---- the family of a turn

over_if : (b : Bool) (f : ℕ) → is_some (if b then Some f else None) ≡ true → b ≡ true
over_if true f h = refl
over_if false f h = never h

family_over : (b : Begun) (op : Operation) (f : ℕ) (e : Edit) → family_edit op ≡ Some (f, e) → Edits op f e → is_some (family_of_operation b op) ≡ true → is_edit_over b.editing ≡ true
family_over b op f e h (sets at name number is) some = over_if (is_edit_over b.editing) f (subst (λ (x : Operation). is_some (family_of_operation b x) ≡ true) is some)
family_over b op f e h (clears at is) some = over_if (is_edit_over b.editing) f (subst (λ (x : Operation). is_some (family_of_operation b x) ≡ true) is some)

pub begun_over : (k : Kept) (b : Begun) (o : Option Operation) (f : ℕ) (e : Edit) → edit_of o ≡ Some (f, e) → is_some (family_of_begun k (Some b) o) ≡ true → is_edit_over b.editing ≡ true
begun_over k b None f e h some = never some
begun_over k b (Some op) f e h some = by_lives (lives_in k.history b.epoch) some
  where
    by_lives : (x : Bool) → is_some (if x then family_of_operation b op else None) ≡ true → is_edit_over b.editing ≡ true
    by_lives true q = family_over b op f e h (edits_by op f e h) q
    by_lives false q = never q

-- a decided edit plans nothing
decided_plans : (k : Kept) (a f : ℕ) (e : Edit) (b : Begun) → is_some b.editing.decided ≡ true → (x : Bool) → (elim x as (λ y. Option Attempt) [ true ↦ (edit_work k a f e b.editing).attempt | false ↦ None ]) ≡ None
decided_plans k a f e b d false = refl
decided_plans k a f e b d true = by_decided b.editing.decided refl d
  where
    by_decided : (o : Option Decided) → b.editing.decided ≡ o → is_some o ≡ true → (edit_work k a f e b.editing).attempt ≡ None
    by_decided None z q = never q
    by_decided (Some y) z q = rw z refl

plans_none : (k : Kept) (a : ℕ) (b : Begun) (o : Option Operation) (f : ℕ) (e : Edit) → edit_of o ≡ Some (f, e) → is_some b.editing.decided ≡ true → (decision_of_begun k a (Some b) o).attempt ≡ None
plans_none k a b o f e h d = ap (λ (x : Decision). x.attempt) (decides_edit k a b o f e h) ∙ by_lives (lives_in k.history b.epoch)
  where
    by_lives : (x : Bool) → (elim x as (λ y. Decision) [ true ↦ edit_work k a f e b.editing | false ↦ decides rests ]).attempt ≡ None
    by_lives false = refl
    by_lives true = decided_plans k a f e b d true

-- ---- a line

module _ (agrees : KeptAgrees) (s : Script) (rules : keeps_rules s ≡ true) (served : has_utf8_names s ≡ true) (earlier : List Line) (followed : are_followed s earlier ≡ true) (told : are_told s earlier ≡ true) (t : Edited s (world_of s earlier) (kept_of s earlier)) (before : TurnOver s (kept_of s earlier)) where
  abbrev k : Kept
  k = kept_of s earlier

  abbrev w : World
  w = world_of s earlier

  marked_over : (a : ℕ) → TurnOver s (kept_after s (line.Turn a) k)
  marked_over zero i b f e actor some here op lives = absurd (let none : edit_of (operation_at s 0 b.index) ≡ Some (f, e) = ap (λ (n : ℕ). edit_of (operation_at s n b.index)) (some_number 0 i actor) ∙ op in cc)
  marked_over (suc a) i b f e actor some here op lives = by_came (came s (line.Turn (suc a)) k i b here)
    where
      is : suc a ≡ i
      is = some_number (suc a) i actor

      other : (is_own i (line.Turn (suc a)) ≡ false) ⊎ ((line.Turn (suc a)) ≡ line.Turn zero) → ⊥
      other (inl z) = true≢false (sym (eq-eqb (suc a) i is) ∙ z)
      other (inr z) = absurd (cc)

      by_old : (b0 : Begun) → begun_of i k.jobs ≡ Some b0 → b ≡ begun_with (decision_at s (line.Turn (suc a)) k).attempt (near s (line.Turn (suc a)) k b0) → is_edit_over b.editing ≡ true
      by_old b0 there become =
          let at : begun_of (suc a) k.jobs ≡ Some b0 = ap (λ (n : ℕ). begun_of n k.jobs) is ∙ there in
          let edits : edit_of (operation_at s (suc a) b0.index) ≡ Some (f, e) = ap (λ (n : ℕ). edit_of (operation_at s n b0.index)) is ∙ ap (λ (x : Begun). edit_of (operation_at s i x.index)) (sym become) ∙ op in
          let decision : decision_at s (line.Turn (suc a)) k ≡ decision_of_begun k (suc a) (Some b0) (operation_at s (suc a) b0.index) = ap (λ (o : Option Begun). decision_of_begun k (suc a) o (begun_operation s (suc a) o)) at in
          let was : is_edit_over b0.editing ≡ true = begun_over k b0 (operation_at s (suc a) b0.index) f e edits (sym (ap (λ (o : Option Begun). is_some (family_of_begun k o (begun_operation s (suc a) o))) at) ∙ some) in
          let decided : is_some b0.editing.decided ≡ true = (and_parts (is_some b0.editing.decided) (is_none (owed_of true b0.editing.attempt)) was).0 in
          let none : (decision_at s (line.Turn (suc a)) k).attempt ≡ None = ap (λ (x : Decision). x.attempt) decision ∙ plans_none k (suc a) b0 (operation_at s (suc a) b0.index) f e edits decided in
          let editing : b.editing ≡ moved_editing (facts_of s (line.Turn (suc a)) k).touch b0.editing = ap (λ (x : Begun). x.editing) become ∙ ap (λ (o : Option Attempt). with_attempt o (moved_editing (facts_of s (line.Turn (suc a)) k).touch b0.editing)) none in
          ap is_edit_over editing ∙ over_moved (facts_of s (line.Turn (suc a)) k).touch b0.editing was

      by_came : Came s (line.Turn (suc a)) k i b → is_edit_over b.editing ≡ true
      by_came (stays b0 there z become) = absurd (other z)
      by_came (marks a0 b0 mine q there become) = by_old b0 there become
      by_came (begins a0 n0 mine q become) = absurd (cc)
      by_came (exchanges a0 c0 r0 b0 mine q there become) = absurd (cc)
      by_came (fails a0 c0 d0 b0 mine q there become) = absurd (cc)

  begun_undecided : (a n : ℕ) → is_followed s k (line.Begin a n) ≡ true → TurnOver s (kept_after s (line.Begin a n) k)
  begun_undecided a n h i b f e actor some here op lives = by_came (came s (line.Begin a n) k i b here)
    where
      is : a ≡ i
      is = let x = begins_now s k a n h in x.same ∙ some_number (suc x.begins.actor) i (sym x.begins.turn ∙ actor)

      other : (is_own i (line.Begin a n) ≡ false) ⊎ ((line.Begin a n) ≡ line.Turn zero) → ⊥
      other (inl z) = true≢false (sym (eq-eqb a i is) ∙ z)
      other (inr z) = absurd (cc)

      by_came : Came s (line.Begin a n) k i b → is_edit_over b.editing ≡ true
      by_came (stays b0 there z become) = absurd (other z)
      by_came (begins a0 n0 mine q become) =
          let number : n ≡ n0 = cc in
          let index : b.index ≡ n = ap (λ (x : Begun). x.index) become ∙ sym number in
          let edits : edit_of (operation_at s a n) ≡ Some (f, e) = ap (λ (j : ℕ). edit_of (operation_at s j n)) is ∙ ap (λ (j : ℕ). edit_of (operation_at s i j)) (sym index) ∙ op in
          absurd (true≢false (sym (begun_over k (fresh_begun n k.history) (operation_at s a n) f e edits some)))
      by_came (marks a0 b0 mine q there become) = absurd (cc)
      by_came (exchanges a0 c0 r0 b0 mine q there become) = absurd (cc)
      by_came (fails a0 c0 d0 b0 mine q there become) = absurd (cc)

  exchanged_over : (a : ℕ) (c : CommandValue) (r : ResponseValue) → is_followed s k (line.Exchange a c r) ≡ true → has_right_response w (line.Exchange a c r) ≡ true → TurnOver s (kept_after s (line.Exchange a c r) k)
  exchanged_over a c r h right i b f e actor some here op lives = by_came (came s (line.Exchange a c r) k i b here)
    where
      turn : k.turn.actor ≡ Some i
      turn = sym (exchanged_actor (operation_now s a k.jobs) (job_of a (kept_after s (line.Exchange a c r) k).jobs) (held_numbers k.history k.handles) (facts_of s (line.Exchange a c r) k) (refused_of k.selected (jobs_beside (line.Exchange a c r) k.history.epoch (facts_of s (line.Exchange a c r) k) k.selected k.jobs) (facts_of s (line.Exchange a c r) k).answered) k.turn (facts_of s (line.Exchange a c r) k).answered) ∙ actor

      is : a ≡ i
      is = some_number a i (sym (actor_is k a (and_parts (is_turn_of a k.turn) (is_sent (due s k) (line.Exchange a c r)) h).0) ∙ turn)

      family : is_some k.turn.family ≡ true
      family = ap is_some (sym (exchanged_family (operation_now s a k.jobs) (job_of a (kept_after s (line.Exchange a c r) k).jobs) (held_numbers k.history k.handles) (facts_of s (line.Exchange a c r) k) (refused_of k.selected (jobs_beside (line.Exchange a c r) k.history.epoch (facts_of s (line.Exchange a c r) k) k.selected k.jobs) (facts_of s (line.Exchange a c r) k).answered) k.turn (facts_of s (line.Exchange a c r) k).answered refl)) ∙ some

      other : (is_own i (line.Exchange a c r) ≡ false) ⊎ ((line.Exchange a c r) ≡ line.Turn zero) → ⊥
      other (inl z) = true≢false (sym (eq-eqb a i is) ∙ z)
      other (inr z) = absurd (cc)

      by_old : (c0 : CommandValue) (r0 : ResponseValue) (a0 : ℕ) (b0 : Begun) → c ≡ c0 → begun_of i k.jobs ≡ Some b0 → b ≡ begun_exchanged (edit_of (operation_now s a0 k.jobs)) k.selected k.chain (k.history.events + 1) c0 r0 (near s (line.Exchange a c r) k b0) → is_edit_over b.editing ≡ true
      by_old c0 r0 a0 b0 same there become = by_how (how agrees s rules served earlier followed told t a c r h right)
        where
          edits : edit_of (operation_at s i b0.index) ≡ Some (f, e)
          edits = ap (λ (x : Begun). edit_of (operation_at s i x.index)) (sym become) ∙ op

          was : is_edit_over b0.editing ≡ true
          was = before i b0 f e turn family there edits (ap (λ (x : Begun). lives_in k.history x.epoch) (sym become) ∙ lives)

          by_how : How agrees s rules served earlier followed told t a c r h right → is_edit_over b.editing ≡ true
          by_how (still idle) =
              let editing : b.editing ≡ moved_editing (facts_of s (line.Exchange a c r) k).touch b0.editing =
              ap (λ (x : Begun). x.editing) become ∙ exchanged_same (edit_of (operation_now s a0 k.jobs)) k.selected k.chain (k.history.events + 1) c0 r0 (moved_editing (facts_of s (line.Exchange a c r) k).touch b0.editing) (ap (λ (d : CommandValue). is_update_ins d.ins) (sym same) ∙ idle) in
              ap is_edit_over editing ∙ over_moved (facts_of s (line.Exchange a c r) k).touch b0.editing was
          by_how (by_raw raw) = absurd (raw_edits (operation_now s a k.jobs) f e raw (ap edit_of (ap (λ (n : ℕ). operation_now s n k.jobs) is ∙ ap (begun_operation s i) there) ∙ edits))
          by_how (by_edit x) =
              let o = own agrees s rules served earlier followed told t a c r h right x.work in
              let who : o.who ≡ i = own_actor agrees s rules served earlier followed told t a c r h right x.work ∙ is in
              let begun : o.begun ≡ b0 = begun_same o.begun b0 (sym o.here ∙ ap (λ (n : ℕ). begun_of n k.jobs) who ∙ there) in
              absurd (over_sent o.begun.editing o.attempt o.write.update (ap (λ (y : Begun). is_edit_over y.editing) begun ∙ was) o.there o.write.still (next_is w k o.who o.family o.edit o.begun.epoch o.begun.editing.decided o.attempt o.write))

      by_came : Came s (line.Exchange a c r) k i b → is_edit_over b.editing ≡ true
      by_came (stays b0 there z become) = absurd (other z)
      by_came (exchanges a0 c0 r0 b0 mine q there become) = by_old c0 r0 a0 b0 (let z : c ≡ c0 = cc in z) there become
      by_came (marks a0 b0 mine q there become) = absurd (cc)
      by_came (begins a0 n0 mine q become) = absurd (cc)
      by_came (fails a0 c0 d0 b0 mine q there become) = absurd (cc)

  border_over : (l : Line) → is_epoch_border l ≡ true → TurnOver s (kept_after s l k)
  border_over l border i b f e actor some here op lives = never (sym (past_dead (kept_after s l k).history b.epoch (begun_past s earlier l border i b here)) ∙ lives)

  near_over : (l : Line) → keeps_begun l ≡ true → (kept_after s l k).turn.actor ≡ k.turn.actor → (kept_after s l k).turn.family ≡ k.turn.family → ((o : Option ℕ) → lives_in (kept_after s l k).history o ≡ lives_in k.history o) → TurnOver s (kept_after s l k)
  near_over l kept actor family living i b f e who some here op lives =
      let x = near_of s l k i b kept (came s l k i b here) in
      let edits : edit_of (operation_at s i x.old.index) ≡ Some (f, e) = ap (λ (y : Begun). edit_of (operation_at s i y.index)) (sym x.is) ∙ op in
      ap (λ (y : Begun). is_edit_over y.editing) x.is
      ∙ over_moved (facts_of s l k).touch x.old.editing
      (before i x.old f e (sym actor ∙ who) (ap is_some (sym family) ∙ some) x.here edits (sym (living x.old.epoch) ∙ ap (λ (y : Begun). lives_in (kept_after s l k).history y.epoch) (sym x.is) ∙ lives))

  none_lives : (h : Past) (l : Line) → (history_after l h).living ≡ h.living → (history_after l h).epoch ≡ h.epoch → (o : Option ℕ) → lives_in (history_after l h) o ≡ lives_in h o
  none_lives h l living epoch None = refl
  none_lives h l living epoch (Some n) = rw (living, epoch) refl

  world_over : (a : ℕ) (e : WorldEvent) → TurnOver s (kept_after s (line.World a e) k)
  world_over a Out = border_over (line.World a Out) refl
  world_over a (Insert j) = border_over (line.World a (Insert j)) refl
  world_over a (Arm i) = near_over (line.World a (Arm i)) refl refl refl (none_lives k.history (line.World a (Arm i)) refl refl)

  line_over : (l : Line) → is_followed s k l ≡ true → is_told s w k l ≡ true → TurnOver s (kept_after s l k)
  line_over (line.Turn a) h q = marked_over a
  line_over (line.Begin a n) h q = begun_undecided a n h
  line_over (line.Exchange a c r) h q = exchanged_over a c r h (told_response s w k (line.Exchange a c r) q)
  line_over (line.Failed a c d) h q = border_over (line.Failed a c d) refl
  line_over (line.Reset a) h q = border_over (line.Reset a) refl
  line_over (line.ResetFailed a) h q = border_over (line.ResetFailed a) refl
  line_over (line.World a e) h q = world_over a e
  line_over (line.Published n f e v text) h q = near_over (line.Published n f e v text) refl refl refl (none_lives k.history (line.Published n f e v text) refl refl)
  line_over (line.EpochEnd n e v) h q = near_over (line.EpochEnd n e v) refl refl refl (none_lives k.history (line.EpochEnd n e v) refl refl)
  line_over (line.Refused f n) h q = near_over (line.Refused f n) refl refl refl (none_lives k.history (line.Refused f n) refl refl)
  line_over (line.Answered a n given) h q = λ i b f e actor some here op lives. never some

-- the turn of an edit that publishes has nothing of it to send
pub turn_over : KeptAgrees → PlansForCard → (s : Script) (lines : List Line) → keeps_rules s ≡ true → has_utf8_names s ≡ true → are_followed s lines ≡ true → are_told s lines ≡ true → TurnOver s (kept_of s lines)
turn_over agrees plans s [] rules served followed told = λ i b f e actor some here op lives. never some
turn_over agrees plans s (l ∷ earlier) rules served followed told =
    let p = and_parts (are_followed s earlier) (is_followed s (kept_of s earlier) l) followed in
    let q = and_parts (are_told s earlier) (is_told s (world_of s earlier) (kept_of s earlier) l) told in
    line_over agrees s rules served earlier p.0 q.0 (edited_of agrees plans s earlier rules served p.0 q.0) (turn_over agrees plans s earlier rules served p.0 q.0) l p.1 q.1
