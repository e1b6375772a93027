-- An UPDATE that the turn of an edit sends keeps the rule of edits: it is the next of the plan, its actor holds the session, and the book
-- behind it is the one before, or, behind a deciding success, the edited one.
use Rattle.std.proofs.Common.{◌≡◌, ℕ, suc, ◌==◌, ◌&&◌, not, Bool, true, false, if◌then◌else◌, Option, Some, None, is_none, Ok, List, [], ◌∷◌, refl, sym, ap, ◌∙◌, arith, true≢false}
use Rattle.std.specs.Prelude.{slice_get, option_and_then}
use Rattle.std.proofs.lemmas.Bool.{and_from, eqb-true, eq-eqb}
use Rattle.apdu.specs.Values.{CommandValue, ResponseValue}
use Rattle.apdu.specs.Words.{has_value, same_bytes, same_number}
use Rattle.apdu.specs.Apdu.{same_command, is_update_ins, is_success}
use Rattle.fcp.specs.Content.{Content}
use Rattle.card_effects.specs.Basic.{HasCurrent}
use Rattle.card_effects.proofs.Same.{same_bytes_self}
use Rattle.card_model.specs.declared.world.CardState.{CardState}
use Rattle.card_model.specs.declared.world.World.{World}
use Rattle.card_model.specs.Step.{step, card_inside}
use Rattle.script_reader.specs.declared.types.Script.{Script}
use Rattle.script_reader.specs.declared.types.Operation.{Operation}
use Rattle.adn.specs.declared.edit.RowUpdate.{RowUpdate}
use Rattle.families.specs.Families.{family_path, family_plan}
use Rattle.families.specs.Plans.{edited, plan_edit, plan_updates, same_book}
use Rattle.book_plans.specs.Phonebook.{Files}
use Rattle.book_plans.specs.Law.{book_of, written, written_some, Makes, HasText, PlansMakeEdits}
use Rattle.link.specs.declared.chain.Chain.{Chain}
use Rattle.link.specs.Commands.{continued, is_at}
use Rattle.epoch_cache.specs.Cache.{is_update}
use Rattle.editor.specs.declared.editing.Decided.{Decided}
use Rattle.editor.specs.Editing.{next_update, update_command, owed_of}
use Rattle.rules.specs.declared.kept.Begun.{Begun}
use Rattle.rules.specs.declared.kept.Kept.{Kept}
use Rattle.rules.specs.declared.kept.Outcome.{Outcome}
use Rattle.rules.specs.declared.kept.Work.{Work}
use Rattle.rules.specs.declared.kept.Work.TheVariants.{Writes as writes}
use Rattle.rules.specs.Kept.{operation_at, begun_operation}
use Rattle.rules.specs.After.{edit_of}
use Rattle.rules.specs.Due.{planning_answer}
use Rattle.rules.specs.State.{view_in}
use Rattle.rules.specs.Rules.{EditTurn, edit_turn_by, edit_turn_of, edit_turn_at, edit_turn, updates_of, card_updates, allowed_on, allowed_in, new_attempt, undecided_update, ordered_update, may_update, same_update, same_updates, is_planned_right, is_next_update, is_ordered, is_book_kept, is_book_edited, is_deciding, is_book_right, is_sent_right, is_update_right}
use Rattle.performed.proofs.CalmSends.{never}
use Rattle.performed.proofs.EditsCard.{Answered, view_same}
use Rattle.performed.proofs.EditsPlan.{Place, front, middle, back, counted, update_at, sent_at, files_at, WritesFiles, plan_files, makes_of, book_edited, front_kept, back_kept}
use Rattle.performed.proofs.EditsSends.{is_book}
use Rattle.performed.proofs.EditsState.{files_in, next_is, IsActive}
use Rattle.performed.proofs.EpochLost.{book_self}
use Rattle.performed.proofs.EditsSteps.{main_apart, files_written}

-- ---- what is the same is found to be

le_self : (o : Option ℕ) → same_number o o ≡ true
le_self None = refl
le_self (Some n) = eq-eqb n n refl

command_self : (c : CommandValue) → same_command c c ≡ true
command_self c =
    and_from ((c.class == c.class) && (c.ins == c.ins) && (c.p1 == c.p1) && (c.p2 == c.p2) && same_bytes c.body c.body) (same_number c.le c.le)
    (and_from ((c.class == c.class) && (c.ins == c.ins) && (c.p1 == c.p1) && (c.p2 == c.p2)) (same_bytes c.body c.body)
    (and_from ((c.class == c.class) && (c.ins == c.ins) && (c.p1 == c.p1)) (c.p2 == c.p2)
    (and_from ((c.class == c.class) && (c.ins == c.ins)) (c.p1 == c.p1)
    (and_from (c.class == c.class) (c.ins == c.ins) (eq-eqb c.class c.class refl) (eq-eqb c.ins c.ins refl)) (eq-eqb c.p1 c.p1 refl)) (eq-eqb c.p2 c.p2 refl)) (same_bytes_self c.body)) (le_self c.le)

update_self : (u : RowUpdate) → same_update u u ≡ true
update_self u = and_from (u.file == u.file) ((u.row == u.row) && same_bytes u.bytes u.bytes) (eq-eqb u.file u.file refl) (and_from (u.row == u.row) (same_bytes u.bytes u.bytes) (eq-eqb u.row u.row refl) (same_bytes_self u.bytes))

updates_self : (us : List RowUpdate) → same_updates us us ≡ true
updates_self [] = refl
updates_self (u ∷ us) = and_from (same_update u u) (same_updates us us) (update_self u) (updates_self us)

suc_zero : (n : ℕ) → (suc n == 0) ≡ true → ⊥
suc_zero n h = let z : (suc n == 0) ≡ false = grind arith in true≢false (sym h ∙ z)

-- ---- the update that is ordered

module _ (s : Script) (w : World) (k : Kept) (work : k.turn.work ≡ writes) (t : IsActive s w k) (book : is_book t.family ≡ true) where
  abbrev u : RowUpdate
  u = t.write.update

  abbrev path : List ℕ
  path = family_path t.family u.file

  abbrev here : EditTurn
  here = record { actor = t.who; family = t.family; edit = t.edit; begun = t.begun }

  turn_of_op : (o : Option Operation) → edit_of o ≡ Some (t.family, t.edit) → edit_turn_of t.who (Some t.begun) o ≡ Some here
  turn_of_op None h = absurd (cc)
  turn_of_op (Some op) h = ap (edit_turn_by t.who t.begun) h

  pub turn_edits : edit_turn s k ≡ Some here
  turn_edits =
      ap (edit_turn_at s k) t.actor
      ∙ ap (λ (o : Option Begun). edit_turn_of t.who o (begun_operation s t.who o)) t.here
      ∙ turn_of_op (operation_at s t.who t.begun.index) t.op

  may : may_update k here ≡ true
  may =
      ap (λ (x : Bool). x && not k.turn.updated && is_none k.turn.outcome && is_none (planning_answer k.turn.work)) t.write.lives
      ∙ ap (λ (x : Bool). true && not x && is_none k.turn.outcome && is_none (planning_answer k.turn.work)) t.unsent
      ∙ ap (λ (o : Option Outcome). true && not false && is_none o && is_none (planning_answer k.turn.work)) t.came
      ∙ ap (λ (x : Work). true && not false && true && is_none (planning_answer x)) work

  next : next_update t.attempt ≡ Some u
  next = next_is w k t.who t.family t.edit t.begun.epoch t.begun.editing.decided t.attempt t.write

  -- where none was sent, the plan is that for the card as it is
  first_files : (place : Place) → t.attempt.sent ≡ sent_at t.attempt.plan place → (t.attempt.sent == 0) ≡ true → files_at t.write.old t.attempt.plan place ≡ t.write.old
  first_files front e z = refl
  first_files middle e z = by_before t.attempt.plan.before (ap (λ (n : ℕ). n == 0) (sym e) ∙ z)
    where
      by_before : (o : Option RowUpdate) → (counted o == 0) ≡ true → written_some t.write.old o ≡ t.write.old
      by_before None h = refl
      by_before (Some x) h = never h
  first_files back e z = absurd (suc_zero (counted t.attempt.plan.before) (ap (λ (n : ℕ). n == 0) (sym e) ∙ z))

  planned_now : (t.attempt.sent == 0) ≡ true → family_plan t.family t.edit (view_in w) ≡ Ok t.attempt.plan
  planned_now z =
      ap (λ (x : Files). plan_edit t.edit x.main x.ext) (t.write.now ∙ first_files t.write.place t.write.sent z)
      ∙ t.write.plan

  card_updates_are : (t.attempt.sent == 0) ≡ true → card_updates w here ≡ plan_updates t.attempt.plan
  card_updates_are z = ap updates_of (planned_now z)

  planned_right : is_planned_right w here t.begun.editing.attempt ≡ true
  planned_right = ap (is_planned_right w here) t.there ∙ by_sent (t.attempt.sent == 0) refl
    where
      by_sent : (b : Bool) → (t.attempt.sent == 0) ≡ b → elim b as (λ x. Bool) [ true ↦ same_updates (plan_updates t.attempt.plan) (card_updates w here) | false ↦ true ] ≡ true
      by_sent true z = ap (same_updates (plan_updates t.attempt.plan)) (card_updates_are z) ∙ updates_self (plan_updates t.attempt.plan)
      by_sent false z = refl

  -- the card that is asked is in the slot
  module _ (card : CardState) (inside : card_inside w ≡ Some card) where
    new_is : (t.attempt.sent == 0) ≡ true → new_attempt w k here ≡ Some u
    new_is z =
        ap (λ (us : List RowUpdate). option_and_then (allowed_in w k here) (slice_get us 0)) (card_updates_are z)
        ∙ ap (λ (n : ℕ). option_and_then (allowed_in w k here) (slice_get (plan_updates t.attempt.plan) n)) (sym (eqb-true t.attempt.sent 0 z))
        ∙ ap (option_and_then (allowed_in w k here)) next
        ∙ ap (λ (o : Option CardState). elim o as (λ x. Option RowUpdate) [ None ↦ None | Some x ↦ allowed_on k here x u ]) inside
        ∙ ap (λ (o : Option ℕ). if is_none o then Some u else None) (t.allowed z card inside)

    ordered : ordered_update w k here t.begun.editing.decided ≡ Some u
    ordered = by_decided t.begun.editing.decided
      where
        by_sent : (b : Bool) → (t.attempt.sent == 0) ≡ b → elim b as (λ x. Option RowUpdate) [ true ↦ new_attempt w k here | false ↦ next_update t.attempt ] ≡ Some u
        by_sent true z = new_is z
        by_sent false z = next

        by_decided : (d : Option Decided) → ordered_update w k here d ≡ Some u
        by_decided None = ap (undecided_update w k here) t.there ∙ by_sent (t.attempt.sent == 0) refl
        by_decided (Some d) = ap (owed_of true) t.there ∙ ap (λ (b : Bool). if true && not b then next_update t.attempt else None) t.write.still ∙ next

    pub sent_right : (c : CommandValue) → c ≡ update_command u → is_ordered w k here c ≡ true
    sent_right c is =
        and_from (may_update k here) (is_planned_right w here t.begun.editing.attempt && is_next_update w k here c) may
        (and_from (is_planned_right w here t.begun.editing.attempt) (is_next_update w k here c) planned_right
        (ap (has_value (λ (x : RowUpdate). same_command c (update_command x))) ordered ∙ ap (same_command c) (sym is) ∙ command_self c))

  -- ---- the book

  module _ (makes : PlansMakeEdits) (text : HasText t.edit) (c : CommandValue) (r : ResponseValue) (card : Answered w c r) (current : HasCurrent card.card path) (is : c ≡ update_command u) (selected : k.selected ≡ Some path) (unchained : k.chain ≡ None) where
    abbrev v : World
    v = (step w c).0

    made : Makes t.write.old t.edit t.attempt.plan
    made = makes_of makes t.edit t.write.old t.attempt.plan text t.write.plan

    files : WritesFiles t.attempt.plan
    files = plan_files t.edit t.write.old.main t.write.old.ext t.attempt.plan t.write.plan

    kept_from : book_of (files_in v t.family) ≡ book_of (files_in w t.family) → is_book_kept w v t.family ≡ true
    kept_from e = ap (same_book (book_of (files_in v t.family))) (sym e) ∙ book_self (book_of (files_in v t.family))

    edited_from : book_of (files_in v t.family) ≡ edited (book_of (files_in w t.family)) t.edit → is_book_edited w v here ≡ true
    edited_from e = ap (same_book (book_of (files_in v t.family))) (sym e) ∙ book_self (book_of (files_in v t.family))

    updates : is_update_ins c.ins ≡ true
    updates = ap (λ (d : CommandValue). is_update_ins d.ins) is

    success_is : (b : Bool) → is_update c r ≡ b → is_success r.sw ≡ b
    success_is b e = sym (ap (λ (x : Bool). x && is_success r.sw) updates) ∙ e

    by_tests : (a b : Bool) → is_deciding k here ≡ a → is_success r.sw ≡ b → (a && b ≡ true → is_book_edited w v here ≡ true) → (a && b ≡ false → is_book_kept w v t.family ≡ true) → is_book_right w k here c r ≡ true
    by_tests a b x y on_done on_kept = ap (λ (z : Bool). elim (z && is_success r.sw) [ true ↦ is_book_edited w v here | false ↦ is_book_kept w v t.family ]) x ∙ ap (λ (z : Bool). elim (a && z) [ true ↦ is_book_edited w v here | false ↦ is_book_kept w v t.family ]) y ∙ by_both (a && b) on_done on_kept
      where
        by_both : (z : Bool) → (z ≡ true → is_book_edited w v here ≡ true) → (z ≡ false → is_book_kept w v t.family ≡ true) → elim z [ true ↦ is_book_edited w v here | false ↦ is_book_kept w v t.family ] ≡ true
        by_both true p q = p refl
        by_both false p q = q refl

    deciding_is : (file : ℕ) (b : Bool) → u.file ≡ file → same_bytes (family_path t.family 0) (family_path t.family file) ≡ b → is_deciding k here ≡ b
    deciding_is file b e h = ap (λ (o : Option (List ℕ)). is_at o (family_path t.family 0)) selected ∙ ap (λ (n : ℕ). same_bytes (family_path t.family 0) (family_path t.family n)) e ∙ h

    and_no : (a : Bool) → (a && false) ≡ false
    and_no true = refl
    and_no false = refl

    done_by : is_update c r ≡ true → (place : Place) → t.write.place ≡ place → is_book_right w k here c r ≡ true
    done_by h place at = by_place place at (t.write.now ∙ ap (files_at t.write.old t.attempt.plan) at) (files_written s w k work t book c r card is selected unchained current h) (ap (update_at t.attempt.plan) (sym at) ∙ t.write.at)
      where
        by_place : (place : Place) → t.write.place ≡ place → files_in w t.family ≡ files_at t.write.old t.attempt.plan place → files_in v t.family ≡ written (files_in w t.family) u → update_at t.attempt.plan place ≡ Some u → is_book_right w k here c r ≡ true
        by_place front at now wrote x =
            by_tests false true (deciding_is 1 false (files.before u x) (main_apart t.family book)) (success_is true h) (λ z. never z)
            (λ z. kept_from (ap book_of (wrote ∙ ap (λ (y : Files). written y u) now) ∙ front_kept t.edit t.write.old t.attempt.plan made u x ∙ ap book_of (sym now)))
        by_place middle at now wrote x =
            let same : t.attempt.plan.deciding ≡ u = cc in
            let file : u.file ≡ 0 = ap (λ (y : RowUpdate). y.file) (sym same) ∙ files.deciding in
            by_tests true true (deciding_is 0 true file (same_bytes_self (family_path t.family 0))) (success_is true h)
            (λ z. edited_from (ap book_of (wrote ∙ ap (λ (y : Files). written y u) now ∙ ap (written (files_at t.write.old t.attempt.plan middle)) (sym same)) ∙ book_edited t.edit t.write.old t.attempt.plan made ∙ ap (λ (y : Files). edited (book_of y) t.edit) (sym now)))
            (λ z. never (sym z))
        by_place back at now wrote x =
            by_tests false true (deciding_is 1 false (files.after u x) (main_apart t.family book)) (success_is true h) (λ z. never z)
            (λ z. kept_from (ap book_of (wrote ∙ ap (λ (y : Files). written y u) now) ∙ back_kept t.edit t.write.old t.attempt.plan made u x ∙ ap book_of (sym now)))

    failed_by : is_update c r ≡ false → is_book_right w k here c r ≡ true
    failed_by h =
        by_tests (is_deciding k here) false refl (success_is false h) (λ z. never (sym (and_no (is_deciding k here)) ∙ z))
        (λ z. kept_from (ap (λ (y : Content). book_of (record { main = y; ext = view_in v (family_path t.family 1) })) (view_same w c r card h (family_path t.family 0)) ∙ ap (λ (y : Content). book_of (record { main = view_in w (family_path t.family 0); ext = y })) (view_same w c r card h (family_path t.family 1))))

    pub book_right : is_book_right w k here c r ≡ true
    book_right = by_update (is_update c r) refl
      where
        by_update : (b : Bool) → is_update c r ≡ b → is_book_right w k here c r ≡ true
        by_update true h = done_by h t.write.place refl
        by_update false h = failed_by h

    pub update_right : is_update_right s w k c r ≡ true
    update_right =
        ap (λ (o : Option EditTurn). elim o as (λ x. Bool) [ None ↦ false | Some e ↦ is_sent_right w k e c (continued c k.chain) && is_book_right w k e c r ]) turn_edits
        ∙ ap (λ (o : Option Chain). is_sent_right w k here c (continued c o) && is_book_right w k here c r) unchained
        ∙ ap (λ (b : Bool). b && is_book_right w k here c r) (sent_right card.card card.inside c is)
        ∙ book_right
