-- The edits of a script, and who may begin one.
use Rattle.std.proofs.Common.{◌≡◌, ℕ, zero, suc, ◌+◌, ◌==◌, ◌&&◌, not, Bool, true, false, if◌then◌else◌, Option, Some, None, is_some, is_none, List, [], ◌∷◌, length, refl, sym, ap, ◌∙◌, arith, true≢false}
use Rattle.std.specs.Prelude.{slice_get, unwrap_or, nat_le}
use Rattle.std.specs.List.{list_all}
use Rattle.std.proofs.lemmas.Bool.{and_parts, and_from, eq-eqb}
use Rattle.apdu.specs.Words.{has_value, is_between}
use Rattle.adn.specs.declared.edit.Edit.{Edit}
use Rattle.adn.specs.declared.edit.Edit.TheVariants as edit
use Rattle.script_reader.specs.declared.types.Script.{Script}
use Rattle.script_reader.specs.declared.types.Operation.{Operation}
use Rattle.script_reader.specs.declared.types.Operation.TheVariants as operation
use Rattle.script_reader.specs.Operations.{operation_count, is_actor, has_form, is_operation_within, has_target}
use Rattle.script_reader.specs.Pairing.{are_paired}
use Rattle.script_reader.specs.Rules.{keeps_rules, cards_keep_rules, changes_keep_rules, actors_keep_rules, schedule_keeps_rules, faults_keep_rules, budget_keeps_rules}
use Rattle.rules.specs.declared.kept.Begun.{Begun}
use Rattle.rules.specs.declared.kept.Kept.{Kept}
use Rattle.rules.specs.Editing.{family_edit}
use Rattle.rules.specs.Kept.{operation_at, begun_of, operation_now, next_operation, begun_operation}
use Rattle.rules.specs.Work.{first_actor, is_edit_of, edits_family, edited_by, needs_card, is_starting, operation_waits_on, next_waits_on, waits_on}
use Rattle.rules.specs.After.{edit_of}
use Rattle.performed.proofs.CalmSends.{never}
use Rattle.performed.proofs.EditsSends.{is_book}
use Rattle.performed.proofs.LegalScript.{at_passes}

-- ---- an edit is of the phonebook or of the fixed dialling numbers

have_targets : (cards changes : ℕ) (actors : List (List Operation)) → list_all (is_actor cards changes) actors ≡ true → list_all (list_all (has_target cards changes)) actors ≡ true
have_targets cards changes [] h = refl
have_targets cards changes (ops ∷ actors) h =
    let q = and_parts (is_actor cards changes ops) (list_all (is_actor cards changes) actors) h in
    let p1 = and_parts (list_all has_form ops && list_all is_operation_within ops && list_all (has_target cards changes) ops) (are_paired ops) q.0 in
    let p2 = and_parts (list_all has_form ops && list_all is_operation_within ops) (list_all (has_target cards changes) ops) p1.0 in
    and_from (list_all (has_target cards changes) ops) (list_all (list_all (has_target cards changes)) actors) p2.1 (have_targets cards changes actors q.1)

all_targets : (s : Script) → keeps_rules s ≡ true → list_all (list_all (has_target (length s.cards) (length s.changes))) s.actors ≡ true
all_targets s h =
    let version = s.version == 1 in
    let cards = cards_keep_rules s.cards in
    let changes = changes_keep_rules s.changes in
    let actors = actors_keep_rules (length s.cards) (length s.changes) s.actors in
    let schedule = schedule_keeps_rules (length s.actors) s.schedule in
    let faults = faults_keep_rules s.faults in
    let q1 = and_parts (version && cards && changes && actors && schedule && faults) (budget_keeps_rules s.budget) h in
    let q2 = and_parts (version && cards && changes && actors && schedule) faults q1.0 in
    let q3 = and_parts (version && cards && changes && actors) schedule q2.0 in
    let q4 = and_parts (version && cards && changes) actors q3.0 in
    let each = (and_parts (is_between 1 8 (length s.actors) && nat_le (operation_count s.actors) 1000) (list_all (is_actor (length s.cards) (length s.changes)) s.actors) q4.1).1 in
    have_targets (length s.cards) (length s.changes) s.actors each

-- an operation that edits this
pub data Edits (op : Operation) (f : ℕ) (e : Edit) : Type 0 where
  sets : (at : Option ℕ) (name number : List ℕ) → op ≡ operation.Set f at name number → Edits op f e
  clears : (at : ℕ) → op ≡ operation.Clear f at → Edits op f e

abbrev first_part : ℕ × Edit → ℕ
first_part p = p.0

pub edits_by : (op : Operation) (f : ℕ) (e : Edit) → family_edit op ≡ Some (f, e) → Edits op f e
edits_by (operation.Set g at name number) f e h = let pair : (g, edit.Set at (record { name = name; number = number })) ≡ (f, e) = cc in let same : g ≡ f = ap first_part pair in sets at name number (ap (λ (n : ℕ). operation.Set n at name number) same)
edits_by (operation.Clear g at) f e h = let pair : (g, edit.Clear at) ≡ (f, e) = cc in let same : g ≡ f = ap first_part pair in clears at (ap (λ (n : ℕ). operation.Clear n at) same)
edits_by (operation.Insert card) f e h = absurd (cc)
edits_by operation.Out f e h = absurd (cc)
edits_by (operation.Arm change) f e h = absurd (cc)
edits_by (operation.Load g) f e h = absurd (cc)
edits_by (operation.OpenChannel handle aid) f e h = absurd (cc)
edits_by (operation.Raw handle apdu) f e h = absurd (cc)
edits_by (operation.Close handle) f e h = absurd (cc)
edits_by (operation.Verify key pin) f e h = absurd (cc)
edits_by operation.Poll f e h = absurd (cc)
edits_by (operation.End key) f e h = absurd (cc)
edits_by operation.Look f e h = absurd (cc)
edits_by (operation.Watch mask) f e h = absurd (cc)
edits_by operation.Notices f e h = absurd (cc)

-- an operation that there is, with what it edits
pub record IsEdit (o : Option Operation) (f : ℕ) (e : Edit) : Type 0 where
  pub op : Operation
  pub is : o ≡ Some op
  pub edits : family_edit op ≡ Some (f, e)

pub edit_is : (o : Option Operation) (f : ℕ) (e : Edit) → edit_of o ≡ Some (f, e) → IsEdit o f e
edit_is None f e h = absurd (cc)
edit_is (Some op) f e h = record { op = op; is = refl; edits = h }

target_book : (cards changes : ℕ) (op : Operation) (f : ℕ) (e : Edit) → has_target cards changes op ≡ true → Edits op f e → is_book f ≡ true
target_book cards changes op f e h (sets at name number is) = sym (ap (has_target cards changes) is) ∙ h
target_book cards changes op f e h (clears at is) = sym (ap (has_target cards changes) is) ∙ h

pub edit_book : (s : Script) → keeps_rules s ≡ true → (i n f : ℕ) (e : Edit) → edit_of (operation_at s i n) ≡ Some (f, e) → is_book f ≡ true
edit_book s rules i n f e h =
    let x = edit_is (operation_at s i n) f e h in
    target_book (length s.cards) (length s.changes) x.op f e (at_passes (has_target (length s.cards) (length s.changes)) s (all_targets s rules) i n x.op x.is) (edits_by x.op f e x.edits)

-- ---- an edit begins where nobody else edits its family

behind_one : (i j : ℕ) → (i + 1) + suc j ≡ ((i + 1) + 1) + j
behind_one i j = omega arith

at_one : (i : ℕ) → (i + 1) + 0 ≡ i + 1
at_one i = omega arith

first_none : (test : ℕ → Bool) (i : ℕ) (actors : List (List Operation)) (j : ℕ) (ops : List Operation) → first_actor test i actors ≡ None → slice_get actors j ≡ Some ops → test ((i + 1) + j) ≡ false
first_none test i [] j ops h e = absurd (cc)
first_none test i (x ∷ actors) j ops h e = by_test (test (i + 1)) refl h j e (λ m q n. first_none test (i + 1) actors m ops n q)
  where
    by_test : (b : Bool) → test (i + 1) ≡ b → elim b as (λ x. Option ℕ) [ true ↦ Some (i + 1) | false ↦ first_actor test (i + 1) actors ] ≡ None → (j : ℕ) → slice_get (x ∷ actors) j ≡ Some ops → ((m : ℕ) → slice_get actors m ≡ Some ops → first_actor test (i + 1) actors ≡ None → test (((i + 1) + 1) + m) ≡ false) → test ((i + 1) + j) ≡ false
    by_test true t q j e later = absurd (cc)
    by_test false t q zero e later = ap test (at_one i) ∙ t
    by_test false t q (suc j) e later = ap test (behind_one i j) ∙ later j e q

actor_ops : (s : Script) (j n : ℕ) (op : Operation) → operation_at s j n ≡ Some op → (m : ℕ) × ((j ≡ suc m) × ((ops : List Operation) × (slice_get s.actors m ≡ Some ops)))
actor_ops s zero n op h = absurd (cc)
actor_ops s (suc m) n op h = (m, (refl, by_list (slice_get s.actors m) refl h))
  where
    by_list : (o : Option (List Operation)) → slice_get s.actors m ≡ o → slice_get (unwrap_or o []) n ≡ Some op → (ops : List Operation) × (slice_get s.actors m ≡ Some ops)
    by_list None e q = absurd (cc)
    by_list (Some ops) e q = (ops, e)

one_more : (m : ℕ) → (0 + 1) + m ≡ suc m
one_more m = omega arith

module _ (s : Script) (k : Kept) (f : ℕ) where
  -- another's edit that has begun is seen
  others_seen : first_actor (edits_family s k f) 0 s.actors ≡ None → (j n : ℕ) (e : Edit) (o : Option Operation) → operation_now s j k.jobs ≡ operation_at s j n → operation_at s j n ≡ o → edit_of o ≡ Some (f, e) → ⊥
  others_seen none j n e o now at h =
      let x = edit_is o f e h in
      let m = actor_ops s j n x.op (at ∙ x.is) in
      let misses : edits_family s k f j ≡ false = ap (edits_family s k f) (m.1.0 ∙ sym (one_more m.0)) ∙ first_none (edits_family s k f) 0 s.actors m.0 m.1.1.0 none m.1.1.1 in
      true≢false (sym (ap (has_value (is_edit_of f)) (now ∙ at ∙ x.is) ∙ passes x.op x.edits) ∙ misses)
    where
      passes : (op : Operation) → family_edit op ≡ Some (f, e) → is_edit_of f op ≡ true
      passes op q = ap (has_value (λ (y : ℕ × Edit). y.0 == f)) q ∙ eq-eqb f f refl

  waits_none : (op : Operation) (e : Edit) → family_edit op ≡ Some (f, e) → k.history.living ≡ true → operation_waits_on s k op ≡ None → first_actor (edits_family s k f) 0 s.actors ≡ None
  waits_none op e edits living h = by_card (needs_card op && is_starting k) (sym (ap (λ (b : Bool). if not b then None else if needs_card op && is_starting k then Some 0 else edited_by s k op) living) ∙ h)
    where
      by_card : (b : Bool) → (if b then Some 0 else edited_by s k op) ≡ None → first_actor (edits_family s k f) 0 s.actors ≡ None
      by_card true q = absurd (cc)
      by_card false q = sym (ap (λ (o : Option (ℕ × Edit)). elim o as (λ x. Option ℕ) [ None ↦ None | Some y ↦ first_actor (edits_family s k y.0) 0 s.actors ]) edits) ∙ q

  -- where an actor's next edit waits for nobody, nobody edits the family
  pub begins_alone : (a : ℕ) (e : Edit) → is_none (begun_of (suc a) k.jobs) ≡ true → waits_on s k (suc a) ≡ None → k.history.living ≡ true → edit_of (next_operation s (suc a) k.jobs) ≡ Some (f, e) → first_actor (edits_family s k f) 0 s.actors ≡ None
  begins_alone a e free waits living h = by_begun (begun_of (suc a) k.jobs) free waits
    where
      by_next : (o : Option Operation) → edit_of o ≡ Some (f, e) → elim o as (λ x. Option ℕ) [ None ↦ None | Some op ↦ operation_waits_on s k op ] ≡ None → first_actor (edits_family s k f) 0 s.actors ≡ None
      by_next None q n = absurd (cc)
      by_next (Some op) q n = waits_none op e q living n

      by_begun : (o : Option Begun) → is_none o ≡ true → (if is_some o then None else next_waits_on s k (suc a)) ≡ None → first_actor (edits_family s k f) 0 s.actors ≡ None
      by_begun None n q = by_next (next_operation s (suc a) k.jobs) h q
      by_begun (Some b) n q = never n

pub seen_alone : (s : Script) (k : Kept) (f : ℕ) → first_actor (edits_family s k f) 0 s.actors ≡ None → (j : ℕ) (c : Begun) (e : Edit) → begun_of j k.jobs ≡ Some c → edit_of (operation_at s j c.index) ≡ Some (f, e) → ⊥
seen_alone s k f none j c e here h = others_seen s k f none j c.index e (operation_at s j c.index) (ap (begun_operation s j) here) refl h
