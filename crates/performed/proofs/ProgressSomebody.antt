-- While a served run is not finished, somebody's turn would move.
use Rattle.std.proofs.Common.{◌≡◌, ◌≤◌, ℕ, zero, suc, ◌+◌, ◌&&◌, ◌||◌, not, Bool, true, false, if◌then◌else◌, length, Option, Some, None, is_some, is_none, refl, sym, ap, ◌∙◌, subst, arith, true≢false}
use Rattle.std.specs.Prelude.{nat_lt, slice_get, unwrap_or}
use Rattle.std.proofs.lemmas.Bool.{or_parts, lt-ltb}
use Rattle.apdu.specs.Words.{has_value}
use Rattle.script_reader.specs.declared.types.Script.{Script}
use Rattle.script_reader.specs.declared.types.Operation.{Operation}
use Rattle.adn.specs.declared.edit.Edit.{Edit}
use Rattle.rules.specs.declared.kept.Begun.{Begun}
use Rattle.rules.specs.declared.kept.Job.{Job}
use Rattle.rules.specs.declared.kept.Kept.{Kept}
use Rattle.rules.specs.Standing.{first_stale}
use Rattle.rules.specs.Kept.{actor_count, first_job, operations_of, begun_of, begun_operation, next_operation}
use Rattle.rules.specs.Editing.{family_edit}
use Rattle.rules.specs.Work.{is_starting, has_work_alive, has_work, has_operations_left, first_actor, all_answered, is_finished, needs_card, is_edit_of, edits_family, edited_by, next_waits_on, waits_on, is_idle}
use Rattle.rules.specs.After.{kept_of}
use Rattle.performed.specs.Laws.{IsAwake, SomebodyMoves}
use Rattle.performed.proofs.Plain.{Keeps, keeps}
use Rattle.performed.proofs.ProgressActors.{Found, one_passes}
use Rattle.performed.proofs.ProgressMarks.{editing_by, editing_of, waiting_by, waiting_of}

left_open : (a w : Bool) → a && not w ≡ false → w ≡ false → a ≡ false
left_open true true h e = absurd (true≢false e)
left_open true false h e = h
left_open false w h e = refl

and_false : (b : Bool) → b && false ≡ false
and_false true = refl
and_false false = refl

first_of : (a b c d : Bool) → (a || b || c || d) ≡ false → a ≡ false
first_of true b c d h = absurd (true≢false h)
first_of false b c d h = refl

none_some : (c : ℕ) → None ≡ Some c → ⊥
none_some c h = absurd (cc)

-- an actor that has begun an operation has one left
begun_left : (s : Script) (k : Kept) → Keeps s k → (i : ℕ) → is_some (begun_of i k.jobs) ≡ true → has_operations_left s k i ≡ true
begun_left s k kept i h = by_job (slice_get k.jobs i) refl h
  where
    by_job : (o : Option Job) → slice_get k.jobs i ≡ o → is_some (unwrap_or o first_job).begun ≡ true → has_operations_left s k i ≡ true
    by_job None e q = absurd (true≢false (sym q))
    by_job (Some x) e q =
        ap (λ (o : Option Job). nat_lt (unwrap_or o first_job).answered (length (operations_of s i))) e
        ∙ lt-ltb x.answered (length (operations_of s i)) ((kept.jobs i x e).left q)

-- the actor of an edit has begun it
edits_begun : (s : Script) (k : Kept) (f i : ℕ) → edits_family s k f i ≡ true → is_some (begun_of i k.jobs) ≡ true
edits_begun s k f i h = by_begun (begun_of i k.jobs) h
  where
    by_begun : (o : Option Begun) → has_value (is_edit_of f) (begun_operation s i o) ≡ true → is_some o ≡ true
    by_begun None q = absurd (true≢false (sym q))
    by_begun (Some b) q = refl

module _ (s : Script) (k : Kept) where
  -- where the framework has nothing to do, start-up is over
  not_starting : (living : Bool) → k.history.living ≡ living → has_work k ≡ false → living ≡ true → is_starting k ≡ false
  not_starting true e h l = first_of (is_starting k) (is_some k.owed) (is_some k.history.announced) (is_some (first_stale k.standings)) (alive (k.history.living) (has_work_alive k) e (or_parts k.history.owes_reset (k.history.living && has_work_alive k) h).1)
    where
      alive : (a b : Bool) → a ≡ true → a && b ≡ false → b ≡ false
      alive true b p q = q
      alive false b p q = absurd (true≢false (sym p))
  not_starting false e h l = absurd (true≢false (sym l))

  -- what waits then waits for another's edit
  record WaitsFor (c : ℕ) : Type 0 where
    family : ℕ
    first : first_actor (edits_family s k family) 0 s.actors ≡ Some c

  living_waits : (op : Operation) (c : ℕ) (living : Bool) → k.history.living ≡ living → has_work k ≡ false → (if not living then None else if needs_card op && is_starting k then Some 0 else edited_by s k op) ≡ Some c → edited_by s k op ≡ Some c
  living_waits op c false e h q = absurd (none_some c q)
  living_waits op c true e h q =
      sym (ap (λ (b : Bool). if needs_card op && b then Some 0 else edited_by s k op) (not_starting true e h refl)
      ∙ ap (λ (b : Bool). if b then Some 0 else edited_by s k op) (and_false (needs_card op)))
      ∙ q

  edited_first : (o : Option (ℕ × Edit)) (c : ℕ) → editing_by s k o ≡ Some c → WaitsFor c
  edited_first None c h = absurd (none_some c h)
  edited_first (Some e) c h = record { family = e.0; first = h }

  next_waits : (c : ℕ) (o : Option Operation) → has_work k ≡ false → waiting_by s k o ≡ Some c → WaitsFor c
  next_waits c None h q = absurd (none_some c q)
  next_waits c (Some op) h q = edited_first (family_edit op) c (editing_of s k (family_edit op) ∙ living_waits op c k.history.living refl h q)

  waits_for : (a c : ℕ) → has_work k ≡ false → waits_on s k (suc a) ≡ Some c → WaitsFor c
  waits_for a c h q = by_begun (is_some (begun_of (suc a) k.jobs)) q
    where
      by_begun : (b : Bool) → (if b then None else next_waits_on s k (suc a)) ≡ Some c → WaitsFor c
      by_begun true z = absurd (none_some c z)
      by_begun false z = next_waits c (next_operation s (suc a) k.jobs) h (waiting_of s k (next_operation s (suc a) k.jobs) ∙ z)

  idle_if_left : (a : ℕ) (left : Bool) (w : Option ℕ) → left ≡ true → w ≡ None → (not left || is_some w) ≡ false
  idle_if_left a true None h e = refl
  idle_if_left a true (Some b) h e = absurd (cc)
  idle_if_left a false w h e = absurd (true≢false (sym h))

  within : (a : ℕ) → a ≤ 0 + length s.actors → a ≤ length s.actors
  within a l = omega arith

  awake_at : (a d : ℕ) → a ≤ length s.actors → a ≡ suc d → has_operations_left s k a ≡ true → waits_on s k (suc d) ≡ None → IsAwake s k
  awake_at a d low is left free = record {
    actor = suc d;
    valid = subst (λ (n : ℕ). n ≤ actor_count s) is low;
    moves = idle_if_left d (has_operations_left s k (suc d)) (waits_on s k (suc d)) (subst (λ (n : ℕ). has_operations_left s k n ≡ true) is left) free;
  }

  -- an actor that another waits for has begun, and so does not wait
  edit_awake : (f c : ℕ) → Found (edits_family s k f) (0 + length s.actors) c → Keeps s k → IsAwake s k
  edit_awake f c x kept =
      let begun : is_some (begun_of c k.jobs) ≡ true = edits_begun s k f c x.passes in
      awake_at c x.before (within c x.within) x.is (begun_left s k kept c begun)
      (ap (λ (b : Bool). if b then None else next_waits_on s k (suc x.before)) (ap (λ (n : ℕ). is_some (begun_of n k.jobs)) (sym x.is) ∙ begun))

  found_awake : (a : ℕ) → Found (has_operations_left s k) (0 + length s.actors) a → Keeps s k → has_work k ≡ false → IsAwake s k
  found_awake a x kept h = by_wait (waits_on s k (suc x.before)) refl
    where
      by_wait : (o : Option ℕ) → waits_on s k (suc x.before) ≡ o → IsAwake s k
      by_wait None e = awake_at a x.before (within a x.within) x.is x.passes e
      by_wait (Some c) e = let w : WaitsFor c = waits_for x.before c h e in edit_awake w.family c (one_passes (edits_family s k w.family) 0 s.actors c w.first) kept

  some_actor : (o : Option ℕ) → first_actor (has_operations_left s k) 0 s.actors ≡ o → is_none o ≡ false → Keeps s k → has_work k ≡ false → IsAwake s k
  some_actor None e n kept h = absurd (true≢false n)
  some_actor (Some a) e n kept h = found_awake a (one_passes (has_operations_left s k) 0 s.actors a e) kept h

  framework_awake : has_work k ≡ true → is_finished s k ≡ false → is_idle s k zero ≡ false
  framework_awake h fin = ap (λ (b : Bool). b || is_some (waits_on s k zero)) fin ∙ ap (λ (b : Bool). is_some (if b then None else first_actor (has_operations_left s k) 0 s.actors)) h

  by_work : (b : Bool) → has_work k ≡ b → Keeps s k → is_finished s k ≡ false → IsAwake s k
  by_work true h kept fin = record { actor = zero; valid = first (actor_count s); moves = framework_awake h fin }
    where
      first : (n : ℕ) → zero ≤ n
      first n = omega arith
  by_work false h kept fin = some_actor (first_actor (has_operations_left s k) 0 s.actors) refl (left_open (all_answered s k) (has_work k) fin h) kept h

pub somebody : SomebodyMoves
somebody s lines served followed fin = by_work s (kept_of s lines) (has_work (kept_of s lines)) refl (keeps s lines followed) fin
