-- Where an operation begins, the last line is its actor's mark, and it has operations left.
use Rattle.std.proofs.Common.{◌≡◌, ℕ, zero, suc, ◌&&◌, not, Bool, true, false, if◌then◌else◌, List, [], ◌∷◌, length, Option, Some, None, is_some, is_none, refl, sym, subst, arith, true≢false}
use Rattle.std.specs.Prelude.{nat_lt, slice_get}
use Rattle.std.proofs.lemmas.Bool.{eqb-true, and_parts}
use Rattle.apdu.specs.Values.{CommandValue}
use Rattle.apdu.specs.Words.{same_number}
use Rattle.card_model.specs.declared.world.WorldEvent.{WorldEvent}
use Rattle.script_reader.specs.declared.types.Script.{Script}
use Rattle.report.specs.declared.answer.Answer.{Answer}
use Rattle.rules.specs.declared.kept.Kept.{Kept}
use Rattle.rules.specs.Kept.{operations_of, operation_at, job_of, begun_of}
use Rattle.rules.specs.Work.{has_operations_left, has_ended, waits_on}
use Rattle.rules.specs.declared.due.Due.TheVariants.{Begin as begin, WaitFor as wait_for, EndOfActor as end_of_actor, Rest as rest}
use Rattle.rules.specs.Due.{begin_or_rest, due_at_mark, due_of_actor, due_by_answer, due_by_publication, due_by_refusal, due_by_event, due_by_reset, due_by_command, due_by_end, due, due_command, is_reset_due, tried_event, due_publication, due_answer}
use Rattle.rules.specs.Rules.{is_turn_of}
use Rattle.rules.specs.Performed.{begins_as}

-- the operation of this index begins, of this actor
pub record Starts (s : Script) (k : Kept) (a i : ℕ) : Type 0 where
  pub turn : k.turn.actor ≡ Some a
  pub bare : k.turn.bare ≡ true
  pub left : has_operations_left s k a ≡ true
  pub index : i ≡ (job_of a k.jobs).answered

not_false : (b : Bool) → not b ≡ false → b ≡ true
not_false true h = refl
not_false false h = absurd (true≢false h)

module _ (s : Script) (k : Kept) (i : ℕ) where
  -- the walk down to the mark
  past_end : (o : Option (ℕ × ℕ)) → begins_as i (due_by_end s k o) ≡ true → begins_as i (due_by_command s k (due_command k)) ≡ true
  past_end (Some (epoch, event)) h = absurd (true≢false (sym h))
  past_end None h = h

  past_command : (o : Option CommandValue) → begins_as i (due_by_command s k o) ≡ true → begins_as i (due_by_reset s k (is_reset_due k)) ≡ true
  past_command (Some c) h = absurd (true≢false (sym h))
  past_command None h = h

  past_reset : (b : Bool) → begins_as i (due_by_reset s k b) ≡ true → begins_as i (due_by_event s k (tried_event k)) ≡ true
  past_reset true h = absurd (true≢false (sym h))
  past_reset false h = h

  past_event : (o : Option WorldEvent) → begins_as i (due_by_event s k o) ≡ true → begins_as i (due_by_refusal s k k.turn.refused) ≡ true
  past_event (Some e) h = absurd (true≢false (sym h))
  past_event None h = h

  past_refusal : (o : Option (ℕ × ℕ)) → begins_as i (due_by_refusal s k o) ≡ true → begins_as i (due_by_publication s k (due_publication k)) ≡ true
  past_refusal (Some (f, n)) h = absurd (true≢false (sym h))
  past_refusal None h = h

  past_publication : (o : Option ℕ) → begins_as i (due_by_publication s k o) ≡ true → begins_as i (due_by_answer s k (due_answer s k)) ≡ true
  past_publication (Some f) h = absurd (true≢false (sym h))
  past_publication None h = h

  past_answer : (o : Option Answer) → begins_as i (due_by_answer s k o) ≡ true → begins_as i (due_of_actor s k k.turn.actor) ≡ true
  past_answer (Some given) h = absurd (true≢false (sym h))
  past_answer None h = h

  at_mark : begins_as i (due s k) ≡ true → begins_as i (due_of_actor s k k.turn.actor) ≡ true
  at_mark h = past_answer (due_answer s k) (past_publication (due_publication k) (past_refusal k.turn.refused (past_event (tried_event k) (past_reset (is_reset_due k) (past_command (due_command k) (past_end k.turn.ended h))))))

  -- the mark
  begins_free : (a : ℕ) (b : Bool) → k.turn.actor ≡ Some (suc a) → k.turn.bare ≡ true → has_ended s k (suc a) ≡ false → begins_as i (if b then begin (job_of (suc a) k.jobs).answered else rest) ≡ true → Starts s k (suc a) i
  begins_free a true turn bare left h = record { turn = turn; bare = bare; left = not_false (has_operations_left s k (suc a)) left; index = eqb-true i (job_of (suc a) k.jobs).answered h }
  begins_free a false turn bare left h = absurd (true≢false (sym h))

  begins_of : (a : ℕ) → k.turn.actor ≡ Some a → k.turn.bare ≡ true → has_ended s k a ≡ false → begins_as i (begin_or_rest s k a) ≡ true → Starts s k a i
  begins_of zero turn bare left h = absurd (true≢false (sym h))
  begins_of (suc a) turn bare left h = begins_free a (is_none (begun_of (suc a) k.jobs)) turn bare left h

  begins_waiting : (a : ℕ) (o : Option ℕ) → k.turn.actor ≡ Some a → k.turn.bare ≡ true → has_ended s k a ≡ false → begins_as i (elim o [ Some b ↦ wait_for b | None ↦ begin_or_rest s k a ]) ≡ true → Starts s k a i
  begins_waiting a (Some b) turn bare left h = absurd (true≢false (sym h))
  begins_waiting a None turn bare left h = begins_of a turn bare left h

  begins_ended : (a : ℕ) (b : Bool) → k.turn.actor ≡ Some a → k.turn.bare ≡ true → has_ended s k a ≡ b → begins_as i (elim b [ true ↦ end_of_actor | false ↦ elim (waits_on s k a) [ Some n ↦ wait_for n | None ↦ begin_or_rest s k a ] ]) ≡ true → Starts s k a i
  begins_ended a true turn bare left h = absurd (true≢false (sym h))
  begins_ended a false turn bare left h = begins_waiting a (waits_on s k a) turn bare left h

  begins_bare : (a : ℕ) (b : Bool) → k.turn.actor ≡ Some a → k.turn.bare ≡ b → begins_as i (elim b [ true ↦ due_at_mark s k a | false ↦ rest ]) ≡ true → Starts s k a i
  begins_bare a true turn bare h = begins_ended a (has_ended s k a) turn bare refl h
  begins_bare a false turn bare h = absurd (true≢false (sym h))

  same_actor : (a b : ℕ) → k.turn.actor ≡ Some b → is_turn_of a k.turn ≡ true → a ≡ b
  same_actor a b turn h = sym (eqb-true b a (subst (λ (o : Option ℕ). same_number o (Some a) ≡ true) turn h))

  begins_turn : (o : Option ℕ) (a : ℕ) → k.turn.actor ≡ o → is_turn_of a k.turn ≡ true → begins_as i (due_of_actor s k o) ≡ true → Starts s k a i
  begins_turn None a turn same h = absurd (true≢false (sym h))
  begins_turn (Some b) a turn same h = subst (λ (n : ℕ). Starts s k n i) (sym (same_actor a b turn same)) (begins_bare b k.turn.bare turn refl h)

  pub starts : (a : ℕ) → is_turn_of a k.turn && begins_as i (due s k) ≡ true → Starts s k a i
  starts a h = let q = and_parts (is_turn_of a k.turn) (begins_as i (due s k)) h in begins_turn k.turn.actor a refl q.0 (at_mark q.1)

-- ---- the operation is there

pub nothing_below : (n : ℕ) → nat_lt n 0 ≡ true → ⊥
nothing_below n h = grind arith

one_less : (n m : ℕ) → nat_lt (suc n) (suc m) ≡ true → nat_lt n m ≡ true
one_less n m h = grind arith

pub some_below : {A : Type 0} (xs : List A) (n : ℕ) → nat_lt n (length xs) ≡ true → is_some (slice_get xs n) ≡ true
some_below [] n h = absurd (nothing_below n h)
some_below (x ∷ xs) zero h = refl
some_below (x ∷ xs) (suc n) h = some_below xs n (one_less n (length xs) h)

pub operation_there : (s : Script) (k : Kept) (a i : ℕ) → Starts s k a i → is_some (operation_at s a i) ≡ true
operation_there s k a i t = subst (λ (n : ℕ). is_some (operation_at s a n) ≡ true) (sym t.index) (some_below (operations_of s a) (job_of a k.jobs).answered t.left)
