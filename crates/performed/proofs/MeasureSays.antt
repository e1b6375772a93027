-- What stands where a line is due that is no answer.
use Rattle.std.proofs.Common.{◌≡◌, ℕ, zero, suc, Bool, true, false, if◌then◌else◌, Option, Some, None, is_none, refl, subst}
use Rattle.apdu.specs.Values.{CommandValue}
use Rattle.card_model.specs.declared.world.WorldEvent.{WorldEvent}
use Rattle.script_reader.specs.declared.types.Script.{Script}
use Rattle.report.specs.declared.answer.Answer.{Answer}
use Rattle.rules.specs.declared.kept.Kept.{Kept}
use Rattle.rules.specs.Kept.{job_of, begun_of}
use Rattle.rules.specs.Work.{has_ended, waits_on}
use Rattle.rules.specs.declared.due.Due.{Due}
use Rattle.rules.specs.declared.due.Due.TheVariants.{TellEnd as tell_end, Send as send, ResetCard as reset_card, TryEvent as try_event, TellRefusal as tell_refusal, Publish as publish, Begin as begin, WaitFor as wait_for, EndOfActor as end_of_actor, Rest as rest}
use Rattle.rules.specs.Due.{begin_or_rest, due_at_mark, due_of_actor, due_by_answer, due_by_publication, due_by_refusal, due_by_event, due_by_reset, due_by_command, due_by_end, due, due_command, is_reset_due, tried_event, due_publication, due_answer}

abbrev pub Stands : Kept → Due → Type 0
Stands k (tell_end e n) = k.turn.ended ≡ Some (e, n)
Stands k (send c) = due_command k ≡ Some c
Stands k reset_card = is_reset_due k ≡ true
Stands k (try_event e) = tried_event k ≡ Some e
Stands k (tell_refusal f n) = k.turn.refused ≡ Some (f, n)
Stands k (publish f) = due_publication k ≡ Some f
Stands k (begin i) = k.turn.bare ≡ true
Stands k d = Unit {0}

module _ (s : Script) (k : Kept) where
  free_or_rest : (b : Bool) (i : ℕ) → k.turn.bare ≡ true → Stands k (if b then begin i else rest)
  free_or_rest true i bare = bare
  free_or_rest false i bare = tt

  at_begin : (actor : ℕ) → k.turn.bare ≡ true → Stands k (begin_or_rest s k actor)
  at_begin zero bare = tt
  at_begin (suc a) bare = free_or_rest (is_none (begun_of (suc a) k.jobs)) (job_of (suc a) k.jobs).answered bare

  waits_or : (actor : ℕ) (o : Option ℕ) → k.turn.bare ≡ true → Stands k (elim o [ Some b ↦ wait_for b | None ↦ begin_or_rest s k actor ])
  waits_or actor (Some b) bare = tt
  waits_or actor None bare = at_begin actor bare

  ended_or : (actor : ℕ) (b : Bool) → k.turn.bare ≡ true → Stands k (elim b [ true ↦ end_of_actor | false ↦ elim (waits_on s k actor) [ Some n ↦ wait_for n | None ↦ begin_or_rest s k actor ] ])
  ended_or actor true bare = tt
  ended_or actor false bare = waits_or actor (waits_on s k actor) bare

  bare_or : (actor : ℕ) (b : Bool) → k.turn.bare ≡ b → Stands k (elim b [ true ↦ due_at_mark s k actor | false ↦ rest ])
  bare_or actor true bare = ended_or actor (has_ended s k actor) bare
  bare_or actor false bare = tt

  of_actor : (o : Option ℕ) → Stands k (due_of_actor s k o)
  of_actor None = tt
  of_actor (Some a) = bare_or a k.turn.bare refl

  by_answer : (o : Option Answer) → Stands k (due_by_answer s k o)
  by_answer (Some given) = tt
  by_answer None = of_actor k.turn.actor

  by_publication : (o : Option ℕ) → due_publication k ≡ o → Stands k (due_by_publication s k o)
  by_publication (Some f) e = e
  by_publication None e = by_answer (due_answer s k)

  by_refusal : (o : Option (ℕ × ℕ)) → k.turn.refused ≡ o → Stands k (due_by_refusal s k o)
  by_refusal (Some (f, n)) e = e
  by_refusal None e = by_publication (due_publication k) refl

  by_event : (o : Option WorldEvent) → tried_event k ≡ o → Stands k (due_by_event s k o)
  by_event (Some x) e = e
  by_event None e = by_refusal k.turn.refused refl

  by_reset : (b : Bool) → is_reset_due k ≡ b → Stands k (due_by_reset s k b)
  by_reset true e = e
  by_reset false e = by_event (tried_event k) refl

  by_command : (o : Option CommandValue) → due_command k ≡ o → Stands k (due_by_command s k o)
  by_command (Some c) e = e
  by_command None e = by_reset (is_reset_due k) refl

  by_end : (o : Option (ℕ × ℕ)) → k.turn.ended ≡ o → Stands k (due_by_end s k o)
  by_end (Some (epoch, event)) e = e
  by_end None e = by_command (due_command k) refl

-- at the use
pub stands_of : (s : Script) (k : Kept) (d : Due) → due s k ≡ d → Stands k d
stands_of s k d h = subst (λ (x : Due). Stands k x) h (by_end s k k.turn.ended refl)
