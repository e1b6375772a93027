-- What is due says what stands: one walk down its tree, for all that it may be; what begins, and where a turn ends.
use Rattle.std.proofs.Common.{◌≡◌, ℕ, zero, suc, Bool, true, false, if◌then◌else◌, Option, Some, None, ◌&&◌, refl, sym, subst, true≢false}
use Rattle.std.specs.Prelude.{is_none}
use Rattle.std.proofs.lemmas.Bool.{and_parts, eqb-true}
use Rattle.apdu.specs.Words.{same_number}
use Rattle.apdu.specs.Values.{CommandValue}
use Rattle.card_model.specs.declared.world.WorldEvent.{WorldEvent}
use Rattle.script_reader.specs.declared.types.Script.{Script}
use Rattle.report.specs.declared.answer.Answer.{Answer}
use Rattle.rules.specs.declared.kept.Kept.{Kept}
use Rattle.rules.specs.Kept.{job_of, begun_of}
use Rattle.rules.specs.Work.{has_ended, waits_on}
use Rattle.rules.specs.declared.due.Due.{Due}
use Rattle.rules.specs.declared.due.Due.TheVariants.{TellEnd as tell_end, Send as send, ResetCard as reset_card, TryEvent as try_event, TellRefusal as tell_refusal, Publish as publish, Give as give, Begin as begin, WaitFor as wait_for, EndOfActor as end_of_actor, Rest as rest}
use Rattle.rules.specs.Rules.{is_turn_of}
use Rattle.rules.specs.Performed.{ends_turn, begins_as}
use Rattle.rules.specs.Due.{begin_or_rest, due_at_mark, due_of_actor, due_by_answer, due_by_publication, due_by_refusal, due_by_event, due_by_reset, due_by_command, due_by_end, due, due_command, is_reset_due, tried_event, due_publication, due_answer}

-- nothing is left to do in the turn
pub record IsDone (s : Script) (k : Kept) : Type 0 where
  pub ended : k.turn.ended ≡ None
  pub command : due_command k ≡ None
  pub reset : is_reset_due k ≡ false
  pub event : tried_event k ≡ None
  pub refused : k.turn.refused ≡ None
  pub publication : due_publication k ≡ None
  pub answer : due_answer s k ≡ None

-- an operation begins directly behind the mark, where its actor neither waits nor has ended
pub record Begins (s : Script) (k : Kept) (i : ℕ) : Type 0 where
  pub actor : ℕ
  pub turn : k.turn.actor ≡ Some (suc actor)
  pub bare : k.turn.bare ≡ true
  pub index : i ≡ (job_of (suc actor) k.jobs).answered
  pub free : is_none (begun_of (suc actor) k.jobs) ≡ true
  pub left : has_ended s k (suc actor) ≡ false
  pub waits : waits_on s k (suc actor) ≡ None

-- what a due line says of what is kept
abbrev pub Says : Script → Kept → Due → Type 0
Says s k (tell_end e n) = k.turn.ended ≡ Some (e, n)
Says s k (send c) = due_command k ≡ Some c
Says s k reset_card = is_reset_due k ≡ true
Says s k (try_event e) = tried_event k ≡ Some e
Says s k (tell_refusal f n) = k.turn.refused ≡ Some (f, n)
Says s k (publish f) = due_publication k ≡ Some f
Says s k (give a) = due_answer s k ≡ Some a
Says s k (begin i) = IsDone s k × Begins s k i
Says s k (wait_for b) = IsDone s k
Says s k end_of_actor = IsDone s k
Says s k rest = IsDone s k

module _ (s : Script) (k : Kept) where
  free_or_rest : (actor : ℕ) (b : Bool) → IsDone s k → is_none (begun_of (suc actor) k.jobs) ≡ b → k.turn.actor ≡ Some (suc actor) → k.turn.bare ≡ true → has_ended s k (suc actor) ≡ false → waits_on s k (suc actor) ≡ None → Says s k (if b then begin (job_of (suc actor) k.jobs).answered else rest)
  free_or_rest actor true d free turn bare left waits = (d, record { actor = actor; turn = turn; bare = bare; index = refl; free = free; left = left; waits = waits })
  free_or_rest actor false d free turn bare left waits = d

  at_begin : (actor : ℕ) → IsDone s k → k.turn.actor ≡ Some actor → k.turn.bare ≡ true → has_ended s k actor ≡ false → waits_on s k actor ≡ None → Says s k (begin_or_rest s k actor)
  at_begin zero d turn bare left waits = d
  at_begin (suc a) d turn bare left waits = free_or_rest a (is_none (begun_of (suc a) k.jobs)) d refl turn bare left waits

  waits_or : (actor : ℕ) (o : Option ℕ) → IsDone s k → k.turn.actor ≡ Some actor → k.turn.bare ≡ true → has_ended s k actor ≡ false → waits_on s k actor ≡ o → Says s k (elim o [ Some b ↦ wait_for b | None ↦ begin_or_rest s k actor ])
  waits_or actor (Some b) d turn bare left waits = d
  waits_or actor None d turn bare left waits = at_begin actor d turn bare left waits

  ended_or : (actor : ℕ) (b : Bool) → IsDone s k → k.turn.actor ≡ Some actor → k.turn.bare ≡ true → has_ended s k actor ≡ b → Says s k (elim b [ true ↦ end_of_actor | false ↦ elim (waits_on s k actor) [ Some n ↦ wait_for n | None ↦ begin_or_rest s k actor ] ])
  ended_or actor true d turn bare left = d
  ended_or actor false d turn bare left = waits_or actor (waits_on s k actor) d turn bare left refl

  bare_or : (actor : ℕ) (b : Bool) → IsDone s k → k.turn.actor ≡ Some actor → k.turn.bare ≡ b → Says s k (elim b [ true ↦ due_at_mark s k actor | false ↦ rest ])
  bare_or actor true d turn bare = ended_or actor (has_ended s k actor) d turn bare refl
  bare_or actor false d turn bare = d

  of_actor : (o : Option ℕ) → IsDone s k → k.turn.actor ≡ o → Says s k (due_of_actor s k o)
  of_actor None d turn = d
  of_actor (Some a) d turn = bare_or a k.turn.bare d turn refl

  by_answer : (o : Option Answer) → due_answer s k ≡ o → (due_answer s k ≡ None → IsDone s k) → Says s k (due_by_answer s k o)
  by_answer (Some given) e d = e
  by_answer None e d = of_actor k.turn.actor (d e) refl

  by_publication : (o : Option ℕ) → due_publication k ≡ o → (due_publication k ≡ None → due_answer s k ≡ None → IsDone s k) → Says s k (due_by_publication s k o)
  by_publication (Some f) e d = e
  by_publication None e d = by_answer (due_answer s k) refl (d e)

  by_refusal : (o : Option (ℕ × ℕ)) → k.turn.refused ≡ o → (k.turn.refused ≡ None → due_publication k ≡ None → due_answer s k ≡ None → IsDone s k) → Says s k (due_by_refusal s k o)
  by_refusal (Some (f, n)) e d = e
  by_refusal None e d = by_publication (due_publication k) refl (d e)

  by_event : (o : Option WorldEvent) → tried_event k ≡ o → (tried_event k ≡ None → k.turn.refused ≡ None → due_publication k ≡ None → due_answer s k ≡ None → IsDone s k) → Says s k (due_by_event s k o)
  by_event (Some x) e d = e
  by_event None e d = by_refusal k.turn.refused refl (d e)

  by_reset : (b : Bool) → is_reset_due k ≡ b → (is_reset_due k ≡ false → tried_event k ≡ None → k.turn.refused ≡ None → due_publication k ≡ None → due_answer s k ≡ None → IsDone s k) → Says s k (due_by_reset s k b)
  by_reset true e d = e
  by_reset false e d = by_event (tried_event k) refl (d e)

  by_command : (o : Option CommandValue) → due_command k ≡ o → (due_command k ≡ None → is_reset_due k ≡ false → tried_event k ≡ None → k.turn.refused ≡ None → due_publication k ≡ None → due_answer s k ≡ None → IsDone s k) → Says s k (due_by_command s k o)
  by_command (Some c) e d = e
  by_command None e d = by_reset (is_reset_due k) refl (d e)

  by_end : (o : Option (ℕ × ℕ)) → k.turn.ended ≡ o → Says s k (due_by_end s k o)
  by_end (Some (epoch, event)) e = e
  by_end None e = by_command (due_command k) refl (λ command reset event refused publication answer. record {
    ended = e;
    command = command;
    reset = reset;
    event = event;
    refused = refused;
    publication = publication;
    answer = answer;
  })

  pub says : Says s k (due s k)
  says = by_end k.turn.ended refl

-- at the use
pub says_of : (s : Script) (k : Kept) (d : Due) → due s k ≡ d → Says s k d
says_of s k d h = subst (λ (x : Due). Says s k x) h (says s k)

-- ---- a turn ends

pub turn_done : (s : Script) (k : Kept) → ends_turn (due s k) ≡ true → IsDone s k
turn_done s k h = by_due (due s k) refl h
  where
    by_due : (d : Due) → due s k ≡ d → ends_turn d ≡ true → IsDone s k
    by_due rest e h = says_of s k rest e
    by_due (wait_for b) e h = says_of s k (wait_for b) e
    by_due end_of_actor e h = says_of s k end_of_actor e
    by_due d e h = absurd (true≢false (sym h))

-- ---- an operation begins

-- the one that is due, in the turn of its actor
pub record BeginsNow (s : Script) (k : Kept) (a i : ℕ) : Type 0 where
  pub done : IsDone s k
  pub begins : Begins s k i
  pub same : a ≡ suc begins.actor

pub begins_now : (s : Script) (k : Kept) (a i : ℕ) → is_turn_of a k.turn && begins_as i (due s k) ≡ true → BeginsNow s k a i
begins_now s k a i h =
    let p = and_parts (is_turn_of a k.turn) (begins_as i (due s k)) h in
    by_due (due s k) refl p.0 p.1
  where
    by_index : (j : ℕ) → IsDone s k × Begins s k j → i ≡ j → is_turn_of a k.turn ≡ true → BeginsNow s k a i
    by_index j d e t =
        let b : Begins s k i = subst (λ (n : ℕ). Begins s k n) (sym e) d.1 in
        record {
          done = d.0;
          begins = b;
          same = sym (eqb-true (suc b.actor) a (subst (λ (o : Option ℕ). same_number o (Some a) ≡ true) b.turn t));
        }

    by_due : (d : Due) → due s k ≡ d → is_turn_of a k.turn ≡ true → begins_as i d ≡ true → BeginsNow s k a i
    by_due (begin j) e t h = by_index j (says_of s k (begin j) e) (eqb-true i j h) t
    by_due d e t h = absurd (true≢false (sym h))
