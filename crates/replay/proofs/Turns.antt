-- The turns of the schedule and of a round.
use Rattle.std.proofs.Common.{◌≡◌, ℕ, ◌+◌, ◌<◌, ◌≤◌, List, length, get_or, refl, sym, subst, arith, true}
use Rattle.std.proofs.lemmas.Option.{slice_get-get_or}
use Rattle.script_reader.specs.declared.types.Script.{Script}
use Rattle.rules.specs.After.{kept_of}
use Rattle.rules.specs.Kept.{actor_count}
use Rattle.rules.specs.Rules.{scheduled_actor}
use Rattle.rules.specs.Work.{is_idle}
use Rattle.performed.specs.Laws.{SomebodyMoves}
use Rattle.hub.specs.DueSoFar.{IsDueSoFar}
use Rattle.replay.specs.Rounds.{goes_on, kept_in, IsUnderWay, AreRounds, HasTurned, HasGoneRound}
use Rattle.replay.specs.declared.run.Run.{Run}
use Rattle.replay.proofs.Left.{SoFar, so_far_more, gone_round, is_unfinished}
use Rattle.replay.proofs.Rounds.{known_in_schedule, scheduled_first, scheduled_round, round_more}

-- ---- the schedule

pub schedule_known : (s : Script) (r : Run) (turns : List ℕ) (n : ℕ) → IsUnderWay s r → turns ≡ r.hub.script.schedule → n < length s.schedule → get_or turns n 0 ≤ actor_count r.hub.script
schedule_known s r turns n u is within =
    rw is (subst (λ (x : Script). get_or x.schedule n 0 ≤ actor_count x) (sym u.script) (known_in_schedule s n (get_or s.schedule n 0) u.rules (slice_get-get_or s.schedule n 0 within)))

pub schedule_next : (s : Script) (r : Run) (turns : List ℕ) (n : ℕ) → IsUnderWay s r → turns ≡ r.hub.script.schedule → n < length s.schedule → (kept_in s r).marks ≡ n → get_or turns n 0 ≡ scheduled_actor r.hub.script (kept_in r.hub.script r).marks
schedule_next s r turns n u is within marks =
    rw is (subst (λ (x : Script). get_or x.schedule n 0 ≡ scheduled_actor x (kept_of x r.hub.lines).marks) (sym u.script)
    (scheduled_first s n (kept_in s r).marks (get_or s.schedule n 0) (slice_get-get_or s.schedule n 0 within) marks))

-- ---- a round

pub round_next : (s : Script) (r : Run) (start a : ℕ) → IsUnderWay s r → AreRounds s start → (kept_in s r).marks ≡ start + a → a ≤ actor_count s → a ≡ scheduled_actor r.hub.script (kept_in r.hub.script r).marks
round_next s r start a u h is known =
    subst (λ (x : Script). a ≡ scheduled_actor x (kept_of x r.hub.lines).marks) (sym u.script) (scheduled_round s start (kept_in s r).marks a h is known)

-- so far in a round that began with `first`
pub record InRound (s : Script) (first r : Run) (a : ℕ) : Type 0 where
  pub under_way : IsUnderWay s r
  pub marks : (kept_in s r).marks ≡ (kept_in s first).marks + a
  pub so_far : SoFar s (kept_in s first) (kept_in s r) a

turned_here : (a : ℕ) (s : Script) (r r2 : Run) → r.hub.script ≡ s → HasTurned a r.hub.script r r2 → HasTurned a s r r2
turned_here a s r r2 same h = subst (λ (x : Script). HasTurned a x r r2) same h

pub turned_in_round : (s : Script) (first r r2 : Run) (a : ℕ) → InRound s first r a → HasTurned a r.hub.script r r2 → InRound s first r2 (a + 1)
turned_in_round s first r r2 a h there =
    let t : HasTurned a s r r2 = turned_here a s r r2 h.under_way.script there in
    let marks = t.marks in
    let before = h.marks in
    record {
      under_way = t.under_way;
      marks = omega arith;
      so_far = so_far_more s (kept_in s first) (kept_in s r) (kept_in s r2) a (is_idle s (kept_in s r) a) refl t.advances h.so_far;
    }

-- every actor had its turn
pub round_gone : SomebodyMoves → (first r : Run) (a : ℕ) → InRound first.hub.script first r a → IsUnderWay first.hub.script first → AreRounds first.hub.script (kept_in first.hub.script first).marks → IsDueSoFar first.hub → goes_on first.hub.script (kept_in first.hub.script first) ≡ true
    → a ≡ actor_count first.hub.script + 1 → HasGoneRound first.hub.script first r
round_gone laws first r a h u rounds due going all =
    let s = first.hub.script in
    record {
      under_way = h.under_way;
      round = λ further. round_more s (kept_in s first).marks (kept_in s r).marks rounds (let marks = h.marks in omega arith);
      nearer = gone_round s (kept_in s first) (kept_in s r) a (omega arith) (laws s first.hub.lines due.names due.followed (is_unfinished s (kept_in s first) going)) h.so_far;
    }
