-- Each event that ends an epoch which lived is told once, before its turn ends.
use Rattle.std.proofs.Common.{◌≡◌, ℕ, ◌+◌, ◌&&◌, not, Bool, true, false, if◌then◌else◌, Option, Some, None, is_some, List, [], ◌∷◌, refl, ap, ◌∙◌, arith}
use Rattle.std.specs.Prelude.{nat_le}
use Rattle.std.proofs.lemmas.Bool.{and_parts}
use Rattle.apdu.specs.Values.{CommandValue, ResponseValue}
use Rattle.card_model.specs.declared.world.WorldEvent.{WorldEvent}
use Rattle.card_model.specs.declared.world.WorldEvent.TheVariants as world_event
use Rattle.script_reader.specs.declared.types.Operation.{Operation}
use Rattle.script_reader.specs.declared.types.Script.{Script}
use Rattle.report.specs.declared.line.Line.{Line}
use Rattle.report.specs.declared.line.Line.TheVariants as line
use Rattle.link.specs.declared.chain.Final.{Final}
use Rattle.loader.specs.declared.reading.RefusedReading.{RefusedReading}
use Rattle.refresh_cmd.specs.Values.{ProactiveValue}
use Rattle.rules.specs.declared.due.Due.{Due}
use Rattle.rules.specs.declared.due.Due.TheVariants.{TellEnd as tell_end}
use Rattle.rules.specs.declared.kept.Facts.{Facts}
use Rattle.rules.specs.declared.kept.Job.{Job}
use Rattle.rules.specs.declared.kept.Kept.{Kept}
use Rattle.rules.specs.declared.kept.Turn.{Turn}
use Rattle.rules.specs.History.{ends_epoch}
use Rattle.rules.specs.Channels.{held_numbers}
use Rattle.rules.specs.Kept.{actor_count, job_of, operation_now}
use Rattle.rules.specs.Work.{is_finished}
use Rattle.rules.specs.After.{facts_of, jobs_beside, refused_of, kept_after, kept_of}
use Rattle.rules.specs.Due.{due}
use Rattle.rules.specs.Performed.{ends_turn, is_end_told, is_reset, is_sent}
use Rattle.rules.specs.Rules.{is_turn_of}
use Rattle.performed.specs.Followed.{is_tried, are_followed, is_followed}
use Rattle.performed.specs.Measure.{one_if}
use Rattle.performed.specs.Laws.{tells_end, ends_told, ends_happened, EndsAreTold}
use Rattle.performed.proofs.MeasureShape.{led}
use Rattle.performed.proofs.TurnsSays.{says_of, turn_done}
use Rattle.performed.proofs.EpochLives.{impossible, none_ended, reset_no_end, sent_no_end, tried_no_end}

-- the end that the turn still has to tell
abbrev untold : Kept → ℕ
untold k = one_if (is_some k.turn.ended)

-- what a line adds to the ends that are told and to those that happened
abbrev Adds : Script → Kept → Line → Type 0
Adds s k l = (told happened : ℕ) → told + untold k ≡ happened → (one_if (tells_end l) + told) + untold (kept_after s l k) ≡ one_if (ends_epoch l k.history) + happened

pub led_ended : (op : Option Operation) (job : Job) (held : List ℕ) (refresh : Option ProactiveValue) (refused : Option RefusedReading) (t : Turn) (o : Option Final) → (led op job held refresh refused t o).ended ≡ t.ended
led_ended op job held refresh refused t None = refl
led_ended op job held refresh refused t (Some f) = refl

none_told : (o : Option (ℕ × ℕ)) → o ≡ None → one_if (is_some o) ≡ 0
none_told o h = ap (λ (x : Option (ℕ × ℕ)). one_if (is_some x)) h

some_told : (o : Option (ℕ × ℕ)) (e n : ℕ) → o ≡ Some (e, n) → one_if (is_some o) ≡ 1
some_told o e n h = ap (λ (x : Option (ℕ × ℕ)). one_if (is_some x)) h

one_event : (ends : Bool) (epoch event : ℕ) → one_if (is_some {T = ℕ × ℕ} (if ends then Some (epoch, event) else None)) ≡ one_if ends
one_event true epoch event = refl
one_event false epoch event = refl

module _ (s : Script) (k : Kept) where
  -- the line tells no end and is none
  still : (l : Line) → tells_end l ≡ false → ends_epoch l k.history ≡ false → (kept_after s l k).turn.ended ≡ k.turn.ended → Adds s k l
  still l tells ends same told happened h =
      let a : one_if (tells_end l) ≡ 0 = ap one_if tells in
      let b : one_if (ends_epoch l k.history) ≡ 0 = ap one_if ends in
      let c : untold (kept_after s l k) ≡ untold k = ap (λ (x : Option (ℕ × ℕ)). one_if (is_some x)) same in
      omega (arith, a, b, c, h)

  -- an event, where no other end is to be told
  event : (l : Line) → tells_end l ≡ false → k.turn.ended ≡ None → (kept_after s l k).turn.ended ≡ (if ends_epoch l k.history then Some (k.history.epoch, k.history.events + 1) else k.turn.ended) → Adds s k l
  event l tells none is told happened h =
      let a : one_if (tells_end l) ≡ 0 = ap one_if tells in
      let b : untold k ≡ 0 = none_told k.turn.ended none in
      let c : untold (kept_after s l k) ≡ one_if (ends_epoch l k.history) =
      ap (λ (x : Option (ℕ × ℕ)). one_if (is_some x)) (is ∙ ap (λ (x : Option (ℕ × ℕ)). if ends_epoch l k.history then Some (k.history.epoch, k.history.events + 1) else x) none)
      ∙ one_event (ends_epoch l k.history) k.history.epoch (k.history.events + 1) in
      omega (arith, a, b, c, h)

  -- a mark stands behind all that its turn has to tell
  marked : (a : ℕ) → k.turn.ended ≡ None → Adds s k (line.Turn a)
  marked a none told happened h = let b : untold k ≡ 0 = none_told k.turn.ended none in omega (arith, b, h)

  end_stands : (number e n : ℕ) (d : Due) → due s k ≡ d → is_end_told k number e n d ≡ true → untold k ≡ 1
  end_stands number e n (tell_end g m) is h = some_told k.turn.ended g m (says_of s k (tell_end g m) is)
  end_stands number e n d is h = impossible h

  told_now : (number e n : ℕ) → is_end_told k number e n (due s k) ≡ true → Adds s k (line.EpochEnd number e n)
  told_now number e n t told happened h = let b : untold k ≡ 1 = end_stands number e n (due s k) refl t in omega (arith, b, h)

  exchanged : (a : ℕ) (c : CommandValue) (r : ResponseValue) → Adds s k (line.Exchange a c r)
  exchanged a c r =
      let l : Line = line.Exchange a c r in
      let facts : Facts = facts_of s l k in
      still l refl refl
      (led_ended (operation_now s a k.jobs) (job_of a (kept_after s l k).jobs) (held_numbers k.history k.handles) facts.touch.refresh
      (refused_of k.selected (jobs_beside l k.history.epoch facts k.selected k.jobs) facts.answered) k.turn facts.answered)

  happens : (a : ℕ) (e : WorldEvent) → k.turn.ended ≡ None → Adds s k (line.World a e)
  happens a (world_event.Insert j) none = event (line.World a (world_event.Insert j)) refl none refl
  happens a world_event.Out none = event (line.World a world_event.Out) refl none refl
  happens a (world_event.Arm i) none = event (line.World a (world_event.Arm i)) refl none refl

  adds : (l : Line) → is_followed s k l ≡ true → Adds s k l
  adds (line.Turn a) h = marked a (turn_done s k (and_parts (ends_turn (due s k)) (not (is_finished s k)) (and_parts (ends_turn (due s k) && not (is_finished s k)) (nat_le a (actor_count s)) h).0).0).ended
  adds (line.Begin a i) h = still (line.Begin a i) refl refl refl
  adds (line.Exchange a c r) h = exchanged a c r
  adds (line.Failed a c d) h = event (line.Failed a c d) refl (none_ended s k (sent_no_end (due s k) (line.Failed a c d) (and_parts (is_turn_of a k.turn) (is_sent (due s k) (line.Failed a c d)) h).1)) refl
  adds (line.Reset a) h = event (line.Reset a) refl (none_ended s k (reset_no_end (due s k) (and_parts (is_turn_of a k.turn) (is_reset (due s k)) h).1)) refl
  adds (line.ResetFailed a) h = event (line.ResetFailed a) refl (none_ended s k (reset_no_end (due s k) (and_parts (is_turn_of a k.turn) (is_reset (due s k)) h).1)) refl
  adds (line.World a e) h = happens a e (none_ended s k (tried_no_end e (due s k) (and_parts (is_turn_of a k.turn) (is_tried e (due s k)) h).1))
  adds (line.Published n f e v text) h = still (line.Published n f e v text) refl refl refl
  adds (line.EpochEnd n e v) h = told_now n e v h
  adds (line.Refused f n) h = still (line.Refused f n) refl refl refl
  adds (line.Answered a i given) h = still (line.Answered a i given) refl refl refl

pub ends_are_told : EndsAreTold
ends_are_told s [] f = refl
ends_are_told s (l ∷ earlier) f =
    let p = and_parts (are_followed s earlier) (is_followed s (kept_of s earlier) l) f in
    adds s (kept_of s earlier) l p.1 (ends_told earlier) (ends_happened s earlier) (ends_are_told s earlier p.0)
