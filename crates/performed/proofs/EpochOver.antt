-- A turn that has the end of an epoch to tell sends no more.
use Rattle.std.proofs.Common.{◌≡◌, ℕ, true, List, [], ◌∷◌, is_some, refl, sym, ap, ◌∙◌}
use Rattle.std.proofs.lemmas.Bool.{and_parts}
use Rattle.apdu.specs.Values.{CommandValue, ResponseValue}
use Rattle.script_reader.specs.declared.types.Script.{Script}
use Rattle.report.specs.declared.line.Line.{Line}
use Rattle.report.specs.declared.line.Line.TheVariants as line
use Rattle.rules.specs.declared.kept.Facts.{Facts}
use Rattle.rules.specs.declared.kept.Kept.{Kept}
use Rattle.rules.specs.Channels.{held_numbers}
use Rattle.rules.specs.Kept.{job_of, operation_now}
use Rattle.rules.specs.After.{facts_of, jobs_beside, refused_of, kept_after, kept_of}
use Rattle.rules.specs.Due.{due}
use Rattle.rules.specs.Rules.{is_turn_of}
use Rattle.rules.specs.Performed.{is_sent}
use Rattle.performed.specs.Followed.{is_followed, are_followed}
use Rattle.performed.proofs.EditsState.{is_over}
use Rattle.performed.proofs.EpochEnds.{led_ended}
use Rattle.performed.proofs.EpochLives.{impossible, none_ended, sent_no_end}

abbrev EndsOver : Kept → Type 0
EndsOver k = is_some k.turn.ended ≡ true → is_over k.turn.stage ≡ true

module _ (s : Script) (k : Kept) (t : EndsOver k) where
  -- a command stands in no such turn
  exchange_over : (a : ℕ) (c : CommandValue) (r : ResponseValue) → is_followed s k (line.Exchange a c r) ≡ true → EndsOver (kept_after s (line.Exchange a c r) k)
  exchange_over a c r h some =
      let l : Line = line.Exchange a c r in
      let facts : Facts = facts_of s l k in
      let same = led_ended (operation_now s a k.jobs) (job_of a (kept_after s l k).jobs) (held_numbers k.history k.handles) facts.touch.refresh (refused_of k.selected (jobs_beside l k.history.epoch facts k.selected k.jobs) facts.answered) k.turn facts.answered in
      let none = none_ended s k (sent_no_end (due s k) l (and_parts (is_turn_of a k.turn) (is_sent (due s k) l) h).1) in
      impossible (sym (ap is_some (same ∙ none)) ∙ some)

  line_over : (l : Line) → is_followed s k l ≡ true → EndsOver (kept_after s l k)
  line_over (line.Turn a) h some = impossible some
  line_over (line.Begin a n) h some = t some
  line_over (line.Exchange a c r) h some = exchange_over a c r h some
  line_over (line.Failed a c d) h some = refl
  line_over (line.Reset a) h some = refl
  line_over (line.ResetFailed a) h some = refl
  line_over (line.World a e) h some = refl
  line_over (line.Published n f e v text) h some = refl
  line_over (line.EpochEnd n e v) h some = impossible some
  line_over (line.Refused f n) h some = t some
  line_over (line.Answered a n given) h some = refl

pub ended_over : (s : Script) (lines : List Line) → are_followed s lines ≡ true → is_some (kept_of s lines).turn.ended ≡ true → is_over (kept_of s lines).turn.stage ≡ true
ended_over s [] h some = refl
ended_over s (l ∷ earlier) h some =
    let p = and_parts (are_followed s earlier) (is_followed s (kept_of s earlier) l) h in
    line_over s (kept_of s earlier) (ended_over s earlier p.0) l p.1 some
