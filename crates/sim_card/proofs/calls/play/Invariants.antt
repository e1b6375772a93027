use Rattle.std.proofs.Common.{◌≡◌, drop}
use Rattle.sim_card.specs.Calls.{after_calls}
use Rattle.sim_card.proofs.calls.play.Given as goal

abbrev pub invariant-loop-call : goal.invariant-loop-call
invariant-loop-call l = after_calls l.fn.slot l.calls ≡ after_calls l.slot (drop l.call-index l.calls)
