use Rattle.std.proofs.Common.{◌≡◌, drop}
use Rattle.link.specs.Exchanges.{selection_over}
use Rattle.link.proofs.selection.Selection.follow_steps.Given as goal

-- the steps that are left lead to the selection behind all
abbrev pub invariant-loop-step : goal.invariant-loop-step
invariant-loop-step l = selection_over (drop l.step-index l.steps) l.self ≡ selection_over l.fn.steps l.fn.self
