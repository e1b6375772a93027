use Rattle.std.proofs.Common.{ap, subst, ◌∙◌}
use Rattle.hub.specs.Hub.{HubValue}
use Rattle.hub.specs.DueSoFar.{IsDueSoFar}
use Rattle.hub.proofs.DueSoFar.{due_so_far}
use Rattle.hub.proofs.hub.Hub.lines_are_due.Goals as goal

pub returns : goal.returns
returns g c = λ whole.
    subst IsDueSoFar c.self.view_is (due_so_far _ _ (c.self.invariant (ap (λ (h : HubValue). h.whole) c.self.view_is ∙ whole)))
