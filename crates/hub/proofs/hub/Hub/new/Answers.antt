use Rattle.std.proofs.Common.{ap}
use Rattle.watched_tracker.specs.Watched.{WatchedValue}
use Rattle.hub.proofs.Taken.{first_settled}
use Rattle.hub.proofs.hub.Hub.new.Goals as goal

pub invariant_of-result : goal.invariant_of-result
invariant_of-result g c = λ whole.
    first_settled (record { script = c.args.script; lines = c.new-2.result; kept = c.in_ok-tracker.tracker.kept; masks = c.in_ok-tracker.tracker.masks; world = g.S.Slot.world c.args.slot; plan = g.S.Slot.plan c.args.slot })
    (ap (λ x. x.lines) c.new-2.ensures) (ap (λ (x : WatchedValue). x.kept) c.in_ok-tracker.ensures) (ap (λ (x : WatchedValue). x.masks) c.in_ok-tracker.ensures) c.requires.rules c.script_names_are_utf8.ensures c.requires.world c.requires.plan
