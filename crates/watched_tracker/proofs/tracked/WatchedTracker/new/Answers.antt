use Rattle.watched_tracker.proofs.Mailboxes.{first_held, first_masks, same_value}
use Rattle.watched_tracker.proofs.tracked.WatchedTracker.new.Goals as goal

pub invariant_of-result : goal.invariant_of-result
invariant_of-result g c = first_held c.args.script.now c.in_ok-watchers.watchers c.in_ok-new.field-0 c.in_ok-watchers.ensures c.in_ok-new.ensures

pub returns : goal.returns
returns g c = same_value c.in_ok-new.field-0 _ _ _ c.in_ok-new.ensures (first_masks c.args.script.now c.in_ok-watchers.watchers c.in_ok-watchers.ensures)
