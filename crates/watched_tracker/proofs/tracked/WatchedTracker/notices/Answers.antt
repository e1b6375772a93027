use Rattle.std.proofs.Common.{ap, sym, subst, ◌∙◌, ◌<◌, length, List, Option, ℕ}
use Rattle.rules.specs.Kept.{job_of}
use Rattle.rules.specs.Watching.{notices_of}
use Rattle.watched_tracker.specs.Watched.{WatchedValue}
use Rattle.watched_tracker.proofs.Mailboxes.{notices_there}
use Rattle.watched_tracker.proofs.tracked.WatchedTracker.notices.Goals as goal

pub returns : goal.returns
returns g c =
    c.notices_at.ensures
    ∙ notices_there c.self.inside.watchers c.self.inside.tracker.jobs c.args.actor c.self.invariant (subst (λ (l : List (Option ℕ)). 0 < length l) (sym (ap (λ (x : WatchedValue). x.masks) c.self.view_is)) c.requires)
    ∙ ap (λ (x : WatchedValue). notices_of (job_of c.args.actor x.kept.jobs).mailbox) c.self.view_is
