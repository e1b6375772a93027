use Rattle.std.proofs.Common.{ap, sym, ◌∙◌, map}
use Rattle.rules.specs.After.{kept_after}
use Rattle.watched_tracker.specs.Watched.{WatchedValue, keeping}
use Rattle.watched_tracker.specs.Watchers.{mailbox_of_actor, mask_of_actor}
use Rattle.watched_tracker.proofs.Mailboxes.{held_on, held_with, masks_begun, not_watching, quiet_answer, same_value, watching_begins}
use Rattle.watched_tracker.proofs.tracked.WatchedTracker.answer.Goals as goal

pub invariant_of-self-in-Some : goal.invariant_of-self-in-Some
invariant_of-self-in-Some g c =
    held_with c.self.inside.watchers c.begin_watching.new.watchers c.self.inside.tracker c.answer.new.self _
    (ap (map mask_of_actor) c.begin_watching.ensures ∙ masks_begun c.in-Some.actor c.self.inside.watchers)
    (λ h. ap (map mailbox_of_actor) c.begin_watching.ensures
    ∙ watching_begins c.args.script.now c.self.inside.tracker c.args.line.now c.in-Some.actor c.self.inside.watchers (sym c.begins_watching.ensures ∙ c.in-Some.is) c.requires.rules
    (ap (λ (x : WatchedValue). x.masks) c.self.view_is ∙ c.requires.masks) h)
    c.self.invariant c.in_ok-answer.ensures.ok

pub invariant_of-self-in_default : goal.invariant_of-self-in_default
invariant_of-self-in_default g c =
    held_on c.self.inside.watchers c.self.inside.tracker c.answer.new.self _ c.self.invariant
    (quiet_answer c.args.script.now c.self.inside.tracker c.args.line.now c.requires.kind (sym c.begins_watching.ensures ∙ not_watching _ c.in_default.not-Some)) c.in_ok-answer.ensures.ok

pub returns-in-Some-clause-ok : goal.returns-in-Some-clause-ok
returns-in-Some-clause-ok g c =
    same_value c.answer.new.self _ _ _ c.in_ok-answer.ensures.ok (ap (map mask_of_actor) c.begin_watching.ensures ∙ masks_begun c.in-Some.actor c.self.inside.watchers)
    ∙ ap (λ (x : WatchedValue). keeping (kept_after c.args.script.now c.args.line.now x.kept) x) c.self.view_is
