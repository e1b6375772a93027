use Rattle.std.proofs.Common.{ap, sym, subst, ◌∙◌, map, Some}
use Rattle.report.specs.declared.line.Line.{Line}
use Rattle.rules.specs.After.{kept_after}
use Rattle.tracker.specs.Room.{HasRoom}
use Rattle.watched_tracker.specs.Watched.{WatchedValue, keeping}
use Rattle.watched_tracker.specs.Watchers.{mailbox_of_actor}
use Rattle.watched_tracker.proofs.Mailboxes.{held_have_room, held_with, offered_masks, published_offers, same_value}
use Rattle.watched_tracker.proofs.tracked.WatchedTracker.publish.Goals as goal

pub change_each-requires : goal.change_each-requires
change_each-requires g c = held_have_room c.self.inside.watchers c.self.inside.tracker c.self.invariant (subst (λ (x : WatchedValue). HasRoom x.kept) (sym c.self.view_is) c.requires.room)

pub invariant_of-self : goal.invariant_of-self
invariant_of-self g c =
    held_with c.self.inside.watchers c.change_each.new.list c.self.inside.tracker c.publish.new.self _
    (offered_masks (record { number = c.in-Published.number; family = Some c.in-Published.family; epoch = c.in-Published.epoch; point = c.in-Published.point }) c.self.inside.watchers c.change_each.new.list c.change_each.ensures)
    (λ h. ap (map mailbox_of_actor) c.change_each.ensures ∙ published_offers c.args.script.now c.self.inside.tracker c.in-Published.number c.in-Published.family c.in-Published.epoch c.in-Published.point c.in-Published.content c.self.inside.watchers h)
    c.self.invariant (c.publish.ensures ∙ ap (λ (l : Line). kept_after c.args.script.now l c.self.inside.tracker) c.in-Published.is)

pub returns : goal.returns
returns g c =
    same_value c.publish.new.self _ _ _ c.publish.ensures
    (offered_masks (record { number = c.in-Published.number; family = Some c.in-Published.family; epoch = c.in-Published.epoch; point = c.in-Published.point }) c.self.inside.watchers c.change_each.new.list c.change_each.ensures)
    ∙ ap (λ (x : WatchedValue). keeping (kept_after c.args.script.now c.args.line.now x.kept) x) c.self.view_is
