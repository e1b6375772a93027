use Rattle.std.proofs.Common.{ap, sym, subst, ◌∙◌, map, None}
use Rattle.report.specs.declared.line.Line.TheVariants as line
use Rattle.rules.specs.After.{kept_after}
use Rattle.tracker.specs.Room.{HasRoom}
use Rattle.watched_tracker.specs.Watched.{WatchedValue, keeping}
use Rattle.watched_tracker.specs.Watchers.{mailbox_of_actor}
use Rattle.watched_tracker.proofs.Mailboxes.{end_offers, held_have_room, held_with, offered_masks, same_value}
use Rattle.watched_tracker.proofs.tracked.WatchedTracker.end_epoch.Goals as goal

pub change_each-requires : goal.change_each-requires
change_each-requires g c = held_have_room c.self.inside.watchers c.self.inside.tracker c.self.invariant (subst (λ (x : WatchedValue). HasRoom x.kept) (sym c.self.view_is) c.requires)

pub invariant_of-self : goal.invariant_of-self
invariant_of-self g c =
    held_with c.self.inside.watchers c.change_each.new.list c.self.inside.tracker c.end_epoch.new.self _
    (offered_masks (record { number = c.args.number; family = None; epoch = c.args.epoch; point = c.args.event }) c.self.inside.watchers c.change_each.new.list c.change_each.ensures)
    (λ h. ap (map mailbox_of_actor) c.change_each.ensures ∙ end_offers c.args.script.now c.self.inside.tracker c.args.number c.args.epoch c.args.event c.self.inside.watchers h)
    c.self.invariant c.end_epoch.ensures

pub returns : goal.returns
returns g c =
    same_value c.end_epoch.new.self _ _ _ c.end_epoch.ensures
    (offered_masks (record { number = c.args.number; family = None; epoch = c.args.epoch; point = c.args.event }) c.self.inside.watchers c.change_each.new.list c.change_each.ensures)
    ∙ ap (λ (x : WatchedValue). keeping (kept_after c.args.script.now (line.EpochEnd c.args.number c.args.epoch c.args.event) x.kept) x) c.self.view_is
