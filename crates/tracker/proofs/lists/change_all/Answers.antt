use Rattle.std.proofs.Common.{◌∙◌, arith}
use Rattle.tracker.proofs.EachItem.{map_one_more, map_to_end, passes_at, pass_behind}
use Rattle.tracker.proofs.lists.change_all.Goals as goal

pub apply-requires : goal.apply-requires
apply-requires g c = passes_at (g.C.Change.fits c.args.change.now) c.loop-item.items c.loop-item.item-index c.item-item.result (omega arith) (c.loop-item.invariant).1

pub loop-item-preserved : goal.loop-item-preserved
loop-item-preserved g c = (map_one_more (g.C.Change.after c.args.change.now) c.loop-item.items c.loop-item.item-index c.item-item.result c.apply.new.item (omega arith) c.apply.ensures ∙ (c.loop-item.invariant).0, pass_behind (g.C.Change.fits c.args.change.now) c.loop-item.items c.loop-item.item-index c.apply.new.item (c.loop-item.invariant).1)

pub returns : goal.returns
returns g c = map_to_end (g.C.Change.after c.args.change.now) _ _ _ (omega arith) (c.loop-item.invariant).0
