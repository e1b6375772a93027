use Rattle.std.proofs.Common.{◌∙◌, arith}
use Rattle.epoch_cache.proofs.EachItem.{map_one_more, map_to_end}
use Rattle.epoch_cache.proofs.lists.change_items.Goals as goal

pub loop-item-preserved : goal.loop-item-preserved
loop-item-preserved g c = map_one_more (g.C.Change.after c.args.change.now) c.loop-item.items c.loop-item.item-index c.item-item.result c.apply.new.item (omega arith) c.apply.ensures ∙ c.loop-item.invariant

pub returns : goal.returns
returns g c = map_to_end (g.C.Change.after c.args.change.now) _ _ _ (omega arith) c.loop-item.invariant
