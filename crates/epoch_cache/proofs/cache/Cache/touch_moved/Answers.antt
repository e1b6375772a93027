use Rattle.std.proofs.Common.{◌∙◌, sym}
use Rattle.epoch_cache.proofs.Listed.{forgotten_every, forgotten_nothing}
use Rattle.epoch_cache.proofs.cache.Cache.touch_moved.Goals as goal

pub returns-then-moves_every-clause-files : goal.returns-then-moves_every-clause-files
returns-then-moves_every-clause-files c = c.touch_all.ensures.files ∙ sym (forgotten_every c.args.touch.now c.args.self.now.files (sym c.moves_every.ensures ∙ c.if-moves_every.true))

pub returns-in_default-clause-files : goal.returns-in_default-clause-files
returns-in_default-clause-files c = sym (forgotten_nothing c.args.touch.now c.args.self.now.files (sym c.moves_every.ensures ∙ c.if-moves_every.false) c.in_default.is)
