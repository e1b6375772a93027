use Rattle.std.proofs.Common.{◌∙◌, sym}
use Rattle.epoch_cache.proofs.Listed.{refreshed_every, refreshed_nothing}
use Rattle.epoch_cache.proofs.cache.Cache.touch_refreshed.Goals as goal

pub returns-then-renews_every-clause-files : goal.returns-then-renews_every-clause-files
returns-then-renews_every-clause-files c = c.touch_all.ensures.files ∙ sym (refreshed_every c.args.refresh.now c.args.self.now.files (sym c.renews_every.ensures ∙ c.if-renews_every.true))

pub returns-else-names_listed-clause-files : goal.returns-else-names_listed-clause-files
returns-else-names_listed-clause-files c = sym (refreshed_nothing c.args.refresh.now c.args.self.now.files (sym c.renews_every.ensures ∙ c.if-renews_every.false) (sym c.names_listed.ensures ∙ c.if-names_listed.false))
