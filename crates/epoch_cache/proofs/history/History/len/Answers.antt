use Rattle.std.proofs.Common.{◌∙◌, ap, length}
use Rattle.epoch_cache.specs.Store.{history_events}
use Rattle.epoch_cache.proofs.Stored.{past_count}
use Rattle.epoch_cache.proofs.history.History.len.Goals as goal

pub returns : goal.returns
returns c = ap (λ p. p.events) c.self.invariant.kept ∙ past_count (history_events c.self.inside.entries.items c.self.inside.bytes.items) ∙ ap (λ h. length h.events) c.self.view_is
