use Rattle.std.proofs.Common.{rules, not}
use Rattle.std.specs.Option.{option_copied}
use Rattle.std.proofs.lemmas.Fn.{filter_same}
use Rattle.epoch_cache.specs.Cache.{is_spoiled}
use Rattle.loader.specs.Values.{ReadingValue}
use Rattle.loader.proofs.readings.keep_unspoiled.Goals as goal

pub returns : goal.returns
returns c = filter_same _ (λ (g : ReadingValue). not (is_spoiled c.args.touch.now (option_copied c.args.selected) g.path)) _ (λ x b f' t. search rules) _ _ c.retain.ensures.filtered
