use Rattle.std.proofs.Common.{rules, not}
use Rattle.std.proofs.lemmas.Fn.{filter_same}
use Rattle.epoch_cache.specs.declared.cached.CachedFile.{CachedFile}
use Rattle.epoch_cache.specs.Cache.{is_of}
use Rattle.epoch_cache.proofs.files.keep_others.Goals as goal

pub returns-clause-items : goal.returns-clause-items
returns-clause-items c = filter_same _ (λ (file : CachedFile). not (is_of c.args.path.now file)) _ (λ x b f' t. search rules) _ _ c.retain.ensures.filtered
