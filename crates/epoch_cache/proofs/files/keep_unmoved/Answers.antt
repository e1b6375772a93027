use Rattle.std.proofs.Common.{rules, not}
use Rattle.std.proofs.lemmas.Fn.{filter_same}
use Rattle.epoch_cache.specs.declared.cached.CachedFile.{CachedFile}
use Rattle.epoch_cache.specs.Cache.{is_moved}
use Rattle.epoch_cache.proofs.files.keep_unmoved.Goals as goal

pub returns : goal.returns
returns c = filter_same _ (λ (file : CachedFile). not (is_moved c.args.touch.now file.path)) _ (λ x b f' t. search rules) _ _ c.retain.ensures.filtered
