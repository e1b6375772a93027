use Rattle.std.proofs.Common.{◌∙◌, ap}
use Rattle.std.specs.Prelude.{option_map}
use Rattle.epoch_cache.specs.Cache.{taken, patched_file}
use Rattle.epoch_cache.proofs.LookUps.{taken_patched, others_patched}
use Rattle.epoch_cache.proofs.cache.Cache.patch.Goals as goal

pub returns-clause-taken : goal.returns-clause-taken
returns-clause-taken c = ap (taken c.args.path.now) c.patch_file.ensures
    ∙ taken_patched c.args.path.now c.args.row c.args.bytes.now c.self.inside.current c.args.path.now
    ∙ ap (λ v. option_map (patched_file c.args.path.now c.args.row c.args.bytes.now) (taken c.args.path.now v.files)) c.self.view_is

pub returns-clause-others : goal.returns-clause-others
returns-clause-others c = λ other apart. ap (taken other) c.patch_file.ensures
    ∙ others_patched c.args.path.now c.args.row c.args.bytes.now c.self.inside.current other apart ∙ ap (λ v. taken other v.files) c.self.view_is
