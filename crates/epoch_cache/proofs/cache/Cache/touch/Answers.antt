use Rattle.std.proofs.Common.{◌∙◌, ap}
use Rattle.epoch_cache.specs.Cache.{taken}
use Rattle.epoch_cache.proofs.LookUps.{taken_without, others_without}
use Rattle.epoch_cache.proofs.cache.Cache.touch.Goals as goal

pub returns-clause-taken : goal.returns-clause-taken
returns-clause-taken c = ap (taken c.args.path.now) c.forget_file.ensures ∙ taken_without c.args.path.now c.self.inside.current

pub returns-clause-others : goal.returns-clause-others
returns-clause-others c = λ other apart. ap (taken other) c.forget_file.ensures
    ∙ others_without c.args.path.now c.self.inside.current other apart ∙ ap (λ v. taken other v.files) c.self.view_is
