use Rattle.std.proofs.Common.{◌≡◌, ◌∙◌, ap, subst, Some}
use Rattle.std.proofs.lemmas.Result.{on_ok_weaker}
use Rattle.epoch_cache.specs.Cache.{taken}
use Rattle.epoch_cache.specs.Places.{KeepsOthers}
use Rattle.epoch_cache.proofs.LookUps.{taken_with, others_with}
use Rattle.epoch_cache.proofs.cache.Cache.put.Goals as goal

pub returns-clause-taken : goal.returns-clause-taken
returns-clause-taken c = on_ok_weaker c.put_file.result
    (λ e. subst (λ p. taken p c.put_file.new.files ≡ Some (record { path = p; content = c.args.rows; arr = c.args.arr })) c.copy.ensures
    (ap (taken c.copy.result) e ∙ taken_with (record { path = c.copy.result; content = c.args.rows; arr = c.args.arr }) c.self.inside.current))
    c.put_file.ensures.ok

pub returns-clause-others : goal.returns-clause-others
returns-clause-others c = on_ok_weaker c.put_file.result
    (λ e. subst (λ p. KeepsOthers p c.args.self.now.files c.put_file.new.files) c.copy.ensures
    (λ other apart. ap (taken other) e ∙ others_with (record { path = c.copy.result; content = c.args.rows; arr = c.args.arr }) c.self.inside.current other apart
    ∙ ap (λ v. taken other v.files) c.self.view_is))
    c.put_file.ensures.ok
