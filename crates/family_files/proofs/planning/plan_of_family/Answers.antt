use Rattle.std.proofs.Common.{◌∙◌}
use Rattle.std.proofs.lemmas.Result.{IfOk-weaker}
use Rattle.family_files.proofs.Short.{short_plan}
use Rattle.family_files.proofs.planning.plan_of_family.Goals as goal

pub returns-clause-short : goal.returns-clause-short
returns-clause-short c =
    IfOk-weaker c.plan_edit.result _ _
    (λ planned is. short_plan c.args.edit.now c.content_of-main.result.now c.content_of-extension.result.now planned c.plans_fit.ensures c.content_of-main.ensures.content c.content_of-extension.ensures.content is)
    c.plan_edit.ensures
