use Rattle.std.proofs.Common.{◌∙◌}
use Rattle.std.proofs.lemmas.Result.{IfOk-weaker}
use Rattle.content_tracker.proofs.Views.{current_decoded}
use Rattle.content_tracker.proofs.contents.decoded.Goals as goal

pub returns-clause-content : goal.returns-clause-content
returns-clause-content c = IfOk-weaker c.decode.result _ _ (λ content e. e ∙ current_decoded c.args.family c.args.files.now c.requires) c.decode.ensures.content
