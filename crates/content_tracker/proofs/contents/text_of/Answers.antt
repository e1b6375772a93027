use Rattle.std.proofs.Common.{◌∙◌}
use Rattle.std.proofs.lemmas.Result.{IfOk-weaker}
use Rattle.content_tracker.proofs.Views.{kept_shown}
use Rattle.content_tracker.proofs.contents.text_of.Goals as goal

pub returns-clause-text : goal.returns-clause-text
returns-clause-text c = IfOk-weaker c.text-text.result _ _ (λ text e. e ∙ kept_shown c.args.family c.args.files.now c.in_ok-content.content c.in_ok-content.ensures.content) c.text-text.ensures
