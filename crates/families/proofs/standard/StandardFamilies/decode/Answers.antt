use Rattle.std.proofs.Common.{◌∙◌, ap}
use Rattle.std.proofs.lemmas.Result.{IfOk-weaker}
use Rattle.families.specs.Contents.{content_text, files_of}
use Rattle.families.proofs.Shown.{decoded_shown}
use Rattle.families.proofs.standard.StandardFamilies.decode.Goals as goal

-- what is decoded shows the family
pub returns-clause-text : goal.returns-clause-text
returns-clause-text g c = IfOk-weaker c.content.result _ _ (λ v e. ap content_text e ∙ decoded_shown c.args.family (files_of (g.V.FileView.content c.args.view.now))) c.content.ensures
