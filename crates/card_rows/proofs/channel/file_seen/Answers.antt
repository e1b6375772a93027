use Rattle.card_model.specs.Card.{has_path}
use Rattle.card_model.specs.Limits.{HasFittingParameters}
use Rattle.card_rows.proofs.Found.{found_holds}
use Rattle.card_rows.proofs.channel.file_seen.Goals as goal

pub returns-then-is_visible-clause-fits : goal.returns-then-is_visible-clause-fits
returns-then-is_visible-clause-fits c = λ h. found_holds HasFittingParameters (has_path c.args.path.now) _ c.file_at.result h c.file_at.ensures.value
