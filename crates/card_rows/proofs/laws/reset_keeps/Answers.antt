use Rattle.card_rows.proofs.Resets.{reset-keeps}
use Rattle.card_rows.proofs.laws.reset_keeps.Goals as goal

pub returns : goal.returns
returns c = reset-keeps
