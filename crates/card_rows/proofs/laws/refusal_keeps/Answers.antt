use Rattle.card_rows.proofs.Refusals.{refusal-keeps}
use Rattle.card_rows.proofs.laws.refusal_keeps.Goals as goal

pub returns : goal.returns
returns c = refusal-keeps
