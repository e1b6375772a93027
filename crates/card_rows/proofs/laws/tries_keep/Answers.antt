use Rattle.card_rows.proofs.Tries.{tries-keep}
use Rattle.card_rows.proofs.laws.tries_keep.Goals as goal

pub returns : goal.returns
returns c = tries-keep
