use Rattle.card_rows.proofs.Announcements.{success-announces}
use Rattle.card_rows.proofs.laws.success_announces.Goals as goal

pub returns : goal.returns
returns c = success-announces
