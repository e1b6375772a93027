use Rattle.std.proofs.Common.{◌≡◌, ◌+◌, ◌-◌}
use Rattle.card_model.specs.Channels.{first_closed}
use Rattle.card_rows.proofs.manage.first_closed.Given as goal

abbrev pub invariant-numbers : goal.invariant-numbers
invariant-numbers l = first_closed l.card l.card.free 1 ≡ first_closed l.card (l.card.free - l.at) (l.at + 1)
