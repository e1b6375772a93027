use Rattle.channel_table.proofs.Opened.{open_adds, open_keeps}
use Rattle.channel_table.proofs.table.Table.open_channel.Goals as goal

pub returns-clause-adds : goal.returns-clause-adds
returns-clause-adds g c = open_adds _ _ _ _ _ _ c.open_on_card-opened.result c.open_on_card-opened.ensures.sends c.open_on_card-opened.ensures.slot

pub returns-clause-open : goal.returns-clause-open
returns-clause-open g c = open_keeps _ _ _ _ _ _ c.open_on_card-opened.result c.hold_opened.new.self c.open_on_card-opened.ensures.sends c.open_on_card-opened.ensures.slot c.hold_opened.ensures
