use Rattle.std.proofs.Common.{◌∙◌}
use Rattle.link.proofs.Steps.{plays-added}
use Rattle.channel_table.proofs.Sent.{open-sent}
use Rattle.channel_table.proofs.table.Table.open_on_card.Goals as goal

pub returns-in-Ok-clause-sends : goal.returns-in-Ok-clause-sends
returns-in-Ok-clause-sends g c =
    open-sent _ _ _ c.assign.ensures.trail.front c.select_or_close-answer.ensures.trail.front c.args.epoch c.args.self.now c.args.aid.now c.in-Ok.number _ c.in-Ok.ensures.sends c.select_or_close-answer.ensures.sends
    ∙ c.channel_of.ensures.value

pub returns-in-Ok-clause-slot : goal.returns-in-Ok-clause-slot
returns-in-Ok-clause-slot g c = plays-added _ _ _ c.assign.ensures.trail.front c.select_or_close-answer.ensures.trail.front _ _ _ c.assign.ensures.slot c.select_or_close-answer.ensures.slot
