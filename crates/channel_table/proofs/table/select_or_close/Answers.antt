use Rattle.std.proofs.Common.{sym, ◌∙◌}
use Rattle.link.proofs.Steps.{plays-added}
use Rattle.channel_table.proofs.Sent.{select-sent}
use Rattle.channel_table.proofs.table.select_or_close.Goals as goal

pub returns-else-is_fault-clause-sends : goal.returns-else-is_fault-clause-sends
returns-else-is_fault-clause-sends g c =
    select-sent _ _ _ c.transmit-answer.ensures.trail.front c.close_again.ensures.trail.front c.args.number c.args.aid.now _ _ c.in-Err.refusal c.close_again.result
    c.select_application.ensures c.transmit-answer.ensures.sends (sym c.selected.ensures ∙ c.in-Err.is) (sym c.is_fault.ensures ∙ c.if-is_fault.false) c.close_again.ensures.sends

pub returns-else-is_fault-clause-slot : goal.returns-else-is_fault-clause-slot
returns-else-is_fault-clause-slot g c = plays-added _ _ _ c.transmit-answer.ensures.trail.front c.close_again.ensures.trail.front _ _ _ c.transmit-answer.ensures.slot c.close_again.ensures.slot
