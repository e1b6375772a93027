use Rattle.std.proofs.Common.{None, sym, ap, ◌∙◌}
use Rattle.apdu.specs.Values.{CommandValue}
use Rattle.link.specs.Exchanges.{added, exchanged}
use Rattle.channel_table.specs.Agreement.{close_failed}
use Rattle.channel_table.proofs.Opened.{close_keeps}
use Rattle.channel_table.proofs.table.Table.close.Goals as goal

pub returns-clause-open : goal.returns-clause-open
returns-clause-open g c = λ f.
    close_keeps c.number-number.result c.args.self.now (added c.args.trail.now c.transmit-answer.new.trail) _ _ c.transmit-answer.result c.let_go.new.self
    c.number-number.ensures.beside c.let_go.ensures.held
    (ap (λ (x : CommandValue). exchanged x None (added c.args.trail.now c.transmit-answer.new.trail)) (sym c.close_command.ensures) ∙ c.transmit-answer.ensures.sends)
    c.transmit-answer.ensures.slot c.let_go.ensures.without (sym (ap close_failed c.closed.ensures) ∙ f)
