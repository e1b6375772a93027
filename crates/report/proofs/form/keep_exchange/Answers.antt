use Rattle.std.proofs.Common.{◌≡◌, ap, length, ◌∙◌}
use Rattle.apdu.specs.Apdu.{command_bytes, response_bytes}
use Rattle.report.proofs.Entries.{exchange_back}
use Rattle.report.proofs.form.keep_exchange.Goals as goal

pub returns-clause-back : goal.returns-clause-back
returns-clause-back c =
    let is_len : c.len.result ≡ length (command_bytes c.args.command.now) = c.len.ensures.value ∙ ap length c.write-sent.ensures.value in
    rw is_len (exchange_back _ (command_bytes c.args.command.now) (response_bytes c.args.response.now) _ _
    (rw c.write-sent.ensures.value at c.write-sent.ensures.inverse)
    (rw c.write-answered.ensures.value at c.write-answered.ensures.inverse))
