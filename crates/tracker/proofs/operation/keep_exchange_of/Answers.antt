use Rattle.std.proofs.Common.{◌∙◌, ap}
use Rattle.std.specs.Option.{option_copied}
use Rattle.tracker.proofs.WholeExchange.{whole_exchange, with_turn}
use Rattle.tracker.proofs.operation.keep_exchange_of.Goals as goal

pub returns : goal.returns
returns c =
    (simp (c.as_ref-4.ensures.value) at c.keep_fields.ensures)
    ∙ whole_exchange c.args.script.now c.args.line.now c.args.actor c.args.command.now c.args.response.now c.args.kept.now _ _ _ _ (option_copied c.operation_now-operation.result) c.facts_of-facts.result c.refused_of-refused.result c.in_ok-completed.completed
    c.requires.line c.facts_of-facts.ensures c.operation_now-operation.ensures c.keep_jobs.ensures.jobs
    (simp (c.as_ref.ensures.value, c.as_ref-2.ensures.value) at c.refused_of-refused.ensures)
    c.in_ok-completed.ensures.value c.in_ok-completed.ensures.kept
    (c.lead_turn.ensures ∙ ap (λ refused. with_turn c.args.actor (option_copied c.operation_now-operation.result) c.facts_of-facts.result refused c.exchange_own.new.kept) c.as_ref-3.ensures.value)
    c.in_ok-exchange_current_files.ensures
