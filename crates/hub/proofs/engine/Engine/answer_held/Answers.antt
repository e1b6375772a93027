use Rattle.std.proofs.Common.{ap, sym, ◌∙◌, Some}
use Rattle.std.specs.Option.{option_copied}
use Rattle.script_reader.specs.declared.types.Operation.{Operation}
use Rattle.rules.specs.declared.kept.Kept.{Kept}
use Rattle.rules.specs.Kept.{operation_now}
use Rattle.hub.proofs.Gives.{gives_notices}
use Rattle.hub.proofs.engine.Engine.answer_held.Goals as goal

pub returns-in-Some-Notices : goal.returns-in-Some-Notices
returns-in-Some-Notices g c =
    c.notices.ensures
    ∙ gives_notices c.args.self.now.script c.args.self.now.tracker.kept c.args.actor c.args.answer c.requires.turn.turn c.requires.due
    (ap (λ (k : Kept). operation_now c.args.self.now.script c.args.actor k.jobs) (sym c.kept.ensures) ∙ sym c.operation_now.ensures ∙ ap option_copied c.in-Some-Notices.is ∙ ap (λ (o : Operation). Some o) c.in-Some-Notices.field-0-is)
