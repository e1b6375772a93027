use Rattle.std.proofs.Common.{refl}
use Rattle.report.specs.declared.line.Line.TheVariants as line
use Rattle.rules.specs.Kept.{operation_at}
use Rattle.hub.specs.Performing.{is_holding}
use Rattle.hub.proofs.Follows.{answer_follows}
use Rattle.hub.proofs.Scripts.{gives_nothing}
use Rattle.hub.proofs.Steps.{on_ok, unless_room}
use Rattle.hub.proofs.Ties.{broke_after, one_quiet}
use Rattle.hub.proofs.engine.Engine.answer.Goals as goal

pub returns-clause-line : goal.returns-clause-line
returns-clause-line g c =
    on_ok c.answer.result _ _ c.answer.ensures.ok (λ kept.
    one_quiet _ _ _ (line.Answered c.args.actor c.begun.result c.args.answer) c.requires.turn.tied
    (answer_follows c.args.self.now.script c.args.self.now.tracker.kept c.args.actor c.requires.turn.turn c.begun.result c.args.answer c.begun.ensures c.requires.given)
    c.push_within.ensures.lines c.push_within.ensures.spare kept refl refl (λ x. refl) c.requires.told refl refl)

pub returns-clause-err : goal.returns-clause-err
returns-clause-err g c =
    unless_room c.answer.result (is_holding c.args.answer) _
    (λ none. c.answer.ensures.room (gives_nothing c.args.answer (operation_at c.args.self.now.script c.args.actor c.begun.result) none))
    (λ holds. broke_after _ _ _ _ _ _ (line.Answered c.args.actor c.begun.result c.args.answer) c.args.from c.requires.turn.tied c.push_within.ensures.lines refl refl refl (c.requires.moved holds))
