use Rattle.std.proofs.Common.{ap, arith, ◌∙◌, ◌∷◌}
use Rattle.report.specs.declared.line.Line.TheVariants as line
use Rattle.hub.proofs.Loop.{mark_line}
use Rattle.hub.proofs.Turning.{has_room}
use Rattle.hub.proofs.engine.Engine.mark.Goals as goal

pub keep_mark-requires-clause-room : goal.keep_mark-requires-clause-room
keep_mark-requires-clause-room g c = let few = c.requires.few in has_room c.actors_stay_plain.ensures _ c.requires.settled.tied (omega arith)

pub returns-clause-line : goal.returns-clause-line
returns-clause-line g c =
    mark_line _ _ c.args.actor _ c.requires.settled c.requires.decision c.requires.pending c.requires.actor
    (ap (λ x. x.script) c.keep_mark.ensures) (ap (λ x. x.tracker) c.keep_mark.ensures) (ap (λ x. g.S.Slot.world x.slot) c.keep_mark.ensures) (ap (λ x. g.S.Slot.plan x.slot) c.keep_mark.ensures)
    (c.push_within.ensures.lines ∙ ap (λ x. line.Turn c.args.actor ∷ x.lines.lines) c.keep_mark.ensures) (c.push_within.ensures.spare ∙ ap (λ x. x.lines.spare) c.keep_mark.ensures)
