use Rattle.std.proofs.Common.{ap, sym, ◌∙◌}
use Rattle.rules.specs.declared.due.Due.TheVariants.{Give}
use Rattle.hub.proofs.Gives.{gives_behind, gives_begun, gives_short}
use Rattle.hub.proofs.engine.Engine.give.Goals as goal

pub answer-requires-clause-begun : goal.answer-requires-clause-begun
answer-requires-clause-begun g c = gives_begun c.args.self.now.script c.args.self.now.tracker.kept c.args.actor c.args.answer c.requires.turn.turn c.requires.due

pub answer-requires-clause-bytes : goal.answer-requires-clause-bytes
answer-requires-clause-bytes g c = gives_short _ c.args.self.now.script c.args.self.now.tracker.kept c.answer_held-answer.result c.requires.turn.tied.short c.requires.turn.tied.lines.served (c.requires.due ∙ ap Give (sym c.answer_held-answer.ensures))

pub answer-requires-clause-moved : goal.answer-requires-clause-moved
answer-requires-clause-moved g c = gives_behind _ c.args.self.now.script c.args.self.now.tracker.kept c.answer_held-answer.result c.args.from c.requires.turn.tied.short c.requires.turn.tied.lines.served (c.requires.due ∙ ap Give (sym c.answer_held-answer.ensures)) c.requires.since
