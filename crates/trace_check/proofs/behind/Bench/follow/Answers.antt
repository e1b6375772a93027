-- What was changed part by part is what follows the line.
use Rattle.std.proofs.Common.{refl, sym, subst, ◌∙◌}
use Rattle.std.proofs.lemmas.Result.{on_ok_weaker}
use Rattle.card_model.specs.declared.world.World.{World}
use Rattle.trace_check.specs.Displays.{AreShown}
use Rattle.trace_check.proofs.Sent.{followed_by}
use Rattle.trace_check.proofs.Still.{shown_followed}
use Rattle.trace_check.proofs.behind.Bench.follow.Goals as goal

pub keep_displays-requires : goal.keep_displays-requires
keep_displays-requires c = λ still.
    subst (λ (w : World). AreShown w c.args.behind.now.displays) (sym (c.state.ensures ∙ c.step_world.ensures.world))
    (shown_followed c.args.line.now c.args.behind.now.slot.world c.args.behind.now.displays c.requires.tested.shown still)

pub returns : goal.returns
returns c = on_ok_weaker c.keep_board.result (λ boards.
    followed_by c.args.self.now.script.now c.args.line.now c.args.behind.now _ c.kept.result.now c.kept-2.result.now _ c.state.result.now
    c.kept.ensures refl c.step_world.ensures.world c.step_world.ensures.faults c.state.ensures
    c.in_ok-keep_displays.ensures c.in_ok-keep.ensures c.kept-2.ensures boards) c.keep_board.ensures
