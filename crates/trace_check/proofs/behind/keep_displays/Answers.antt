-- Where no file was written, what the card showed is what it shows.
use Rattle.std.proofs.Common.{sym, ◌∙◌}
use Rattle.trace_check.proofs.Still.{stays_behind}
use Rattle.trace_check.proofs.behind.keep_displays.Goals as goal

pub returns-then-writes_nothing : goal.returns-then-writes_nothing
returns-then-writes_nothing c =
    sym (stays_behind c.args.line.now c.args.event c.args.world.now c.args.displays.now c.requires (sym c.writes_nothing.ensures ∙ c.if-writes_nothing.true))
