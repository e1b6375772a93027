use Rattle.std.proofs.lemmas.Result.{IfOk-weaker}
use Rattle.clap.specs.Words.{new_app, with_rule}
use Rattle.subcommands.specs.CommandLine.{IsLine, seed_rule, size_rule}
use Rattle.subcommands.proofs.Built.{line_with_arg}
use Rattle.subcommands.proofs.command.sized.Goals as goal

pub returns : goal.returns
returns c =
    let name = c.args.name.now in
    let named : IsLine (new_app name) c.new.result = record { app = c.new.ensures.app; local = c.new.ensures.local } in
    let seeded = line_with_arg (new_app name) seed_rule _ _ _ named c.seed.ensures c.in_ok-arg.ensures in
    IfOk-weaker c.arg-2.result _ _ (λ command added. line_with_arg (with_rule (new_app name) seed_rule) size_rule _ _ _ seeded c.size.ensures added) c.arg-2.ensures
