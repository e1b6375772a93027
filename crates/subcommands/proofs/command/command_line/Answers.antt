use Rattle.std.proofs.Common.{codes}
use Rattle.std.proofs.lemmas.Result.{IfOk-weaker}
use Rattle.clap.specs.Words.{App, new_app}
use Rattle.subcommands.specs.CommandLine.{IsLine, settings, sized, with_single, with_sized}
use Rattle.subcommands.proofs.Built.{line_with_subcommand}
use Rattle.subcommands.proofs.command.command_line.Goals as goal

abbrev replayed : App
replayed = with_single (codes "replay") settings

abbrev run : App
run = with_single (codes "run") replayed

abbrev checked : App
checked = with_single (codes "check") run

abbrev generated : App
generated = with_sized (codes "gen") checked

pub returns : goal.returns
returns c =
    let replay_is : IsLine (new_app (codes "replay")) c.new.result = record { app = c.new.ensures.app; local = c.new.ensures.local } in
    let run_is : IsLine (new_app (codes "run")) c.new-2.result = record { app = c.new-2.ensures.app; local = c.new-2.ensures.local } in
    let check_is : IsLine (new_app (codes "check")) c.new-3.result = record { app = c.new-3.ensures.app; local = c.new-3.ensures.local } in
    let with_replay = line_with_subcommand settings (new_app (codes "replay")) _ _ _ c.program.ensures replay_is c.in_ok-subcommand.ensures in
    let with_run = line_with_subcommand replayed (new_app (codes "run")) _ _ _ with_replay run_is c.in_ok-subcommand-2.ensures in
    let with_check = line_with_subcommand run (new_app (codes "check")) _ _ _ with_run check_is c.in_ok-subcommand-3.ensures in
    let with_gen = line_with_subcommand checked (sized (codes "gen")) _ _ _ with_check c.in_ok-sized.ensures c.in_ok-subcommand-4.ensures in
    IfOk-weaker c.subcommand-5.result _ _ (λ command added. line_with_subcommand generated (sized (codes "bulk")) _ _ _ with_gen c.in_ok-sized-2.ensures added) c.subcommand-5.ensures
