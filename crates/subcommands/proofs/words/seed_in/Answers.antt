use Rattle.std.proofs.Common.{◌∙◌, ap}
use Rattle.std.specs.Prelude.{option_and_then}
use Rattle.clap.specs.Words.{found_of}
use Rattle.clap.proofs.WalkLemmas.{one_text-rows}
use Rattle.subcommands.specs.CommandLine.{read_number}
use Rattle.subcommands.proofs.Numbers.{reads_one}
use Rattle.subcommands.proofs.words.seed_in.Goals as goal

pub returns : goal.returns
returns c =
    let one = c.get_one.ensures in
    reads_one 32 _ c.get_one.result one.none one.value
    ∙ ap (option_and_then (read_number 32)) (one_text-rows (found_of c.args.matches.now) _)
