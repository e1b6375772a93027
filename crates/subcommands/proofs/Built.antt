-- The command line that the builders make.
use Rattle.std.proofs.Common.{◌∙◌, ◌||◌, ap, ap₂}
use Rattle.clap.specs.Words.{App, AddsArg, AddsSubcommand, Rule, with_rule, with_subcommand}
use Rattle.clap.specs.declared.builder.arg.Arg.{Arg}
use Rattle.clap.specs.declared.builder.command.Command.{Command}
use Rattle.subcommands.specs.CommandLine.{IsArg, IsLine}

pub line_with_arg : (a : App) (r : Rule) (old new : Command) (arg : Arg) → IsLine a old → IsArg r arg → AddsArg old arg new → IsLine (with_rule a r) new
line_with_arg a r old new arg line is added = record {
  app = added.shape is.local ∙ ap₂ with_rule line.app is.rule;
  local = added.globals ∙ ap₂ (λ b c. b || c) line.local is.local;
}

pub line_with_subcommand : (a b : App) (old sub new : Command) → IsLine a old → IsLine b sub → AddsSubcommand old sub new → IsLine (with_subcommand a b.top) new
line_with_subcommand a b old sub new line below added = record {
  app = added.shape below.local ∙ ap₂ with_subcommand line.app (ap (λ (x : App). x.top) below.app);
  local = added.globals ∙ ap₂ (λ b c. b || c) line.local below.local;
}
