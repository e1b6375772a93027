-- The command line as clap has it, and what it finds.
use Rattle.std.specs.Prelude.{◌≡◌, false, ℕ, ◌&&◌, ◌^◌, true, pos, nat_lt, if◌then◌else◌, List, Option, Some, None, option_and_then, codes}
use Rattle.std.specs.Str.Parse.{digits_value, without_leading_plus}
use Rattle.apdu.specs.Words.{same_bytes}
use Rattle.clap.specs.Words.{app_of, rule_of, App, Row, Rule, Shape, Text, new_app, new_rule, one_of, with_rule, with_subcommand}
use Rattle.clap.specs.ValueTests.{is_numeral}
use Rattle.clap.specs.declared.builder.value_parser.ValueParser.TheVariants.{Signed}
use Rattle.clap.specs.declared.builder.arg.Arg.{Arg}
use Rattle.clap.specs.declared.builder.command.Command.{Command}
use Rattle.clap.specs.declared.builder.command.Command.TheViews.{out-Command as fields_of}
use Rattle.subcommands.specs.declared.words.Subcommand.{Subcommand}
use Rattle.subcommands.specs.declared.words.Subcommand.TheVariants.{Replay, Run, Check, Generate, Bulk}

-- ---- the command line

-- a parse reads this of the argument, and it is not global
pub record IsArg (r : Rule) (arg : Arg) : Type 0 where
  pub rule : rule_of arg ≡ r
  pub local : arg.global ≡ false

-- a parse reads this of the command, and it has no global argument
pub record IsLine (a : App) (command : Command) : Type 0 where
  pub app : app_of command ≡ a
  pub local : (fields_of command).has_globals ≡ false

abbrev pub seed_rule : Rule
seed_rule = record (new_rule (codes "SEED")) { required = true; parser = Some (Signed (pos 0) (pos 4294967295)) }

abbrev pub size_rule : Rule
size_rule = record (new_rule (codes "SIZE")) { required = true; parser = Some (Signed (pos 1) (pos 250)) }

-- a subcommand with a seed and a size
abbrev pub sized : Text → App
sized name = with_rule (with_rule (new_app name) seed_rule) size_rule

-- the words have no program before them, name a subcommand, and ask for no help
abbrev pub settings_of : Shape → Shape
settings_of s = record s {
  no_binary_name = true;
  disable_help_flag = true;
  disable_help_subcommand = true;
  subcommand_required = true;
}

abbrev pub settings : App
settings = record (new_app (codes "uicc_replay")) { top = settings_of (new_app (codes "uicc_replay")).top }

abbrev pub with_single : Text → App → App
with_single name a = with_subcommand a (new_app name).top

abbrev pub with_sized : Text → App → App
with_sized name a = with_subcommand a (sized name).top

abbrev pub command_line : App
command_line =
    with_sized (codes "bulk") (with_sized (codes "gen") (with_single (codes "check") (with_single (codes "run") (with_single (codes "replay") settings))))

-- ---- what is found

-- the number of so many bits that a text writes, a plus before it left aside
abbrev pub read_number : ℕ → Text → Option ℕ
read_number bits text =
    if is_numeral (without_leading_plus text) && nat_lt (digits_value 10 (without_leading_plus text)) (2 ^ bits)
    then Some (digits_value 10 (without_leading_plus text)) else None

abbrev pub number_in : ℕ → Text → List Row → Option ℕ
number_in bits id rows = option_and_then (read_number bits) (one_of id rows)

abbrev pub sized_in : (ℕ → ℕ → Subcommand) → List Row → Option Subcommand
sized_in make rows =
    option_and_then (λ seed. option_and_then (λ size. Some (make seed size)) (number_in 16 (codes "SIZE") rows)) (number_in 32 (codes "SEED") rows)

abbrev pub named : Text → List Row → Option Subcommand
named name rows =
    if same_bytes name (codes "replay") then Some Replay
    else if same_bytes name (codes "run") then Some Run
    else if same_bytes name (codes "check") then Some Check
    else if same_bytes name (codes "gen") then sized_in Generate rows
    else if same_bytes name (codes "bulk") then sized_in Bulk rows
    else None

-- the subcommand that was entered, with its values
abbrev pub subcommand_in : Option (Text × List Row) → Option Subcommand
subcommand_in found = option_and_then (λ p. named p.0 p.1) found
