-- What clap makes of words that are spelt as those of a command.
use Rattle.std.proofs.Common.{◌≡◌, true, false, refl, List, [], ◌∷◌, Some, None, codes}
use Rattle.std.specs.Prelude.{pos}
use Rattle.std.specs.Str.{bytes_eq}
use Rattle.clap.specs.Lexer.{strip_byte}
use Rattle.clap.specs.Words.{Kinds, Row, Text, fault_of, is_simple, is_simple_and_free, subcommand_of}
use Rattle.clap.specs.Kinds.{or_else, value_kinds}
use Rattle.clap.specs.declared.error.kind.ErrorKind.TheVariants as kind
use Rattle.clap.specs.declared.builder.value_parser.ValueParser.TheVariants.{Signed}
use Rattle.clap.specs.declared.builder.value_parser.Reading.TheVariants as reading
use Rattle.clap.specs.declared.parser.matches.ValueSource.TheVariants.{CommandLine}
use Rattle.clap.proofs.OnLiterals.{clap_on_literals}
use Rattle.subcommands.specs.CommandLine.{command_line}

pub simple : is_simple command_line ≡ true
unfolding clap_on_literals
simple = refl

pub simple_and_free : is_simple_and_free command_line ≡ true
unfolding clap_on_literals
simple_and_free = refl

-- ---- a name alone

abbrev passes_alone : Text → Type 0
passes_alone name = (fault_of command_line (name ∷ []) ≡ []) × (subcommand_of command_line (name ∷ []) ≡ Some (name, []))

abbrev wants_numbers : Text → Type 0
wants_numbers name = fault_of command_line (name ∷ []) ≡ kind.MissingRequiredArgument ∷ []

pub replay_alone : passes_alone (codes "replay")
unfolding clap_on_literals
replay_alone = (refl, refl)

pub run_alone : passes_alone (codes "run")
unfolding clap_on_literals
run_alone = (refl, refl)

pub check_alone : passes_alone (codes "check")
unfolding clap_on_literals
check_alone = (refl, refl)

pub gen_alone : wants_numbers (codes "gen")
unfolding clap_on_literals
gen_alone = refl

pub bulk_alone : wants_numbers (codes "bulk")
unfolding clap_on_literals
bulk_alone = refl

-- ---- a name and two words that are no flags

or_nothing : (kinds : Kinds) → or_else kinds [] ≡ kinds
or_nothing [] = refl
or_nothing (k ∷ ks) = refl

module _ (seed size : Text) (plain_seed : strip_byte 45 seed ≡ None) (seed_ends : bytes_eq seed (45 ∷ 45 ∷ []) ≡ false)
    (plain_size : strip_byte 45 size ≡ None) (size_ends : bytes_eq size (45 ∷ 45 ∷ []) ≡ false) where
  abbrev wants_none : Text → Type 0
  wants_none name = fault_of command_line (name ∷ seed ∷ size ∷ []) ≡ kind.UnknownArgument ∷ []

  pub replay_sized : wants_none (codes "replay")
  unfolding clap_on_literals
  replay_sized = simp (plain_seed, seed_ends) refl

  pub run_sized : wants_none (codes "run")
  unfolding clap_on_literals
  run_sized = simp (plain_seed, seed_ends) refl

  pub check_sized : wants_none (codes "check")
  unfolding clap_on_literals
  check_sized = simp (plain_seed, seed_ends) refl

  abbrev pub faults : Kinds
  faults = or_else (value_kinds false (Signed (pos 0) (pos 4294967295)) seed) (value_kinds false (Signed (pos 1) (pos 250)) size)

  abbrev pub row : Text → Text → Row
  row id value = record {
    id = id;
    values = value ∷ [];
    count = None;
    source = Some CommandLine;
    reading = reading.WithoutMinus;
  }

  abbrev pub rows : List Row
  rows = row (codes "SEED") seed ∷ row (codes "SIZE") size ∷ []

  pub gen_faults : fault_of command_line (codes "gen" ∷ seed ∷ size ∷ []) ≡ faults
  unfolding clap_on_literals
  gen_faults = simp (plain_seed, seed_ends, plain_size, size_ends, or_nothing) refl

  pub gen_found : subcommand_of command_line (codes "gen" ∷ seed ∷ size ∷ []) ≡ Some (codes "gen", rows)
  unfolding clap_on_literals
  gen_found = simp (plain_seed, seed_ends, plain_size, size_ends) refl

  pub bulk_faults : fault_of command_line (codes "bulk" ∷ seed ∷ size ∷ []) ≡ faults
  unfolding clap_on_literals
  bulk_faults = simp (plain_seed, seed_ends, plain_size, size_ends, or_nothing) refl

  pub bulk_found : subcommand_of command_line (codes "bulk" ∷ seed ∷ size ∷ []) ≡ Some (codes "bulk", rows)
  unfolding clap_on_literals
  bulk_found = simp (plain_seed, seed_ends, plain_size, size_ends) refl

-- ---- a name that no subcommand has

pub stray : (word : Text) (rest : List Text) → strip_byte 45 word ≡ None → bytes_eq word (45 ∷ 45 ∷ []) ≡ false
    → bytes_eq (codes "replay") word ≡ false → bytes_eq (codes "run") word ≡ false → bytes_eq (codes "check") word ≡ false
    → bytes_eq (codes "gen") word ≡ false → bytes_eq (codes "bulk") word ≡ false
    → fault_of command_line (word ∷ rest) ≡ kind.UnknownArgument ∷ kind.InvalidSubcommand ∷ []
unfolding clap_on_literals
stray word rest plain two replay run check gen bulk = simp (replay, run, check, gen, bulk, two, plain) refl
