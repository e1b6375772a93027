use Rattle.std.proofs.Common.{◌≡◌, ◌∙◌, true, map, ap, sym, subst, rules, List, inl, inr, None}
use Rattle.std.specs.Prelude.{IfSome, string_bytes}
use Rattle.clap.specs.Words.{App, IsAmong, Text, fault_of, kind_of, is_simple, is_simple_and_free, subcommand_of}
use Rattle.subcommands.specs.Subcommands.{HasSize, asked_by}
use Rattle.subcommands.specs.Spelling.{texts_are_spelt}
use Rattle.subcommands.specs.CommandLine.{subcommand_in}
use Rattle.subcommands.proofs.Found.{simple, simple_and_free}
use Rattle.subcommands.proofs.Asked.{asked_has_size, tells}
use Rattle.subcommands.proofs.words.read_words.Goals as goal

pub returns-in-Ok-clause-value : goal.returns-in-Ok-clause-value
returns-in-Ok-clause-value c =
    let words : List Text = map string_bytes c.args.words.now in
    let spelt : texts_are_spelt words ≡ true = search rules in
    let line = c.in_ok-command_line.ensures.app in
    let found = c.in-Ok.ensures.matches (ap is_simple line ∙ simple) in
    let none = c.in-Ok.ensures.kinds (ap is_simple_and_free line ∙ simple_and_free) in
    c.subcommand_in.ensures ∙ ap subcommand_in (found.1 ∙ ap (λ (a : App). subcommand_of a words) line)
    ∙ (tells words spelt).finds (sym (ap (λ (a : App). fault_of a words) line) ∙ none)

pub returns-in-Ok-clause-sizes : goal.returns-in-Ok-clause-sizes
returns-in-Ok-clause-sizes c =
    subst (λ r. IfSome r HasSize) (sym (returns-in-Ok-clause-value c)) (asked_has_size (map string_bytes c.args.words.now))

-- clap refuses the words
pub returns : goal.returns
returns c =
    let words : List Text = map string_bytes c.args.words.now in
    let spelt : texts_are_spelt words ≡ true = search rules in
    let line = c.in_ok-command_line.ensures.app in
    let none : asked_by words ≡ None = elim (c.in-Err.ensures.kinds (ap is_simple_and_free line ∙ simple_and_free)) [
      | inl memory ↦ absurd (c.in_default.not-OutOfMemory (c.kind.ensures ∙ memory))
      | inr among ↦ (tells words spelt).refuses _ (subst (λ (a : App). IsAmong (kind_of c.in-Err.error) (fault_of a words)) line among)
    ] in
    record { value = sym none; sizes = tt }
