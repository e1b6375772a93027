use Rattle.std.proofs.Common.{rules, arith, ◌∙◌, sym}
use Rattle.adn.specs.Book.{extension_rows}
use Rattle.book_plans.proofs.Free.{free_here, free_behind, none_left, none_past}
use Rattle.book_plans.proofs.phonebook.Phonebook.free_extension.Goals as goal

pub returns-in_err-row : goal.returns-in_err-row
returns-in_err-row c =
    c.from_residual.ensures
    ∙ sym (c.loop-number.invariant ∙ none_left c.args.self.now.main c.args.self.now.ext c.loop-number.number (extension_rows c.args.self.now.ext) (search rules))

pub returns-then-is_free : goal.returns-then-is_free
returns-then-is_free c =
    sym (c.loop-number.invariant ∙ free_here c.args.self.now.main c.args.self.now.ext c.loop-number.number (extension_rows c.args.self.now.ext) c.in_ok-row.row.now (search rules) (search rules))

pub loop-number-preserved : goal.loop-number-preserved
loop-number-preserved c =
    c.loop-number.invariant ∙ free_behind c.args.self.now.main c.args.self.now.ext c.loop-number.number (extension_rows c.args.self.now.ext) c.in_ok-row.row.now (search rules) (search rules) (search rules)

pub returns : goal.returns
returns c = sym (c.loop-number.invariant ∙ none_past c.args.self.now.main c.args.self.now.ext c.loop-number.number _ (omega arith))
