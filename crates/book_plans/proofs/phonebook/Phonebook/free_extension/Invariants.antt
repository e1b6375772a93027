use Rattle.std.proofs.Common.{◌≡◌, ◌-◌, drop}
use Rattle.adn.specs.Book.{extension_rows}
use Rattle.families.specs.Plans.{free_extension, first_free}
use Rattle.book_plans.proofs.phonebook.Phonebook.free_extension.Given as goal

-- no row before this one is free
abbrev pub invariant-loop-number : goal.invariant-loop-number
invariant-loop-number l =
    free_extension l.self.main l.self.ext ≡ first_free l.self.main l.self.ext l.number (drop (l.number - 1) (extension_rows l.self.ext))
