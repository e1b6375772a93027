use Rattle.std.proofs.Common.{◌≡◌, ◌++◌, drop}
use Rattle.adn.specs.Book.{extension_rows}
use Rattle.adn.specs.Changed.{renewed_from}
use Rattle.adn.proofs.update.naming_rows.Given as goal

-- those so far, and then those to come, are all
abbrev pub invariant-loop-index : goal.invariant-loop-index
invariant-loop-index l =
    renewed_from (extension_rows l.ext) l.number 0 l.main.rows ≡ l.list ++ renewed_from (extension_rows l.ext) l.number l.index (drop l.index l.main.rows)
