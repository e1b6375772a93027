use Rattle.std.proofs.Common.{rules}
use Rattle.adn.specs.Book.{extension_rows}
use Rattle.adn.proofs.Changed.{renewed_more, none_within}
use Rattle.adn.proofs.update.naming_rows.Goals as goal
use Rattle.adn.proofs.update.naming_rows.Goals.{in-Some+in_ok-renew, in_default}

pub loop-index-preserved : goal.loop-index-preserved
loop-index-preserved c =
    elim c.match-row.branch [
      | in-Some+in_ok-renew w ↦
          renewed_more (extension_rows c.args.ext.now) c.args.number c.loop-index.index c.args.main.now.rows _ c.loop-index.list c.match-row.list w.in-Some.row.now c.loop-index.invariant (search rules) (search rules)
      | in_default w ↦ absurd (none_within c.args.main.now.rows c.loop-index.index (search rules) (search rules))
    ]
