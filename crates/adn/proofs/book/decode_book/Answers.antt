use Rattle.std.proofs.Common.{rules, ◌∙◌}
use Rattle.adn.specs.Book.{book_row, extension_rows}
use Rattle.adn.proofs.Rows.{row_read, rows_read}
use Rattle.adn.proofs.book.decode_book.Goals as goal

pub loop-row-preserved : goal.loop-row-preserved
loop-row-preserved c =
    row_read (book_row (extension_rows c.args.ext.now)) c.args.main.now.rows c.loop-row.book c.push.new.self c.in-Some.row.now c.loop-row.invariant (search rules) (search rules)

pub returns : goal.returns
returns c = rows_read (book_row (extension_rows c.args.ext.now)) c.args.main.now.rows c.loop-row.book c.loop-row.invariant (search rules) ∙ search rules
