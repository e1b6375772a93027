use Rattle.script_generator.proofs.Rows.{odd_is_free, even_is_entry}
use Rattle.script_generator.proofs.book.book_row.Goals as goal

pub returns-then-draw-eq1-clause-value : goal.returns-then-draw-eq1-clause-value
returns-then-draw-eq1-clause-value c =
    rw (odd_is_free c.args.draws.now.state c.draw.result c.draw.ensures.value c.if-draw-eq1.true) c.from_slice.ensures

pub returns-else-draw-eq1-clause-value : goal.returns-else-draw-eq1-clause-value
returns-else-draw-eq1-clause-value c =
    rw (even_is_entry c.args.draws.now.state c.draw.result c.draw.ensures.value c.if-draw-eq1.false) (rw c.draw.ensures.state at c.entry_row.ensures.value)
