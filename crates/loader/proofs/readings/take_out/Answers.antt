use Rattle.std.proofs.Common.{◌<◌, length, ◌∙◌, sym}
use Rattle.loader.proofs.TakenOut.{found_here, rest_here}
use Rattle.loader.proofs.readings.take_out.Goals as goal

pub returns-then-is_reading_of-clause-taken : goal.returns-then-is_reading_of-clause-taken
returns-then-is_reading_of-clause-taken c =
    let same = c.as_slice-g-items.ensures in
    let h : c.loop-i.i < length c.args.readings.now.items = rw (← same) c.loop-i-test.true in
    found_here c.args.path.now c.args.readings.now.items c.loop-i.i c.remove.result c.g-item.result h (rw same at c.g-item.is) c.remove.ensures.value (sym c.is_reading_of.ensures ∙ c.if-is_reading_of.true)
    ∙ sym (rw same at c.loop-i.invariant.found)

pub returns-then-is_reading_of-clause-rest : goal.returns-then-is_reading_of-clause-rest
returns-then-is_reading_of-clause-rest c =
    let same = c.as_slice-g-items.ensures in
    let h : c.loop-i.i < length c.args.readings.now.items = rw (← same) c.loop-i-test.true in
    c.remove.ensures.items
    ∙ rest_here c.args.path.now c.args.readings.now.items c.loop-i.i c.g-item.result h (rw same at c.g-item.is) (sym c.is_reading_of.ensures ∙ c.if-is_reading_of.true)
    ∙ sym (rw same at c.loop-i.invariant.rest)
