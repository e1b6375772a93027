use Rattle.std.proofs.Common.{refl}
use Rattle.script_generator.proofs.book.entry_row.Goals as goal

pub returns-clause-value : goal.returns-clause-value
returns-clause-value c =
    rw (c.in_ok-extend_from_slice-4.ensures.ok, c.in_ok-extend_from_slice-3.ensures.ok, c.number.ensures.value, c.in_ok-extend_from_slice-2.ensures.ok, c.in_ok-extend_from_slice.ensures.ok, c.in_ok-bytes.ensures, c.name.ensures) refl
