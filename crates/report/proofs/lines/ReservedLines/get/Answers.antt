use Rattle.std.proofs.Common.{◌≡◌, ◌+◌, ◌-◌, arith, ap, sym, ◌∙◌, Some, slice_get}
use Rattle.std.specs.Prelude.{reverse}
use Rattle.report.proofs.Entries.{read_line}
use Rattle.report.proofs.lines.ReservedLines.get.Goals as goal

pub returns : goal.returns
returns c =
    let entry = c.in-Some.entry.now in
    let is_entry : slice_get c.self.inside.entries.items c.args.at ≡ Some c.in-Some.entry.now = sym c.in-Some.ensures.value in
    let is_len : c.in-Some.entry.now.at + c.in-Some.entry.now.len - c.in-Some.entry.now.at ≡ c.in-Some.entry.now.len = omega arith in
    (rw (is_len, c.as_slice.ensures) at c.in_ok-line.ensures)
    ∙ read_line _ _ _ _ c.self.invariant is_entry
    ∙ ap (λ room. slice_get (reverse room.lines) c.args.at) c.self.view_is
