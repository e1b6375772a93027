-- The part handed out is the one at the front, and the rest are the parts of the bytes behind it.
use Rattle.std.proofs.Common.{length, sym, ap, ◌∙◌}
use Rattle.tlv.specs.Objects.{parts_by, parts_from, tag_by}
use Rattle.tlv.proofs.Fuel.{parts_from-front}
use Rattle.tlv.proofs.reader.Cursor.next.Goals as goal

pub returns-in-Ok-Some : goal.returns-in-Ok-Some
returns-in-Ok-Some c =
    let form = tag_by c.self.inside.form in
    sym c.self.view_is ∙ parts_from-front form c.self.inside.at c.self.inside.rest.now
    ∙ ap (parts_by (λ next rest. parts_from form (length rest) next rest)) (sym (rw c.in-Ok-Some.field-0-is at c.in-Ok-Some.ensures))
