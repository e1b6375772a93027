use Rattle.std.proofs.Common.{ℕ, List, Option, sym, subst}
use Rattle.report_reader.specs.Reads.{ReadsAs}
use Rattle.report_reader.proofs.Contents.{read_content}
use Rattle.report_reader.proofs.content.content.Goals as goal

pub returns-in-Ok : goal.returns-in-Ok
returns-in-Ok c =
    let P : Option (List ℕ) → Type 0 = λ r. ReadsAs r c.text_of.result in
    subst P (sym (read_content _ _ c.in-Ok.ensures.ok.0 c.in-Ok.ensures.ok.1)) c.text_of.ensures
