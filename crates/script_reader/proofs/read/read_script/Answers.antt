use Rattle.std.proofs.Common.{Result, sym, subst}
use Rattle.script_reader.specs.declared.types.Script.{Script}
use Rattle.script_reader.specs.Reading.{Refusal}
use Rattle.script_reader.specs.Answers.{AnswersAs}
use Rattle.script_reader.proofs.Texts.{read_text}
use Rattle.script_reader.proofs.RulesKept.{answer_kept}
use Rattle.script_reader.proofs.read.read_script.Goals as goal

pub returns-in-Ok-clause-value : goal.returns-in-Ok-clause-value
returns-in-Ok-clause-value c =
    let P : Result Script Refusal → Type 0 = λ r. AnswersAs r c.script_of_value.result in
    subst P (sym (read_text _ _ c.in-Ok.ensures.ok.0 c.in-Ok.ensures.ok.1)) c.script_of_value.ensures

pub returns-in-Ok-clause-rules : goal.returns-in-Ok-clause-rules
returns-in-Ok-clause-rules c = answer_kept _ _ c.script_of_value.ensures
