-- What is said of the report is said of its bytes.
use Rattle.std.proofs.lemmas.Result.{IfOk-weaker}
use Rattle.uicc_replay.specs.Checking.{IsSaid, IsChecked}
use Rattle.uicc_replay.proofs.Said.{said_of_bytes}
use Rattle.uicc_replay.proofs.check.verdict_of.Goals as goal

pub returns-in-Ok : goal.returns-in-Ok
returns-in-Ok c =
    IfOk-weaker c.verdict_on.result (IsSaid c.in-Ok.report) (IsChecked c.args.bytes.now) (λ verdict said. said_of_bytes c.args.bytes.now c.in-Ok.report verdict c.in-Ok.ensures.value said) c.verdict_on.ensures
