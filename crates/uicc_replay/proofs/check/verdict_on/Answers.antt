-- A report of which no line breaks a rule is legal.
use Rattle.uicc_replay.proofs.Said.{unbroken_is_legal}
use Rattle.uicc_replay.proofs.check.verdict_on.Goals as goal

pub verdict_on_legal-requires : goal.verdict_on_legal-requires
verdict_on_legal-requires c = unbroken_is_legal c.legal_or_broken.ensures c.args.report.now c.in-Ok.ensures
