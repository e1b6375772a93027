-- Where no line breaks a rule the end is judged.
use Rattle.std.proofs.Common.{◌≡◌, ℕ, length, subst, arith}
use Rattle.trace_check.specs.UpTo.{UpTo}
use Rattle.trace_check.proofs.checking.check.Goals as goal

pub judge_end-requires-clause-before : goal.judge_end-requires-clause-before
judge_end-requires-clause-before c =
    let all : c.loop-at.at ≡ length c.args.report.now.lines = omega arith in
    subst (λ (n : ℕ). UpTo c.args.report.now n c.loop-at.behind) all c.loop-at.invariant
