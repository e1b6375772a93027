-- What is said of the end is said of the report.
use Rattle.std.proofs.Common.{◌≡◌, ◌+◌, ℕ, length, ap, subst, ◌∙◌}
use Rattle.script_reader.specs.declared.types.Script.{Script}
use Rattle.report.specs.declared.line.Mode.{Mode}
use Rattle.rules.specs.Legal.{lowest_broken, at_line}
use Rattle.trace_check.specs.Judging.{end_tests_now}
use Rattle.trace_check.specs.Verdict.{Says}
use Rattle.trace_check.proofs.UpTo.{upto_ready}
use Rattle.trace_check.proofs.Saying.{says_end}
use Rattle.trace_check.proofs.checking.judge_end.Goals as goal

pub judge_end-requires-clause-ready : goal.judge_end-requires-clause-ready
judge_end-requires-clause-ready c = upto_ready c.args.report.now (length c.args.report.now.lines) c.args.behind.now c.requires.before

pub returns : goal.returns
returns c =
    let b = c.args.behind.now in
    let r = c.args.report.now in
    let q : c.in_ok-broken.broken ≡ lowest_broken (end_tests_now r.script r.mode b) =
    c.in_ok-broken.ensures
    ∙ ap (λ (s : Script). lowest_broken (end_tests_now s c.new-bench.result.mode b)) c.new-bench.ensures.script
    ∙ ap (λ (m : Mode). lowest_broken (end_tests_now r.script m b)) c.new-bench.ensures.mode in
    let said : Says (at_line (length r.lines + 3) c.in_ok-broken.broken) c.verdict.result =
    subst (λ (n : ℕ). Says (at_line (n + 3) c.in_ok-broken.broken) c.verdict.result) c.len.ensures c.verdict.ensures in
    says_end r b c.in_ok-broken.broken c.verdict.result c.requires.before q said
