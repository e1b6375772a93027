-- What is said of a line is said of the report.
use Rattle.std.proofs.Common.{◌≡◌, Ok, ap, subst, ◌∙◌}
use Rattle.script_reader.specs.declared.types.Script.{Script}
use Rattle.report.specs.declared.line.Mode.{Mode}
use Rattle.rules.specs.Legal.{lowest_broken}
use Rattle.trace_check.specs.Judging.{tests_now, Follows}
use Rattle.trace_check.proofs.UpTo.{upto_ready}
use Rattle.trace_check.proofs.Saying.{says_broken, says_more}
use Rattle.trace_check.proofs.checking.judge_line.Goals as goal

pub judge-requires-clause-ready : goal.judge-requires-clause-ready
judge-requires-clause-ready c = upto_ready c.args.report.now c.args.at c.args.behind.now c.requires.before

pub returns : goal.returns
returns c =
    let l = c.args.line.now in
    let b = c.args.behind.now in
    let r = c.args.report.now in
    let q : c.in_ok-broken.broken ≡ lowest_broken (tests_now r.script r.mode l b) =
    c.in_ok-broken.ensures.broken
    ∙ ap (λ (s : Script). lowest_broken (tests_now s c.new-bench.result.mode l b)) c.new-bench.ensures.script
    ∙ ap (λ (m : Mode). lowest_broken (tests_now r.script m l b)) c.new-bench.ensures.mode in
    record {
      more = says_more r c.args.at b c.judge.new.behind l c.in_ok-broken.broken c.verdict.result c.requires.line c.requires.before q
          (λ none. subst (λ (s : Script). Follows s l b c.judge.new.behind) c.new-bench.ensures.script (c.in_ok-broken.ensures.follows (ap Ok none)))
          c.verdict.ensures;
      broken = says_broken r c.args.at b l c.in_ok-broken.broken c.verdict.result c.requires.line c.requires.before q c.verdict.ensures;
    }
