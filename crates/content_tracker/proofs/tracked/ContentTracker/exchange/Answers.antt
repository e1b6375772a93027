use Rattle.std.proofs.Common.{ap, ◌∙◌}
use Rattle.report.specs.declared.line.Line.{Line}
use Rattle.rules.specs.declared.kept.Kept.{Kept}
use Rattle.rules.specs.After.{kept_after}
use Rattle.content_tracker.proofs.Exchanged.{call_follows, call_stays, unread_is}
use Rattle.content_tracker.proofs.tracked.ContentTracker.exchange.Goals as goal

pub follow_command-requires : goal.follow_command-requires
follow_command-requires c =
    let s = c.args.script.now in
    let k = c.self.inside.tracker in
    let x = c.in-Exchange in
    let kept = c.self.inside.contents in
    let selected_is = c.as_ref-selected.ensures.value ∙ ap (λ (x : Kept). x.selected) c.kept-kept.ensures in
    let chain_is = c.as_ref.ensures.value ∙ ap (λ (x : Kept). x.chain) c.kept-kept.ensures in
    let now_is = c.kept.ensures ∙ c.in-Ok.ensures ∙ ap (λ (l : Line). kept_after s l k) x.is in
    let unread = unread_is s k x.actor x.command x.response _ _ kept _ selected_is chain_is c.leave_readings.ensures in
    record {
      written = λ writes. call_follows s k x.actor x.command x.response _ _ _ kept _ now_is selected_is (c.as_ref-in-Ok.ensures.value ∙ c.row_written-row.ensures) unread c.self.invariant;
      unwritten = call_stays s k x.actor x.command x.response _ kept _ now_is unread c.self.invariant;
    }
