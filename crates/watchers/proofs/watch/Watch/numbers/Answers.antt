use Rattle.std.proofs.Common.{sym, ap, ◌∙◌, ◌++◌, ◌∷◌, [], List, ℕ, slice_get}
use Rattle.std.specs.Option.{option_copied}
use Rattle.watchers.specs.Watches.{WatchValue}
use Rattle.watchers.proofs.Numbers.{one_more}
use Rattle.watchers.proofs.watch.Watch.numbers.Goals as goal

pub loop-at-preserved : goal.loop-at-preserved
loop-at-preserved g c = c.push.ensures.items ∙ ap (λ (l : List ℕ). l ++ c.in-Some.notice.now.number ∷ []) c.loop-at.invariant ∙ sym (one_more c.args.self.now.notices c.loop-at.at c.in-Some.notice.now (sym (ap (λ (w : WatchValue). slice_get w.notices c.loop-at.at) c.self.view_is) ∙ sym c.get.ensures ∙ ap option_copied c.in-Some.is))
