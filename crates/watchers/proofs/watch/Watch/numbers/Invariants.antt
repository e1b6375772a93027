use Rattle.std.proofs.Common.{◌≡◌, map, take}
use Rattle.watchers.specs.declared.filter.Notice.{Notice}
use Rattle.watchers.proofs.watch.Watch.numbers.Given as goal

abbrev pub invariant-loop-at : goal.invariant-loop-at
invariant-loop-at g l = l.numbers.items ≡ map (λ (n : Notice). n.number) (take l.at l.self.notices)
