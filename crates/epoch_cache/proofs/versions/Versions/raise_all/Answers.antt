use Rattle.std.proofs.Common.{◌≡◌, ◌+◌, ◌≤◌, ◌∙◌, ap, sym, subst, arith}
use Rattle.std.specs.Prelude.{slice_get, Some}
use Rattle.std.specs.Map.{values_of}
use Rattle.epoch_cache.specs.Places.{highest_version, all_raised}
use Rattle.epoch_cache.proofs.Placed.{bumped_to, bumped_after, bumped_bound, bumped_places, places_of, all_raised_bound}
use Rattle.epoch_cache.proofs.versions.Versions.raise_all.Goals as goal

pub overflow_add-index_mut : goal.overflow_add-index_mut
overflow_add-index_mut c =
    let here : slice_get (values_of (bumped_to (λ k. k.items) c.loop-i.i c.self.inside.by_path.entries)) c.loop-i.i ≡ Some c.index_mut.result.now =
    subst (λ es. slice_get (values_of es) c.loop-i.i ≡ Some c.index_mut.result.now) c.loop-i.invariant c.index_mut.ensures.value in
    let below : c.index_mut.result.now ≤ highest_version c.args.self.now =
    subst (λ ps. c.index_mut.result.now ≤ highest_version ps) c.self.view_is (bumped_bound (λ k. k.items) c.loop-i.i c.self.inside.by_path.entries c.loop-i.i _ here (omega arith)) in
    omega (arith, below, c.requires)

pub loop-i-preserved : goal.loop-i-preserved
loop-i-preserved c =
    let here : slice_get (values_of (bumped_to (λ k. k.items) c.loop-i.i c.self.inside.by_path.entries)) c.loop-i.i ≡ Some c.index_mut.result.now =
    subst (λ es. slice_get (values_of es) c.loop-i.i ≡ Some c.index_mut.result.now) c.loop-i.invariant c.index_mut.ensures.value in
    rw c.loop-i.invariant (bumped_after (λ k. k.items) c.self.inside.by_path.entries c.loop-i.i _ here)

pub returns-clause-value : goal.returns-clause-value
returns-clause-value c = ap (places_of (λ k. k.items)) c.loop-i.invariant ∙ bumped_places (λ k. k.items) c.loop-i.i c.self.inside.by_path.entries (omega (arith, c.len-i-end.ensures.len, c.loop-i-test.false)) ∙ ap all_raised c.self.view_is

pub returns-clause-bound : goal.returns-clause-bound
returns-clause-bound c = subst (λ ps. highest_version ps ≤ highest_version c.args.self.now + 1) (sym (returns-clause-value c)) (all_raised_bound c.args.self.now)
