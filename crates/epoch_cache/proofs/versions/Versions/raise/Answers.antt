use Rattle.std.proofs.Common.{◌≡◌, ◌+◌, ◌≤◌, ◌∙◌, ap, sym, subst, arith}
use Rattle.std.specs.Prelude.{unwrap_or}
use Rattle.epoch_cache.specs.Places.{version_of, raised_at, highest_version}
use Rattle.epoch_cache.specs.contracts.versions.Versions.{the_view}
use Rattle.epoch_cache.proofs.Placed.{told, places_of, version_found, raised_found, raised_missing, version_bounded, raised_at_bound}
use Rattle.epoch_cache.proofs.versions.Versions.raise.Goals as goal

pub returns-in_default-clause-value : goal.returns-in_default-clause-value
returns-in_default-clause-value c = told (λ p ps. the_view record { by_path = c.get_mut.follows.lender-at-none } ≡ raised_at p ps) c.key_of.ensures c.self.view_is
    (ap (λ m. the_view record { by_path = m }) c.get_mut.follows.holds-at-none ∙ raised_missing (λ k. k.items) c.key_of.result.items c.self.inside.by_path.entries (sym c.in_default.ensures.value))

pub returns-in_default-clause-bound : goal.returns-in_default-clause-bound
returns-in_default-clause-bound c = subst (λ ps. highest_version ps ≤ highest_version c.args.self.now + 1) (sym (returns-in_default-clause-value c)) (raised_at_bound c.args.path.now c.args.self.now)

pub overflow_add-version : goal.overflow_add-version
overflow_add-version c =
    let known = told (λ p ps. c.in-Some.version.now ≡ version_of p ps) c.key_of.ensures c.self.view_is
    (ap (λ o. unwrap_or o 0) c.in-Some.ensures.value ∙ version_found (λ k. k.items) c.key_of.result.items c.self.inside.by_path.entries) in
    omega (arith, known, version_bounded c.args.path.now c.args.self.now, c.requires)

pub returns-clause-value : goal.returns-clause-value
returns-clause-value c = told (λ p ps. the_view record { by_path = c.get_mut.follows.lender (c.in-Some.version.now + 1) } ≡ raised_at p ps) c.key_of.ensures c.self.view_is
    (ap (places_of (λ k. k.items)) (c.get_mut.follows.holds (c.in-Some.version.now + 1)).0 ∙ raised_found (λ k. k.items) c.key_of.result.items c.self.inside.by_path.entries c.in-Some.version.now (sym c.in-Some.ensures.value))

pub returns-clause-bound : goal.returns-clause-bound
returns-clause-bound c = subst (λ ps. highest_version ps ≤ highest_version c.args.self.now + 1) (sym (returns-clause-value c)) (raised_at_bound c.args.path.now c.args.self.now)
