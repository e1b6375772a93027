use Rattle.std.proofs.Common.{◌≡◌, ◌∙◌, ap, sym}
use Rattle.epoch_cache.specs.Places.{with_place, highest_version}
use Rattle.epoch_cache.specs.contracts.versions.Versions.{the_view}
use Rattle.epoch_cache.proofs.Placed.{told, places_of, tracked, tracked_before, with_place_bound}
use Rattle.epoch_cache.proofs.versions.Versions.track.Goals as goal

pub returns-in_ok-insert-clause-ok : goal.returns-in_ok-insert-clause-ok
returns-in_ok-insert-clause-ok c = told (λ p ps. the_view record { by_path = c.insert.new.self } ≡ with_place p ps) c.key_of-key.ensures c.self.view_is
    (ap (places_of (λ k. k.items)) c.in_ok-insert.ensures.entries ∙ tracked (λ k. k.items) c.key_of-key.result c.self.inside.by_path.entries (sym c.contains_key.ensures ∙ c.if-not-contains_key.true))

pub returns-else-not-contains_key-clause-ok : goal.returns-else-not-contains_key-clause-ok
returns-else-not-contains_key-clause-ok c = told (λ p ps. ps ≡ with_place p ps) c.key_of-key.ensures c.self.view_is
    (tracked_before (λ k. k.items) c.key_of-key.result.items c.self.inside.by_path.entries (sym c.contains_key.ensures ∙ c.if-not-contains_key.false))

pub returns-in_ok-insert-clause-bound : goal.returns-in_ok-insert-clause-bound
returns-in_ok-insert-clause-bound c = ap highest_version (returns-in_ok-insert-clause-ok c) ∙ with_place_bound c.args.path.now c.args.self.now
