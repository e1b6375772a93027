use Rattle.std.proofs.Common.{◌≡◌, ◌∙◌, ap}
use Rattle.std.specs.Prelude.{unwrap_or}
use Rattle.epoch_cache.specs.Places.{version_of}
use Rattle.epoch_cache.proofs.Placed.{told, version_found}
use Rattle.epoch_cache.proofs.versions.Versions.get.Goals as goal

pub returns : goal.returns
returns c = record {
  value = told (λ p ps. c.unwrap_or.result ≡ version_of p ps) c.key_of.ensures c.self.view_is
      (c.unwrap_or.ensures ∙ ap (λ o. unwrap_or o 0) (c.copied.ensures ∙ c.get.ensures.value) ∙ version_found (λ k. k.items) c.key_of.result.items c.self.inside.by_path.entries);
}
