use Rattle.std.proofs.Common.{◌+◌, ◌∙◌, ap, sym, arith, drop}
use Rattle.std.proofs.lemmas.List.{drop_all}
use Rattle.epoch_cache.specs.Places.{without_listed, raised_in_turn}
use Rattle.epoch_cache.proofs.Listed.{without_none, without_one_more, rest_from}
use Rattle.epoch_cache.proofs.cache.Cache.touch_listed.Goals as goal

pub loop-path-preserved : goal.loop-path-preserved
loop-path-preserved c =
    let rest = rest_from c.args.paths.now c.loop-path.path-index c.path-item.result c.loop-path-test.true c.path-item.is in
    record {
      files = ap (without_listed (drop (c.loop-path.path-index + 1) c.args.paths.now)) c.touch.ensures.files
          ∙ without_one_more c.path-item.result (drop (c.loop-path.path-index + 1) c.args.paths.now) c.loop-path.self.files
          ∙ ap (λ ps. without_listed ps c.loop-path.self.files) (sym rest) ∙ c.loop-path.invariant.files;
      places = ap (raised_in_turn (drop (c.loop-path.path-index + 1) c.args.paths.now)) c.touch.ensures.places
          ∙ ap (λ ps. raised_in_turn ps c.loop-path.self.places) (sym rest) ∙ c.loop-path.invariant.places;
      bound = omega (arith, c.touch.ensures.bound, c.loop-path.invariant.bound);
    }

pub returns-clause-files : goal.returns-clause-files
returns-clause-files c = sym (without_none c.loop-path.self.files)
    ∙ ap (λ ps. without_listed ps c.loop-path.self.files) (sym (drop_all c.loop-path.path-index c.args.paths.now (omega (arith, c.loop-path-test.false)))) ∙ c.loop-path.invariant.files
