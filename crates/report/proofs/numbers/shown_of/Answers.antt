use Rattle.std.proofs.Common.{arith}
use Rattle.std.proofs.lemmas.Grind.{common_steps}
use Rattle.report.proofs.Words.{places_step, places_end}
use Rattle.report.proofs.numbers.shown_of.Goals as goal

pub places-preserved : goal.places-preserved
places-preserved c = record {
  read = places_step _ _ _ _ _ _ _ (omega arith) c.places.invariant.read c.take_place-place.ensures.place c.take_place-place.ensures.behind c.push.ensures.items;
  few = grind (arith, common_steps);
}

pub returns : goal.returns
returns c = places_end _ _ _ _ (omega arith) (omega arith) c.places.invariant.read
