use Rattle.std.proofs.Common.{arith}
use Rattle.std.proofs.Math.ListN.{length-set}
use Rattle.card_model.specs.Step.{unverified}
use Rattle.card_rows.proofs.Keys.{set-next}
use Rattle.card_rows.proofs.reset.forget_keys.Goals as goal

pub keys-preserved : goal.keys-preserved
keys-preserved c = record {
  so_far = set-next unverified _ _ _ _ (omega arith) c.keys.invariant.so_far c.at_mut.ensures.value;
  len = simp length-set c.keys.invariant.len;
}
