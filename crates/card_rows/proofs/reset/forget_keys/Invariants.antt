use Rattle.std.proofs.Common.{◌≡◌, length}
use Rattle.card_model.specs.Step.{unverified}
use Rattle.card_rows.proofs.Keys.{written}
use Rattle.card_rows.proofs.reset.forget_keys.Given as goal

abbrev pub invariant-keys : goal.invariant-keys
invariant-keys l = record { so_far : l.keys ≡ written unverified l.fn.keys l.at; len : length l.keys ≡ length l.fn.keys }
