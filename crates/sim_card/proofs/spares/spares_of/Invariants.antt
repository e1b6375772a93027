use Rattle.std.proofs.Common.{◌≡◌, ◌++◌, map, drop}
use Rattle.card_model.specs.Limits.{all_files}
use Rattle.sim_card.proofs.spares.spares_of.Given as goal

abbrev pub invariant-loop : goal.invariant-loop
invariant-loop l = l.spares ++ map (λ _. all_files l.changes) (drop l.index l.cards) ≡ map (λ _. all_files l.changes) l.cards
