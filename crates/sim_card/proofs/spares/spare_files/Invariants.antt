use Rattle.std.proofs.Common.{◌≡◌, ◌++◌, drop}
use Rattle.card_model.specs.Limits.{all_files}
use Rattle.sim_card.proofs.spares.spare_files.Given as goal

abbrev pub invariant-loop-change : goal.invariant-loop-change
invariant-loop-change l = l.files ++ all_files (drop l.change-index l.changes) ≡ all_files l.changes
