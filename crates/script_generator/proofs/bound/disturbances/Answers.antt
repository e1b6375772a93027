use Rattle.std.proofs.Common.{refl}
use Rattle.script_generator.specs.Working.{disturbances_of}
use Rattle.script_generator.proofs.Bounds.{edits_fit, moves_fit, moves_and_faults_fit, changes_few}
use Rattle.script_generator.proofs.bound.disturbances.Goals as goal

pub moves-requires : goal.moves-requires
moves-requires c = rw c.as_slice-actors.ensures (moves_fit c.args.script.now c.requires)

pub edits-requires : goal.edits-requires
edits-requires c = rw c.as_slice-actors.ensures (edits_fit c.args.script.now c.requires)

pub overflow_add-moves : goal.overflow_add-moves
overflow_add-moves c = rw (c.moves.ensures, c.as_slice-actors.ensures, c.len.ensures) (moves_and_faults_fit c.args.script.now c.requires)

pub disturbances_by-requires : goal.disturbances_by-requires
disturbances_by-requires c = rw (c.moves.ensures, c.edits.ensures, c.as_slice-actors.ensures, c.len.ensures) (changes_few c.args.script.now c.requires)

pub returns : goal.returns
unfolding disturbances_of
returns c = rw (c.disturbances_by.ensures, c.moves.ensures, c.edits.ensures, c.as_slice-actors.ensures, c.len.ensures) refl
