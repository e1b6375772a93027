use Rattle.script_generator.proofs.Bounds.{reading_fits, reading_few, script_disturbed}
use Rattle.script_generator.proofs.bound.work.Goals as goal

pub whole_reading-reading-requires : goal.whole_reading-reading-requires
whole_reading-reading-requires c = reading_fits c.args.script.now c.requires

pub work_by-requires-clause-reading : goal.work_by-requires-clause-reading
work_by-requires-clause-reading c = rw c.whole_reading-reading.ensures (reading_few c.args.script.now c.requires)

pub work_by-requires-clause-disturbed : goal.work_by-requires-clause-disturbed
work_by-requires-clause-disturbed c = rw c.disturbances.ensures (script_disturbed c.args.script.now c.requires)
