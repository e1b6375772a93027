use Rattle.std.proofs.Common.{◌+◌, length}
use Rattle.worked_values.proofs.objects.objects_text.Given as goal

abbrev pub decreases-objects : goal.decreases-objects
decreases-objects l = length l.ber.parts + length l.simple.parts
