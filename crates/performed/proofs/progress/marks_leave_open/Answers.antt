use Rattle.performed.proofs.ProgressMarks.{leave_open}
use Rattle.performed.proofs.progress.marks_leave_open.Goals as goal

pub returns : goal.returns
returns c = leave_open
