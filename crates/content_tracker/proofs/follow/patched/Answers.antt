use Rattle.std.proofs.Common.{◌∙◌}
use Rattle.content_tracker.proofs.Views.{current_decoded, was_current}
use Rattle.content_tracker.proofs.follow.patched.Goals as goal

pub patch-requires-clause-before : goal.patch-requires-clause-before
patch-requires-clause-before c = was_current _ _ c.args.number c.args.row c.args.content c.args.files.now c.requires.before

pub returns-in-Ok : goal.returns-in-Ok
returns-in-Ok c = c.in-Ok.ensures.ok ∙ current_decoded c.args.family c.args.files.now c.requires.known
