use Rattle.std.proofs.Common.{ap, subst}
use Rattle.std.specs.Prelude.{Option}
use Rattle.std.specs.Option.{option_copied}
use Rattle.content_tracker.specs.declared.follow.WrittenRow.{WrittenRow}
use Rattle.content_tracker.specs.Contents.{WasBefore}
use Rattle.content_tracker.proofs.Rows.{no_row}
use Rattle.content_tracker.proofs.follow.behind_some.Goals as goal

pub returns-in-None : goal.returns-in-None
returns-in-None c =
    no_row c.args.family c.args.content c.args.files.now c.requires.known
    (subst (λ (o : Option WrittenRow). WasBefore c.args.family o c.args.content c.args.files.now) (ap option_copied c.in-None.is) c.requires.before)
