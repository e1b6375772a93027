-- What was written is the list's object behind the details, and `reads_back` reads it.
use Rattle.std.proofs.Common.{◌∙◌, ap}
use Rattle.refresh_cmd.specs.Proactive.{with_details, read_proactive}
use Rattle.refresh_cmd.proofs.ReadBack.{reads_back}
use Rattle.refresh_cmd.proofs.write.write_proactive.Goals as goal

pub returns-clause-read_back : goal.returns-clause-read_back
returns-clause-read_back c = λ below.
    ap read_proactive (c.with_details.ensures ∙ ap (with_details c.args.number c.args.kind c.args.qualifier) (c.as_slice.ensures.value ∙ c.list_object-list.ensures.value))
    ∙ reads_back c.args.number c.args.kind c.args.qualifier c.args.paths.now c.requires c.list_object-list.ensures.good below
