use Rattle.std.proofs.Common.{◌-◌, List, length, take, drop, ap}
use Rattle.script_reader.specs.declared.types.ChangeSpec.{ChangeSpec}
use Rattle.script_generator.specs.Working.{most_reads, change_files}
use Rattle.script_generator.proofs.Slices.{cons_of}
use Rattle.script_generator.proofs.Appended.{most_of_change}
use Rattle.script_generator.proofs.reads.+most_of_changes.Goals as goal

pub returns : goal.returns
returns t c =
    let changes = c.args.changes.now in
    let is = cons_of changes c.change-item.result c.in-len1-up.len_at_least c.change-item.is in
    let most = most_of_change c.args.path.now c.change-item.result (take (length changes - 1) (drop 1 changes)) in
    let whole = ap (λ (xs : List ChangeSpec). most_reads c.args.path.now (change_files xs)) is in
    cc
