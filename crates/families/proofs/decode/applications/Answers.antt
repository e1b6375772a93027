use Rattle.std.proofs.Common.{rules, ◌∙◌}
use Rattle.families.specs.Contents.{application_of}
use Rattle.families.proofs.Rows.{row_taken, rows_taken}
use Rattle.families.proofs.decode.applications.Goals as goal

pub loop-row-preserved : goal.loop-row-preserved
loop-row-preserved c =
    row_taken application_of c.args.dir.now.rows c.loop-row.rows c.push.new.self c.in-Some.row.now c.loop-row.invariant (search rules) (search rules)

pub returns : goal.returns
returns c = rows_taken application_of c.args.dir.now.rows c.loop-row.rows c.loop-row.invariant (search rules) ∙ search rules
