use Rattle.std.proofs.Common.{length, ap, ◌∙◌, arith}
use Rattle.script_reader.specs.declared.types.Script.{Script}
use Rattle.replay.proofs.Turns.{schedule_known, schedule_next}
use Rattle.replay.proofs.run.Run.by_schedule.Goals as goal

pub take_turn-requires-clause-known : goal.take_turn-requires-clause-known
take_turn-requires-clause-known c =
    let s = c.args.self.now.hub.script in
    let count = ap (λ (x : Script). length x.schedule) c.script.ensures in
    schedule_known s c.loop-at.self c.as_slice.result.now c.loop-at.at c.loop-at.invariant.under_way (c.as_slice.ensures ∙ ap (λ (x : Script). x.schedule) c.script-in-loop-at.ensures) (omega arith)

pub take_turn-requires-clause-scheduled : goal.take_turn-requires-clause-scheduled
take_turn-requires-clause-scheduled c =
    let s = c.args.self.now.hub.script in
    let count = ap (λ (x : Script). length x.schedule) c.script.ensures in
    schedule_next s c.loop-at.self c.as_slice.result.now c.loop-at.at c.loop-at.invariant.under_way (c.as_slice.ensures ∙ ap (λ (x : Script). x.schedule) c.script-in-loop-at.ensures) (omega arith) c.loop-at.invariant.marks
