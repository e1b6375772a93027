use Rattle.std.proofs.Common.{◌≡◌, arith}
use Rattle.rules.specs.Kept.{actor_count}
use Rattle.replay.specs.Rounds.{kept_in}
use Rattle.replay.proofs.Turns.{round_next, turned_in_round, round_gone}
use Rattle.replay.proofs.run.Run.round.Goals as goal

pub take_turn-requires-clause-scheduled : goal.take_turn-requires-clause-scheduled
take_turn-requires-clause-scheduled c =
    let s = c.args.self.now.hub.script in
    let last : c.last_actor-actor-end.result ≡ actor_count s = c.last_actor-actor-end.ensures.value in
    let inv = c.loop-actor.invariant in
    round_next s c.loop-actor.self (kept_in s c.args.self.now).marks c.loop-actor.actor inv.under_way c.requires.round inv.marks (omega arith)

pub loop-actor-preserved : goal.loop-actor-preserved
loop-actor-preserved c =
    turned_in_round c.args.self.now.hub.script c.args.self.now c.loop-actor.self c.take_turn.new.self c.loop-actor.actor c.loop-actor.invariant c.in_ok-take_turn.ensures

pub returns : goal.returns
returns c =
    let last : c.last_actor-actor-end.result ≡ actor_count c.args.self.now.hub.script = c.last_actor-actor-end.ensures.value in
    round_gone c.somebody_moves_until_finished.ensures c.args.self.now c.loop-actor.self c.loop-actor.actor c.loop-actor.invariant c.requires.under_way c.requires.round (c.lines_are_due.ensures c.requires.under_way.whole) c.requires.going (omega arith)
