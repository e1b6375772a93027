use Rattle.std.proofs.Common.{◌≡◌, ◌≤◌, true, false, sym, ◌∙◌, subst}
use Rattle.std.proofs.lemmas.Result.{on_ok_weaker}
use Rattle.rules.specs.Kept.{actor_count}
use Rattle.rules.specs.Work.{is_finished, is_idle}
use Rattle.hub.specs.Hub.{HubValue, kept_now}
use Rattle.replay.proofs.Left.{is_unfinished}
use Rattle.replay.proofs.Taken.{is_awake, is_resting, took_turn, took_mark}
use Rattle.replay.proofs.run.Run.take_turn.Goals as goal

pub note_idle-requires : goal.note_idle-requires
note_idle-requires c =
    let h = c.args.self.now.hub in
    let idle : is_idle h.script (kept_now h) c.args.actor ≡ true = is_resting h.script (kept_now h) c.args.actor c.in_ok-turn.field-0 c.in-Waits.is c.in_ok-turn.ensures.answer in
    let same : c.turn.new.self ≡ h = c.in_ok-turn.ensures.idle idle in
    record {
      actor = subst (λ (x : HubValue). c.args.actor ≤ actor_count x.script) (sym same) c.requires.known;
      pending = subst (λ (x : HubValue). is_finished x.script (kept_now x) ≡ false) (sym same) (is_unfinished h.script (kept_now h) c.requires.going);
      idle = subst (λ (x : HubValue). is_idle x.script (kept_now x) c.args.actor ≡ true) (sym same) idle;
    }

pub returns-in-Moved : goal.returns-in-Moved
returns-in-Moved c =
    let h = c.args.self.now.hub in
    let awake : is_idle h.script (kept_now h) c.args.actor ≡ false = is_awake h.script (kept_now h) c.args.actor (sym c.in-Moved.is ∙ c.in_ok-turn.ensures.answer) in
    took_turn c.args.actor h c.turn.new.self c.args.self.now.budget c.requires.under_way c.requires.going c.requires.scheduled awake (c.in_ok-turn.ensures.moved awake)

pub returns-in-Waits : goal.returns-in-Waits
returns-in-Waits c =
    let h = c.args.self.now.hub in
    let idle : is_idle h.script (kept_now h) c.args.actor ≡ true = is_resting h.script (kept_now h) c.args.actor c.in_ok-turn.field-0 c.in-Waits.is c.in_ok-turn.ensures.answer in
    on_ok_weaker c.note_idle.result (λ is. took_mark c.marks_leave_open.ensures c.args.actor h c.turn.new.self c.note_idle.new.self c.args.self.now.budget c.requires.under_way c.requires.going c.requires.scheduled idle (c.in_ok-turn.ensures.idle idle) is) c.note_idle.ensures.ok
