use Rattle.std.proofs.Common.{◌≡◌, List, drop, ap, sym, ◌∙◌, subst}
use Rattle.std.specs.Prelude.{OnOk}
use Rattle.card_model.specs.declared.trail.Step.{Step}
use Rattle.link.specs.Exchanges.{added}
use Rattle.loader.specs.declared.stage.Stage.{Stage}
use Rattle.loader.specs.Load.{IsReadNext, Load, load_after, load_of}
use Rattle.loader.proofs.Sent.{Sent, on-ok, sent-fresh}
use Rattle.loader.proofs.job.LoadJob.send.Goals as goal

pub returns-clause-due : goal.returns-clause-due
returns-clause-due g c =
    let l : Load = load_of c.args.turning.now c.args.cache.now.files c.args.self.now.readings in
    (sent-fresh (added c.args.trail.now c.transmit.new.trail) c.args.path.now c.args.command.now l c.transmit.result c.requires.chain c.requires.due c.transmit.ensures.sends).due

pub returns-clause-chain : goal.returns-clause-chain
returns-clause-chain g c =
    let l : Load = load_of c.args.turning.now c.args.cache.now.files c.args.self.now.readings in
    let m : Load = load_of c.follow_steps.new.turning c.follow_steps.new.cache.files c.follow_steps.new.self.readings in
    let steps : List Step = added c.args.trail.now c.transmit.new.trail in
    let same : c.steps_from.result.now ≡ steps = c.steps_from.ensures ∙ ap (λ n. drop n c.transmit.new.trail) c.len-from.ensures.value in
    let load : OnOk c.follow_steps.result (m ≡ load_after c.args.path.now steps l) = subst (λ (ss : List Step). OnOk c.follow_steps.result (m ≡ load_after c.args.path.now ss l)) same c.follow_steps.ensures.load in
    let s : Sent c.args.path.now steps c.args.command.now l c.transmit.result = sent-fresh steps c.args.path.now c.args.command.now l c.transmit.result c.requires.chain c.requires.due c.transmit.ensures.sends in
    on-ok c.follow_steps.result (m ≡ load_after c.args.path.now steps l) _ (λ e. ap (λ (x : Load). x.chain) e ∙ s.chain) load

pub returns-clause-reads : goal.returns-clause-reads
returns-clause-reads g c =
    let l : Load = load_of c.args.turning.now c.args.cache.now.files c.args.self.now.readings in
    let m : Load = load_of c.follow_steps.new.turning c.follow_steps.new.cache.files c.follow_steps.new.self.readings in
    let steps : List Step = added c.args.trail.now c.transmit.new.trail in
    let same : c.steps_from.result.now ≡ steps = c.steps_from.ensures ∙ ap (λ n. drop n c.transmit.new.trail) c.len-from.ensures.value in
    let load : OnOk c.follow_steps.result (m ≡ load_after c.args.path.now steps l) = subst (λ (ss : List Step). OnOk c.follow_steps.result (m ≡ load_after c.args.path.now ss l)) same c.follow_steps.ensures.load in
    let s : Sent c.args.path.now steps c.args.command.now l c.transmit.result = sent-fresh steps c.args.path.now c.args.command.now l c.transmit.result c.requires.chain c.requires.due c.transmit.ensures.sends in
    on-ok c.follow_steps.result (m ≡ load_after c.args.path.now steps l) _ (λ e. subst (λ (stage : Stage). IsReadNext stage) (sym (ap (λ (x : Load). x.stage) e)) s.left.reads) load

pub returns-clause-fault : goal.returns-clause-fault
returns-clause-fault g c =
    let l : Load = load_of c.args.turning.now c.args.cache.now.files c.args.self.now.readings in
    let m : Load = load_of c.follow_steps.new.turning c.follow_steps.new.cache.files c.follow_steps.new.self.readings in
    let steps : List Step = added c.args.trail.now c.transmit.new.trail in
    let same : c.steps_from.result.now ≡ steps = c.steps_from.ensures ∙ ap (λ n. drop n c.transmit.new.trail) c.len-from.ensures.value in
    let load : OnOk c.follow_steps.result (m ≡ load_after c.args.path.now steps l) = subst (λ (ss : List Step). OnOk c.follow_steps.result (m ≡ load_after c.args.path.now ss l)) same c.follow_steps.ensures.load in
    let s : Sent c.args.path.now steps c.args.command.now l c.transmit.result = sent-fresh steps c.args.path.now c.args.command.now l c.transmit.result c.requires.chain c.requires.due c.transmit.ensures.sends in
    on-ok c.follow_steps.result (m ≡ load_after c.args.path.now steps l) _ (λ e h. c.transmit.ensures.cause.failed (s.fault (sym (ap (λ (x : Load). x.refused) e) ∙ h))) load

pub returns-clause-over : goal.returns-clause-over
returns-clause-over g c =
    let l : Load = load_of c.args.turning.now c.args.cache.now.files c.args.self.now.readings in
    let m : Load = load_of c.follow_steps.new.turning c.follow_steps.new.cache.files c.follow_steps.new.self.readings in
    let steps : List Step = added c.args.trail.now c.transmit.new.trail in
    let same : c.steps_from.result.now ≡ steps = c.steps_from.ensures ∙ ap (λ n. drop n c.transmit.new.trail) c.len-from.ensures.value in
    let load : OnOk c.follow_steps.result (m ≡ load_after c.args.path.now steps l) = subst (λ (ss : List Step). OnOk c.follow_steps.result (m ≡ load_after c.args.path.now ss l)) same c.follow_steps.ensures.load in
    let s : Sent c.args.path.now steps c.args.command.now l c.transmit.result = sent-fresh steps c.args.path.now c.args.command.now l c.transmit.result c.requires.chain c.requires.due c.transmit.ensures.sends in
    on-ok c.follow_steps.result (m ≡ load_after c.args.path.now steps l) _ (λ e h. ap (λ (x : Load). x.stage) e ∙ s.left.over h) load
