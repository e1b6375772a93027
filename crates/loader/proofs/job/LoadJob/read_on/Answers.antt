use Rattle.link.proofs.Steps.{plays-added}
use Rattle.loader.specs.Load.{Load, load_of}
use Rattle.loader.proofs.Sent.{due-added, load-added, on-ok}
use Rattle.loader.proofs.job.LoadJob.read_on.Goals as goal

pub returns-clause-slot : goal.returns-clause-slot
returns-clause-slot g c = plays-added _ _ _ c.in_ok-send.ensures.trail.front c.send-2.ensures.trail.front _ _ _ c.in_ok-send.ensures.slot c.send-2.ensures.slot

pub returns-clause-due : goal.returns-clause-due
returns-clause-due g c = due-added _ _ _ c.in_ok-send.ensures.trail.front c.send-2.ensures.trail.front _ _ _ c.in_ok-send.ensures.load c.in_ok-send.ensures.due c.send-2.ensures.due

pub returns-clause-load : goal.returns-clause-load
returns-clause-load g c =
    let k : Load = load_of c.args.turning.now c.args.cache.now.files c.args.self.now.readings in
    let l : Load = load_of c.send.new.turning c.send.new.cache.files c.send.new.self.readings in
    let m : Load = load_of c.send-2.new.turning c.send-2.new.cache.files c.send-2.new.self.readings in
    on-ok c.send-2.result _ _ (λ j. load-added _ _ _ c.in_ok-send.ensures.trail.front c.send-2.ensures.trail.front c.args.path.now k l m c.in_ok-send.ensures.load j) c.send-2.ensures.load
