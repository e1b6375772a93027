use Rattle.epoch_cache.proofs.Stored.{answered_back}
use Rattle.epoch_cache.proofs.store.store_step.Goals as goal

pub returns-in-Ok-clause-event : goal.returns-in-Ok-clause-event
returns-in-Ok-clause-event c = answered_back c.args.actor c.len-command_length.result c.len.result c.args.step.now c.in-Ok.response c.write-command.result.items c.write-response.result.items
    c.in-Ok.is c.len-command_length.ensures.value c.write-command.ensures.value c.write-response.ensures.value c.write-command.ensures.inverse c.write-response.ensures.inverse
