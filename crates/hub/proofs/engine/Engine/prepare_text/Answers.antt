use Rattle.hub.proofs.Scripts.{ready_family}
use Rattle.hub.proofs.engine.Engine.prepare_text.Goals as goal

pub text-requires : goal.text-requires
text-requires g c = ready_family _ c.args.actor _ c.requires.tied (cc)
