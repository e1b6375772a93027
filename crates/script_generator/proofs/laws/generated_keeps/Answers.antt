use Rattle.script_generator.proofs.Keeps.{generated_keeps_rules}
use Rattle.script_generator.proofs.laws.generated_keeps.Goals as goal

pub returns : goal.returns
returns c = λ seed size fits some most. generated_keeps_rules seed size most
