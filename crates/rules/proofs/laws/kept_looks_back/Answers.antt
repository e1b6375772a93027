use Rattle.rules.proofs.Looking.{history, standings}
use Rattle.rules.proofs.CurrentPaths.{paths}
use Rattle.rules.proofs.HandlesAndSessions.{handles, sessions}
use Rattle.rules.proofs.SeenBefore.{answers}
use Rattle.rules.proofs.Attempts.{attempts_back}
use Rattle.rules.proofs.laws.kept_looks_back.Goals as goal

pub returns : goal.returns
returns c = λ s lines. record {
  history = history s lines;
  standings = standings s lines;
  paths = λ path. paths path s lines;
  handles = handles s lines;
  sessions = sessions s lines;
  answers = answers s lines;
  attempts = attempts_back s lines;
}
