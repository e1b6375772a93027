use Rattle.std.proofs.Common.{All}
use Rattle.card_model.specs.Limits.{IsFittingChange}
use Rattle.script_reader.specs.World.{change_of}
use Rattle.script_reader.proofs.Lists.{ok_is}
use Rattle.script_reader.proofs.RulesKept.{kept_changes}
use Rattle.script_reader.proofs.Fits.{changes_fit}
use Rattle.script_reader.proofs.types.Script.changes.Goals as goal

pub returns-clause-fits : goal.returns-clause-fits
returns-clause-fits c =
    let s = c.args.self.now in
    ok_is (All IsFittingChange) change_of c.as_slice.result.now s.changes _ c.as_slice.ensures c.made_from.ensures (changes_fit s.changes (kept_changes s c.requires))
