use Rattle.std.proofs.Common.{rules, not}
use Rattle.std.proofs.lemmas.Fn.{filter_same}
use Rattle.rules.specs.declared.holdings.Session.{Session}
use Rattle.rules.specs.Sessions.{is_session_of}
use Rattle.tracker.proofs.holdings.keep_other_sessions.Goals as goal

pub returns-clause-items : goal.returns-clause-items
returns-clause-items c = filter_same _ (λ (h : Session). not (is_session_of c.args.actor c.args.key h)) _ (λ x b f' t. search rules) _ _ c.retain.ensures.filtered
