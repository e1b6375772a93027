use Rattle.std.proofs.Common.{rules, not}
use Rattle.std.proofs.lemmas.Fn.{filter_same}
use Rattle.rules.specs.declared.holdings.Handle.{Handle}
use Rattle.rules.specs.Channels.{is_handle_of}
use Rattle.tracker.proofs.holdings.keep_other_handles.Goals as goal

pub returns-clause-items : goal.returns-clause-items
returns-clause-items c = filter_same _ (λ (h : Handle). not (is_handle_of c.args.actor c.args.handle h)) _ (λ x b f' t. search rules) _ _ c.retain.ensures.filtered
