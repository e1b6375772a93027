use Rattle.std.proofs.Common.{◌∷◌, ◌++◌, [], ◌∙◌, ap, sym, arith, length, length-append}
use Rattle.epoch_cache.specs.Past.{past_of, past_after, event_bytes}
use Rattle.epoch_cache.specs.Store.{history_events, stored_length}
use Rattle.epoch_cache.proofs.Stored.{past_count, calls_bound, epoch_bound, history_count, history_push, stored_length_push}
use Rattle.epoch_cache.proofs.history.History.push.Goals as goal

pub after-self-inside-requires-clause-events : goal.after-self-inside-requires-clause-events
after-self-inside-requires-clause-events c = omega (
  arith,
  ap (λ p. p.events) c.self.invariant.kept,
  past_count (history_events c.self.inside.entries.items c.self.inside.bytes.items),
  history_count c.self.inside.entries.items c.self.inside.bytes.items,
  c.len-count.ensures,
  ap length c.push_within.ensures.items,
  length-append c.self.inside.entries.items (c.store-entry.result ∷ []),
  c.len-count.type_inv,
)

pub after-self-inside-requires-clause-calls : goal.after-self-inside-requires-clause-calls
after-self-inside-requires-clause-calls c = omega (
  arith,
  ap (λ p. p.calls) c.self.invariant.kept,
  calls_bound (history_events c.self.inside.entries.items c.self.inside.bytes.items),
  history_count c.self.inside.entries.items c.self.inside.bytes.items,
  c.len-count.ensures,
  ap length c.push_within.ensures.items,
  length-append c.self.inside.entries.items (c.store-entry.result ∷ []),
  c.len-count.type_inv,
)

pub after-self-inside-requires-clause-epoch : goal.after-self-inside-requires-clause-epoch
after-self-inside-requires-clause-epoch c = omega (
  arith,
  ap (λ p. p.epoch) c.self.invariant.kept,
  epoch_bound (history_events c.self.inside.entries.items c.self.inside.bytes.items),
  history_count c.self.inside.entries.items c.self.inside.bytes.items,
  c.len-count.ensures,
  ap length c.push_within.ensures.items,
  length-append c.self.inside.entries.items (c.store-entry.result ∷ []),
  c.len-count.type_inv,
)

pub invariant_of-self : goal.invariant_of-self
invariant_of-self c =
    let pushed = ap (λ es. history_events es c.store-entry.new.bytes.items) c.push_within.ensures.items ∙ ap (history_events (c.self.inside.entries.items ++ c.store-entry.result ∷ [])) c.store-entry.ensures.bytes
    ∙ history_push c.self.inside.entries.items c.self.inside.bytes.items (event_bytes c.args.event.now) c.store-entry.result c.self.invariant.whole c.store-entry.ensures.length
    ∙ ap (λ e. e ∷ history_events c.self.inside.entries.items c.self.inside.bytes.items) c.store-entry.ensures.event in
    record {
      whole = omega (
        arith,
        ap length c.store-entry.ensures.bytes,
        length-append c.self.inside.bytes.items (event_bytes c.args.event.now),
        c.self.invariant.whole,
        ap stored_length c.push_within.ensures.items,
        stored_length_push c.self.inside.entries.items c.store-entry.result,
        c.store-entry.ensures.length,
      );
      kept = c.after-self-inside.ensures ∙ ap (past_after c.args.event.now) c.self.invariant.kept ∙ ap past_of (sym pushed);
      room_for_events = omega (arith, c.push_within.ensures.spare, c.self.invariant.room_for_events);
      room_for_bytes = omega (arith, c.store-entry.ensures.spare, c.self.invariant.room_for_bytes, c.len.ensures, c.len-before.ensures, ap length c.store-entry.ensures.bytes, length-append c.self.inside.bytes.items (event_bytes c.args.event.now));
    }

pub returns-clause-events : goal.returns-clause-events
returns-clause-events c = ap (λ es. history_events es c.store-entry.new.bytes.items) c.push_within.ensures.items ∙ ap (history_events (c.self.inside.entries.items ++ c.store-entry.result ∷ [])) c.store-entry.ensures.bytes
    ∙ history_push c.self.inside.entries.items c.self.inside.bytes.items (event_bytes c.args.event.now) c.store-entry.result c.self.invariant.whole c.store-entry.ensures.length
    ∙ ap (λ e. e ∷ history_events c.self.inside.entries.items c.self.inside.bytes.items) c.store-entry.ensures.event ∙ ap (λ h. c.args.event.now ∷ h.events) c.self.view_is
