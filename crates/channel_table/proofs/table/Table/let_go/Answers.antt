use Rattle.std.proofs.Common.{sym, ap, ◌∙◌, subst}
use Rattle.std.specs.Prelude.{position, ◌==◌}
use Rattle.channel_table.specs.Values.{AreHeld, without}
use Rattle.channel_table.proofs.Lists.{held_without, one_out, none_out, not_some}
use Rattle.channel_table.proofs.table.Table.let_go.Goals as goal

pub invariant_of-self : goal.invariant_of-self
invariant_of-self c = subst AreHeld (sym (c.remove.ensures.items ∙ one_out c.args.number c.in-Some.place c.self.inside.held.items (ap (position (λ n. n == c.args.number)) (sym c.as_slice.ensures.value) ∙ sym c.place_of.ensures.place ∙ c.in-Some.is))) (held_without c.args.number _ c.self.invariant)

pub returns-in-Some-clause-without : goal.returns-in-Some-clause-without
returns-in-Some-clause-without c = c.remove.ensures.items ∙ one_out c.args.number c.in-Some.place c.self.inside.held.items (ap (position (λ n. n == c.args.number)) (sym c.as_slice.ensures.value) ∙ sym c.place_of.ensures.place ∙ c.in-Some.is) ∙ ap (without c.args.number) c.self.view_is

pub returns-in_default-clause-without : goal.returns-in_default-clause-without
returns-in_default-clause-without c = sym (ap (without c.args.number) (sym c.self.view_is) ∙ none_out c.args.number c.self.inside.held.items (ap (position (λ n. n == c.args.number)) (sym c.as_slice.ensures.value) ∙ sym c.place_of.ensures.place ∙ not_some _ c.in_default.not-Some) ∙ c.self.view_is)
