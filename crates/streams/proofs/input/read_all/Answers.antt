use Rattle.std.proofs.Common.{ℕ, ◌==◌, ap, ◌∙◌, rules}
use Rattle.streams.proofs.Sources.{at_end, goes_on, gave_all, gave_more, more_length}
use Rattle.streams.proofs.input.read_all.Goals as goal

pub returns-then-count-eq0-clause-input : goal.returns-then-count-eq0-clause-input
returns-then-count-eq0-clause-input g c = record {
  ended = c.in-Ok.ensures.ended (search rules) ∙ ap (λ (n : ℕ). n == 0) c.if-count-eq0.true;
  all = at_end _ _ _ _ c.read.new.into c.in-Ok.count c.reads.invariant.told c.in-Ok.ensures.bytes c.if-count-eq0.true (search rules);
  few = search rules;
  gave = gave_all _ _ _ _ _ c.reads.invariant.given c.in-Ok.ensures.given c.if-count-eq0.true;
}

pub reads-preserved : goal.reads-preserved
reads-preserved g c = record {
  later = search rules;
  given = gave_more _ _ _ _ _ _ c.reads.invariant.given c.in-Ok.ensures.given (search rules) (more_length _ c.read.new.into _ _ c.in-Ok.ensures.room c.in_ok-extend_from_slice-in-Ok.ensures.items);
  told = goes_on _ _ _ _ _ c.read.new.into c.in-Ok.count c.reads.invariant.told c.in-Ok.ensures.bytes c.in-Ok.ensures.room c.in_ok-extend_from_slice-in-Ok.ensures.items;
  written = c.reads.invariant.written;
  faults = c.reads.invariant.faults;
}
