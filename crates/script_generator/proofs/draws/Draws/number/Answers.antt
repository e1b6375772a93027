use Rattle.std.proofs.Common.{refl}
use Rattle.script_generator.proofs.draws.Draws.number.Goals as goal

pub returns-clause-state : goal.returns-clause-state
returns-clause-state c =
    rw (c.digit_pair-fifth.ensures.state, c.digit_pair-fourth.ensures.state, c.digit_pair-third.ensures.state, c.digit_pair-second.ensures.state, c.digit_pair-first.ensures.state) refl

pub returns-clause-value : goal.returns-clause-value
returns-clause-value c =
    rw (c.digit_pair-fifth.ensures.value, c.digit_pair-fourth.ensures.state, c.digit_pair-fourth.ensures.value, c.digit_pair-third.ensures.state, c.digit_pair-third.ensures.value, c.digit_pair-second.ensures.state, c.digit_pair-second.ensures.value, c.digit_pair-first.ensures.state, c.digit_pair-first.ensures.value) refl
