use Rattle.std.proofs.Common.{[], Some, refl, sym, ap, ◌∙◌, arith}
use Rattle.link.proofs.Steps.{last-sent, more-sent, first-grows, one-ends}
use Rattle.link.proofs.exchanges.+go_on.Goals as goal

pub returns-in-Err-clause-sends : goal.returns-in-Err-clause-sends
returns-in-Err-clause-sends g t c = last-sent _ _ _ _ _ c.in-Err.ensures.step refl

pub returns-in-None-clause-sends : goal.returns-in-None-clause-sends
returns-in-None-clause-sends g t c = last-sent _ _ _ _ _ c.in-Ok.ensures.step (sym c.in-None.ensures.value) ∙ ap (λ r. Some (r, [])) (sym c.final_response.ensures)

pub returns-in-Some-clause-sends : goal.returns-in-Some-clause-sends
returns-in-Some-clause-sends g t c = more-sent _ _ _ _ _ _ c.in-Some.chain _ c.in-Ok.ensures.step c.go_on.ensures.trail.front (sym c.in-Some.ensures.value) c.go_on.ensures.sends

pub returns-in-Some-clause-trail : goal.returns-in-Some-clause-trail
returns-in-Some-clause-trail g t c = first-grows _ _ _ _ _ _ c.in-Ok.ensures.step c.go_on.ensures.trail (grind arith)

pub returns-in-None-clause-ends : goal.returns-in-None-clause-ends
returns-in-None-clause-ends g t c = one-ends _ _ _ _ c.in-Ok.response _ c.in-Ok.ensures.step c.requires.due c.requires.few (sym c.in-None.ensures.value) c.final_response.ensures
