-- The words and the numbers stand one behind the other.
use Rattle.std.proofs.Common.{◌++◌, ap, ◌∙◌}
use Rattle.std.specs.Prelude.{codes, decimal}
use Rattle.uicc_replay.proofs.Words.{eight_words}
use Rattle.uicc_replay.proofs.bulk.summary_text.Goals as goal

pub returns : goal.returns
returns c =
    let s = c.args.summary in
    c.from_string.ensures
    ∙ c.in_ok-put.ensures
    ∙ ap (λ x. x ++ codes "\n") (
    c.in_ok-put_numbered-4.ensures
    ∙ ap (λ x. x ++ (codes " refusals " ++ decimal s.refusals)) (
    c.in_ok-put_numbered-3.ensures
    ∙ ap (λ x. x ++ (codes " answers " ++ decimal s.answers)) (
    c.in_ok-put_numbered-2.ensures
    ∙ ap (λ x. x ++ (codes " publications " ++ decimal s.publications)) (
    c.in_ok-put_numbered.ensures
    ∙ ap (λ x. x ++ (codes "events " ++ decimal s.events)) c.new-out.ensures.bytes
    )
    )
    )
    )
    ∙ eight_words (codes "events ") (decimal s.events) (codes " publications ") (decimal s.publications) (codes " answers ") (decimal s.answers) (codes " refusals ") (decimal s.refusals) (codes "\n")
