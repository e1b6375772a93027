use Rattle.std.proofs.Common.{◌≡◌, ◌++◌, ◌∷◌, [], ◌∙◌, sym, ap, rules}
use Rattle.adn.specs.Changed.{with_renewed}
use Rattle.adn.proofs.Changed.{last_put}
use Rattle.adn.proofs.update.put_all.Goals as goal

pub loop-last-preserved : goal.loop-last-preserved
loop-last-preserved c =
    let all : c.pop.new.self.items ++ c.in-Some.last ∷ [] ≡ c.loop-last.rest.items = search rules in
    ap (λ b. with_renewed b c.pop.new.self.items) c.put.ensures
    ∙ sym (last_put c.loop-last.book c.pop.new.self.items c.in-Some.last)
    ∙ ap (with_renewed c.loop-last.book) all
    ∙ c.loop-last.invariant
