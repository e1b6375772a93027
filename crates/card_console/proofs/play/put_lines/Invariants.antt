use Rattle.std.proofs.Common.{◌≡◌, ◌++◌, drop, map}
use Rattle.card_console.specs.Played.{first_bad, played}
use Rattle.card_console.proofs.play.put_lines.Given as goal

abbrev pub invariant-loop-line : goal.invariant-loop-line
invariant-loop-line l = record {
  bad : first_bad 2 (map (λ line. line.now) l.lines) ≡ first_bad l.number (map (λ line. line.now) (drop l.line-index l.lines));
  text : l.fn.out.items ++ played l.fn.slot (map (λ line. line.now) l.lines) ≡ l.out.items ++ played l.slot (map (λ line. line.now) (drop l.line-index l.lines));
}
