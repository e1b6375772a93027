-- The counters are at most as many as the lines.
use Rattle.std.proofs.Common.{ℕ, suc, ◌≤◌, Bool, true, false, List, [], ◌∷◌, length, arith}
use Rattle.script_reader.specs.declared.types.Script.{Script}
use Rattle.report.specs.declared.line.Line.{Line}
use Rattle.epoch_cache.specs.Past.{counted}
use Rattle.rules.specs.declared.kept.Kept.{Kept}
use Rattle.rules.specs.History.{is_event, is_call, begins_epoch}
use Rattle.rules.specs.After.{is_publication, is_mark, kept_after, kept_of}
use Rattle.performed.specs.Laws.{AreCounted}

one_more : (b : Bool) (x n : ℕ) → x ≤ n → counted b x ≤ suc n
one_more true x n h = omega (arith, h)
one_more false x n h = omega (arith, h)

behind : (s : Script) (l : Line) (k : Kept) (n : ℕ) → AreCounted n k → AreCounted (suc n) (kept_after s l k)
behind s l k n c = record {
  events = one_more (is_event l) k.history.events n c.events;
  calls = one_more (is_call l) k.history.calls n c.calls;
  epoch = one_more (begins_epoch l) k.history.epoch n c.epoch;
  publications = one_more (is_publication l) k.publications n c.publications;
  marks = one_more (is_mark l) k.marks n c.marks;
}

pub counts : (s : Script) (lines : List Line) → AreCounted (length lines) (kept_of s lines)
counts s [] = record { events = omega arith; calls = omega arith; epoch = omega arith; publications = omega arith; marks = omega arith }
counts s (l ∷ earlier) = behind s l (kept_of s earlier) (length earlier) (counts s earlier)
