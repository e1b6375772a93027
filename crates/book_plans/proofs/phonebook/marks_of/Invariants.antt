use Rattle.std.proofs.Common.{◌≡◌, ◌<◌, ℕ, true, take, get_or, length}
use Rattle.book_plans.specs.Phonebook.{is_among}
use Rattle.book_plans.proofs.phonebook.marks_of.Given as goal

-- the marks tell the names so far
abbrev pub invariant-loop-name : goal.invariant-loop-name
invariant-loop-name l = record {
  room : length l.named ≡ 256;
  marks : (n : ℕ) → n < 256 → get_or l.named n true ≡ is_among (take l.name-index l.names) n;
}
