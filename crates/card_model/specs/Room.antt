-- How many files a card can come to have.
use Rattle.std.specs.Prelude.{ℕ}

-- 64 of its own, and 64 of each of 64 changes
abbrev pub most_files : ℕ
most_files = 4160
