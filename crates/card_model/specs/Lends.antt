-- What the files of a card end as, where a `&mut` to one of them is returned.
use Rattle.std.specs.Prelude.{ℕ, List, slice_set}
use Rattle.std.specs.Borrow.{Lends, Fml, MutBor}
use Rattle.card_model.specs.declared.world.FileState.{FileState}
use Rattle.card_model.specs.contracts.lists.CardFiles.{the_row}
use Rattle.card_model.specs.contracts.world.FileState.{the_row as file_row}

-- once the borrow r ends, the index has the last value written through r
abbrev pub lends_file : MutBor (List FileState) → ℕ → MutBor FileState → Fml
lends_file v i r = Lends the_row file_row v r (slice_set v.now i)
