-- A card that has fetched a change, whose files are not written yet.
use Rattle.std.specs.Prelude.{Option, Some, None}
use Rattle.card_model.specs.declared.world.Change.{Change}
use Rattle.card_model.specs.declared.world.CardState.{CardState}
use Rattle.card_model.specs.Toolkit.{with_files}

-- the change's files are the card's
abbrev pub with_fetched : CardState → Option Change → CardState
with_fetched card None = card
with_fetched card (Some change) = record card { files = with_files card.files change.files }
