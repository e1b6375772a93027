-- The world with which a run of a script begins.
use Rattle.std.specs.Prelude.{◌&&◌, Bool, false, [], ◌∷◌, map, None}
use Rattle.fcp.specs.Content.{Content, transparent, linear}
use Rattle.card_model.specs.declared.world.FileState.{FileState}
use Rattle.card_model.specs.declared.world.PinState.{PinState}
use Rattle.card_model.specs.declared.world.CardState.{CardState}
use Rattle.card_model.specs.declared.world.Change.{Change}
use Rattle.card_model.specs.declared.world.World.{World}
use Rattle.card_model.specs.Card.{fresh_channel}
use Rattle.script_reader.specs.declared.types.FileSpec.{FileSpec}
use Rattle.script_reader.specs.declared.types.KeySpec.{KeySpec}
use Rattle.script_reader.specs.declared.types.KindSpec.{KindSpec}
use Rattle.script_reader.specs.declared.types.KindSpec.TheVariants.{Transparent, Linear}
use Rattle.script_reader.specs.declared.types.CardSpec.{CardSpec}
use Rattle.script_reader.specs.declared.types.ChangeSpec.{ChangeSpec}
use Rattle.script_reader.specs.declared.types.Script.{Script}
use Rattle.script_reader.specs.Files.{is_file_within, has_shape}

abbrev pub content_of : KindSpec → Content
content_of (Transparent bytes) = transparent bytes
content_of (Linear len rows) = linear len rows

-- a file that keeps its limits and its shape
abbrev pub is_file : FileSpec → Bool
is_file file = is_file_within file && has_shape file

abbrev pub file_of : FileSpec → FileState
file_of file = record { path = file.path; rows = content_of file.kind; active = file.active; arr = file.arr; endless = file.endless; fcp = file.fcp }

-- no key is verified
abbrev pub pin_of : KeySpec → PinState
pin_of key = record { key = key.key; secret = key.pin; tries = key.tries; max = key.max; verified = false }

-- the basic channel alone is open, at the master file, and nothing is armed, awaited or waiting
abbrev pub card_of : CardSpec → CardState
card_of card = record {
  files = map file_of card.files;
  aids = card.aids;
  keys = map pin_of card.keys;
  channels = fresh_channel 0 ∷ [];
  free = card.channels;
  armed = [];
  awaiting = false;
  waiting = None;
  get_response = card.get_response;
}

abbrev pub change_of : ChangeSpec → Change
change_of change = record { qualifier = change.qualifier; kind = change.kind; list = change.list; files = map file_of change.files }

-- no card is in the slot
abbrev pub first_world : Script → World
first_world script = record { cards = map card_of script.cards; inside = None; changes = map change_of script.changes }
