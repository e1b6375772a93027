-- A history as contracts see it, and how its events lie in a store of bytes.
use Rattle.std.specs.Prelude.{◌≡◌, ◌≤◌, ℕ, ◌+◌, List, [], ◌∷◌, length, take, drop, reverse, None, Ok, Err}
use Rattle.std.specs.Result.{result_unwrap_or}
use Rattle.apdu.specs.Values.{CommandValue, ResponseValue}
use Rattle.apdu.specs.Apdu.{command, read_command, read_response}
use Rattle.apdu.specs.Reserved.{Room}
use Rattle.epoch_cache.specs.declared.event.Event.{Event}
use Rattle.epoch_cache.specs.declared.event.Event.TheVariants as event
use Rattle.epoch_cache.specs.declared.past.Past.{Past}
use Rattle.epoch_cache.specs.declared.store.Entry.{Entry}
use Rattle.epoch_cache.specs.declared.store.Entry.TheVariants as entry
use Rattle.epoch_cache.specs.Past.{past_of}

-- the events, newest first, and how many events and bytes more there is room for
pub record HistoryValue : Type 0 where
  pub events : List Event
  pub spare_events : ℕ
  pub spare_bytes : ℕ

-- ---- the store: an entry for each event, oldest first, and the bytes of the events one behind another

abbrev pub entry_length : Entry → ℕ
entry_length (entry.Answered actor command_length response_length) = command_length + response_length
entry_length (entry.Failed actor command_length) = command_length
entry_length (entry.Reset actor ok) = 0
entry_length (entry.World actor e) = 0

abbrev pub stored_command : List ℕ → CommandValue
stored_command bytes = result_unwrap_or (read_command bytes) (command 0 0 0 [] None)

abbrev pub stored_response : List ℕ → ResponseValue
stored_response bytes = result_unwrap_or (read_response bytes) (record { body = []; sw = 0 })

-- the event of an entry and its bytes
abbrev pub stored_event : Entry → List ℕ → Event
stored_event (entry.Answered actor command_length response_length) bytes =
    event.Exchange actor (record { command = stored_command (take command_length bytes); outcome = Ok (stored_response (drop command_length bytes)) })
stored_event (entry.Failed actor command_length) bytes = event.Exchange actor (record { command = stored_command bytes; outcome = Err (record {}) })
stored_event (entry.Reset actor ok) bytes = event.Reset actor ok
stored_event (entry.World actor e) bytes = event.World actor e

abbrev pub stored_events : List Entry → List ℕ → List Event
stored_events [] bytes = []
stored_events (e ∷ entries) bytes = stored_event e (take (entry_length e) bytes) ∷ stored_events entries (drop (entry_length e) bytes)

abbrev pub stored_length : List Entry → ℕ
stored_length [] = 0
stored_length (e ∷ entries) = entry_length e + stored_length entries

abbrev pub history_events : List Entry → List ℕ → List Event
history_events entries bytes = reverse (stored_events entries bytes)

-- the bytes are those of the entries, what is kept is that of the events, and the lists have the room that is told
pub record IsHistory (entries : Room Entry) (bytes : Room ℕ) (past : Past) (spare_events spare_bytes : ℕ) : Type 0 where
  pub whole : length bytes.items ≡ stored_length entries.items
  pub kept : past ≡ past_of (history_events entries.items bytes.items)
  pub room_for_events : spare_events ≤ entries.spare
  pub room_for_bytes : spare_bytes ≤ bytes.spare
