-- What any command does to a card, ETSI TS 102 221 clause 11 and TS 102 223 clause 6: the rows of the card's table as one list of effects.
-- An outcome p is the card behind the command, p.0, and the response, p.1.
use Rattle.std.specs.Prelude.{◌≡◌, ◌≤◌, ℕ, ◌+◌, ◌-◌, ◌==◌, ◌&&◌, ◌||◌, Bool, true, false, List, [], ◌∷◌, ◌++◌, length, take, drop, nat_lt, find, slice_get, slice_set, Option, Some, None}
use Rattle.std.specs.List.{remove}
use Rattle.apdu.specs.Values.{CommandValue, ResponseValue}
use Rattle.apdu.specs.Words.{is_one_of, path_of, written_at}
use Rattle.apdu.specs.Apdu.{is_success, has_more, wants_other_le, channel_of, select_ins, get_response_ins, read_binary_ins, update_binary_ins, read_record_ins, update_record_ins, manage_channel_ins, fetch_ins}
use Rattle.apdu.specs.declared.class.ClassKind.{ClassKind}
use Rattle.apdu.specs.declared.class.ClassKind.TheVariants.{Plain}
use Rattle.fcp.specs.Content.{first_row, is_linear, is_transparent}
use Rattle.card_model.specs.declared.world.FileState.{FileState}
use Rattle.card_model.specs.declared.world.ChannelState.{ChannelState}
use Rattle.card_model.specs.declared.world.Change.{Change}
use Rattle.card_model.specs.declared.world.CardState.{CardState}
use Rattle.card_model.specs.Waiting.{WaitingValue}
use Rattle.card_model.specs.Card.{application_named, application_id, record_at, has_number, channel_place, fresh_channel, current_file, current_place, current_parameters, is_selectable, first_armed, change_command}
use Rattle.card_model.specs.Answers.{answer, parameters, wanted_le}
use Rattle.card_model.specs.Select.{ids_of, is_select_length}
use Rattle.card_model.specs.Channels.{is_open}
use Rattle.card_model.specs.Update.{with_record}
use Rattle.card_model.specs.Toolkit.{with_files}

-- ---- words

-- a status with which a command acted: a success, or 61XX
abbrev pub acted : ℕ → Bool
acted sw = is_success sw || has_more sw

-- the instructions that read or change what a later command may see
abbrev pub acts : ℕ → Bool
acts ins = is_one_of ins (select_ins ∷ read_record_ins ∷ read_binary_ins ∷ get_response_ins ∷ update_binary_ins ∷ update_record_ins ∷ manage_channel_ins ∷ fetch_ins ∷ [])

-- those of which a wrong Le is told of by an effect of their own
abbrev pub asks_le : ℕ → Bool
asks_le ins = is_one_of ins (read_binary_ins ∷ get_response_ins ∷ [])

-- those of which 6A82 is told of by an effect of their own
abbrev pub asks_target : ℕ → Bool
asks_target ins = is_one_of ins (select_ins ∷ get_response_ins ∷ [])

-- a SELECT on the basic channel
abbrev pub selects_on_basic : CommandValue → Bool
selects_on_basic c = (c.class == 0) && (c.ins == select_ins)

-- a SELECT whose P1, P2 and length are in order
abbrev pub is_select_form : CommandValue → Bool
is_select_form c = is_one_of c.p1 (0x00 ∷ 0x04 ∷ 0x08 ∷ []) && is_one_of c.p2 (0x04 ∷ 0x0C ∷ []) && is_select_length c

-- the basic channel of a card
abbrev pub basic : CardState → Option ChannelState
basic card = find (has_number 0) card.channels

-- the command's class has this channel, which is open
pub record IsOn (card : CardState) (c : CommandValue) (kind : ClassKind) (number place : ℕ) (channel : ChannelState) : Type 0 where
  pub class : channel_of c.class ≡ Some (kind, number)
  pub at : channel_place number card ≡ Some place
  pub found : slice_get card.channels place ≡ Some channel

-- ---- nothing done

-- the card's files, channels and applications stay, and nothing is left for GET RESPONSE
pub record Keeps (card : CardState) (p : CardState × ResponseValue) : Type 0 where
  pub files : p.0.files ≡ card.files
  pub channels : p.0.channels ≡ card.channels
  pub aids : p.0.aids ≡ card.aids
  pub more : has_more p.1.sw ≡ false

-- no command that acts was done; neither the Le of a READ BINARY or GET RESPONSE nor the target of a SELECT was wrong; and
-- a SELECT on the basic channel is no such command while that channel is open
pub record IsQuiet (card : CardState) (c : CommandValue) (sw : ℕ) : Type 0 where
  pub acts : (acts c.ins && acted sw) ≡ false
  pub le : (asks_le c.ins && wants_other_le sw) ≡ false
  pub select : (asks_target c.ins && (sw == 0x6A82)) ≡ false
  pub basic : selects_on_basic c ≡ true → basic card ≡ None

-- ---- SELECT

-- a SELECT that was refused, with 6A82 where its form is in order: then what it names is not there
pub record RefusesSelect (card : CardState) (channel : ChannelState) (c : CommandValue) (p : CardState × ResponseValue) : Type 0 where
  pub keeps : Keeps card p
  pub status : acted p.1.sw ≡ false
  pub word : (p.1.sw == 0x6A82) ≡ is_select_form c
  -- by path
  pub missing : (p.1.sw == 0x6A82) ≡ true → (c.p1 == 0x08) ≡ true → is_selectable card channel (ids_of c.body) ≡ false
  pub len : (p.1.sw == 0x6A82) ≡ true → (c.p1 == 0x08) ≡ true → is_one_of (length c.body) (2 ∷ 4 ∷ 6 ∷ []) ≡ true
  -- by AID
  pub by_aid : (p.1.sw == 0x6A82) ≡ true → (c.p1 == 0x04) ≡ true → application_named c.body card ≡ None

-- a channel with another application and another file or directory
abbrev pub selecting : ChannelState → Option ℕ → Option (List ℕ) → ChannelState
selecting channel app current = record channel { app = app; current = current }

-- what a SELECT by path finds
pub record IsPathFound (card : CardState) (channel : ChannelState) (c : CommandValue) (app : Option ℕ) (current : Option (List ℕ)) : Type 0 where
  pub current_is : current ≡ path_of (ids_of c.body)
  pub app_is : app ≡ channel.app
  pub selectable : is_selectable card channel (ids_of c.body) ≡ true
  pub len : is_one_of (length c.body) (2 ∷ 4 ∷ 6 ∷ []) ≡ true

-- what a SELECT by AID finds: the application, and its directory
pub record IsAidFound (card : CardState) (c : CommandValue) (app : Option ℕ) (current : Option (List ℕ)) : Type 0 where
  pub app_is : app ≡ application_named c.body card
  pub there : (i : ℕ) × (app ≡ Some i)
  pub current_is : current ≡ Some (application_id ∷ [])

-- a SELECT that was done: the channel has another file or directory current, and its control parameters are given, or wait, or are not
-- asked for
pub record Selects (card : CardState) (place : ℕ) (channel : ChannelState) (c : CommandValue) (p : CardState × ResponseValue) : Type 0 where
  pub app : Option ℕ
  pub current : Option (List ℕ)
  pub files : p.0.files ≡ card.files
  pub aids : p.0.aids ≡ card.aids
  pub channels : p.0.channels ≡ slice_set card.channels place (selecting channel app current)
  pub by_path : (c.p1 == 0x08) ≡ true → IsPathFound card channel c app current
  pub by_aid : (c.p1 == 0x04) ≡ true → IsAidFound card c app current
  -- by a child of the current directory
  pub by_child : (c.p1 == 0x00) ≡ true → app ≡ channel.app
  pub status : acted p.1.sw ≡ true
  pub more : has_more p.1.sw ≡ true → (c.p2 ≡ 0x04) × (p.0.waiting ≡ Some (record { channel = channel.number; bytes = current_parameters card (selecting channel app current) }))
  pub answered : is_success p.1.sw ≡ true → (c.p2 == 0x04) ≡ true → p.1.body ≡ current_parameters card (selecting channel app current)

-- ---- READ RECORD, READ BINARY and GET RESPONSE

-- a READ RECORD that was done gave the record
pub record RecordGiven (card : CardState) (channel : ChannelState) (c : CommandValue) (body : List ℕ) : Type 0 where
  pub file : FileState
  pub at : current_file card channel ≡ Some file
  pub linear : is_linear file.rows.kind ≡ true
  pub row : record_at c.p1 file ≡ Some body

pub record ReadsRecord (card : CardState) (channel : ChannelState) (c : CommandValue) (p : CardState × ResponseValue) : Type 0 where
  pub keeps : Keeps card p
  pub given : is_success p.1.sw ≡ true → RecordGiven card channel c p.1.body

-- a READ BINARY that was done gave Le bytes from the offset on
pub record BinaryGiven (card : CardState) (channel : ChannelState) (c : CommandValue) (body : List ℕ) : Type 0 where
  pub file : FileState
  pub at : current_file card channel ≡ Some file
  pub transparent : is_transparent file.rows.kind ≡ true
  pub endless : file.endless ≡ false
  pub le : ℕ
  pub wanted : wanted_le c ≡ Some le
  pub fits : nat_lt (length (first_row file.rows.rows) - parameters c) le ≡ false
  pub bytes : body ≡ take le (drop (parameters c) (first_row file.rows.rows))

-- the file asks for another length at each READ, or the command for more than the rest
abbrev pub IsMisfit : CardState → ChannelState → CommandValue → Type 0
IsMisfit card channel c = (file : FileState) → current_file card channel ≡ Some file → (le : ℕ) → wanted_le c ≡ Some le → (file.endless || nat_lt (length (first_row file.rows.rows) - parameters c) le) ≡ true

pub record ReadsBinary (card : CardState) (channel : ChannelState) (c : CommandValue) (p : CardState × ResponseValue) : Type 0 where
  pub keeps : Keeps card p
  pub given : is_success p.1.sw ≡ true → BinaryGiven card channel c p.1.body
  pub other : wants_other_le p.1.sw ≡ true → IsMisfit card channel c

-- what waits on the channel is given, or still waits
pub record Gets (card : CardState) (channel : ChannelState) (p : CardState × ResponseValue) : Type 0 where
  pub keeps : Keeps card p
  pub given : (w : WaitingValue) → card.waiting ≡ Some w → (w.channel == channel.number) ≡ true → is_success p.1.sw ≡ true → p.1.body ≡ w.bytes
  pub waits : (w : WaitingValue) → card.waiting ≡ Some w → (w.channel == channel.number) ≡ true → is_success p.1.sw ≡ false → p.0.waiting ≡ card.waiting
  pub found : (p.1.sw == 0x6A82) ≡ false

-- ---- UPDATE RECORD and UPDATE BINARY

-- the channel's current file has another row
pub record Updates (card : CardState) (channel : ChannelState) (p : CardState × ResponseValue) : Type 0 where
  pub place : ℕ
  pub file : FileState
  pub index : ℕ
  pub row : List ℕ
  pub at : current_place card channel ≡ Some place
  pub found : slice_get card.files place ≡ Some file
  pub files : p.0.files ≡ slice_set card.files place (with_record file index row)
  pub channels : p.0.channels ≡ card.channels
  pub aids : p.0.aids ≡ card.aids
  pub status : is_success p.1.sw ≡ true

-- P1 numbers a record, which is there, and the body is as wide
pub record RecordFits (file : FileState) (c : CommandValue) : Type 0 where
  pub linear : is_linear file.rows.kind ≡ true
  pub mode : c.p2 ≡ 0x04
  pub numbered : nat_lt 0 c.p1 ≡ true
  pub row : nat_lt (length file.rows.rows) c.p1 ≡ false
  pub width : length c.body ≡ file.rows.width

-- an UPDATE RECORD that was done
pub record UpdatesRecord (card : CardState) (channel : ChannelState) (c : CommandValue) (p : CardState × ResponseValue) : Type 0 where
  pub updates : Updates card channel p
  pub index : updates.index ≡ c.p1 - 1
  pub row : updates.row ≡ c.body
  pub fits : RecordFits updates.file c

-- the body ends within the file
pub record BinaryFits (file : FileState) (c : CommandValue) : Type 0 where
  pub transparent : is_transparent file.rows.kind ≡ true
  pub from : parameters c + length c.body ≤ length (first_row file.rows.rows)

-- an UPDATE BINARY that was done
pub record UpdatesBinary (card : CardState) (channel : ChannelState) (c : CommandValue) (p : CardState × ResponseValue) : Type 0 where
  pub updates : Updates card channel p
  pub index : updates.index ≡ 0
  pub row : updates.row ≡ written_at (parameters c) c.body (first_row updates.file.rows.rows)
  pub fits : BinaryFits updates.file c

-- ---- MANAGE CHANNEL

-- a channel more, with a number that was not open
pub record Opens (card : CardState) (c : CommandValue) (p : CardState × ResponseValue) : Type 0 where
  pub number : ℕ
  pub free : is_open number card ≡ false
  pub beside : 1 ≤ number
  pub files : p.0.files ≡ card.files
  pub channels : p.0.channels ≡ card.channels ++ fresh_channel number ∷ []
  pub aids : p.0.aids ≡ card.aids
  pub body : p.1.body ≡ number ∷ []
  pub status : is_success p.1.sw ≡ true
  pub opening : c.p1 ≡ 0x00

-- the channel that P2 names is open no more; it is not the basic one
pub record Closes (card : CardState) (c : CommandValue) (p : CardState × ResponseValue) : Type 0 where
  pub place : ℕ
  pub at : channel_place c.p2 card ≡ Some place
  pub beside : (c.p2 == 0) ≡ false
  pub files : p.0.files ≡ card.files
  pub channels : p.0.channels ≡ remove card.channels place
  pub aids : p.0.aids ≡ card.aids
  pub status : is_success p.1.sw ≡ true
  pub closing : c.p1 ≡ 0x80

-- ---- FETCH

-- the first armed change was handed over, and its files are the card's
pub record Fetches (changes : List Change) (card : CardState) (p : CardState × ResponseValue) : Type 0 where
  pub change : Change
  pub armed : first_armed changes card ≡ Some change
  pub files : p.0.files ≡ with_files card.files change.files
  pub channels : p.0.channels ≡ card.channels
  pub aids : p.0.aids ≡ card.aids
  pub response : p.1 ≡ answer (change_command change) 0x9000

-- ---- the effects

pub data Effect (changes : List Change) (card : CardState) (c : CommandValue) (p : CardState × ResponseValue) : Type 0 where
  -- another instruction, or a refusal: files, channels and applications stay
  quiet : Keeps card p → IsQuiet card c p.1.sw → Effect changes card c p
  -- a SELECT refused by its row: the same, and 6A82 tells that what it names is not there
  refuses_select : (number place : ℕ) (channel : ChannelState) → IsOn card c Plain number place channel → c.ins ≡ select_ins → RefusesSelect card channel c p → Effect changes card c p
  -- READ RECORD: the same, and on success the body is the record of the channel's current file
  reads_record : (number place : ℕ) (channel : ChannelState) → IsOn card c Plain number place channel → c.ins ≡ read_record_ins → ReadsRecord card channel c p → Effect changes card c p
  -- READ BINARY: the same, and on success the body is Le bytes of the channel's current file from the offset on
  reads_binary : (number place : ℕ) (channel : ChannelState) → IsOn card c Plain number place channel → c.ins ≡ read_binary_ins → ReadsBinary card channel c p → Effect changes card c p
  -- GET RESPONSE: the same, and on success the body is what waited on the channel, which waits on otherwise
  gets : (number place : ℕ) (channel : ChannelState) → IsOn card c Plain number place channel → c.ins ≡ get_response_ins → Gets card channel p → Effect changes card c p
  -- a SELECT that was done: the channel alone has another application, file or directory
  selects : (number place : ℕ) (channel : ChannelState) → IsOn card c Plain number place channel → c.ins ≡ select_ins → Selects card place channel c p → Effect changes card c p
  -- an UPDATE RECORD that was done: one record of the channel's current file is the body
  updates_record : (number place : ℕ) (channel : ChannelState) → IsOn card c Plain number place channel → c.ins ≡ update_record_ins → UpdatesRecord card channel c p → Effect changes card c p
  -- an UPDATE BINARY that was done: the body is written over the channel's current file from the offset on
  updates_binary : (number place : ℕ) (channel : ChannelState) → IsOn card c Plain number place channel → c.ins ≡ update_binary_ins → UpdatesBinary card channel c p → Effect changes card c p
  -- MANAGE CHANNEL P1 00: one channel more, the last, whose number is the body
  opens : c.ins ≡ manage_channel_ins → Opens card c p → Effect changes card c p
  -- MANAGE CHANNEL P1 80: one channel less
  closes : c.ins ≡ manage_channel_ins → Closes card c p → Effect changes card c p
  -- FETCH: the first armed change is handed over, and its files are put on the card
  hands_over : c.ins ≡ fetch_ins → Fetches changes card p → Effect changes card c p
