-- What holds of every refusal, every success and every try of a PIN holds of every command: the rows one by one.
use Rattle.std.proofs.Common.{◌≡◌, ℕ, ◌+◌, ◌-◌, ◌/◌, ◌%◌, ◌==◌, ◌||◌, ◌&&◌, not, Bool, true, false, nat_lt, nat_le, if◌then◌else◌, List, [], ◌∷◌, length, get_or, zero, suc, ◌<◌, Option, Some, None, is_some, refl, sym, ap, ◌∙◌, arith, true≢false}
use Rattle.std.specs.Prelude.{slice_get, slice_set}
use Rattle.std.proofs.Math.Seq.{map-set_same}
use Rattle.std.proofs.lemmas.List.{length-set}
use Rattle.std.proofs.lemmas.List.Quantifiers.{position-Some}
use Rattle.std.proofs.lemmas.Option.{get_or_from_slice_get}
use Rattle.std.proofs.lemmas.Bool.{eqb-true, ne_eqb}
use Rattle.apdu.specs.Values.{CommandValue, ResponseValue}
use Rattle.apdu.specs.Words.{is_empty, is_one_of, same_bytes, or_else, written_at}
use Rattle.apdu.specs.Apdu.{is_success, is_announcement, has_more, refusal, channel_of}
use Rattle.apdu.specs.declared.class.ClassKind.{ClassKind}
use Rattle.fcp.specs.declared.rule.Need.{Need}
use Rattle.fcp.specs.Content.{first_row}
use Rattle.card_model.specs.Waiting.{WaitingValue}
use Rattle.card_model.specs.declared.world.FileState.{FileState}
use Rattle.card_model.specs.declared.world.PinState.{PinState}
use Rattle.card_model.specs.declared.world.ChannelState.{ChannelState}
use Rattle.card_model.specs.declared.world.Change.{Change}
use Rattle.card_model.specs.declared.world.CardState.{CardState}
use Rattle.card_model.specs.declared.instruction.Instruction.{Instruction}
use Rattle.card_model.specs.declared.instruction.Part.{Part}
use Rattle.card_model.specs.declared.instruction.Part.TheVariants.{Binary, Record}
use Rattle.card_model.specs.declared.instruction.Instruction.TheVariants.{Select, GetResponse, Status, ReadBinary, UpdateBinary, ReadRecord, UpdateRecord, Verify, ManageChannel, TerminalProfile, Fetch, TerminalResponse}
use Rattle.card_model.specs.Instructions.{instruction_of, kind_of, is_get_response}
use Rattle.card_model.specs.Card.{application_id, application_named, channel_place, current_file, current_place, current_parameters, is_selectable, rule_of, has_key, key_place, change_command, first_armed, record_at}
use Rattle.card_model.specs.Answers.{refuses, unless_refused, length_byte, answer, answers, succeeds, body_len, parameters, wanted_le, le_of, with_waiting}
use Rattle.card_model.specs.Parts.{part_refusal, access_refusal}
use Rattle.card_model.specs.Select.{select_row, select_ids, select_found, selection_answer, parameters_answer, selected_ids, is_select_length, with_channel}
use Rattle.card_model.specs.GetResponse.{get_response_row, get_waiting, fetch_waiting, waits_on, without_waiting, has_waiting_on}
use Rattle.card_model.specs.Read.{read_bytes, read_record, read_part, read_refusal, read_found, read_binary_row, read_record_row}
use Rattle.card_model.specs.Update.{fit_refusal, update_refusal, with_record, with_part, with_file_at, update_found, update_at, update_binary_row, update_record_row}
use Rattle.card_model.specs.Verify.{verify_row, verify_at, verify_found, right_key, wrong_key, with_key, tries_word}
use Rattle.card_model.specs.Channels.{manage_channel_row, open_with_le, open_number, free_number, close_channel, close_place}
use Rattle.card_model.specs.Toolkit.{status_row, terminal_profile_row, with_change, fetch_row, fetch_first, fetch_armed, terminal_response_row}
use Rattle.card_model.specs.Step.{on_card, on_class, on_place, on_channel, on_kind, on_row, same_kind}
use Rattle.card_rows.specs.Shapes.{shape_of, shapes}
use Rattle.card_rows.specs.Laws.{IsRight, IsWrong}

-- ---- status words

pub low_fails : (word : ℕ) → word < 0x9000 → is_success word ≡ false
low_fails word low =
    let no_success : (word == 0x9000) ≡ false = ne_eqb word 0x9000 (λ same. omega (arith, low, same)) in
    let no_announcement : (word / 256 == 0x91) ≡ false = ne_eqb (word / 256) 0x91 (λ same. omega (arith, low, same)) in
    rw (no_success, no_announcement) refl

pub asks_more : (n : ℕ) → has_more (0x6100 + n % 256) ≡ true
asks_more n = let e : (0x6100 + n % 256) / 256 ≡ 0x61 = omega arith in rw e refl

pub announces : (n : ℕ) → is_announcement (0x9100 + n % 256) ≡ true
announces n = let e : (0x9100 + n % 256) / 256 ≡ 0x91 = omega arith in rw e refl

other_le : (n : ℕ) → is_success (0x6C00 + n % 256) ≡ false
other_le n = low_fails (0x6C00 + n % 256) (omega arith)

-- the word of a refusal, where there is one, is no success
Fails : Option ℕ → Type 0
Fails None = Unit
Fails (Some word) = is_success word ≡ false

no_word : Fails None
unfolding Fails
no_word = tt

unless : (b : Bool) (word : ℕ) (rest : Option ℕ) → is_success word ≡ false → Fails rest → Fails (if b then Some word else rest)
unfolding Fails
unless true word rest fails others = fails
unless false word rest fails others = others

both : (first second : Option ℕ) → Fails first → Fails second → Fails (or_else first second)
unfolding Fails
both None second fails others = others
both (Some word) second fails others = fails

part_refusal-fails : (part : Part) (file : FileState) (c : CommandValue) → Fails (part_refusal part file c)
part_refusal-fails part file c = unless _ 0x6981 _ refl (unless _ 0x6A86 _ refl no_word)

access_refusal-fails : (card : CardState) (file : FileState) (need : Need) → Fails (access_refusal card file need)
access_refusal-fails card file need = unless _ 0x6985 _ refl (unless _ 0x6982 _ refl no_word)

read_refusal-fails : (card : CardState) (part : Part) (file : FileState) (c : CommandValue) → Fails (read_refusal card part file c)
read_refusal-fails card part file c =
    both _ _ (part_refusal-fails part file c) (both _ _ (unless _ 0x6700 _ refl no_word) (access_refusal-fails card file (rule_of card file).read))

fit_refusal-fails : (part : Part) (file : FileState) (c : CommandValue) → Fails (fit_refusal part file c)
fit_refusal-fails Binary file c = unless _ 0x6B00 _ refl (unless _ 0x6700 _ refl no_word)
fit_refusal-fails Record file c = unless _ 0x6A83 _ refl (unless _ 0x6700 _ refl no_word)

update_refusal-fails : (card : CardState) (part : Part) (file : FileState) (c : CommandValue) → Fails (update_refusal card part file c)
update_refusal-fails card part file c =
    both _ _ (part_refusal-fails part file c) (both _ _ (unless _ 0x6700 _ refl no_word)
    (both _ _ (access_refusal-fails card file (rule_of card file).update) (fit_refusal-fails part file c)))

-- ---- the shape of a file

-- another record of the same file leaves the shape of each
record-keeps_shapes : (files : List FileState) (place : ℕ) (file : FileState) (i : ℕ) (bytes : List ℕ) → slice_get files place ≡ Some file → shapes (slice_set files place (with_record file i bytes)) ≡ shapes files
record-keeps_shapes files place file i bytes here = map-set_same shape_of files place (with_record file i bytes) file
    (ap (λ (count : ℕ). record (shape_of file) { count = count }) (length-set file.rows.rows i bytes) ∙ ap shape_of (sym (get_or_from_slice_get files place file file here)))

part-keeps_shapes : (files : List FileState) (place : ℕ) (part : Part) (file : FileState) (c : CommandValue) → slice_get files place ≡ Some file → shapes (slice_set files place (with_part part file c)) ≡ shapes files
part-keeps_shapes files place Binary file c here = record-keeps_shapes files place file 0 (written_at (parameters c) c.body (first_row file.rows.rows)) here
part-keeps_shapes files place Record file c here = record-keeps_shapes files place file (c.p1 - 1) c.body here

-- ---- the key that a VERIFY names

named : (number : ℕ) (card : CardState) (place : ℕ) (key : PinState) → key_place number card ≡ Some place → slice_get card.keys place ≡ Some key → key.key ≡ number
named number card place key at here =
    let found : has_key number (get_or card.keys place key) ≡ true = (position-Some (has_key number) card.keys place key at).1 in
    eqb-true key.key number (ap (has_key number) (sym (get_or_from_slice_get card.keys place key key here)) ∙ found)

some_left : (n : ℕ) → (n == 0) ≡ false → 0 < n
some_left zero h = absurd (true≢false h)
some_left (suc n) h = omega arith

-- ---- the rows

module _ (changes : List Change) (c : CommandValue) (P : CardState → CardState × ResponseValue → Type 0)
    (refused : (card : CardState) (word : ℕ) → is_success word ≡ false → P card (refuses card word))
    (succeeded : (card new : CardState) (body : List ℕ) → new.keys ≡ card.keys → shapes new.files ≡ shapes card.files → P card (answers changes new body))
    (waits : (card new : CardState) (bytes : List ℕ) → new.keys ≡ card.keys → shapes new.files ≡ shapes card.files → P card (new, refusal (0x6100 + length_byte (length bytes))))
    (fetched : (card : CardState) (change : Change) → instruction_of c.ins ≡ Some Fetch → P card (with_change card change, answer (change_command change) 0x9000))
    (right : (card : CardState) (place : ℕ) (key : PinState) → slice_get card.keys place ≡ Some key → IsRight c key → P card (succeeds changes (with_key card place (right_key key))))
    (wrong : (card : CardState) (place : ℕ) (key : PinState) → slice_get card.keys place ≡ Some key → IsWrong c key → P card (with_key card place (wrong_key key), refusal (tries_word (key.tries - 1))))
    (dropped : (card : CardState) (b : Bool) (outcome : CardState × ResponseValue) → P (if b then card else with_waiting card None) outcome → P card outcome)
  where
    -- ---- checks

    either : (card : CardState) (b : Bool) (x y : CardState × ResponseValue) → P card x → P card y → P card (if b then x else y)
    either card true x y px py = px
    either card false x y px py = py

    either_known : (card : CardState) (b : Bool) (x y : CardState × ResponseValue) → (b ≡ true → P card x) → (b ≡ false → P card y) → P card (if b then x else y)
    either_known card true x y px py = px refl
    either_known card false x y px py = py refl

    -- a check of a row: the word refuses, or the row goes on
    check : (card : CardState) (b : Bool) (word : ℕ) → is_success word ≡ false → (y : CardState × ResponseValue) → P card y → P card (if b then refuses card word else y)
    check card b word fails y py = either card b _ y (refused card word fails) py

    checks : (card : CardState) (word : Option ℕ) → Fails word → (y : CardState × ResponseValue) → P card y → P card (unless_refused card word y)
    unfolding Fails
    checks card (Some word) fails y py = refused card word fails
    checks card None fails y py = py

    -- ---- SELECT

    parameters-keep : (old card : CardState) (number : ℕ) (bytes : List ℕ) → card.keys ≡ old.keys → shapes card.files ≡ shapes old.files → P old (parameters_answer changes card number bytes)
    parameters-keep old card number bytes same alike = either old card.get_response _ _
        (waits old (with_waiting card _) bytes same alike)
        (succeeded old card bytes same alike)

    selection-keeps : (card : CardState) (place : ℕ) (channel : ChannelState) → P card (selection_answer changes card place channel c)
    selection-keeps card place channel = either card (c.p2 == 0x0C) _ _
        (succeeded card (with_channel card place channel) [] refl refl)
        (parameters-keep card (with_channel card place channel) channel.number (current_parameters card channel) refl refl)

    found-keeps : (card : CardState) (place : ℕ) (channel : ChannelState) (app : Option ℕ) → P card (select_found changes card place channel c app)
    found-keeps card place channel None = refused card 0x6A82 refl
    found-keeps card place channel (Some app) = selection-keeps card place (record channel { app = Some app; current = Some (application_id ∷ []) })

    ids-keep : (card : CardState) (place : ℕ) (channel : ChannelState) (ids : List ℕ) → P card (select_ids changes card place channel c ids)
    ids-keep card place channel ids = either card (is_selectable card channel ids) _ _ (selection-keeps card place _) (refused card 0x6A82 refl)

    select-keeps : (card : CardState) (place : ℕ) (channel : ChannelState) → P card (select_row changes card place channel c)
    unfolding select_row
    select-keeps card place channel =
        check card (not (is_one_of c.p1 (0x00 ∷ 0x04 ∷ 0x08 ∷ [])) || not (is_one_of c.p2 (0x04 ∷ 0x0C ∷ []))) 0x6A86 refl _
        (check card (not (is_select_length c)) 0x6700 refl _
        (either card (c.p1 == 0x04) _ _ (found-keeps card place channel (application_named c.body card)) (ids-keep card place channel (selected_ids card channel c))))

    -- ---- GET RESPONSE

    fetched-keeps : (card : CardState) (bytes : List ℕ) (le : Option ℕ) → P card (fetch_waiting changes card bytes le)
    fetched-keeps card bytes None = refused card 0x6700 refl
    fetched-keeps card bytes (Some le) = check card (not (le == length bytes)) _ (other_le (length bytes)) _ (succeeded card (with_waiting card None) bytes refl refl)

    waiting-keeps : (card : CardState) (channel : ChannelState) (waiting : Option WaitingValue) → P card (get_waiting changes card channel c waiting)
    waiting-keeps card channel None = refused card 0x6985 refl
    waiting-keeps card channel (Some waiting) = check card (not (waits_on channel waiting)) 0x6985 refl _ (fetched-keeps card waiting.bytes (wanted_le c))

    get_response-keeps : (card : CardState) (channel : ChannelState) → P card (get_response_row changes card channel c)
    unfolding get_response_row
    get_response-keeps card channel = check card (not (parameters c == 0)) 0x6A86 refl _ (waiting-keeps card channel card.waiting)

    -- ---- STATUS, TERMINAL PROFILE, FETCH, TERMINAL RESPONSE

    status-keeps : (card : CardState) → P card (status_row changes card c)
    unfolding status_row
    status-keeps card = check card (not (c.p1 == 0x00) || not (c.p2 == 0x0C)) 0x6A86 refl _ (check card (not (is_empty c.body)) 0x6700 refl _ (succeeded card card [] refl refl))

    profile-keeps : (card : CardState) → P card (terminal_profile_row changes card c)
    unfolding terminal_profile_row
    profile-keeps card = check card (not (parameters c == 0)) 0x6A86 refl _ (check card (is_empty c.body) 0x6700 refl _ (succeeded card card [] refl refl))

    armed-keeps : (card : CardState) (le : ℕ) (change : Option Change) → instruction_of c.ins ≡ Some Fetch → P card (fetch_armed card le change)
    armed-keeps card le None is = refused card 0x6985 refl
    armed-keeps card le (Some change) is = check card card.awaiting 0x6985 refl _ (check card (not (le == length (change_command change))) _ (other_le (length (change_command change))) _ (fetched card change is))

    first-keeps : (card : CardState) (le : Option ℕ) → instruction_of c.ins ≡ Some Fetch → P card (fetch_first changes card le)
    first-keeps card None is = refused card 0x6700 refl
    first-keeps card (Some le) is = armed-keeps card le (first_armed changes card) is

    fetch-keeps : (card : CardState) → instruction_of c.ins ≡ Some Fetch → P card (fetch_row changes card c)
    unfolding fetch_row
    fetch-keeps card is = check card (not (parameters c == 0)) 0x6A86 refl _ (first-keeps card (wanted_le c) is)

    response-keeps : (card : CardState) → P card (terminal_response_row changes card c)
    unfolding terminal_response_row
    response-keeps card = check card (not (parameters c == 0)) 0x6A86 refl _ (check card (not card.awaiting) 0x6985 refl _ (check card (is_empty c.body) 0x6700 refl _ (succeeded card (record card { awaiting = false }) [] refl refl)))

    -- ---- READ BINARY and READ RECORD

    bytes-keep : (card : CardState) (file : FileState) (at le : ℕ) → P card (read_bytes changes card file at le)
    bytes-keep card file at le =
        check card (nat_le (length (first_row file.rows.rows)) at) 0x6B00 refl _
        (check card file.endless 0x6C01 refl _
        (check card (nat_lt (length (first_row file.rows.rows) - at) le) _ (other_le (length (first_row file.rows.rows) - at)) _ (succeeded card card _ refl refl)))

    record-keeps : (card : CardState) (file : FileState) (le : ℕ) (found : Option (List ℕ)) → P card (read_record changes card file le found)
    record-keeps card file le None = refused card 0x6A83 refl
    record-keeps card file le (Some bytes) = check card (file.endless || not (le == file.rows.width)) _ (other_le file.rows.width) _ (succeeded card card bytes refl refl)

    part-keeps : (card : CardState) (part : Part) (file : FileState) → P card (read_part changes card part file c)
    part-keeps card Binary file = bytes-keep card file (parameters c) (le_of c)
    part-keeps card Record file = record-keeps card file (le_of c) (record_at c.p1 file)

    read_found-keeps : (card : CardState) (part : Part) (file : Option FileState) → P card (read_found changes card part c file)
    read_found-keeps card part None = refused card 0x6986 refl
    read_found-keeps card part (Some file) = checks card (read_refusal card part file c) (read_refusal-fails card part file c) _ (part-keeps card part file)

    read_binary-keeps : (card : CardState) (channel : ChannelState) → P card (read_binary_row changes card channel c)
    unfolding read_binary_row
    read_binary-keeps card channel = read_found-keeps card Binary (current_file card channel)

    read_record-keeps : (card : CardState) (channel : ChannelState) → P card (read_record_row changes card channel c)
    unfolding read_record_row
    read_record-keeps card channel = read_found-keeps card Record (current_file card channel)

    -- ---- UPDATE BINARY and UPDATE RECORD

    update_found-keeps : (card : CardState) (part : Part) (place : ℕ) (file : Option FileState) → slice_get card.files place ≡ file → P card (update_found changes card part c place file)
    update_found-keeps card part place None here = refused card 0x6986 refl
    update_found-keeps card part place (Some file) here =
        checks card (update_refusal card part file c) (update_refusal-fails card part file c) _
        (succeeded card (with_file_at card place (with_part part file c)) [] refl (part-keeps_shapes card.files place part file c here))

    update_at-keeps : (card : CardState) (part : Part) (place : Option ℕ) → P card (update_at changes card part c place)
    update_at-keeps card part None = refused card 0x6986 refl
    update_at-keeps card part (Some place) = update_found-keeps card part place (slice_get card.files place) refl

    update_binary-keeps : (card : CardState) (channel : ChannelState) → P card (update_binary_row changes card channel c)
    unfolding update_binary_row
    update_binary-keeps card channel = update_at-keeps card Binary (current_place card channel)

    update_record-keeps : (card : CardState) (channel : ChannelState) → P card (update_record_row changes card channel c)
    unfolding update_record_row
    update_record-keeps card channel = update_at-keeps card Record (current_place card channel)

    -- ---- VERIFY

    tried-keeps : (card : CardState) (place : ℕ) (key : PinState) → instruction_of c.ins ≡ Some Verify → slice_get card.keys place ≡ Some key → key.key ≡ c.p2 → 0 < key.tries → P card (if same_bytes c.body key.secret then succeeds changes (with_key card place (right_key key)) else (with_key card place (wrong_key key), refusal (tries_word (key.tries - 1))))
    tried-keeps card place key is here names left = either_known card (same_bytes c.body key.secret) _ _
        (λ same. right card place key here (record { verifies = is; names = names; left = left; pin = same }))
        (λ other. wrong card place key here (record { verifies = is; names = names; left = left; pin = other }))

    verify_found-keeps : (card : CardState) (place : ℕ) (key : Option PinState) → instruction_of c.ins ≡ Some Verify → key_place c.p2 card ≡ Some place → slice_get card.keys place ≡ key → P card (verify_found changes card c place key)
    verify_found-keeps card place None is at here = refused card 0x6A86 refl
    verify_found-keeps card place (Some key) is at here =
        check card (not (body_len c == 8)) 0x6700 refl _
        (either_known card (key.tries == 0) _ _ (λ none. refused card 0x6983 refl) (λ some. tried-keeps card place key is here (named c.p2 card place key at here) (some_left key.tries some)))

    verify_at-keeps : (card : CardState) (place : Option ℕ) → instruction_of c.ins ≡ Some Verify → key_place c.p2 card ≡ place → P card (verify_at changes card c place)
    verify_at-keeps card None is at = refused card 0x6A86 refl
    verify_at-keeps card (Some place) is at = verify_found-keeps card place (slice_get card.keys place) is at refl

    verify-keeps : (card : CardState) → instruction_of c.ins ≡ Some Verify → P card (verify_row changes card c)
    unfolding verify_row
    verify-keeps card is = check card (not (c.p1 == 0x00)) 0x6A86 refl _ (verify_at-keeps card (key_place c.p2 card) is refl)

    -- ---- MANAGE CHANNEL

    number-keeps : (card : CardState) (number : Option ℕ) → P card (open_number changes card number)
    number-keeps card None = refused card 0x6A81 refl
    number-keeps card (Some number) = succeeded card _ _ refl refl

    open_le-keeps : (card : CardState) (le : Option ℕ) → P card (open_with_le changes card le)
    open_le-keeps card None = refused card 0x6700 refl
    open_le-keeps card (Some le) = check card (not (le == 1)) 0x6C01 refl _ (number-keeps card (free_number card))

    place-keeps : (card : CardState) (place : Option ℕ) → P card (close_place changes card place)
    place-keeps card None = refused card 0x6881 refl
    place-keeps card (Some place) = succeeded card _ [] refl refl

    close-keeps : (card : CardState) → P card (close_channel changes card c)
    close-keeps card = check card (c.p2 == 0x00) 0x6A86 refl _ (check card (not (is_empty c.body) || is_some c.le) 0x6700 refl _ (place-keeps card (channel_place c.p2 card)))

    manage-keeps : (card : CardState) → P card (manage_channel_row changes card c)
    unfolding manage_channel_row
    manage-keeps card =
        either card (c.p1 == 0x00) _ _ (check card (not (c.p2 == 0x00)) 0x6A86 refl _ (open_le-keeps card (wanted_le c)))
        (either card (c.p1 == 0x80) _ _ (close-keeps card) (refused card 0x6A86 refl))

    -- ---- the table

    pub row-of-table-keeps : (card : CardState) (place : ℕ) (channel : ChannelState) (row : Instruction) → instruction_of c.ins ≡ Some row → P card (on_row changes card place channel c row)
    row-of-table-keeps card place channel Select is = select-keeps card place channel
    row-of-table-keeps card place channel GetResponse is = get_response-keeps card channel
    row-of-table-keeps card place channel Status is = status-keeps card
    row-of-table-keeps card place channel ReadBinary is = read_binary-keeps card channel
    row-of-table-keeps card place channel UpdateBinary is = update_binary-keeps card channel
    row-of-table-keeps card place channel ReadRecord is = read_record-keeps card channel
    row-of-table-keeps card place channel UpdateRecord is = update_record-keeps card channel
    row-of-table-keeps card place channel Verify is = verify-keeps card is
    row-of-table-keeps card place channel ManageChannel is = manage-keeps card
    row-of-table-keeps card place channel TerminalProfile is = profile-keeps card
    row-of-table-keeps card place channel Fetch is = fetch-keeps card is
    row-of-table-keeps card place channel TerminalResponse is = response-keeps card

    kind-keeps : (card : CardState) (place : ℕ) (channel : ChannelState) (kind : ClassKind) (row : Option Instruction) → instruction_of c.ins ≡ row → P card (on_kind changes card place channel kind c row)
    kind-keeps card place channel kind None is = refused card 0x6D00 refl
    kind-keeps card place channel kind (Some row) is = either card (same_kind (kind_of row) kind) _ _
        (dropped card (is_get_response row && has_waiting_on card channel) _ (row-of-table-keeps (without_waiting card channel row) place channel row is))
        (refused card 0x6E00 refl)

    channel-keeps : (card : CardState) (place : ℕ) (kind : ClassKind) (channel : Option ChannelState) → P card (on_channel changes card place kind channel c)
    channel-keeps card place kind None = refused card 0x6881 refl
    channel-keeps card place kind (Some channel) = kind-keeps card place channel kind (instruction_of c.ins) refl

    channel_place-keeps : (card : CardState) (kind : ClassKind) (place : Option ℕ) → P card (on_place changes card kind place c)
    channel_place-keeps card kind None = refused card 0x6881 refl
    channel_place-keeps card kind (Some place) = channel-keeps card place kind (slice_get card.channels place)

    class-keeps : (card : CardState) (class : Option (ClassKind × ℕ)) → P card (on_class changes card class c)
    class-keeps card None = refused card 0x6E00 refl
    class-keeps card (Some class) = channel_place-keeps card class.0 (channel_place class.1 card)

    pub card-keeps : (card : CardState) → P card (on_card changes card c)
    unfolding on_card
    card-keeps card = class-keeps card (channel_of c.class)
