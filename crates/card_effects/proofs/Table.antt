-- What a command changes of a card: one lemma for each row of the card's table.
use Rattle.std.proofs.Common.{◌≡◌, ◌⊎◌, inl, inr, ℕ, zero, suc, ◌+◌, ◌==◌, ◌<◌, ◌≤◌, ◌-◌, ◌%◌, ◌/◌, Bool, true, false, ◌&&◌, ◌||◌, if◌then◌else◌, Option, Some, None, List, [], ◌∷◌, ◌++◌, length, refl, ap, sym, ◌∙◌, subst, arith}
use Rattle.std.specs.Prelude.{slice_get, not, is_some, is_none, unwrap_or, nat_le, nat_lt, take, drop}
use Rattle.std.proofs.lemmas.Bool.{cond_both, cases_Bool, eqb-true, not-false, and_parts, or_right, ne_eqb, false≢true}
use Rattle.std.specs.List.{remove}
use Rattle.fcp.specs.Content.{first_row, is_linear, is_transparent}
use Rattle.fcp.specs.declared.rule.Need.{Need}
use Rattle.apdu.specs.Values.{CommandValue, ResponseValue}
use Rattle.apdu.specs.Words.{is_empty, path_of, written_at, is_one_of, or_else}
use Rattle.apdu.specs.Apdu.{is_success, has_more, wants_other_le, refusal}
use Rattle.card_model.specs.declared.instruction.Part.{Part}
use Rattle.card_model.specs.declared.instruction.Part.TheVariants.{Binary, Record}
use Rattle.card_model.specs.declared.world.FileState.{FileState}
use Rattle.card_model.specs.declared.world.PinState.{PinState}
use Rattle.card_model.specs.declared.world.ChannelState.{ChannelState}
use Rattle.card_model.specs.declared.world.Change.{Change}
use Rattle.card_model.specs.declared.world.CardState.{CardState}
use Rattle.card_model.specs.Card.{record_at, is_met, rule_of, current_file, current_place, first_armed, change_command, channel_place, application_named, is_selectable, current_parameters, application_id, fresh_channel}
use Rattle.card_model.specs.Answers.{refuses, unless_refused, succeeds, answers, parameters, wanted_le, le_of, body_len, success_word, announced_word, answer, length_byte, with_waiting}
use Rattle.card_model.specs.Waiting.{WaitingValue}
use Rattle.card_model.specs.GetResponse.{waits_on, get_response_row, get_waiting, fetch_waiting}
use Rattle.card_model.specs.Parts.{is_part_of, is_named, part_refusal, access_refusal}
use Rattle.card_model.specs.Read.{read_bytes, read_record, read_part, le_refusal, read_refusal, read_found, read_binary_row, read_record_row}
use Rattle.card_model.specs.Update.{body_refusal, fit_refusal, update_refusal, with_part, with_file_at, update_found, update_at, update_binary_row, update_record_row}
use Rattle.card_model.specs.Verify.{tries_word, verify_row, verify_at, verify_found}
use Rattle.card_model.specs.Select.{is_select_length, with_channel, ids_of, select_row, selection_answer, parameters_answer, select_found, select_application, select_ids, selected_ids}
use Rattle.card_model.specs.Channels.{is_open, first_closed, free_number, open_number, open_with_le, open_channel, close_place, close_channel, manage_channel_row}
use Rattle.card_model.specs.Toolkit.{with_change, fetch_with_le, fetch_armed, fetch_first, fetch_row, status_row, terminal_profile_row, terminal_response_row}
use Rattle.card_effects.specs.Effect.{acted, Keeps, is_select_form, RefusesSelect, selecting, IsPathFound, IsAidFound, Selects, ReadsRecord, BinaryGiven, IsMisfit, ReadsBinary, Gets, RecordFits, UpdatesRecord, BinaryFits, UpdatesBinary, Opens, Closes, Fetches}

-- ---- status words

below_256 : (n : ℕ) → n % 256 < 256
below_256 n = omega arith

announces : (m : ℕ) → m < 256 → is_success (0x9100 + m) ≡ true
announces m h = let e : (0x9100 + m) / 256 ≡ 0x91 = omega arith in grind arith

more_word : (m : ℕ) → m < 256 → has_more (0x6100 + m) ≡ true
more_word m h = let e : (0x6100 + m) / 256 ≡ 0x61 = omega arith in grind arith

wants_other : (m : ℕ) → m < 256 → acted (0x6C00 + m) ≡ false
wants_other m h = let e : (0x6C00 + m) / 256 ≡ 0x6C = omega arith in grind arith

announced_success : (awaiting : Bool) (change : Option Change) → is_success (announced_word awaiting change) ≡ true
announced_success awaiting None = refl
announced_success true (Some change) = refl
announced_success false (Some change) = announces (length_byte (length (change_command change))) (below_256 (length (change_command change)))

pub success_is : (changes : List Change) (card : CardState) → is_success (success_word changes card) ≡ true
success_is changes card = announced_success card.awaiting (first_armed changes card)

no_more : (w : ℕ) → is_success w ≡ true → has_more w ≡ true → ⊥
no_more w h m = grind arith

pub no_more_by : (w : ℕ) → is_success w ≡ true → has_more w ≡ false
no_more_by w h = grind arith

pub no_other_by : (w : ℕ) → is_success w ≡ true → wants_other_le w ≡ false
no_other_by w h = grind arith

found_by : (w : ℕ) → is_success w ≡ true → (w == 0x6A82) ≡ false
found_by w h = ne_eqb w 0x6A82 (λ q. let n : is_success w ≡ false = rw q refl in false≢true (sym n ∙ h))

pub success_no_more : (changes : List Change) (card : CardState) → has_more (success_word changes card) ≡ false
success_no_more changes card = no_more_by (success_word changes card) (success_is changes card)

pub success_no_other : (changes : List Change) (card : CardState) → wants_other_le (success_word changes card) ≡ false
success_no_other changes card = no_other_by (success_word changes card) (success_is changes card)

other_no_more : (n : ℕ) → has_more (0x6C00 + length_byte n) ≡ false
other_no_more n = let h : length_byte n < 256 = below_256 n in let e : (0x6C00 + length_byte n) / 256 ≡ 0x6C = omega arith in grind arith

other_no_success : (n : ℕ) → is_success (0x6C00 + length_byte n) ≡ false
other_no_success n = let h : length_byte n < 256 = below_256 n in let e : (0x6C00 + length_byte n) / 256 ≡ 0x6C = omega arith in grind arith

tries_no_more : (n : ℕ) → has_more (tries_word n) ≡ false
tries_no_more n = let e : 0x63 ≤ (0x63C0 + n) / 256 = omega arith in grind arith

pub same_card : (card : CardState) (r : ResponseValue) → has_more r.sw ≡ false → Keeps card (card, r)
same_card card r h = record { files = refl; channels = refl; aids = refl; more = h }

module _ (changes : List Change) (card : CardState) (c : CommandValue) where
  pub status_keeps : Keeps card (status_row changes card c)
  unfolding status_row
  status_keeps = grind (arith, success_no_more)

  pub profile_keeps : Keeps card (terminal_profile_row changes card c)
  unfolding terminal_profile_row
  profile_keeps = grind (arith, success_no_more)

  pub response_keeps : Keeps card (terminal_response_row changes card c)
  unfolding terminal_response_row
  response_keeps = grind (arith, success_no_more)

  verify_found_keeps : (place : ℕ) (key : Option PinState) → Keeps card (verify_found changes card c place key)
  verify_found_keeps place None = same_card card _ refl
  verify_found_keeps place (Some key) = grind (arith, success_no_more, tries_no_more)

  verify_at_keeps : (place : Option ℕ) → Keeps card (verify_at changes card c place)
  verify_at_keeps None = same_card card _ refl
  verify_at_keeps (Some place) = verify_found_keeps place (slice_get card.keys place)

  pub verify_keeps : Keeps card (verify_row changes card c)
  unfolding verify_row
  verify_keeps = grind (arith, verify_at_keeps)

  waiting_keeps : (bytes : List ℕ) (le : Option ℕ) → Keeps card (fetch_waiting changes card bytes le)
  waiting_keeps bytes None = same_card card _ refl
  waiting_keeps bytes (Some le) = grind (arith, success_no_more, other_no_more)

  get_keeps : (channel : ChannelState) (waiting : Option WaitingValue) → Keeps card (get_waiting changes card channel c waiting)
  get_keeps channel None = same_card card _ refl
  get_keeps channel (Some waiting) = grind (arith, waiting_keeps)

  get_response_keeps : (channel : ChannelState) → Keeps card (get_response_row changes card channel c)
  unfolding get_response_row
  get_response_keeps channel = grind (arith, get_keeps)

-- the command was refused, and the card's files, channels and applications stay
pub record Refuses (card : CardState) (p : CardState × ResponseValue) : Type 0 where
  pub keeps : Keeps card p
  pub status : acted p.1.sw ≡ false

no_more_of : (w : ℕ) → acted w ≡ false → has_more w ≡ false
no_more_of w h = grind arith

pub refuses_by : (card : CardState) (w : ℕ) → acted w ≡ false → Refuses card (refuses card w)
refuses_by card w h = record { keeps = same_card card _ (no_more_of w h); status = h }

-- ---- refusals

no_success_of : (w : ℕ) → acted w ≡ false → is_success w ≡ false
no_success_of w h = grind arith

-- a word of a READ or an UPDATE that was refused: nothing was done, and no other Le is asked for
abbrev IsNo : ℕ → Type 0
IsNo w = (acted w ≡ false) × (wants_other_le w ≡ false)

abbrev AllNo : Option ℕ → Type 0
AllNo None = Unit {0}
AllNo (Some w) = IsNo w

or_no : (a b : Option ℕ) → AllNo a → AllNo b → AllNo (or_else a b)
or_no None b p q = q
or_no (Some w) b p q = p

test_no : (b : Bool) (w : ℕ) (rest : Option ℕ) → IsNo w → AllNo rest → AllNo (if b then Some w else rest)
test_no true w rest p q = p
test_no false w rest p q = q

part_no : (part : Part) (file : FileState) (c : CommandValue) → AllNo (part_refusal part file c)
part_no part file c = test_no (not (is_part_of file.rows.kind part)) 0x6981 (if not (is_named c part) then Some 0x6A86 else None) (refl, refl) (test_no (not (is_named c part)) 0x6A86 None (refl, refl) _)

access_no : (card : CardState) (file : FileState) (need : Need) → AllNo (access_refusal card file need)
access_no card file need = test_no (not file.active) 0x6985 (if not (is_met card need) then Some 0x6982 else None) (refl, refl) (test_no (not (is_met card need)) 0x6982 None (refl, refl) _)

fit_no : (part : Part) (file : FileState) (c : CommandValue) → AllNo (fit_refusal part file c)
fit_no Binary file c = test_no (nat_le (length (first_row file.rows.rows)) (parameters c)) 0x6B00 (if nat_lt (length (first_row file.rows.rows)) (parameters c + body_len c) then Some 0x6700 else None) (refl, refl) (test_no (nat_lt (length (first_row file.rows.rows)) (parameters c + body_len c)) 0x6700 None (refl, refl) _)
fit_no Record file c = test_no (nat_lt (length file.rows.rows) c.p1) 0x6A83 (if not (body_len c == file.rows.width) then Some 0x6700 else None) (refl, refl) (test_no (not (body_len c == file.rows.width)) 0x6700 None (refl, refl) _)

read_no : (card : CardState) (part : Part) (file : FileState) (c : CommandValue) → AllNo (read_refusal card part file c)
read_no card part file c = or_no (part_refusal part file c) (or_else (le_refusal c) (access_refusal card file (rule_of card file).read)) (part_no part file c)
    (or_no (le_refusal c) (access_refusal card file (rule_of card file).read) (test_no (is_none (wanted_le c)) 0x6700 None (refl, refl) _) (access_no card file (rule_of card file).read))

update_no : (card : CardState) (part : Part) (file : FileState) (c : CommandValue) → AllNo (update_refusal card part file c)
update_no card part file c = or_no (part_refusal part file c) (or_else (body_refusal c) (or_else (access_refusal card file (rule_of card file).update) (fit_refusal part file c))) (part_no part file c)
    (or_no (body_refusal c) (or_else (access_refusal card file (rule_of card file).update) (fit_refusal part file c)) (test_no (is_empty c.body) 0x6700 None (refl, refl) _)
    (or_no (access_refusal card file (rule_of card file).update) (fit_refusal part file c) (access_no card file (rule_of card file).update) (fit_no part file c)))

no_by : (o : Option ℕ) (w : ℕ) → AllNo o → o ≡ Some w → IsNo w
no_by o w n e = subst AllNo e n

-- none of the tests holds
none_or : (a b : Option ℕ) → or_else a b ≡ None → (a ≡ None) × (b ≡ None)
none_or None b h = (refl, h)
none_or (Some w) b h = absurd (cc)

none_test : (b : Bool) (w : ℕ) (rest : Option ℕ) → (if b then Some w else rest) ≡ None → (b ≡ false) × (rest ≡ None)
none_test true w rest h = absurd (cc)
none_test false w rest h = (refl, h)

part_named : (part : Part) (file : FileState) (c : CommandValue) → part_refusal part file c ≡ None → (is_part_of file.rows.kind part ≡ true) × (is_named c part ≡ true)
part_named part file c h =
    let q = none_test (not (is_part_of file.rows.kind part)) 0x6981 (if not (is_named c part) then Some 0x6A86 else None) h in
    (not-false (is_part_of file.rows.kind part) q.0, not-false (is_named c part) (none_test (not (is_named c part)) 0x6A86 None q.1).0)

le_by : (b : Bool) (o : Option ℕ) → is_none (if b then o else None) ≡ false → ((if b then o else None) ≡ Some (unwrap_or o 0))
le_by true (Some le) h = refl
le_by true None h = absurd (cc)
le_by false o h = absurd (cc)

le_known : (c : CommandValue) → le_refusal c ≡ None → wanted_le c ≡ Some (le_of c)
le_known c h = le_by (is_empty c.body) c.le (none_test (is_none (wanted_le c)) 0x6700 None h).0

-- a READ that is not refused names a part of a file of its kind, and has an Le
record Reads (part : Part) (file : FileState) (c : CommandValue) : Type 0 where
  kind : is_part_of file.rows.kind part ≡ true
  le : wanted_le c ≡ Some (le_of c)

reads_by : (card : CardState) (part : Part) (file : FileState) (c : CommandValue) → read_refusal card part file c ≡ None → Reads part file c
reads_by card part file c h =
    let q = none_or (part_refusal part file c) (or_else (le_refusal c) (access_refusal card file (rule_of card file).read)) h in
    record { kind = (part_named part file c q.0).0; le = le_known c (none_or (le_refusal c) (access_refusal card file (rule_of card file).read) q.1).0 }

-- ---- what READ RECORD, READ BINARY and GET RESPONSE give

module _ (changes : List Change) (card : CardState) (channel : ChannelState) (c : CommandValue) where
  record_refused : (w : ℕ) → acted w ≡ false → ReadsRecord card channel c (refuses card w)
  record_refused w h = record { keeps = same_card card _ (no_more_of w h); given = λ s. absurd (false≢true (sym (no_success_of w h) ∙ s)) }

  row_given : (file : FileState) → current_file card channel ≡ Some file → is_linear file.rows.kind ≡ true → (row : Option (List ℕ)) → record_at c.p1 file ≡ row → ReadsRecord card channel c (read_record changes card file (le_of c) row)
  row_given file at linear None h = record_refused 0x6A83 refl
  row_given file at linear (Some row) h = cond_both (file.endless || not (le_of c == file.rows.width)) (refuses card (0x6C00 + length_byte file.rows.width)) (answers changes card row) (ReadsRecord card channel c)
      (λ e. record_refused (0x6C00 + length_byte file.rows.width) (wants_other (length_byte file.rows.width) (below_256 file.rows.width)))
      (λ e. record { keeps = same_card card _ (success_no_more changes card); given = λ s. record { file = file; at = at; linear = linear; row = h } })

  record_unless_refused : (file : FileState) → current_file card channel ≡ Some file → (o : Option ℕ) → read_refusal card Record file c ≡ o → ReadsRecord card channel c (unless_refused card o (read_part changes card Record file c))
  record_unless_refused file at (Some w) h = record_refused w (no_by (read_refusal card Record file c) w (read_no card Record file c) h).0
  record_unless_refused file at None h = row_given file at (reads_by card Record file c h).kind (record_at c.p1 file) refl

  record_file_given : (file : Option FileState) → current_file card channel ≡ file → ReadsRecord card channel c (read_found changes card Record c file)
  record_file_given None at = record_refused 0x6986 refl
  record_file_given (Some file) at = record_unless_refused file at (read_refusal card Record file c) refl

  pub read_record_does : ReadsRecord card channel c (read_record_row changes card channel c)
  unfolding read_record_row
  read_record_does = record_file_given (current_file card channel) refl

  abbrev BinaryDoes : CardState × ResponseValue → Type 0
  BinaryDoes p = Keeps card p × (is_success p.1.sw ≡ true → BinaryGiven card channel c p.1.body) × (wants_other_le p.1.sw ≡ true → IsMisfit card channel c)

  neither : (w : ℕ) → acted w ≡ false → wants_other_le w ≡ false → BinaryDoes (refuses card w)
  neither w a b = (same_card card _ (no_more_of w a), (λ s. absurd (false≢true (sym (no_success_of w a) ∙ s))), (λ o. absurd (false≢true (sym b ∙ o))))

  other_le : (n : ℕ) → IsMisfit card channel c → BinaryDoes (refuses card (0x6C00 + length_byte n))
  other_le n m = (same_card card _ (other_no_more n), (λ s. absurd (false≢true (sym (other_no_success n) ∙ s))), (λ o. m))

  misfit : (file : FileState) (le : ℕ) → current_file card channel ≡ Some file → wanted_le c ≡ Some le → (file.endless || nat_lt (length (first_row file.rows.rows) - parameters c) le) ≡ true → IsMisfit card channel c
  misfit file le at wanted h other at2 le2 wanted2 = let e : file ≡ other = cc in let n : le ≡ le2 = cc in subst (λ (f : FileState). (f.endless || nat_lt (length (first_row f.rows.rows) - parameters c) le2) ≡ true) e (subst (λ m. (file.endless || nat_lt (length (first_row file.rows.rows) - parameters c) m) ≡ true) n h)

  bytes_does : (file : FileState) (le : ℕ) → current_file card channel ≡ Some file → is_transparent file.rows.kind ≡ true → wanted_le c ≡ Some le → BinaryDoes (read_bytes changes card file (parameters c) le)
  bytes_does file le at kind wanted = cond_both (nat_le (length (first_row file.rows.rows)) (parameters c)) (refuses card 0x6B00) (if file.endless then refuses card 0x6C01 else if nat_lt (length (first_row file.rows.rows) - parameters c) le then refuses card (0x6C00 + length_byte (length (first_row file.rows.rows) - parameters c)) else answers changes card (take le (drop (parameters c) (first_row file.rows.rows)))) BinaryDoes
      (λ e. neither 0x6B00 refl refl)
      (λ e. cond_both file.endless (refuses card 0x6C01) (if nat_lt (length (first_row file.rows.rows) - parameters c) le then refuses card (0x6C00 + length_byte (length (first_row file.rows.rows) - parameters c)) else answers changes card (take le (drop (parameters c) (first_row file.rows.rows)))) BinaryDoes
      (λ g. other_le 1 (misfit file le at wanted (rw g refl)))
      (λ g. cond_both (nat_lt (length (first_row file.rows.rows) - parameters c) le) (refuses card (0x6C00 + length_byte (length (first_row file.rows.rows) - parameters c))) (answers changes card (take le (drop (parameters c) (first_row file.rows.rows)))) BinaryDoes
      (λ q. other_le (length (first_row file.rows.rows) - parameters c) (misfit file le at wanted (or_right file.endless (nat_lt (length (first_row file.rows.rows) - parameters c) le) q)))
      (λ q. (same_card card _ (success_no_more changes card), (λ s. record { file = file; at = at; transparent = kind; endless = g; le = le; wanted = wanted; fits = q; bytes = refl }), (λ o. absurd (false≢true (sym (success_no_other changes card) ∙ o)))))))

  binary_unless_refused : (file : FileState) → current_file card channel ≡ Some file → (o : Option ℕ) → read_refusal card Binary file c ≡ o → BinaryDoes (unless_refused card o (read_part changes card Binary file c))
  binary_unless_refused file at (Some w) h = let n = no_by (read_refusal card Binary file c) w (read_no card Binary file c) h in neither w n.0 n.1
  binary_unless_refused file at None h = let r = reads_by card Binary file c h in bytes_does file (le_of c) at r.kind r.le

  binary_file_does : (file : Option FileState) → current_file card channel ≡ file → BinaryDoes (read_found changes card Binary c file)
  binary_file_does None at = neither 0x6986 refl refl
  binary_file_does (Some file) at = binary_unless_refused file at (read_refusal card Binary file c) refl

  pub read_binary_does : ReadsBinary card channel c (read_binary_row changes card channel c)
  unfolding read_binary_row
  read_binary_does = let d = binary_file_does (current_file card channel) refl in record { keeps = d.0; given = d.1; other = d.2 }

  abbrev GetDoes : WaitingValue → CardState × ResponseValue → Type 0
  GetDoes w p = (is_success p.1.sw ≡ true → p.1.body ≡ w.bytes) × (is_success p.1.sw ≡ false → p.0.waiting ≡ card.waiting)

  still : (w : WaitingValue) (word : ℕ) → is_success word ≡ false → GetDoes w (refuses card word)
  still w word h = ((λ s. absurd (false≢true (sym h ∙ s))), (λ n. refl))

  bytes_wait : (w : WaitingValue) (le : Option ℕ) → GetDoes w (fetch_waiting changes card w.bytes le)
  bytes_wait w None = still w 0x6700 refl
  bytes_wait w (Some le) = cond_both (not (le == length w.bytes)) (refuses card (0x6C00 + length_byte (length w.bytes))) (answers changes (with_waiting card None) w.bytes) (GetDoes w)
      (λ e. still w (0x6C00 + length_byte (length w.bytes)) (other_no_success (length w.bytes)))
      (λ e. ((λ s. refl), (λ n. absurd (false≢true (sym n ∙ success_is changes (with_waiting card None))))))

  get_does_by : (w : WaitingValue) → (waiting : Option WaitingValue) → waiting ≡ Some w → GetDoes w (get_waiting changes card channel c waiting)
  get_does_by w None e = absurd (cc)
  get_does_by w (Some v) e = cond_both (not (waits_on channel v)) (refuses card 0x6985) (fetch_waiting changes card v.bytes (wanted_le c)) (GetDoes w)
      (λ h. still w 0x6985 refl)
      (λ h. let same : v ≡ w = cc in subst (λ (x : WaitingValue). GetDoes w (fetch_waiting changes card x.bytes (wanted_le c))) (sym same) (bytes_wait w (wanted_le c)))

  get_does : (w : WaitingValue) → card.waiting ≡ Some w → GetDoes w (get_response_row changes card channel c)
  unfolding get_response_row
  get_does w e = cond_both (not (parameters c == 0)) (refuses card 0x6A86) (get_waiting changes card channel c card.waiting) (GetDoes w) (λ h. still w 0x6A86 refl) (λ h. get_does_by w card.waiting e)

  waiting_found : (bytes : List ℕ) (le : Option ℕ) → ((fetch_waiting changes card bytes le).1.sw == 0x6A82) ≡ false
  waiting_found bytes None = refl
  waiting_found bytes (Some le) = cond_both (not (le == length bytes)) (refuses card (0x6C00 + length_byte (length bytes))) (answers changes (with_waiting card None) bytes) (λ p. (p.1.sw == 0x6A82) ≡ false)
      (λ e. ne_eqb (0x6C00 + length_byte (length bytes)) 0x6A82 (λ q. let m : length_byte (length bytes) < 256 = below_256 (length bytes) in absurd (omega arith)))
      (λ e. found_by (success_word changes (with_waiting card None)) (success_is changes (with_waiting card None)))

  get_found : (waiting : Option WaitingValue) → ((get_waiting changes card channel c waiting).1.sw == 0x6A82) ≡ false
  get_found None = refl
  get_found (Some w) = cond_both (not (waits_on channel w)) (refuses card 0x6985) (fetch_waiting changes card w.bytes (wanted_le c)) (λ p. (p.1.sw == 0x6A82) ≡ false) (λ e. refl) (λ e. waiting_found w.bytes (wanted_le c))

  row_found : ((get_response_row changes card channel c).1.sw == 0x6A82) ≡ false
  unfolding get_response_row
  row_found = cond_both (not (parameters c == 0)) (refuses card 0x6A86) (get_waiting changes card channel c card.waiting) (λ p. (p.1.sw == 0x6A82) ≡ false) (λ e. refl) (λ e. get_found card.waiting)

  pub get_response_does : Gets card channel (get_response_row changes card channel c)
  get_response_does = record { keeps = get_response_keeps changes card c channel; given = λ w e on s. (get_does w e).0 s; waits = λ w e on s. (get_does w e).1 s; found = row_found }

-- ---- UPDATE

-- an UPDATE that is not refused
record Writes (part : Part) (file : FileState) (c : CommandValue) : Type 0 where
  kind : is_part_of file.rows.kind part ≡ true
  named : is_named c part ≡ true
  fits : fit_refusal part file c ≡ None

writes_by : (card : CardState) (part : Part) (file : FileState) (c : CommandValue) → update_refusal card part file c ≡ None → Writes part file c
writes_by card part file c h =
    let q = none_or (part_refusal part file c) (or_else (body_refusal c) (or_else (access_refusal card file (rule_of card file).update) (fit_refusal part file c))) h in
    let r = none_or (body_refusal c) (or_else (access_refusal card file (rule_of card file).update) (fit_refusal part file c)) q.1 in
    record { kind = (part_named part file c q.0).0; named = (part_named part file c q.0).1; fits = (none_or (access_refusal card file (rule_of card file).update) (fit_refusal part file c) r.1).1 }

record_fits : (file : FileState) (c : CommandValue) → Writes Record file c → RecordFits file c
record_fits file c w =
    let m = and_parts (c.p2 == 0x04) (nat_lt 0 c.p1) w.named in
    let f = none_test (nat_lt (length file.rows.rows) c.p1) 0x6A83 (if not (body_len c == file.rows.width) then Some 0x6700 else None) w.fits in
    let g = none_test (not (body_len c == file.rows.width)) 0x6700 None f.1 in
    record { linear = w.kind; mode = eqb-true c.p2 0x04 m.0; numbered = m.1; row = f.0; width = eqb-true (body_len c) file.rows.width (not-false (body_len c == file.rows.width) g.0) }

within : (a b : ℕ) → nat_lt b a ≡ false → a ≤ b
within a b h = grind arith

binary_fits : (file : FileState) (c : CommandValue) → Writes Binary file c → BinaryFits file c
binary_fits file c w =
    let f = none_test (nat_le (length (first_row file.rows.rows)) (parameters c)) 0x6B00 (if nat_lt (length (first_row file.rows.rows)) (parameters c + body_len c) then Some 0x6700 else None) w.fits in
    let g = none_test (nat_lt (length (first_row file.rows.rows)) (parameters c + body_len c)) 0x6700 None f.1 in
    record { transparent = w.kind; from = within (parameters c + body_len c) (length (first_row file.rows.rows)) g.0 }

module _ (changes : List Change) (card : CardState) (channel : ChannelState) (c : CommandValue) where
  -- what an UPDATE does, where it is told what it does when it is not refused
  abbrev DoesPart : (CardState × ResponseValue → Type 0) → CardState × ResponseValue → Type 0
  DoesPart Done p = Refuses card p ⊎ Done p

  abbrev Done : (CardState × ResponseValue → Type 0) → Part → Type 0
  Done D part = (place : ℕ) (file : FileState) → current_place card channel ≡ Some place → slice_get card.files place ≡ Some file → Writes part file c → D (succeeds changes (with_file_at card place (with_part part file c)))

  update_unless_refused : (D : CardState × ResponseValue → Type 0) (part : Part) → Done D part → (place : ℕ) (file : FileState) → current_place card channel ≡ Some place → slice_get card.files place ≡ Some file → (o : Option ℕ) → update_refusal card part file c ≡ o → DoesPart D (unless_refused card o (succeeds changes (with_file_at card place (with_part part file c))))
  update_unless_refused D part done place file at found (Some w) h = inl (refuses_by card w (no_by (update_refusal card part file c) w (update_no card part file c) h).0)
  update_unless_refused D part done place file at found None h = inr (done place file at found (writes_by card part file c h))

  update_file_does : (D : CardState × ResponseValue → Type 0) (part : Part) → Done D part → (place : ℕ) → current_place card channel ≡ Some place → (file : Option FileState) → slice_get card.files place ≡ file → DoesPart D (update_found changes card part c place file)
  update_file_does D part done place at None found = inl (refuses_by card _ refl)
  update_file_does D part done place at (Some file) found = update_unless_refused D part done place file at found (update_refusal card part file c) refl

  update_does : (D : CardState × ResponseValue → Type 0) (part : Part) → Done D part → (place : Option ℕ) → current_place card channel ≡ place → DoesPart D (update_at changes card part c place)
  update_does D part done None at = inl (refuses_by card _ refl)
  update_does D part done (Some place) at = update_file_does D part done place at (slice_get card.files place) refl

  record_done : Done (UpdatesRecord card channel c) Record
  record_done place file at found w = record {
    updates = record { place = place; file = file; index = c.p1 - 1; row = c.body; at = at; found = found; files = refl; channels = refl; aids = refl; status = success_is changes (with_file_at card place (with_part Record file c)) };
    index = refl;
    row = refl;
    fits = record_fits file c w;
  }

  binary_done : Done (UpdatesBinary card channel c) Binary
  binary_done place file at found w = record {
    updates = record { place = place; file = file; index = 0; row = written_at (parameters c) c.body (first_row file.rows.rows); at = at; found = found; files = refl; channels = refl; aids = refl; status = success_is changes (with_file_at card place (with_part Binary file c)) };
    index = refl;
    row = refl;
    fits = binary_fits file c w;
  }

  pub update_record_does : Refuses card (update_record_row changes card channel c) ⊎ UpdatesRecord card channel c (update_record_row changes card channel c)
  unfolding update_record_row
  update_record_does = update_does (UpdatesRecord card channel c) Record record_done (current_place card channel) refl

  pub update_binary_does : Refuses card (update_binary_row changes card channel c) ⊎ UpdatesBinary card channel c (update_binary_row changes card channel c)
  unfolding update_binary_row
  update_binary_does = update_does (UpdatesBinary card channel c) Binary binary_done (current_place card channel) refl

-- ---- FETCH

module _ (changes : List Change) (card : CardState) (c : CommandValue) where
  abbrev FetchDoes : CardState × ResponseValue → Type 0
  FetchDoes p = Refuses card p ⊎ Fetches changes card p

  fetch_le_does : (change : Change) (le : ℕ) → first_armed changes card ≡ Some change → FetchDoes (fetch_with_le card change le)
  fetch_le_does change le armed = cond_both (not (le == length (change_command change))) (refuses card (0x6C00 + length_byte (length (change_command change)))) (with_change card change, answer (change_command change) 0x9000) FetchDoes
      (λ h. inl (refuses_by card _ (wants_other (length_byte (length (change_command change))) (below_256 (length (change_command change))))))
      (λ h. inr (record { change = change; armed = armed; files = refl; channels = refl; aids = refl; response = refl }))

  fetch_armed_does : (le : ℕ) (change : Option Change) → first_armed changes card ≡ change → FetchDoes (fetch_armed card le change)
  fetch_armed_does le None armed = inl (refuses_by card _ refl)
  fetch_armed_does le (Some change) armed = cond_both card.awaiting (refuses card 0x6985) (fetch_with_le card change le) FetchDoes (λ h. inl (refuses_by card _ refl)) (λ h. fetch_le_does change le armed)

  fetch_first_does : (le : Option ℕ) → FetchDoes (fetch_first changes card le)
  fetch_first_does None = inl (refuses_by card _ refl)
  fetch_first_does (Some le) = fetch_armed_does le (first_armed changes card) refl

  pub fetch_does : FetchDoes (fetch_row changes card c)
  unfolding fetch_row
  fetch_does = cond_both (not (parameters c == 0)) (refuses card 0x6A86) (fetch_first changes card (wanted_le c)) FetchDoes (λ h. inl (refuses_by card _ refl)) (λ h. fetch_first_does (wanted_le c))

-- ---- SELECT

acts_success : (w : ℕ) → is_success w ≡ true → acted w ≡ true
acts_success w h = grind arith

acts_more : (w : ℕ) → has_more w ≡ true → acted w ≡ true
acts_more w h = grind arith

four : (p2 : ℕ) → is_one_of p2 (0x04 ∷ 0x0C ∷ []) ≡ true → (p2 == 0x0C) ≡ false → p2 ≡ 0x04
four p2 h n = grind arith

not_both : (p2 : ℕ) → (p2 == 0x0C) ≡ true → (p2 == 0x04) ≡ true → ⊥
not_both p2 h n = grind arith

more_is : (n : ℕ) → has_more (0x6100 + length_byte n) ≡ true
more_is n = more_word (length_byte n) (below_256 n)

form_wrong : (a b l : Bool) → (not a || not b) ≡ true → (a && b && l) ≡ false
form_wrong true true l h = absurd (cc)
form_wrong true false l h = refl
form_wrong false b l h = refl

form_long : (a l : Bool) → not l ≡ true → (a && l) ≡ false
form_long true false h = refl
form_long false l h = refl
form_long true true h = absurd (cc)

form_right : (a b l : Bool) → (not a || not b) ≡ false → not l ≡ false → ((a && b && l) ≡ true) × (b ≡ true)
form_right true true true h k = (refl, refl)
form_right true true false h k = absurd (cc)
form_right true false l h k = absurd (cc)
form_right false b l h k = absurd (cc)

module _ (changes : List Change) (card : CardState) (place : ℕ) (channel : ChannelState) (c : CommandValue) where
  abbrev SelectDoes : CardState × ResponseValue → Type 0
  SelectDoes p = RefusesSelect card channel c p ⊎ Selects card place channel c p

  select_refused : (w : ℕ) → acted w ≡ false → (w == 0x6A82) ≡ false → is_select_form c ≡ false → SelectDoes (refuses card w)
  select_refused w h n f = inl (record { keeps = same_card card _ (no_more_of w h); status = h; word = n ∙ sym f; missing = λ e q. absurd (false≢true (sym n ∙ e)); len = λ e q. absurd (false≢true (sym n ∙ e)); by_aid = λ e q. absurd (false≢true (sym n ∙ e)) })

  selected_answer : (app : Option ℕ) (current : Option (List ℕ)) → ((c.p1 == 0x08) ≡ true → IsPathFound card channel c app current) → ((c.p1 == 0x04) ≡ true → IsAidFound card c app current) → ((c.p1 == 0x00) ≡ true → app ≡ channel.app) → is_one_of c.p2 (0x04 ∷ 0x0C ∷ []) ≡ true → Selects card place channel c (selection_answer changes card place (selecting channel app current) c)
  selected_answer app current found named child p2 =
      let after : CardState = with_channel card place (selecting channel app current) in
      let bytes : List ℕ = current_parameters card (selecting channel app current) in
      cond_both (c.p2 == 0x0C) (succeeds changes after) (parameters_answer changes after channel.number bytes) (Selects card place channel c)
      (λ h. record {
        app = app;
        current = current;
        files = refl;
        aids = refl;
        channels = refl;
        by_path = found;
        by_aid = named;
        by_child = child;
        status = acts_success (success_word changes after) (success_is changes after);
        more = λ m. absurd (no_more (success_word changes after) (success_is changes after) m);
        answered = λ a q. absurd (not_both c.p2 h q);
      })
      (λ h. cond_both card.get_response (with_waiting after (Some (record { channel = channel.number; bytes = bytes })), refusal (0x6100 + length_byte (length bytes))) (answers changes after bytes) (Selects card place channel c)
      (λ g. record {
        app = app;
        current = current;
        files = refl;
        aids = refl;
        channels = refl;
        by_path = found;
        by_aid = named;
        by_child = child;
        status = acts_more (0x6100 + length_byte (length bytes)) (more_is (length bytes));
        more = λ m. (four c.p2 p2 h, refl);
        answered = λ a q. absurd (no_more (0x6100 + length_byte (length bytes)) a (more_is (length bytes)));
      })
      (λ g. record {
        app = app;
        current = current;
        files = refl;
        aids = refl;
        channels = refl;
        by_path = found;
        by_aid = named;
        by_child = child;
        status = acts_success (success_word changes after) (success_is changes after);
        more = λ m. absurd (no_more (success_word changes after) (success_is changes after) m);
        answered = λ a q. refl;
      }))

  application_does : is_select_form c ≡ true → is_one_of c.p2 (0x04 ∷ 0x0C ∷ []) ≡ true → (c.p1 == 0x04) ≡ true → (app : Option ℕ) → application_named c.body card ≡ app → SelectDoes (select_found changes card place channel c app)
  application_does form p2 p1 None e = inl (record { keeps = same_card card _ refl; status = refl; word = sym form; missing = λ e q. absurd (grind arith); len = λ e q. absurd (grind arith); by_aid = λ m q. e })
  application_does form p2 p1 (Some app) e = inr (selected_answer (Some app) (Some (application_id ∷ [])) (λ h. absurd (grind arith)) (λ h. record { app_is = sym e; there = (app, refl); current_is = refl }) (λ h. absurd (grind arith)) p2)

  path_len : is_select_length c ≡ true → (c.p1 == 0x08) ≡ true → is_one_of (length c.body) (2 ∷ 4 ∷ 6 ∷ []) ≡ true
  path_len len e = grind arith

  ids_does : is_select_form c ≡ true → is_one_of c.p2 (0x04 ∷ 0x0C ∷ []) ≡ true → is_select_length c ≡ true → (c.p1 == 0x04) ≡ false → SelectDoes (select_ids changes card place channel c (selected_ids card channel c))
  ids_does form p2 len other = cond_both (is_selectable card channel (selected_ids card channel c)) (selection_answer changes card place (record channel { current = path_of (selected_ids card channel c) }) c) (refuses card 0x6A82) SelectDoes
      (λ h. inr (selected_answer channel.app (path_of (selected_ids card channel c)) (λ e. record {
        current_is = by_p1 e;
        app_is = refl;
        selectable = subst (λ ids. is_selectable card channel ids ≡ true) (ids_by_p1 e) h;
        len = path_len len e;
      }) (λ e. absurd (false≢true (sym other ∙ e))) (λ e. refl) p2))
      (λ h. inl (record { keeps = same_card card _ refl; status = refl; word = sym form; missing = λ m e. subst (λ ids. is_selectable card channel ids ≡ false) (ids_by_p1 e) h; len = λ m e. path_len len e; by_aid = λ m e. absurd (false≢true (sym other ∙ e)) }))
    where
      ids_by_p1 : (c.p1 == 0x08) ≡ true → selected_ids card channel c ≡ ids_of c.body
      ids_by_p1 e = rw e refl

      by_p1 : (c.p1 == 0x08) ≡ true → path_of (selected_ids card channel c) ≡ path_of (ids_of c.body)
      by_p1 e = ap path_of (ids_by_p1 e)

  pub select_does : SelectDoes (select_row changes card place channel c)
  unfolding select_row
  select_does = cond_both (not (is_one_of c.p1 (0x00 ∷ 0x04 ∷ 0x08 ∷ [])) || not (is_one_of c.p2 (0x04 ∷ 0x0C ∷ []))) (refuses card 0x6A86)
      (if not (is_select_length c) then refuses card 0x6700 else if c.p1 == 0x04 then select_application changes card place channel c else select_ids changes card place channel c (selected_ids card channel c)) SelectDoes
      (λ h. select_refused 0x6A86 refl refl (form_wrong (is_one_of c.p1 (0x00 ∷ 0x04 ∷ 0x08 ∷ [])) (is_one_of c.p2 (0x04 ∷ 0x0C ∷ [])) (is_select_length c) h))
      (λ h. cond_both (not (is_select_length c)) (refuses card 0x6700) (if c.p1 == 0x04 then select_application changes card place channel c else select_ids changes card place channel c (selected_ids card channel c)) SelectDoes
      (λ l. select_refused 0x6700 refl refl (form_long (is_one_of c.p1 (0x00 ∷ 0x04 ∷ 0x08 ∷ []) && is_one_of c.p2 (0x04 ∷ 0x0C ∷ [])) (is_select_length c) l))
      (λ l. let f = form_right (is_one_of c.p1 (0x00 ∷ 0x04 ∷ 0x08 ∷ [])) (is_one_of c.p2 (0x04 ∷ 0x0C ∷ [])) (is_select_length c) h l in
      cond_both (c.p1 == 0x04) (select_application changes card place channel c) (select_ids changes card place channel c (selected_ids card channel c)) SelectDoes
      (λ e. application_does f.0 f.1 e (application_named c.body card) refl)
      (λ e. ids_does f.0 f.1 (not-false (is_select_length c) l) e)))

-- ---- MANAGE CHANNEL

closed_facts : (card : CardState) (left from number : ℕ) → first_closed card left from ≡ Some number → (is_open number card ≡ false) × (from ≤ number)
closed_facts card zero from number h = absurd (cc)
closed_facts card (suc left) from number h = elim (cases_Bool (is_open from card)) [
  | inl e ↦ (let q : first_closed card left (from + 1) ≡ Some number = (rw e at h) in let r = closed_facts card left (from + 1) number q in (r.0, omega arith))
  | inr e ↦ (let q : Some from ≡ Some number = (rw e at h) in let n : from ≡ number = cc in (subst (λ m. is_open m card ≡ false) n e, omega arith))
]

some_if : (b : Bool) (o : Option ℕ) (number : ℕ) → (if b then o else None) ≡ Some number → o ≡ Some number
some_if true o number h = h
some_if false o number h = absurd (cc)

module _ (changes : List Change) (card : CardState) (c : CommandValue) where
  abbrev ManageDoes : CardState × ResponseValue → Type 0
  ManageDoes p = Refuses card p ⊎ (Opens card c p ⊎ Closes card c p)

  free_facts : (number : ℕ) → free_number card ≡ Some number → (is_open number card ≡ false) × (1 ≤ number)
  free_facts number h = closed_facts card card.free 1 number (some_if (nat_lt (length card.channels) 20) (first_closed card card.free 1) number h)

  open_does : c.p1 ≡ 0x00 → (number : Option ℕ) → free_number card ≡ number → ManageDoes (open_number changes card number)
  open_does e None h = inl (refuses_by card _ refl)
  open_does e (Some number) h = let after : CardState = record card { channels = card.channels ++ fresh_channel number ∷ [] } in
      inr (inl (record { number = number; free = (free_facts number h).0; beside = (free_facts number h).1; files = refl; channels = refl; aids = refl; body = refl; status = success_is changes after; opening = e }))

  open_le_does : c.p1 ≡ 0x00 → (le : Option ℕ) → ManageDoes (open_with_le changes card le)
  open_le_does e None = inl (refuses_by card _ refl)
  open_le_does e (Some le) = cond_both (not (le == 1)) (refuses card 0x6C01) (open_number changes card (free_number card)) ManageDoes (λ h. inl (refuses_by card _ refl)) (λ h. open_does e (free_number card) refl)

  close_does : c.p1 ≡ 0x80 → (c.p2 == 0) ≡ false → (place : Option ℕ) → channel_place c.p2 card ≡ place → ManageDoes (close_place changes card place)
  close_does e b None h = inl (refuses_by card _ refl)
  close_does e b (Some place) h = let after : CardState = record card { channels = remove card.channels place } in
      inr (inr (record { place = place; at = h; beside = b; files = refl; channels = refl; aids = refl; status = success_is changes after; closing = e }))

  closing_does : c.p1 ≡ 0x80 → ManageDoes (close_channel changes card c)
  closing_does e = cond_both (c.p2 == 0x00) (refuses card 0x6A86) (if not (is_empty c.body) || is_some c.le then refuses card 0x6700 else close_place changes card (channel_place c.p2 card)) ManageDoes (λ h. inl (refuses_by card _ refl))
      (λ b. cond_both (not (is_empty c.body) || is_some c.le) (refuses card 0x6700) (close_place changes card (channel_place c.p2 card)) ManageDoes (λ h. inl (refuses_by card _ refl)) (λ h. close_does e b (channel_place c.p2 card) refl))

  opening_does : c.p1 ≡ 0x00 → ManageDoes (open_channel changes card c)
  opening_does e = cond_both (not (c.p2 == 0x00)) (refuses card 0x6A86) (open_with_le changes card (wanted_le c)) ManageDoes (λ h. inl (refuses_by card _ refl)) (λ h. open_le_does e (wanted_le c))

  pub manage_does : ManageDoes (manage_channel_row changes card c)
  unfolding manage_channel_row
  manage_does = cond_both (c.p1 == 0x00) (open_channel changes card c) (if c.p1 == 0x80 then close_channel changes card c else refuses card 0x6A86) ManageDoes
      (λ h. opening_does (eqb-true c.p1 0 h))
      (λ h. cond_both (c.p1 == 0x80) (close_channel changes card c) (refuses card 0x6A86) ManageDoes (λ e. closing_does (eqb-true c.p1 0x80 e)) (λ e. inl (refuses_by card _ refl)))
