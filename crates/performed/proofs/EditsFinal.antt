-- The card answers an UPDATE neither with 61XX nor with 6CXX.
use Rattle.std.proofs.Common.{◌≡◌, ℕ, ◌+◌, ◌==◌, ◌||◌, not, Bool, true, false, if◌then◌else◌, Option, Some, None, List, length, refl, sym, ap, ◌∙◌, true≢false}
use Rattle.std.specs.Prelude.{nat_lt, nat_le, slice_get}
use Rattle.apdu.specs.Values.{CommandValue, ResponseValue}
use Rattle.apdu.specs.Words.{is_empty, or_else}
use Rattle.apdu.specs.Apdu.{wants_more, wants_other_le, is_update_ins, channel_of}
use Rattle.apdu.specs.declared.class.ClassKind.{ClassKind}
use Rattle.fcp.specs.Content.{first_row}
use Rattle.fcp.specs.declared.rule.Need.{Need}
use Rattle.card_model.specs.declared.instruction.Instruction.{Instruction}
use Rattle.card_model.specs.declared.instruction.Instruction.TheVariants.{Select, GetResponse, Status, ReadBinary, UpdateBinary, ReadRecord, UpdateRecord, Verify, ManageChannel, TerminalProfile, Fetch, TerminalResponse}
use Rattle.card_model.specs.declared.instruction.Part.{Part}
use Rattle.card_model.specs.declared.instruction.Part.TheVariants.{Binary, Record}
use Rattle.card_model.specs.declared.world.FileState.{FileState}
use Rattle.card_model.specs.declared.world.ChannelState.{ChannelState}
use Rattle.card_model.specs.declared.world.Change.{Change}
use Rattle.card_model.specs.declared.world.CardState.{CardState}
use Rattle.card_model.specs.Card.{channel_place, rule_of, current_place}
use Rattle.card_model.specs.Instructions.{instruction_of, kind_of}
use Rattle.card_model.specs.Answers.{refuses, unless_refused, succeeds, success_word, body_len, parameters}
use Rattle.card_model.specs.Parts.{is_part_of, is_named, part_refusal, access_refusal}
use Rattle.card_model.specs.Card.{is_met}
use Rattle.card_model.specs.Update.{body_refusal, fit_refusal, update_refusal, with_part, with_file_at, update_found, update_at, update_binary_row, update_record_row}
use Rattle.card_model.specs.GetResponse.{without_waiting}
use Rattle.card_model.specs.Step.{on_row, on_kind, on_channel, on_place, on_class, on_card, same_kind}
use Rattle.card_effects.proofs.Effects.{ins_of, instruction_is}
use Rattle.card_effects.proofs.Table.{success_no_more, success_no_other}

abbrev IsFinal : CardState × ResponseValue → Type 0
IsFinal p = wants_more p.1.sw ≡ false

-- ---- the words of a refusal

abbrev AllFinal : Option ℕ → Type 0
AllFinal None = Unit {0}
AllFinal (Some word) = wants_more word ≡ false

or_final : (a b : Option ℕ) → AllFinal a → AllFinal b → AllFinal (or_else a b)
or_final None b p q = q
or_final (Some w) b p q = p

test_final : (b : Bool) (w : ℕ) (rest : Option ℕ) → wants_more w ≡ false → AllFinal rest → AllFinal (if b then Some w else rest)
test_final true w rest p q = p
test_final false w rest p q = q

part_final : (part : Part) (file : FileState) (c : CommandValue) → AllFinal (part_refusal part file c)
part_final part file c = test_final (not (is_part_of file.rows.kind part)) 0x6981 (if not (is_named c part) then Some 0x6A86 else None) refl (test_final (not (is_named c part)) 0x6A86 None refl _)

access_final : (card : CardState) (file : FileState) (need : Need) → AllFinal (access_refusal card file need)
access_final card file need = test_final (not file.active) 0x6985 (if not (is_met card need) then Some 0x6982 else None) refl (test_final (not (is_met card need)) 0x6982 None refl _)

fit_final : (part : Part) (file : FileState) (c : CommandValue) → AllFinal (fit_refusal part file c)
fit_final Binary file c =
    test_final (nat_le (length (first_row file.rows.rows)) (parameters c)) 0x6B00 (if nat_lt (length (first_row file.rows.rows)) (parameters c + body_len c) then Some 0x6700 else None) refl
    (test_final (nat_lt (length (first_row file.rows.rows)) (parameters c + body_len c)) 0x6700 None refl _)
fit_final Record file c = test_final (nat_lt (length file.rows.rows) c.p1) 0x6A83 (if not (body_len c == file.rows.width) then Some 0x6700 else None) refl (test_final (not (body_len c == file.rows.width)) 0x6700 None refl _)

update_words : (card : CardState) (part : Part) (file : FileState) (c : CommandValue) → AllFinal (update_refusal card part file c)
update_words card part file c =
    or_final (part_refusal part file c) (or_else (body_refusal c) (or_else (access_refusal card file (rule_of card file).update) (fit_refusal part file c))) (part_final part file c)
    (or_final (body_refusal c) (or_else (access_refusal card file (rule_of card file).update) (fit_refusal part file c)) (test_final (is_empty c.body) 0x6700 None refl _)
    (or_final (access_refusal card file (rule_of card file).update) (fit_refusal part file c) (access_final card file (rule_of card file).update) (fit_final part file c)))

-- ---- the rows of the table

success_final : (changes : List Change) (card : CardState) → wants_more (success_word changes card) ≡ false
success_final changes card = ap (λ (b : Bool). b || wants_other_le (success_word changes card)) (success_no_more changes card) ∙ success_no_other changes card

module _ (changes : List Change) (card : CardState) (channel : ChannelState) (c : CommandValue) where
  unless_final : (o : Option ℕ) (behind : CardState) → AllFinal o → IsFinal (unless_refused card o (succeeds changes behind))
  unless_final None behind h = success_final changes behind
  unless_final (Some word) behind h = h

  found_final : (part : Part) (place : ℕ) (o : Option FileState) → IsFinal (update_found changes card part c place o)
  found_final part place None = refl
  found_final part place (Some file) = unless_final (update_refusal card part file c) (with_file_at card place (with_part part file c)) (update_words card part file c)

  at_final : (part : Part) (o : Option ℕ) → IsFinal (update_at changes card part c o)
  at_final part None = refl
  at_final part (Some place) = found_final part place (slice_get card.files place)

  binary_final : IsFinal (update_binary_row changes card channel c)
  unfolding update_binary_row
  binary_final = at_final Binary (current_place card channel)

  record_final : IsFinal (update_record_row changes card channel c)
  unfolding update_record_row
  record_final = at_final Record (current_place card channel)

unlike : {X : Type 0} (ins n : ℕ) → ins ≡ n → is_update_ins n ≡ false → is_update_ins ins ≡ true → X
unlike ins n e misses h = absurd (true≢false (sym h ∙ ap is_update_ins e ∙ misses))

module _ (changes : List Change) (card : CardState) (place : ℕ) (channel : ChannelState) (c : CommandValue) (update : is_update_ins c.ins ≡ true) where
  row_final : (row : Instruction) → c.ins ≡ ins_of row → IsFinal (on_row changes (without_waiting card channel row) place channel c row)
  row_final UpdateBinary e = binary_final changes (without_waiting card channel UpdateBinary) channel c
  row_final UpdateRecord e = record_final changes (without_waiting card channel UpdateRecord) channel c
  row_final Select e = unlike c.ins (ins_of Select) e refl update
  row_final GetResponse e = unlike c.ins (ins_of GetResponse) e refl update
  row_final Status e = unlike c.ins (ins_of Status) e refl update
  row_final ReadBinary e = unlike c.ins (ins_of ReadBinary) e refl update
  row_final ReadRecord e = unlike c.ins (ins_of ReadRecord) e refl update
  row_final Verify e = unlike c.ins (ins_of Verify) e refl update
  row_final ManageChannel e = unlike c.ins (ins_of ManageChannel) e refl update
  row_final TerminalProfile e = unlike c.ins (ins_of TerminalProfile) e refl update
  row_final Fetch e = unlike c.ins (ins_of Fetch) e refl update
  row_final TerminalResponse e = unlike c.ins (ins_of TerminalResponse) e refl update

  kind_by : (kind : ClassKind) (row : Instruction) (b : Bool) → c.ins ≡ ins_of row → IsFinal (if b then on_row changes (without_waiting card channel row) place channel c row else refuses card 0x6E00)
  kind_by kind row true e = row_final row e
  kind_by kind row false e = refl

  kind_final : (kind : ClassKind) (o : Option Instruction) → instruction_of c.ins ≡ o → IsFinal (on_kind changes card place channel kind c o)
  kind_final kind None e = refl
  kind_final kind (Some row) e = kind_by kind row (same_kind (kind_of row) kind) (instruction_is c.ins row e)

module _ (changes : List Change) (card : CardState) (c : CommandValue) (update : is_update_ins c.ins ≡ true) where
  channel_final : (kind : ClassKind) (place : ℕ) (o : Option ChannelState) → IsFinal (on_channel changes card place kind o c)
  channel_final kind place None = refl
  channel_final kind place (Some channel) = kind_final changes card place channel c update kind (instruction_of c.ins) refl

  place_final : (kind : ClassKind) (o : Option ℕ) → IsFinal (on_place changes card kind o c)
  place_final kind None = refl
  place_final kind (Some place) = channel_final kind place (slice_get card.channels place)

  class_final : (o : Option (ClassKind × ℕ)) → IsFinal (on_class changes card o c)
  class_final None = refl
  class_final (Some class) = place_final class.0 (channel_place class.1 card)

  -- an UPDATE is answered at once
  pub update_final : wants_more (on_card changes card c).1.sw ≡ false
  unfolding on_card
  update_final = class_final (channel_of c.class)
