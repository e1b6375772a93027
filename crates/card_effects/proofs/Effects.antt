-- What any command does to a card: the rows of the card's table as one list of effects.
use Rattle.std.proofs.Common.{◌≡◌, inl, inr, ℕ, ◌==◌, ◌≤◌, length, Bool, true, false, ◌&&◌, if◌then◌else◌, Option, Some, None, List, refl, ap, sym, ◌∙◌, subst, arith}
use Rattle.std.specs.Prelude.{slice_get, find, position}
use Rattle.std.proofs.lemmas.Bool.{cond_both, cases_Bool, eqb-true, and_parts, and_right, false≢true}
use Rattle.std.specs.List.{position_or_len}
use Rattle.std.proofs.lemmas.List.Folds.{find_at}
use Rattle.std.proofs.lemmas.List.Quantifiers.{position-Some}
use Rattle.std.proofs.lemmas.Option.{slice_get-get_or, slice_get_past, none-some}
use Rattle.apdu.specs.Values.{CommandValue, ResponseValue}
use Rattle.apdu.specs.Words.{has_value}
use Rattle.apdu.specs.Apdu.{wants_other_le, channel_of, select_ins, get_response_ins, status_ins, read_binary_ins, update_binary_ins, read_record_ins, update_record_ins, verify_ins, manage_channel_ins, terminal_profile_ins, fetch_ins, terminal_response_ins}
use Rattle.apdu.specs.declared.class.ClassKind.{ClassKind}
use Rattle.apdu.specs.declared.class.ClassKind.TheVariants.{Plain, Toolkit}
use Rattle.card_model.specs.Instructions.{instruction_of, kind_of, is_get_response}
use Rattle.card_model.specs.Step.{on_row, on_kind, on_channel, on_place, on_class, on_card, same_kind}
use Rattle.card_model.specs.declared.instruction.Instruction.{Instruction}
use Rattle.card_model.specs.declared.instruction.Instruction.TheVariants.{Select, GetResponse, Status, ReadBinary, UpdateBinary, ReadRecord, UpdateRecord, Verify, ManageChannel, TerminalProfile, Fetch, TerminalResponse}
use Rattle.card_model.specs.declared.world.ChannelState.{ChannelState}
use Rattle.card_model.specs.declared.world.Change.{Change}
use Rattle.card_model.specs.declared.world.CardState.{CardState}
use Rattle.card_model.specs.Card.{has_number, channel_place, fresh_channel}
use Rattle.card_model.specs.Answers.{refuses, with_waiting}
use Rattle.card_model.specs.Waiting.{WaitingValue}
use Rattle.card_model.specs.GetResponse.{waits_on, without_waiting, has_waiting_on}
use Rattle.card_effects.specs.Effect.{acted, acts, asks_le, asks_target, selects_on_basic, basic, IsOn, Keeps, RecordGiven, BinaryGiven, Gets, IsPathFound, IsAidFound, Updates, Effect, quiet, refuses_select, reads_record, reads_binary, gets, selects, updates_record, updates_binary, opens, closes, hands_over}
use Rattle.card_effects.proofs.Table.{Refuses, refuses_by, status_keeps, profile_keeps, response_keeps, verify_keeps, get_response_does, read_binary_does, read_record_does, update_binary_does, update_record_does, select_does, manage_does, fetch_does}

-- ---- the whole table

abbrev pub ins_of : Instruction → ℕ
ins_of Select = select_ins
ins_of GetResponse = get_response_ins
ins_of Status = status_ins
ins_of ReadBinary = read_binary_ins
ins_of UpdateBinary = update_binary_ins
ins_of ReadRecord = read_record_ins
ins_of UpdateRecord = update_record_ins
ins_of Verify = verify_ins
ins_of ManageChannel = manage_channel_ins
ins_of TerminalProfile = terminal_profile_ins
ins_of Fetch = fetch_ins
ins_of TerminalResponse = terminal_response_ins

by_ins : (ins n : ℕ) (r : Instruction) (rest : Option Instruction) (row : Instruction) → (if ins == n then Some r else rest) ≡ Some row → n ≡ ins_of r → (rest ≡ Some row → ins ≡ ins_of row) → ins ≡ ins_of row
by_ins ins n r rest row h e next = elim (cases_Bool (ins == n)) [
  | inl b ↦ (let q : Some r ≡ Some row = (rw b at h) in let same : r ≡ row = cc in eqb-true ins n b ∙ e ∙ ap ins_of same)
  | inr b ↦ next (rw b at h)
]

pub instruction_is : (ins : ℕ) (row : Instruction) → instruction_of ins ≡ Some row → ins ≡ ins_of row
instruction_is ins row h = by_ins ins select_ins Select _ row h refl (λ h. by_ins ins get_response_ins GetResponse _ row h refl (λ h. by_ins ins status_ins Status _ row h refl
    (λ h. by_ins ins read_binary_ins ReadBinary _ row h refl (λ h. by_ins ins update_binary_ins UpdateBinary _ row h refl (λ h. by_ins ins read_record_ins ReadRecord _ row h refl
    (λ h. by_ins ins update_record_ins UpdateRecord _ row h refl (λ h. by_ins ins verify_ins Verify _ row h refl (λ h. by_ins ins manage_channel_ins ManageChannel _ row h refl
    (λ h. by_ins ins terminal_profile_ins TerminalProfile _ row h refl (λ h. by_ins ins fetch_ins Fetch _ row h refl (λ h. by_ins ins terminal_response_ins TerminalResponse _ row h refl (λ h. absurd (cc)))))))))))))

no_select : (card : CardState) (c : CommandValue) (ins : ℕ) → c.ins ≡ ins → (ins == select_ins) ≡ false → selects_on_basic c ≡ true → basic card ≡ None
no_select card c ins e n h = absurd (let q = (and_parts (c.class == 0) (c.ins == select_ins) h).1 in false≢true (sym n ∙ ap (λ i. i == select_ins) (sym e) ∙ q))

others_quiet : (changes : List Change) (card : CardState) (c : CommandValue) (p : CardState × ResponseValue) (ins : ℕ) → c.ins ≡ ins → acts ins ≡ false → asks_le ins ≡ false → asks_target ins ≡ false → (ins == select_ins) ≡ false → Keeps card p → Effect changes card c p
others_quiet changes card c p ins e a b d n k = quiet k (record { acts = rw (e, a) refl; le = rw (e, b) refl; select = rw (e, d) refl; basic = no_select card c ins e n })

refused_quiet : (changes : List Change) (card : CardState) (c : CommandValue) (p : CardState × ResponseValue) (ins : ℕ) → c.ins ≡ ins → asks_le ins ≡ false → asks_target ins ≡ false → (ins == select_ins) ≡ false → Refuses card p → Effect changes card c p
refused_quiet changes card c p ins e b d n r = quiet r.keeps (record { acts = and_right (acts c.ins) (acted p.1.sw) r.status; le = rw (e, b) refl; select = rw (e, d) refl; basic = no_select card c ins e n })

plain_kind : (kind : ClassKind) → same_kind Plain kind ≡ true → kind ≡ Plain
plain_kind Plain h = refl
plain_kind Toolkit h = absurd (cc)

module _ (changes : List Change) (card : CardState) (kind : ClassKind) (number place : ℕ) (channel : ChannelState) (c : CommandValue) (on : IsOn card c kind number place channel) where
  plain_on : same_kind Plain kind ≡ true → IsOn card c Plain number place channel
  plain_on h = record { class = on.class ∙ ap (λ k. Some (k, number)) (plain_kind kind h); at = on.at; found = on.found }

  row_effect : (row : Instruction) → c.ins ≡ ins_of row → same_kind (kind_of row) kind ≡ true → Effect changes card c (on_row changes card place channel c row)
  row_effect Select e h = elim (select_does changes card place channel c) [ inl r ↦ refuses_select number place channel (plain_on h) e r | inr d ↦ selects number place channel (plain_on h) e d ]
  row_effect GetResponse e h = gets number place channel (plain_on h) e (get_response_does changes card channel c)
  row_effect Status e h = others_quiet changes card c _ status_ins e refl refl refl refl (status_keeps changes card c)
  row_effect ReadBinary e h = reads_binary number place channel (plain_on h) e (read_binary_does changes card channel c)
  row_effect UpdateBinary e h = elim (update_binary_does changes card channel c) [ inl r ↦ refused_quiet changes card c _ _ e refl refl refl r | inr d ↦ updates_binary number place channel (plain_on h) e d ]
  row_effect ReadRecord e h = reads_record number place channel (plain_on h) e (read_record_does changes card channel c)
  row_effect UpdateRecord e h = elim (update_record_does changes card channel c) [ inl r ↦ refused_quiet changes card c _ _ e refl refl refl r | inr d ↦ updates_record number place channel (plain_on h) e d ]
  row_effect Verify e h = others_quiet changes card c _ verify_ins e refl refl refl refl (verify_keeps changes card c)
  row_effect ManageChannel e h = elim (manage_does changes card c) [ inl r ↦ refused_quiet changes card c _ _ e refl refl refl r | inr d ↦ elim d [ inl o ↦ opens e o | inr q ↦ closes e q ] ]
  row_effect TerminalProfile e h = others_quiet changes card c _ terminal_profile_ins e refl refl refl refl (profile_keeps changes card c)
  row_effect Fetch e h = elim (fetch_does changes card c) [ inl r ↦ refused_quiet changes card c _ _ e refl refl refl r | inr d ↦ hands_over e d ]
  row_effect TerminalResponse e h = others_quiet changes card c _ terminal_response_ins e refl refl refl refl (response_keeps changes card c)

-- ---- what was waiting makes no difference

module _ (changes : List Change) (card : CardState) (c : CommandValue) (p : CardState × ResponseValue) where
  same_keeps : Keeps (with_waiting card None) p → Keeps card p
  same_keeps k = record { files = k.files; channels = k.channels; aids = k.aids; more = k.more }

  same_on : (number place : ℕ) (channel : ChannelState) → IsOn (with_waiting card None) c Plain number place channel → IsOn card c Plain number place channel
  same_on number place channel o = record { class = o.class; at = o.at; found = o.found }

  abbrev same_updates : (channel : ChannelState) → Updates (with_waiting card None) channel p → Updates card channel p
  same_updates channel u = record { place = u.place; file = u.file; index = u.index; row = u.row; at = u.at; found = u.found; files = u.files; channels = u.channels; aids = u.aids; status = u.status }

  same_path : (channel : ChannelState) (app : Option ℕ) (current : Option (List ℕ)) → IsPathFound (with_waiting card None) channel c app current → IsPathFound card channel c app current
  same_path channel app current f = record { current_is = f.current_is; app_is = f.app_is; selectable = f.selectable; len = f.len }

  same_aid : (app : Option ℕ) (current : Option (List ℕ)) → IsAidFound (with_waiting card None) c app current → IsAidFound card c app current
  same_aid app current f = record { app_is = f.app_is; there = f.there; current_is = f.current_is }

  same_row : (channel : ChannelState) → RecordGiven (with_waiting card None) channel c p.1.body → RecordGiven card channel c p.1.body
  same_row channel g = record { file = g.file; at = g.at; linear = g.linear; row = g.row }

  same_bytes_given : (channel : ChannelState) → BinaryGiven (with_waiting card None) channel c p.1.body → BinaryGiven card channel c p.1.body
  same_bytes_given channel g = record { file = g.file; at = g.at; transparent = g.transparent; endless = g.endless; le = g.le; wanted = g.wanted; fits = g.fits; bytes = g.bytes }

  same_effect : (c.ins ≡ get_response_ins → ⊥) → Effect changes (with_waiting card None) c p → Effect changes card c p
  same_effect unlike (quiet k e) = quiet (same_keeps k) (record { acts = e.acts; le = e.le; select = e.select; basic = e.basic })
  same_effect unlike (refuses_select number place channel on e d) = refuses_select number place channel (same_on number place channel on) e (record { keeps = same_keeps d.keeps; status = d.status; word = d.word; missing = d.missing; len = d.len; by_aid = d.by_aid })
  same_effect unlike (reads_record number place channel on e d) = reads_record number place channel (same_on number place channel on) e (record { keeps = same_keeps d.keeps; given = λ s. same_row channel (d.given s) })
  same_effect unlike (reads_binary number place channel on e d) = reads_binary number place channel (same_on number place channel on) e (record { keeps = same_keeps d.keeps; given = λ s. same_bytes_given channel (d.given s); other = d.other })
  same_effect unlike (gets number place channel on e d) = absurd (unlike e)
  same_effect unlike (selects number place channel on e d) = selects number place channel (same_on number place channel on) e (record {
    app = d.app;
    current = d.current;
    files = d.files;
    aids = d.aids;
    channels = d.channels;
    by_path = λ h. same_path channel d.app d.current (d.by_path h);
    by_aid = λ h. same_aid d.app d.current (d.by_aid h);
    by_child = d.by_child;
    status = d.status;
    more = d.more;
    answered = d.answered;
  })
  same_effect unlike (updates_record number place channel on e d) = updates_record number place channel (same_on number place channel on) e (record { updates = same_updates channel d.updates; index = d.index; row = d.row; fits = d.fits })
  same_effect unlike (updates_binary number place channel on e d) = updates_binary number place channel (same_on number place channel on) e (record { updates = same_updates channel d.updates; index = d.index; row = d.row; fits = d.fits })
  same_effect unlike (opens e d) = opens e (record { number = d.number; free = d.free; beside = d.beside; files = d.files; channels = d.channels; aids = d.aids; body = d.body; status = d.status; opening = d.opening })
  same_effect unlike (closes e d) = closes e (record { place = d.place; at = d.at; beside = d.beside; files = d.files; channels = d.channels; aids = d.aids; status = d.status; closing = d.closing })
  same_effect unlike (hands_over e d) = hands_over e (record { change = d.change; armed = d.armed; files = d.files; channels = d.channels; aids = d.aids; response = d.response })

-- ---- what any command does

module _ (changes : List Change) (card : CardState) (c : CommandValue) where
  none_waits : (channel : ChannelState) → has_waiting_on card channel ≡ false → (w : WaitingValue) → card.waiting ≡ Some w → (w.channel == channel.number) ≡ true → ⊥
  none_waits channel unlike w e on = let h : has_value (waits_on channel) (Some w) ≡ false = subst (λ (o : Option WaitingValue). has_value (waits_on channel) o ≡ false) e unlike in false≢true (sym h ∙ on)

  unwaited : (channel : ChannelState) → has_waiting_on card channel ≡ false → {p : CardState × ResponseValue} → Gets (with_waiting card None) channel p → Gets card channel p
  unwaited channel unlike {p} g = record { keeps = same_keeps changes card c p g.keeps; given = λ w e on s. absurd (none_waits channel unlike w e on); waits = λ w e on s. absurd (none_waits channel unlike w e on); found = g.found }

  on_waiting : (kind : ClassKind) (number place : ℕ) (channel : ChannelState) → IsOn card c kind number place channel → (row : Instruction) → c.ins ≡ ins_of row → same_kind (kind_of row) kind ≡ true → (b : Bool) → (b ≡ false → c.ins ≡ get_response_ins → has_waiting_on card channel ≡ false) → Effect changes card c (on_row changes (if b then card else with_waiting card None) place channel c row)
  on_waiting kind number place channel on row e h true w = row_effect changes card kind number place channel c on row e h
  on_waiting kind number place channel on GetResponse e h false w = gets number place channel (plain_on changes card kind number place channel c on h) e (unwaited channel (w refl e) (get_response_does changes (with_waiting card None) channel c))
  on_waiting kind number place channel on Select e h false w = same_effect changes card c _ (λ g. absurd (omega arith)) (row_effect changes (with_waiting card None) kind number place channel c (record { class = on.class; at = on.at; found = on.found }) Select e h)
  on_waiting kind number place channel on Status e h false w = same_effect changes card c _ (λ g. absurd (omega arith)) (row_effect changes (with_waiting card None) kind number place channel c (record { class = on.class; at = on.at; found = on.found }) Status e h)
  on_waiting kind number place channel on ReadBinary e h false w = same_effect changes card c _ (λ g. absurd (omega arith)) (row_effect changes (with_waiting card None) kind number place channel c (record { class = on.class; at = on.at; found = on.found }) ReadBinary e h)
  on_waiting kind number place channel on UpdateBinary e h false w = same_effect changes card c _ (λ g. absurd (omega arith)) (row_effect changes (with_waiting card None) kind number place channel c (record { class = on.class; at = on.at; found = on.found }) UpdateBinary e h)
  on_waiting kind number place channel on ReadRecord e h false w = same_effect changes card c _ (λ g. absurd (omega arith)) (row_effect changes (with_waiting card None) kind number place channel c (record { class = on.class; at = on.at; found = on.found }) ReadRecord e h)
  on_waiting kind number place channel on UpdateRecord e h false w = same_effect changes card c _ (λ g. absurd (omega arith)) (row_effect changes (with_waiting card None) kind number place channel c (record { class = on.class; at = on.at; found = on.found }) UpdateRecord e h)
  on_waiting kind number place channel on Verify e h false w = same_effect changes card c _ (λ g. absurd (omega arith)) (row_effect changes (with_waiting card None) kind number place channel c (record { class = on.class; at = on.at; found = on.found }) Verify e h)
  on_waiting kind number place channel on ManageChannel e h false w = same_effect changes card c _ (λ g. absurd (omega arith)) (row_effect changes (with_waiting card None) kind number place channel c (record { class = on.class; at = on.at; found = on.found }) ManageChannel e h)
  on_waiting kind number place channel on TerminalProfile e h false w = same_effect changes card c _ (λ g. absurd (omega arith)) (row_effect changes (with_waiting card None) kind number place channel c (record { class = on.class; at = on.at; found = on.found }) TerminalProfile e h)
  on_waiting kind number place channel on Fetch e h false w = same_effect changes card c _ (λ g. absurd (omega arith)) (row_effect changes (with_waiting card None) kind number place channel c (record { class = on.class; at = on.at; found = on.found }) Fetch e h)
  on_waiting kind number place channel on TerminalResponse e h false w = same_effect changes card c _ (λ g. absurd (omega arith)) (row_effect changes (with_waiting card None) kind number place channel c (record { class = on.class; at = on.at; found = on.found }) TerminalResponse e h)

  refusal_effect : (w : ℕ) → acted w ≡ false → wants_other_le w ≡ false → (w == 0x6A82) ≡ false → (selects_on_basic c ≡ true → basic card ≡ None) → Effect changes card c (refuses card w)
  refusal_effect w h o m b = quiet (refuses_by card w h).keeps (record { acts = and_right (acts c.ins) (acted w) h; le = and_right (asks_le c.ins) (wants_other_le w) o; select = and_right (asks_target c.ins) (w == 0x6A82) m; basic = b })

  waits_not : (channel : ChannelState) (row : Instruction) → c.ins ≡ ins_of row → (is_get_response row && has_waiting_on card channel) ≡ false → c.ins ≡ get_response_ins → has_waiting_on card channel ≡ false
  waits_not channel GetResponse e b g = b
  waits_not channel Select e b g = absurd (omega arith)
  waits_not channel Status e b g = absurd (omega arith)
  waits_not channel ReadBinary e b g = absurd (omega arith)
  waits_not channel UpdateBinary e b g = absurd (omega arith)
  waits_not channel ReadRecord e b g = absurd (omega arith)
  waits_not channel UpdateRecord e b g = absurd (omega arith)
  waits_not channel Verify e b g = absurd (omega arith)
  waits_not channel ManageChannel e b g = absurd (omega arith)
  waits_not channel TerminalProfile e b g = absurd (omega arith)
  waits_not channel Fetch e b g = absurd (omega arith)
  waits_not channel TerminalResponse e b g = absurd (omega arith)

  class_zero : selects_on_basic c ≡ true → c.class ≡ 0
  class_zero h = eqb-true c.class 0 (and_parts (c.class == 0) (c.ins == select_ins) h).0

  ins_select : selects_on_basic c ≡ true → c.ins ≡ select_ins
  ins_select h = eqb-true c.ins select_ins (and_parts (c.class == 0) (c.ins == select_ins) h).1

  -- the class of a SELECT on the basic channel is plain, and its channel the basic one
  abbrev on_basic : Option (ClassKind × ℕ)
  on_basic = Some (Plain, 0)

  basic_class : (class : Option (ClassKind × ℕ)) → channel_of c.class ≡ class → selects_on_basic c ≡ true → on_basic ≡ class
  basic_class class e h = sym (ap channel_of (class_zero h)) ∙ e

  basic_row : (row : Option Instruction) → instruction_of c.ins ≡ row → selects_on_basic c ≡ true → Some Select ≡ row
  basic_row row e h = sym (ap instruction_of (ins_select h)) ∙ e

  abbrev class_or : Option (ClassKind × ℕ) → ClassKind × ℕ
  class_or None = (Plain, 0)
  class_or (Some class) = class

  same_number_of : (kind : ClassKind) (number : ℕ) → on_basic ≡ Some (kind, number) → (Plain ≡ kind) × (0 ≡ number)
  same_number_of kind number e = (ap (λ o. (class_or o).0) e, ap (λ o. (class_or o).1) e)

  none_past : (channels : List ChannelState) (n : ℕ) → position (has_number n) channels ≡ None → length channels ≤ position_or_len (has_number n) channels
  none_past channels n h = grind arith

  pub none_found : (channels : List ChannelState) (n : ℕ) → position (has_number n) channels ≡ None → find (has_number n) channels ≡ None
  none_found channels n h = find_at (has_number n) channels ∙ slice_get_past channels (position_or_len (has_number n) channels) (none_past channels n h)

  none_basic : (kind : ClassKind) (number : ℕ) → channel_of c.class ≡ Some (kind, number) → channel_place number card ≡ None → selects_on_basic c ≡ true → basic card ≡ None
  none_basic kind number class at h = none_found card.channels 0 (subst (λ n. channel_place n card ≡ None) (sym (same_number_of kind number (basic_class (Some (kind, number)) class h)).1) at)

  on_kind_effect : (kind : ClassKind) (number place : ℕ) (channel : ChannelState) → IsOn card c kind number place channel → (row : Option Instruction) → instruction_of c.ins ≡ row → Effect changes card c (on_kind changes card place channel kind c row)
  on_kind_effect kind number place channel on None e = refusal_effect 0x6D00 refl refl refl (λ h. absurd (let q = basic_row None e h in cc))
  on_kind_effect kind number place channel on (Some row) e =
      cond_both (same_kind (kind_of row) kind) (on_row changes (without_waiting card channel row) place channel c row) (refuses card 0x6E00) (Effect changes card c)
      (λ h. on_waiting kind number place channel on row (instruction_is c.ins row e) h (is_get_response row && has_waiting_on card channel) (waits_not channel row (instruction_is c.ins row e)))
      (λ h. refusal_effect 0x6E00 refl refl refl (λ s. absurd (unlike_kind h (basic_row (Some row) e s) (same_number_of kind number (basic_class (Some (kind, number)) on.class s)).0)))
    where
      unlike_kind : same_kind (kind_of row) kind ≡ false → Some Select ≡ Some row → Plain ≡ kind → ⊥
      unlike_kind h r k = let same : Select ≡ row = cc in let t : same_kind (kind_of row) kind ≡ true = rw (sym same, sym k) refl in false≢true (sym h ∙ t)

  on_channel_effect : (kind : ClassKind) (number place : ℕ) → channel_of c.class ≡ Some (kind, number) → channel_place number card ≡ Some place → (channel : Option ChannelState) → slice_get card.channels place ≡ channel → Effect changes card c (on_channel changes card place kind channel c)
  on_channel_effect kind number place class at None found = refusal_effect 0x6881 refl refl refl (λ h. absurd (let q = position-Some (has_number number) card.channels place (fresh_channel 0) at in none-some _ (sym found ∙ slice_get-get_or card.channels place (fresh_channel 0) q.0)))
  on_channel_effect kind number place class at (Some channel) found = on_kind_effect kind number place channel (record { class = class; at = at; found = found }) (instruction_of c.ins) refl

  on_place_effect : (kind : ClassKind) (number : ℕ) → channel_of c.class ≡ Some (kind, number) → (place : Option ℕ) → channel_place number card ≡ place → Effect changes card c (on_place changes card kind place c)
  on_place_effect kind number class None at = refusal_effect 0x6881 refl refl refl (none_basic kind number class at)
  on_place_effect kind number class (Some place) at = on_channel_effect kind number place class at (slice_get card.channels place) refl

  on_class_effect : (class : Option (ClassKind × ℕ)) → channel_of c.class ≡ class → Effect changes card c (on_class changes card class c)
  on_class_effect None e = refusal_effect 0x6E00 refl refl refl (λ h. absurd (let q = basic_class None e h in cc))
  on_class_effect (Some (kind, number)) e = on_place_effect kind number e (channel_place number card) refl

  pub effect : Effect changes card c (on_card changes card c)
  unfolding on_card
  effect = on_class_effect (channel_of c.class) refl
