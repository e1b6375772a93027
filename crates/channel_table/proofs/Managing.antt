-- What the card's row of MANAGE CHANNEL says, where the basic channel is open.
use Rattle.std.proofs.Common.{◌≡◌, inl, inr, ℕ, zero, suc, ◌+◌, ◌<◌, ◌≤◌, ◌==◌, Bool, true, false, ◌||◌, not, if◌then◌else◌, Option, Some, None, is_some, List, [], ◌∷◌, length, refl, ap, sym, ◌∙◌, subst, arith, get_or, nat_lt}
use Rattle.std.specs.Prelude.{slice_get, find, map, position, option_map}
use Rattle.std.specs.List.{remove}
use Rattle.std.proofs.lemmas.Bool.{eqb-true, eq-eqb, cases_Bool, false≢true}
use Rattle.std.proofs.lemmas.List.{length-map}
use Rattle.std.proofs.lemmas.List.Quantifiers.{position-Some}
use Rattle.std.proofs.lemmas.Option.{slice_get-get_or, slice_get-map}
use Rattle.apdu.specs.Values.{CommandValue, ResponseValue}
use Rattle.apdu.specs.Words.{is_one_of}
use Rattle.apdu.specs.Apdu.{channel_of, manage_channel_ins, is_success}
use Rattle.apdu.specs.declared.class.ClassKind.TheVariants.{Plain}
use Rattle.card_model.specs.declared.world.ChannelState.{ChannelState}
use Rattle.card_model.specs.declared.world.Change.{Change}
use Rattle.card_model.specs.declared.world.CardState.{CardState}
use Rattle.card_model.specs.Card.{has_number, channel_place, fresh_channel}
use Rattle.card_model.specs.Answers.{refuses, wanted_le, with_waiting}
use Rattle.card_model.specs.Instructions.{instruction_of}
use Rattle.card_model.specs.Channels.{is_open, first_closed, free_number, open_number, open_with_le, open_channel, close_place, close_channel, manage_channel_row}
use Rattle.card_model.specs.Step.{on_kind, on_channel, on_place, on_class, on_card}
use Rattle.card_effects.specs.Numbers.{number_of, numbers}
use Rattle.card_effects.proofs.Effects.{none_found}
use Rattle.card_effects.proofs.Table.{success_is}
use Rattle.channels.specs.Channels.{close_command}
use Rattle.channel_table.proofs.Lists.{one_first, one_behind, at_least}

-- ---- a number among those of the open channels

none_of : (channels : List ChannelState) (n : ℕ) → find (has_number n) channels ≡ None → is_one_of n (map number_of channels) ≡ false
none_of [] n h = refl
none_of (x ∷ channels) n h = elim (cases_Bool (x.number == n)) [
  | inl e ↦ absurd (let q : Some x ≡ None = (rw e at h) in cc)
  | inr e ↦ one_behind n x.number (map number_of channels) e ∙ none_of channels n (rw e at h)
]

number_there : (channels : List ChannelState) (n i : ℕ) → position (has_number n) channels ≡ Some i → slice_get (map number_of channels) i ≡ Some n
number_there channels n i h =
    let q = position-Some (has_number n) channels i (fresh_channel 0) h in
    let x : ChannelState = get_or channels i (fresh_channel 0) in
    let is : x.number ≡ n = eqb-true x.number n q.1 in
    slice_get-map number_of channels i ∙ ap (option_map number_of) (slice_get-get_or channels i (fresh_channel 0) q.0) ∙ ap (λ m. Some m) is

there_by : (xs : List ℕ) (i m : ℕ) → slice_get xs i ≡ Some m → is_one_of m xs ≡ true
there_by [] i m h = absurd (cc)
there_by (x ∷ xs) zero m h = let same : x ≡ m = cc in one_first m x xs (eq-eqb x m same)
there_by (x ∷ xs) (suc i) m h = or_true (x == m) (is_one_of m xs) (there_by xs i m h)
  where
    or_true : (a b : Bool) → b ≡ true → (a || b) ≡ true
    or_true true b h = refl
    or_true false b h = h

open_number_is : (card : CardState) (n : ℕ) → is_open n card ≡ true → is_one_of n (numbers card) ≡ true
open_number_is card n h = by_place (channel_place n card) refl h
  where
    by_place : (o : Option ℕ) → channel_place n card ≡ o → is_some o ≡ true → is_one_of n (numbers card) ≡ true
    by_place None e q = absurd (cc)
    by_place (Some i) e q = there_by (numbers card) i n (number_there card.channels n i e)

record Place (card : CardState) (n : ℕ) : Type 0 where
  pub place : ℕ
  pub at : channel_place n card ≡ Some place
  pub channel : ChannelState
  pub found : slice_get card.channels place ≡ Some channel

place_of : (changes : List Change) (card : CardState) (c : CommandValue) (n : ℕ) → is_one_of n (numbers card) ≡ true → Place card n
place_of changes card c n h = by_place (channel_place n card) refl
  where
    by_place : (o : Option ℕ) → channel_place n card ≡ o → Place card n
    by_place None e = absurd (false≢true (sym (none_of card.channels n (none_found changes card c card.channels n e)) ∙ h))
    by_place (Some i) e = record { place = i; at = e; channel = get_or card.channels i (fresh_channel 0); found = let q = position-Some (has_number n) card.channels i (fresh_channel 0) e in slice_get-get_or card.channels i (fresh_channel 0) q.0 }

-- ---- the row

module _ (changes : List Change) (card : CardState) (basic : is_one_of 0 (numbers card) ≡ true) where
  by_row : (c : CommandValue) → c.class ≡ 0 → c.ins ≡ manage_channel_ins → (P : CardState × ResponseValue → Type 0) → P (manage_channel_row changes (with_waiting card None) c) → P (on_card changes card c)
  unfolding on_card
  by_row c class ins P row =
      let b = place_of changes card c 0 basic in
      subst (λ x. P (on_class changes card (channel_of x) c)) (sym class)
      (subst (λ o. P (on_place changes card Plain o c)) (sym b.at)
      (subst (λ o. P (on_channel changes card b.place Plain o c)) (sym b.found)
      (subst (λ x. P (on_kind changes card b.place b.channel Plain c (instruction_of x))) (sym ins) row)))

  -- ---- the channel that opens has the lowest number that is free

  module _ (k : CardState) (n : ℕ) (c : CommandValue) where
    at_number : (o : Option ℕ) → free_number k ≡ o → (open_number changes k o).1.body ≡ n ∷ [] → free_number k ≡ Some n
    at_number None e h = absurd (cc)
    at_number (Some m) e h = let same : m ≡ n = cc in e ∙ ap (λ (x : ℕ). Some x) same

    at_le : (o : Option ℕ) → (open_with_le changes k o).1.body ≡ n ∷ [] → free_number k ≡ Some n
    at_le None h = absurd (cc)
    at_le (Some le) h = by_one (le == 1) h
      where
        by_one : (b : Bool) → (if not b then refuses k 0x6C01 else open_number changes k (free_number k)).1.body ≡ n ∷ [] → free_number k ≡ Some n
        by_one false q = absurd (cc)
        by_one true q = at_number (free_number k) refl q

    at_mode : (b : Bool) → (if not b then refuses k 0x6A86 else open_with_le changes k (wanted_le c)).1.body ≡ n ∷ [] → free_number k ≡ Some n
    at_mode false h = absurd (cc)
    at_mode true h = at_le (wanted_le c) h

    row_low : c.p1 ≡ 0x00 → (manage_channel_row changes k c).1.body ≡ n ∷ [] → free_number k ≡ Some n
    unfolding manage_channel_row
    row_low p h = at_mode (c.p2 == 0x00) (sym (ap (λ (b : Bool). (if b then open_channel changes k c else if c.p1 == 0x80 then close_channel changes k c else refuses k 0x6A86).1.body) (eq-eqb c.p1 0 p)) ∙ h)

  lowest : (c : CommandValue) (n : ℕ) → c.class ≡ 0 → c.ins ≡ manage_channel_ins → c.p1 ≡ 0x00 → (on_card changes card c).1.body ≡ n ∷ [] → free_number card ≡ Some n
  lowest c n class ins p = by_row c class ins (λ x. x.1.body ≡ n ∷ [] → free_number card ≡ Some n) (row_low (with_waiting card None) n c p)

  below_open : (left from n : ℕ) → first_closed card left from ≡ Some n → (m : ℕ) → from ≤ m → m < n → is_open m card ≡ true
  below_open zero from n h m l u = absurd (cc)
  below_open (suc left) from n h m l u = by_open (below_open left (from + 1) n) (is_open from card) refl h
    where
      by_open : (first_closed card left (from + 1) ≡ Some n → (m : ℕ) → from + 1 ≤ m → m < n → is_open m card ≡ true) → (b : Bool) → is_open from card ≡ b → (if b then first_closed card left (from + 1) else Some from) ≡ Some n → is_open m card ≡ true
      by_open g true e q = elim (cases_Bool (from == m)) [
        | inl s ↦ (let same : from ≡ m = eqb-true from m s in subst (λ x. is_open x card ≡ true) same e)
        | inr s ↦ g q m (grind arith) u
      ]
      by_open g false e q = absurd (let same : from ≡ n = cc in grind arith)

  few : (n : ℕ) → (b : Bool) → nat_lt (length card.channels) 20 ≡ b → (if b then first_closed card card.free 1 else None) ≡ Some n → (n ≤ 19)
  few n false e h = absurd (cc)
  few n true e h = elim (cases_Bool (nat_lt n 20)) [
    | inl s ↦ grind arith
    | inr s ↦ absurd (
        let each : (m : ℕ) → m < 20 → is_one_of m (numbers card) ≡ true = λ m u. elim (cases_Bool (m == 0)) [
          | inl z ↦ (let zero_is : m ≡ 0 = eqb-true m 0 z in subst (λ x. is_one_of x (numbers card) ≡ true) (sym zero_is) basic)
          | inr z ↦ open_number_is card m (below_open card.free 1 n h m (grind arith) (grind arith))
        ] in
        let many : 20 ≤ length (numbers card) = at_least 20 (numbers card) each in
        let same : length (numbers card) ≡ length card.channels = length-map card.channels number_of in
        let less : length card.channels < 20 = grind arith in
        omega (arith, many, same, less))
  ]

  pub low_number : (c : CommandValue) (n : ℕ) → c.class ≡ 0 → c.ins ≡ manage_channel_ins → c.p1 ≡ 0x00 → (on_card changes card c).1.body ≡ n ∷ [] → n ≤ 19
  low_number c n class ins p h = few n (nat_lt (length card.channels) 20) refl (lowest c n class ins p h)

  -- ---- an open channel closes

  close_row : (k : CardState) (n : ℕ) → (n == 0) ≡ false → (place : ℕ) → channel_place n k ≡ Some place → is_success (manage_channel_row changes k (close_command n)).1.sw ≡ true
  unfolding manage_channel_row
  close_row k n beside place at =
      ap (λ (b : Bool). is_success (if b then refuses k 0x6A86 else close_place changes k (channel_place n k)).1.sw) beside
      ∙ ap (λ (o : Option ℕ). is_success (close_place changes k o).1.sw) at
      ∙ success_is changes (record k { channels = remove k.channels place })

  pub closes_open : (n : ℕ) → (n == 0) ≡ false → is_one_of n (numbers card) ≡ true → is_success (on_card changes card (close_command n)).1.sw ≡ true
  closes_open n beside h =
      let p = place_of changes card (close_command n) n h in
      by_row (close_command n) refl refl (λ x. is_success x.1.sw ≡ true) (close_row (with_waiting card None) n beside p.place p.at)
