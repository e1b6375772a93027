-- What a card answers to the MANAGE CHANNEL of an open, and to that of a close.
use Rattle.std.proofs.Common.{◌≡◌, ◌≤◌, ◌<◌, ℕ, zero, suc, ◌+◌, ◌==◌, ◌||◌, not, Bool, true, false, if◌then◌else◌, Option, Some, None, List, [], ◌∷◌, map, length, inl, inr, ◌++◌, refl, ap, sym, ◌∙◌, subst, arith, true≢false, get_or}
use Rattle.std.specs.Prelude.{slice_get, nat_lt, position, find, is_some, filter, option_map}
use Rattle.std.proofs.lemmas.Bool.{eqb-true, eq-eqb, ltb-true, cases_Bool}
use Rattle.std.specs.List.{remove}
use Rattle.std.proofs.lemmas.List.Quantifiers.{position-Some}
use Rattle.std.proofs.lemmas.Option.{slice_get-get_or, slice_get-map}
use Rattle.apdu.specs.Values.{ResponseValue}
use Rattle.apdu.specs.Words.{is_one_of}
use Rattle.apdu.specs.Apdu.{is_success, wants_more}
use Rattle.apdu.specs.declared.class.ClassKind.TheVariants.{Plain}
use Rattle.card_model.specs.declared.world.ChannelState.{ChannelState}
use Rattle.card_model.specs.declared.world.Change.{Change}
use Rattle.card_model.specs.declared.world.CardState.{CardState}
use Rattle.card_model.specs.Card.{has_number, channel_place, fresh_channel}
use Rattle.card_model.specs.Answers.{refuses, success_word, with_waiting}
use Rattle.card_model.specs.Channels.{is_open, first_closed, free_number, open_number, close_place, manage_channel_row}
use Rattle.card_model.specs.Step.{on_card, on_place, on_channel}
use Rattle.card_effects.specs.Numbers.{number_of, numbers}
use Rattle.card_effects.proofs.Effects.{none_found}
use Rattle.card_effects.proofs.Table.{success_is, no_more_by, no_other_by}
use Rattle.channels.specs.Channels.{open_command, close_command}

-- ---- so many numbers in a list

abbrev others_of : ℕ → List ℕ → List ℕ
others_of n xs = filter (λ x. not (x == n)) xs

or_true : (b c : Bool) → c ≡ true → (b || c) ≡ true
or_true true c h = refl
or_true false c h = h

at_first : (m x : ℕ) (xs : List ℕ) → (x == m) ≡ true → is_one_of m (x ∷ xs) ≡ true
at_first m x xs e = rw e refl

at_rest : (m x : ℕ) (xs : List ℕ) → (x == m) ≡ false → is_one_of m (x ∷ xs) ≡ is_one_of m xs
at_rest m x xs e = rw e refl

-- one that is another stays
stays_by : (b : Bool) (n m x : ℕ) (xs : List ℕ) → (x == n) ≡ b → (m == n) ≡ false → (is_one_of m xs ≡ true → is_one_of m (others_of n xs) ≡ true) → is_one_of m (x ∷ xs) ≡ true → is_one_of m (if not b then x ∷ others_of n xs else others_of n xs) ≡ true
stays_by true n m x xs e u h t = h (sym (at_rest m x xs (let same : x ≡ n = eqb-true x n e in grind arith)) ∙ t)
stays_by false n m x xs e u h t = by_same (x == m) refl t
  where
    by_same : (d : Bool) → (x == m) ≡ d → is_one_of m (x ∷ xs) ≡ true → is_one_of m (x ∷ others_of n xs) ≡ true
    by_same true q g = at_first m x (others_of n xs) q
    by_same false q g = at_rest m x (others_of n xs) q ∙ h (sym (at_rest m x xs q) ∙ g)

filtered : (b : Bool) (n x : ℕ) (xs : List ℕ) → (x == n) ≡ b → others_of n (x ∷ xs) ≡ (if not b then x ∷ others_of n xs else others_of n xs)
filtered b n x xs e = rw e refl

stays : (n m : ℕ) (xs : List ℕ) → (m == n) ≡ false → is_one_of m xs ≡ true → is_one_of m (others_of n xs) ≡ true
stays n m [] u t = t
stays n m (x ∷ xs) u t = ap (is_one_of m) (filtered (x == n) n x xs refl) ∙ stays_by (x == n) n m x xs refl u (stays n m xs u) t

at_most_by : (b : Bool) (x : ℕ) (ys xs : List ℕ) → length ys ≤ length xs → length (if not b then x ∷ ys else ys) ≤ suc (length xs)
at_most_by true x ys xs h = omega arith
at_most_by false x ys xs h = omega arith

at_most : (n : ℕ) (xs : List ℕ) → length (others_of n xs) ≤ length xs
at_most n [] = omega arith
at_most n (x ∷ xs) = at_most_by (x == n) x (others_of n xs) xs (at_most n xs)

fewer_by : (b : Bool) (n x : ℕ) (xs : List ℕ) → (x == n) ≡ b → (is_one_of n xs ≡ true → length (others_of n xs) < length xs) → is_one_of n (x ∷ xs) ≡ true → length (if not b then x ∷ others_of n xs else others_of n xs) < suc (length xs)
fewer_by true n x xs e h t = let m = at_most n xs in omega arith
fewer_by false n x xs e h t = let m = h (sym (at_rest n x xs e) ∙ t) in omega arith

fewer : (n : ℕ) (xs : List ℕ) → is_one_of n xs ≡ true → length (others_of n xs) < length xs
fewer n [] t = absurd (true≢false (sym t))
fewer n (x ∷ xs) t = fewer_by (x == n) n x xs refl (fewer n xs) t

-- where each number below a bound is in it, it is as long
below_length : (n : ℕ) (xs : List ℕ) → ((m : ℕ) → m < n → is_one_of m xs ≡ true) → n ≤ length xs
below_length zero xs h = omega arith
below_length (suc n) xs h =
    let p = below_length n (others_of n xs) (λ m l. stays n m xs (unlike m l) (h m (further m l))) in
    let q = fewer n xs (h n (last n)) in
    omega arith
  where
    unlike : (m : ℕ) → m < n → (m == n) ≡ false
    unlike m l = grind arith

    further : (m : ℕ) → m < n → m < suc n
    further m l = omega arith

    last : (m : ℕ) → m < suc m
    last m = omega arith

-- ---- the open channels

one_of : (xs : List ℕ) (i m : ℕ) → slice_get xs i ≡ Some m → is_one_of m xs ≡ true
one_of [] i m h = absurd (cc)
one_of (x ∷ xs) zero m h = let same : x ≡ m = cc in at_first m x xs (eq-eqb x m same)
one_of (x ∷ xs) (suc i) m h = or_true (x == m) (is_one_of m xs) (one_of xs i m h)

none_of : (channels : List ChannelState) (n : ℕ) → find (has_number n) channels ≡ None → is_one_of n (map number_of channels) ≡ false
none_of [] n h = refl
none_of (x ∷ channels) n h = elim (cases_Bool (x.number == n)) [
  | inl e ↦ absurd (let q : Some x ≡ None = (rw e at h) in cc)
  | inr e ↦ at_rest n x.number (map number_of channels) e ∙ none_of channels n (rw e at h)
]

-- where a channel stands
pub record Placed (card : CardState) (n : ℕ) : Type 0 where
  pub place : ℕ
  pub channel : ChannelState
  pub at : channel_place n card ≡ Some place
  pub found : slice_get card.channels place ≡ Some channel

placed_by : (card : CardState) (n : ℕ) (o : Option ℕ) → position (has_number n) card.channels ≡ o → is_one_of n (numbers card) ≡ true → Placed card n
placed_by card n None e h = absurd (true≢false (sym h ∙ none_of card.channels n (none_found [] card open_command card.channels n e)))
placed_by card n (Some i) e h = record {
  place = i;
  channel = get_or card.channels i (fresh_channel 0);
  at = e;
  found = slice_get-get_or card.channels i (fresh_channel 0) (position-Some (has_number n) card.channels i (fresh_channel 0) e).0;
}

pub placed : (card : CardState) (n : ℕ) → is_one_of n (numbers card) ≡ true → Placed card n
placed card n h = placed_by card n (position (has_number n) card.channels) refl h

open_by : (card : CardState) (n : ℕ) (o : Option ℕ) → position (has_number n) card.channels ≡ o → is_some o ≡ true → is_one_of n (numbers card) ≡ true
open_by card n None e h = absurd (true≢false (sym h))
open_by card n (Some i) e h =
    let q = position-Some (has_number n) card.channels i (fresh_channel 0) e in
    let x : ChannelState = get_or card.channels i (fresh_channel 0) in
    let is : x.number ≡ n = eqb-true x.number n q.1 in
    one_of (numbers card) i n (slice_get-map number_of card.channels i ∙ ap (option_map number_of) (slice_get-get_or card.channels i (fresh_channel 0) q.0) ∙ ap (λ m. Some m) is)

open_is : (card : CardState) (n : ℕ) → is_open n card ≡ true → is_one_of n (numbers card) ≡ true
open_is card n h = open_by card n (position (has_number n) card.channels) refl h

-- ---- the number that a card gives

-- each number before the first that is closed is open
before_closed : (card : CardState) (left from n m : ℕ) → first_closed card left from ≡ Some n → from ≤ m → m < n → is_open m card ≡ true
before_closed card zero from n m h l g = absurd (cc)
before_closed card (suc left) from n m h l g = elim (cases_Bool (is_open from card)) [
  | inl e ↦ (elim (cases_Bool (from == m)) [
    | inl same ↦ subst (λ (x : ℕ). is_open x card ≡ true) (eqb-true from m same) e
    | inr other ↦ before_closed card left (from + 1) n m (rw e at h) (let u : (from == m) ≡ false = other in grind arith) g
  ])
  | inr e ↦ absurd (let q : Some from ≡ Some n = (rw e at h) in let same : from ≡ n = cc in let x : m < from = subst (λ (y : ℕ). m < y) (sym same) g in let bad : ⊥ = omega arith in bad)
]

some_if : (b : Bool) (o : Option ℕ) (n : ℕ) → (if b then o else None) ≡ Some n → (b ≡ true) × (o ≡ Some n)
some_if true o n h = (refl, h)
some_if false o n h = absurd (cc)

free_few : (card : CardState) (n : ℕ) → is_one_of 0 (numbers card) ≡ true → free_number card ≡ Some n → n ≤ 19
free_few card n basic h =
    let q = some_if (nat_lt (length card.channels) 20) (first_closed card card.free 1) n h in
    let room : length card.channels < 20 = ltb-true (length card.channels) 20 q.0 in
    let all : n ≤ length (numbers card) = below_length n (numbers card) (λ m l. each m l) in
    let same : length (numbers card) ≡ length card.channels = as_long card.channels in
    omega arith
  where
    as_long : (channels : List ChannelState) → length (map number_of channels) ≡ length channels
    as_long [] = refl
    as_long (x ∷ channels) = ap suc (as_long channels)

    each : (m : ℕ) → m < n → is_one_of m (numbers card) ≡ true
    each zero l = basic
    each (suc m) l = open_is card (suc m) (before_closed card card.free 1 n (suc m) (some_if (nat_lt (length card.channels) 20) (first_closed card card.free 1) n h).1 (omega arith) l)

-- ---- what an open is answered

pub record IsOpenAnswer (r : ResponseValue) : Type 0 where
  pub final : wants_more r.sw ≡ false
  pub few : (n : ℕ) → is_success r.sw ≡ true → r.body ≡ n ∷ [] → n ≤ 19

final_by : (sw : ℕ) → is_success sw ≡ true → wants_more sw ≡ false
final_by sw h = rw (no_more_by sw h, no_other_by sw h) refl

module _ (changes : List Change) where
  number_answer : (card : CardState) (o : Option ℕ) → is_one_of 0 (numbers card) ≡ true → free_number card ≡ o → IsOpenAnswer (open_number changes card o).1
  number_answer card None basic e = record { final = refl; few = λ n h b. absurd (true≢false (sym h)) }
  number_answer card (Some number) basic e =
      let after : CardState = record card { channels = card.channels ++ fresh_channel number ∷ [] } in
      record {
        final = final_by (success_word changes after) (success_is changes after);
        few = λ n h b. subst (λ (m : ℕ). m ≤ 19) (let same : number ≡ n = cc in same) (free_few card number basic e);
      }

  row_answer : (card : CardState) → is_one_of 0 (numbers card) ≡ true → IsOpenAnswer (manage_channel_row changes card open_command).1
  unfolding manage_channel_row
  row_answer card basic = number_answer card (free_number card) basic refl

  place_answer : (card : CardState) (place : ℕ) (o : Option ChannelState) → slice_get card.channels place ≡ o → is_some o ≡ true → is_one_of 0 (numbers card) ≡ true → IsOpenAnswer (on_channel changes card place Plain o open_command).1
  place_answer card place None e h basic = absurd (true≢false (sym h))
  place_answer card place (Some channel) e h basic = row_answer (with_waiting card None) basic

  class_answer : (card : CardState) (o : Option ℕ) → channel_place 0 card ≡ o → is_one_of 0 (numbers card) ≡ true → IsOpenAnswer (on_place changes card Plain o open_command).1
  class_answer card o e basic =
      let p : Placed card 0 = placed card 0 basic in
      subst (λ (q : Option ℕ). IsOpenAnswer (on_place changes card Plain q open_command).1) (sym p.at ∙ e)
      (place_answer card p.place (slice_get card.channels p.place) refl (ap is_some p.found) basic)

  -- a card whose basic channel is open gives a number up to 19, or refuses
  pub open_answer : (card : CardState) → is_one_of 0 (numbers card) ≡ true → IsOpenAnswer (on_card changes card open_command).1
  unfolding on_card
  open_answer card basic = class_answer card (channel_place 0 card) refl basic

  -- ---- what a close is answered

  closing_row : (card : CardState) (n : ℕ) → (n == 0) ≡ false → is_one_of n (numbers card) ≡ true → is_success (manage_channel_row changes card (close_command n)).1.sw ≡ true
  unfolding manage_channel_row
  closing_row card n beside there = by_zero (n == 0) beside
    where
      by_place : (o : Option ℕ) → is_some o ≡ true → is_success (close_place changes card o).1.sw ≡ true
      by_place None h = absurd (true≢false (sym h))
      by_place (Some place) h = success_is changes (record card { channels = remove card.channels place })

      by_zero : (b : Bool) → b ≡ false → is_success (if b then refuses card 0x6A86 else close_place changes card (channel_place n card)).1.sw ≡ true
      by_zero true h = absurd (true≢false h)
      by_zero false h = by_place (channel_place n card) (ap is_some (placed card n there).at)

  place_closes : (card : CardState) (n place : ℕ) (o : Option ChannelState) → is_some o ≡ true → (n == 0) ≡ false → is_one_of n (numbers card) ≡ true → is_success (on_channel changes card place Plain o (close_command n)).1.sw ≡ true
  place_closes card n place None h beside there = absurd (true≢false (sym h))
  place_closes card n place (Some channel) h beside there = closing_row (with_waiting card None) n beside there

  -- a card closes a channel that is open beside the basic one
  pub close_answer : (card : CardState) (n : ℕ) → is_one_of 0 (numbers card) ≡ true → (n == 0) ≡ false → is_one_of n (numbers card) ≡ true → is_success (on_card changes card (close_command n)).1.sw ≡ true
  unfolding on_card
  close_answer card n basic beside there =
      let p : Placed card 0 = placed card 0 basic in
      subst (λ (q : Option ℕ). is_success (on_place changes card Plain q (close_command n)).1.sw ≡ true) (sym p.at)
      (place_closes card n p.place (slice_get card.channels p.place) (ap is_some p.found) beside there)
