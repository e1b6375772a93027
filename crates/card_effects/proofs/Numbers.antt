-- The numbers of the open channels behind a command.
use Rattle.std.proofs.Common.{◌≡◌, inl, inr, ℕ, zero, suc, ◌==◌, Bool, true, false, ◌&&◌, ◌||◌, Option, Some, None, List, [], ◌∷◌, ◌++◌, refl, ap, sym, ◌∙◌, subst, arith, get_or}
use Rattle.std.specs.Prelude.{slice_get, slice_set, find, map, position, is_some, option_map}
use Rattle.std.specs.List.{remove}
use Rattle.std.proofs.lemmas.Bool.{eqb-true, eq-eqb, cases_Bool, false≢true}
use Rattle.std.proofs.lemmas.List.{map-append}
use Rattle.std.proofs.lemmas.List.Quantifiers.{position-Some}
use Rattle.std.proofs.lemmas.Option.{slice_get-get_or, slice_get-map}
use Rattle.apdu.specs.Values.{CommandValue, ResponseValue}
use Rattle.apdu.specs.Words.{is_one_of}
use Rattle.apdu.specs.Apdu.{is_success, select_ins, read_record_ins, read_binary_ins, get_response_ins, update_record_ins, update_binary_ins, fetch_ins, manage_channel_ins}
use Rattle.card_model.specs.declared.world.ChannelState.{ChannelState}
use Rattle.card_model.specs.declared.world.Change.{Change}
use Rattle.card_model.specs.declared.world.CardState.{CardState}
use Rattle.card_model.specs.Card.{has_number, fresh_channel}
use Rattle.card_effects.specs.Effect.{acted, acts, selecting, Opens, Closes, Effect, quiet, refuses_select, reads_record, reads_binary, gets, selects, updates_record, updates_binary, opens, closes, hands_over}
use Rattle.card_effects.specs.Numbers.{number_of, numbers, AllApart, ChangesNumbers}
use Rattle.card_effects.proofs.Effects.{none_found}

-- ---- lists of numbers

one_first : (n x : ℕ) (xs : List ℕ) → (x == n) ≡ true → is_one_of n (x ∷ xs) ≡ true
one_first n x xs e = rw e refl

one_behind : (n x : ℕ) (xs : List ℕ) → (x == n) ≡ false → is_one_of n (x ∷ xs) ≡ is_one_of n xs
one_behind n x xs e = rw e refl

not_first : (a b : Bool) → (a || b) ≡ false → (a ≡ false) × (b ≡ false)
not_first false b h = (refl, h)
not_first true b h = absurd (cc)

one_appended : (n m : ℕ) (xs : List ℕ) → (m == n) ≡ false → is_one_of n (xs ++ m ∷ []) ≡ is_one_of n xs
one_appended n m [] e = one_behind n m [] e
one_appended n m (x ∷ xs) e = ap (λ b. (x == n) || b) (one_appended n m xs e)

unlike : (x m : ℕ) → (x == m) ≡ false → (m == x) ≡ false
unlike x m e = grind arith

apart_appended : (m : ℕ) (xs : List ℕ) → is_one_of m xs ≡ false → AllApart xs → AllApart (xs ++ m ∷ [])
apart_appended m [] h a = (refl, _)
apart_appended m (x ∷ xs) h a = let q = not_first (x == m) (is_one_of m xs) h in (one_appended x m xs (unlike x m q.0) ∙ a.0, apart_appended m xs q.1 a.1)

-- ---- a number removed

removed_other : (xs : List ℕ) (i m n : ℕ) → slice_get xs i ≡ Some m → (m == n) ≡ false → is_one_of n (remove xs i) ≡ is_one_of n xs
removed_other [] i m n h e = absurd (cc)
removed_other (x ∷ xs) zero m n h e = let same : x ≡ m = cc in sym (one_behind n x xs (ap (λ y. y == n) same ∙ e))
removed_other (x ∷ xs) (suc i) m n h e = ap (λ b. (x == n) || b) (removed_other xs i m n h e)

there_by : (xs : List ℕ) (i m : ℕ) → slice_get xs i ≡ Some m → is_one_of m xs ≡ true
there_by [] i m h = absurd (cc)
there_by (x ∷ xs) zero m h = let same : x ≡ m = cc in one_first m x xs (eq-eqb x m same)
there_by (x ∷ xs) (suc i) m h = or_true (x == m) (is_one_of m xs) (there_by xs i m h)
  where
    or_true : (a b : Bool) → b ≡ true → (a || b) ≡ true
    or_true true b h = refl
    or_true false b h = h

gone_by : (xs : List ℕ) (i m : ℕ) → slice_get xs i ≡ Some m → AllApart xs → is_one_of m (remove xs i) ≡ false
gone_by [] i m h a = absurd (cc)
gone_by (x ∷ xs) zero m h a = let same : x ≡ m = cc in subst (λ y. is_one_of y xs ≡ false) same a.0
gone_by (x ∷ xs) (suc i) m h a = by_first (x == m) refl (gone_by xs i m h a.1)
  where
    by_first : (b : Bool) → (x == m) ≡ b → is_one_of m (remove xs i) ≡ false → is_one_of m (x ∷ remove xs i) ≡ false
    by_first true e g = absurd (let same : x ≡ m = eqb-true x m e in let q : is_one_of m xs ≡ false = subst (λ y. is_one_of y xs ≡ false) same a.0 in false≢true (sym q ∙ there_by xs i m h))
    by_first false e g = one_behind m x (remove xs i) e ∙ g

fewer : (xs : List ℕ) (i n : ℕ) → is_one_of n xs ≡ false → is_one_of n (remove xs i) ≡ false
fewer [] zero n h = refl
fewer [] (suc i) n h = refl
fewer (x ∷ xs) zero n h = (not_first (x == n) (is_one_of n xs) h).1
fewer (x ∷ xs) (suc i) n h = let q = not_first (x == n) (is_one_of n xs) h in one_behind n x (remove xs i) q.0 ∙ fewer xs i n q.1

apart_removed : (xs : List ℕ) (i : ℕ) → AllApart xs → AllApart (remove xs i)
apart_removed [] zero a = a
apart_removed [] (suc i) a = a
apart_removed (x ∷ xs) zero a = a.1
apart_removed (x ∷ xs) (suc i) a = (fewer xs i x a.0, apart_removed xs i a.1)

-- ---- channels

map_set : (channels : List ChannelState) (i : ℕ) (old new : ChannelState) → slice_get channels i ≡ Some old → number_of new ≡ number_of old → map number_of (slice_set channels i new) ≡ map number_of channels
map_set [] i old new h e = refl
map_set (x ∷ channels) zero old new h e = let same : x ≡ old = cc in ap (λ n. n ∷ map number_of channels) (e ∙ ap number_of (sym same))
map_set (x ∷ channels) (suc i) old new h e = ap (λ (ns : List ℕ). number_of x ∷ ns) (map_set channels i old new h e)

map_remove : (channels : List ChannelState) (i : ℕ) → map number_of (remove channels i) ≡ remove (map number_of channels) i
map_remove [] zero = refl
map_remove [] (suc i) = refl
map_remove (x ∷ channels) zero = refl
map_remove (x ∷ channels) (suc i) = ap (λ (ns : List ℕ). number_of x ∷ ns) (map_remove channels i)

none_of : (channels : List ChannelState) (n : ℕ) → find (has_number n) channels ≡ None → is_one_of n (map number_of channels) ≡ false
none_of [] n h = refl
none_of (x ∷ channels) n h = elim (cases_Bool (x.number == n)) [
  | inl e ↦ absurd (let q : Some x ≡ None = (rw e at h) in cc)
  | inr e ↦ one_behind n x.number (map number_of channels) e ∙ none_of channels n (rw e at h)
]

not_some : (o : Option ℕ) → is_some o ≡ false → o ≡ None
not_some None h = refl
not_some (Some x) h = absurd (cc)

number_there : (channels : List ChannelState) (n i : ℕ) → position (has_number n) channels ≡ Some i → slice_get (map number_of channels) i ≡ Some n
number_there channels n i h =
    let q = position-Some (has_number n) channels i (fresh_channel 0) h in
    let x : ChannelState = get_or channels i (fresh_channel 0) in
    let is : x.number ≡ n = eqb-true x.number n q.1 in
    slice_get-map number_of channels i ∙ ap (option_map number_of) (slice_get-get_or channels i (fresh_channel 0) q.0) ∙ ap (λ m. Some m) is

module _ (changes : List Change) (card : CardState) (c : CommandValue) (p : CardState × ResponseValue) where
  keeps_by : ((c.ins == manage_channel_ins) && is_success p.1.sw) ≡ false → numbers p.0 ≡ numbers card → ChangesNumbers card c p
  keeps_by s e = record { does = inl (record { status = s; same = e }); apart = λ a. subst AllApart (sym e) a }

  same_by : (ins : ℕ) → c.ins ≡ ins → (ins == manage_channel_ins) ≡ false → numbers p.0 ≡ numbers card → ChangesNumbers card c p
  same_by ins i n e = keeps_by (rw (i, n) refl) e

  same_numbers : p.0.channels ≡ card.channels → numbers p.0 ≡ numbers card
  same_numbers e = ap (map number_of) e

  quiet_status : (acts c.ins && acted p.1.sw) ≡ false → ((c.ins == manage_channel_ins) && is_success p.1.sw) ≡ false
  quiet_status h = grind arith

  opened : c.ins ≡ manage_channel_ins → Opens card c p → ChangesNumbers card c p
  opened i d =
      let free : is_one_of d.number (numbers card) ≡ false = none_of card.channels d.number (none_found changes card c card.channels d.number (not_some (position (has_number d.number) card.channels) d.free)) in
      let added : numbers p.0 ≡ numbers card ++ d.number ∷ [] = ap (map number_of) d.channels ∙ map-append number_of card.channels (fresh_channel d.number ∷ []) in
      record {
        does = inr (inl (record { ins = i; opening = d.opening; status = d.status; number = d.number; body = d.body; beside = d.beside; free = free; added = added }));
        apart = λ a. subst AllApart (sym added) (apart_appended d.number (numbers card) free a);
      }

  closed : c.ins ≡ manage_channel_ins → Closes card c p → ChangesNumbers card c p
  closed i d =
      let there : slice_get (numbers card) d.place ≡ Some c.p2 = number_there card.channels c.p2 d.place d.at in
      let removed : numbers p.0 ≡ remove (numbers card) d.place = ap (map number_of) d.channels ∙ map_remove card.channels d.place in
      record {
        does = inr (inr (record {
          ins = i;
          closing = d.closing;
          status = d.status;
          beside = d.beside;
          there = there_by (numbers card) d.place c.p2 there;
          others = λ n e. ap (is_one_of n) removed ∙ removed_other (numbers card) d.place c.p2 n there e;
          gone = λ a. ap (is_one_of c.p2) removed ∙ gone_by (numbers card) d.place c.p2 there a;
        }));
        apart = λ a. subst AllApart (sym removed) (apart_removed (numbers card) d.place a);
      }

  -- channels open and close by MANAGE CHANNEL alone
  pub numbers_effect : Effect changes card c p → ChangesNumbers card c p
  numbers_effect (quiet k h) = keeps_by (quiet_status h.acts) (same_numbers k.channels)
  numbers_effect (refuses_select number place channel on e d) = same_by select_ins e refl (same_numbers d.keeps.channels)
  numbers_effect (reads_record number place channel on e d) = same_by read_record_ins e refl (same_numbers d.keeps.channels)
  numbers_effect (reads_binary number place channel on e d) = same_by read_binary_ins e refl (same_numbers d.keeps.channels)
  numbers_effect (gets number place channel on e d) = same_by get_response_ins e refl (same_numbers d.keeps.channels)
  numbers_effect (selects number place channel on e d) = same_by select_ins e refl (ap (map number_of) d.channels ∙ map_set card.channels place channel (selecting channel d.app d.current) on.found refl)
  numbers_effect (updates_record number place channel on e d) = same_by update_record_ins e refl (same_numbers d.updates.channels)
  numbers_effect (updates_binary number place channel on e d) = same_by update_binary_ins e refl (same_numbers d.updates.channels)
  numbers_effect (opens e d) = opened e d
  numbers_effect (closes e d) = closed e d
  numbers_effect (hands_over e d) = same_by fetch_ins e refl (same_numbers d.channels)
