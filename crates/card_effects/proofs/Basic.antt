-- The basic channel of a card: what a command changes of it.
use Rattle.std.proofs.Common.{◌≡◌, ◌⊎◌, inl, inr, ℕ, zero, suc, ◌==◌, ◌<◌, ◌≤◌, Bool, true, false, ◌&&◌, Option, Some, None, List, [], ◌∷◌, ◌++◌, length, refl, ap, sym, ◌∙◌, subst, arith, get_or}
use Rattle.std.specs.Prelude.{slice_get, slice_set, find, position}
use Rattle.std.specs.List.{remove, position_or_len}
use Rattle.std.specs.Option.{option_or}
use Rattle.std.proofs.lemmas.Bool.{eqb-true, eq-eqb, and_right}
use Rattle.std.proofs.lemmas.List.Folds.{find-set, find_past, find-append, find_at}
use Rattle.std.proofs.lemmas.Option.{slice_get-get_or}
use Rattle.std.proofs.lemmas.List.Quantifiers.{position-Some}
use Rattle.apdu.specs.Values.{CommandValue, ResponseValue}
use Rattle.apdu.specs.Words.{same_bytes, is_empty, path_of, is_one_of}
use Rattle.apdu.specs.Apdu.{channel_of, select_ins, read_record_ins, read_binary_ins, get_response_ins, manage_channel_ins}
use Rattle.apdu.specs.declared.class.ClassKind.TheVariants.{Plain}
use Rattle.card_model.specs.declared.world.ChannelState.{ChannelState}
use Rattle.card_model.specs.declared.world.CardState.{CardState}
use Rattle.card_model.specs.declared.world.Change.{Change}
use Rattle.card_model.specs.Card.{has_number, fresh_channel, application_id, is_selectable, is_visible}
use Rattle.card_model.specs.Select.{ids_of}
use Rattle.card_effects.specs.Effect.{acted, acts, selects_on_basic, basic, IsOn, selecting, Selects, Opens, Closes, Effect, quiet, refuses_select, reads_record, reads_binary, gets, selects, updates_record, updates_binary, opens, closes, hands_over}
use Rattle.card_effects.specs.Basic.{LeavesBasic, SelectsBasic, HasCurrent}

-- the first channel of this number
abbrev pub channel_in : ℕ → List ChannelState → Option ChannelState
channel_in number channels = find (has_number number) channels

find_first : {X : Type 0} (p : X → Bool) (x : X) (xs ys : List X) → find p xs ≡ find p ys → find p (x ∷ xs) ≡ find p (x ∷ ys)
find_first p x xs ys e = rw e refl

skip_first : {X : Type 0} (p : X → Bool) (x : X) (xs : List X) → p x ≡ false → find p (x ∷ xs) ≡ find p xs
skip_first p x xs e = rw e refl

remove_find : {X : Type 0} (p : X → Bool) (xs : List X) (i : ℕ) (d : X) → i < length xs → p (get_or xs i d) ≡ false → find p (remove xs i) ≡ find p xs
remove_find p [] i d h e = absurd (omega arith)
remove_find p (x ∷ xs) zero d h e = sym (skip_first p x xs e)
remove_find p (x ∷ xs) (suc i) d h e = find_first p x (remove xs i) xs (remove_find p xs i d (omega arith) e)

place_or_len : {X : Type 0} (p : X → Bool) (xs : List X) (i : ℕ) → position p xs ≡ Some i → (i ≡ position_or_len p xs) × (i < length xs)
place_or_len p xs i h = grind arith

pub place_found : {X : Type 0} (p : X → Bool) (xs : List X) (i : ℕ) → position p xs ≡ Some i → find p xs ≡ slice_get xs i
place_found p xs i h = find_at p xs ∙ ap (slice_get xs) (sym (place_or_len p xs i h).0)

pub place_passes : {X : Type 0} (p : X → Bool) (xs : List X) (i : ℕ) (x : X) → position p xs ≡ Some i → slice_get xs i ≡ Some x → p x ≡ true
place_passes p xs i x h g = let q = position-Some p xs i x h in
    let e : Some (get_or xs i x) ≡ Some x = sym (slice_get-get_or xs i x q.0) ∙ g in
    let same : get_or xs i x ≡ x = cc in subst (λ y. p y ≡ true) same q.1

pub set_at_place : {X : Type 0} (p : X → Bool) (xs : List X) (i : ℕ) (y : X) → position p xs ≡ Some i → p y ≡ true → find p (slice_set xs i y) ≡ Some y
set_at_place p xs i y h e = let q = place_or_len p xs i h in find-set p xs i y q.0 q.1 e

module _ (channels : List ChannelState) (number place : ℕ) (channel : ChannelState) (at : position (has_number number) channels ≡ Some place) (found : slice_get channels place ≡ Some channel) where
  pub number_is : channel.number ≡ number
  number_is = eqb-true channel.number number (place_passes (has_number number) channels place channel at found)

  pub channel_found : find (has_number number) channels ≡ Some channel
  channel_found = place_found (has_number number) channels place at ∙ found

  unlike : (other : ℕ) → (number == other) ≡ false → (x : ChannelState) → x.number ≡ number → has_number other x ≡ false
  unlike other h x e = rw e h

  there : get_or channels place channel ≡ channel
  there = let q = position-Some (has_number number) channels place channel at in
      let e : Some (get_or channels place channel) ≡ Some channel = sym (slice_get-get_or channels place channel q.0) ∙ found in cc

  -- another channel has another file current
  pub set_other : (other : ℕ) (y : ChannelState) → (number == other) ≡ false → y.number ≡ channel.number → find (has_number other) (slice_set channels place y) ≡ find (has_number other) channels
  set_other other y h e = find_past (has_number other) channels place y channel (rw there (unlike other h channel number_is)) (unlike other h y (e ∙ number_is))

  -- this channel has another file current
  pub set_same : (y : ChannelState) → y.number ≡ channel.number → find (has_number number) (slice_set channels place y) ≡ Some y
  set_same y e = set_at_place (has_number number) channels place y at (eq-eqb y.number number (e ∙ number_is))

  -- another channel is closed
  pub remove_other : (other : ℕ) → (number == other) ≡ false → find (has_number other) (remove channels place) ≡ find (has_number other) channels
  remove_other other h = remove_find (has_number other) channels place channel (place_or_len (has_number number) channels place at).1 (rw there (unlike other h channel number_is))

-- a channel beside is opened
pub append_other : (channels : List ChannelState) (number other : ℕ) → (number == other) ≡ false → find (has_number other) (channels ++ fresh_channel number ∷ []) ≡ find (has_number other) channels
append_other channels number other h = find-append (has_number other) channels (fresh_channel number ∷ []) ∙ rw h (option_or_none (find (has_number other) channels))
  where
    option_or_none : (o : Option ChannelState) → option_or o None ≡ o
    option_or_none None = refl
    option_or_none (Some x) = refl

-- ---- what a command changes of the basic channel

pub plain_basic : (class number : ℕ) → channel_of class ≡ Some (Plain, number) → (class == 0) ≡ (number == 0)
plain_basic class number h = grind arith

no_select : (c : CommandValue) → (c.ins == select_ins) ≡ false → selects_on_basic c ≡ false
no_select c h = grind arith

module _ (card : CardState) (c : CommandValue) (p : CardState × ResponseValue) where
  leaves_by : (ins : ℕ) → c.ins ≡ ins → (ins == select_ins) ≡ false → basic p.0 ≡ basic card → LeavesBasic card c p
  leaves_by ins e h b = let q : selects_on_basic c ≡ false = no_select c (rw e h) in record { status = rw q refl; behind = b }

  quiet_status : (acts c.ins && acted p.1.sw) ≡ false → (selects_on_basic c && acted p.1.sw) ≡ false
  quiet_status h = grind arith

  same_basic : p.0.channels ≡ card.channels → basic p.0 ≡ basic card
  same_basic e = rw e refl

  select_basic : (number place : ℕ) (channel : ChannelState) → IsOn card c Plain number place channel → c.ins ≡ select_ins → Selects card place channel c p → (b : Bool) → (number == 0) ≡ b → LeavesBasic card c p ⊎ SelectsBasic card c p
  select_basic number place channel on e d true h =
      let zero_is : number ≡ 0 = eqb-true number 0 h in
      let here : position (has_number 0) card.channels ≡ Some place = subst (λ n. position (has_number n) card.channels ≡ Some place) zero_is on.at in
      inr (record {
        place = place;
        channel = channel;
        found = channel_found card.channels 0 place channel here on.found;
        number = number_is card.channels 0 place channel here on.found;
        does = d;
        behind = rw d.channels (set_same card.channels 0 place channel here on.found (selecting channel d.app d.current) refl);
        select = let class : (c.class == 0) ≡ true = plain_basic c.class number on.class ∙ h in rw (class, e) refl;
      })
  select_basic number place channel on e d false h =
      let class : (c.class == 0) ≡ false = plain_basic c.class number on.class ∙ h in
      inl (record { status = rw class refl; behind = rw d.channels (set_other card.channels number place channel on.at on.found 0 (selecting channel d.app d.current) h refl) })

  close_basic : Closes card c p → basic p.0 ≡ basic card
  close_basic d = let q = position-Some (has_number c.p2) card.channels d.place (fresh_channel 0) d.at in
      rw d.channels (remove_other card.channels c.p2 d.place (get_or card.channels d.place (fresh_channel 0)) d.at (slice_get-get_or card.channels d.place (fresh_channel 0) q.0) 0 d.beside)

  open_basic : Opens card c p → basic p.0 ≡ basic card
  open_basic d = let h : (d.number == 0) ≡ false = let n : 1 ≤ d.number = d.beside in grind arith in rw d.channels (append_other card.channels d.number 0 h)

  pub basic_effect : (changes : List Change) → Effect changes card c p → LeavesBasic card c p ⊎ SelectsBasic card c p
  basic_effect changes (quiet k h) = inl (record { status = quiet_status h.acts; behind = same_basic k.channels })
  basic_effect changes (refuses_select number place channel on e d) = inl (record { status = and_right (selects_on_basic c) (acted p.1.sw) d.status; behind = same_basic d.keeps.channels })
  basic_effect changes (reads_record number place channel on e d) = inl (leaves_by read_record_ins e refl (same_basic d.keeps.channels))
  basic_effect changes (reads_binary number place channel on e d) = inl (leaves_by read_binary_ins e refl (same_basic d.keeps.channels))
  basic_effect changes (gets number place channel on e d) = inl (leaves_by get_response_ins e refl (same_basic d.keeps.channels))
  basic_effect changes (selects number place channel on e d) = select_basic number place channel on e d (number == 0) refl
  basic_effect changes (updates_record number place channel on e d) = inl (leaves_by _ e refl (same_basic d.updates.channels))
  basic_effect changes (updates_binary number place channel on e d) = inl (leaves_by _ e refl (same_basic d.updates.channels))
  basic_effect changes (opens e d) = inl (leaves_by manage_channel_ins e refl (open_basic d))
  basic_effect changes (closes e d) = inl (leaves_by manage_channel_ins e refl (close_basic d))
  basic_effect changes (hands_over e d) = inl (leaves_by _ e refl (same_basic d.channels))

-- ---- what is current

pub select_visible : (card : CardState) (channel : ChannelState) (path : List ℕ) → is_empty path ≡ false → is_selectable card channel path ≡ true → same_bytes path (application_id ∷ []) ≡ false → is_visible card channel path ≡ true
select_visible card channel path e h n = grind arith

pub ids_len : (body : List ℕ) → is_one_of (length body) (2 ∷ 4 ∷ 6 ∷ []) ≡ true → path_of (ids_of body) ≡ Some (ids_of body)
ids_len (a ∷ b ∷ []) h = refl
ids_len (a ∷ b ∷ c ∷ d ∷ []) h = refl
ids_len (a ∷ b ∷ c ∷ d ∷ e ∷ f ∷ []) h = refl
ids_len [] h = absurd (cc)
ids_len (a ∷ []) h = absurd (cc)
ids_len (a ∷ b ∷ c ∷ []) h = absurd (cc)
ids_len (a ∷ b ∷ c ∷ d ∷ e ∷ []) h = absurd (cc)
ids_len (a ∷ b ∷ c ∷ d ∷ e ∷ f ∷ g ∷ rest) h = absurd (let n : 7 ≤ length (a ∷ b ∷ c ∷ d ∷ e ∷ f ∷ g ∷ rest) = omega arith in grind arith)

pub ids_some : (body : List ℕ) → is_one_of (length body) (2 ∷ 4 ∷ 6 ∷ []) ≡ true → is_empty (ids_of body) ≡ false
ids_some (a ∷ b ∷ rest) h = refl
ids_some (a ∷ []) h = absurd (cc)
ids_some [] h = absurd (cc)

-- visibility depends on the applications alone
pub visible_on : (old new : CardState) (channel other : ChannelState) (path : List ℕ) → new.aids ≡ old.aids → other.app ≡ channel.app → is_visible old channel path ≡ true → is_visible new other path ≡ true
visible_on old new channel other path e a h = rw (e, a) h

pub effect_aids : (changes : List Change) (card : CardState) (c : CommandValue) (p : CardState × ResponseValue) → Effect changes card c p → p.0.aids ≡ card.aids
effect_aids changes card c p (quiet k h) = k.aids
effect_aids changes card c p (refuses_select number place channel on e d) = d.keeps.aids
effect_aids changes card c p (reads_record number place channel on e d) = d.keeps.aids
effect_aids changes card c p (reads_binary number place channel on e d) = d.keeps.aids
effect_aids changes card c p (gets number place channel on e d) = d.keeps.aids
effect_aids changes card c p (selects number place channel on e d) = d.aids
effect_aids changes card c p (updates_record number place channel on e d) = d.updates.aids
effect_aids changes card c p (updates_binary number place channel on e d) = d.updates.aids
effect_aids changes card c p (opens e d) = d.aids
effect_aids changes card c p (closes e d) = d.aids
effect_aids changes card c p (hands_over e d) = d.aids

-- what is current stays so where the channel and the applications do
pub current_stays : (old new : CardState) (path : List ℕ) → basic new ≡ basic old → new.aids ≡ old.aids → HasCurrent old path → HasCurrent new path
current_stays old new path b a q = record { channel = q.channel; found = b ∙ q.found; current = q.current; visible = λ n. visible_on old new q.channel q.channel path a refl (q.visible n) }

-- a path that was selected is current
pub current_behind : (card : CardState) (c : CommandValue) (p : CardState × ResponseValue) → p.0.aids ≡ card.aids → SelectsBasic card c p → (c.p1 == 0x08) ≡ true → HasCurrent p.0 (ids_of c.body)
current_behind card c p aids d h = let f = d.does.by_path h in record {
  channel = selecting d.channel d.does.app d.does.current;
  found = d.behind;
  current = f.current_is ∙ ids_len c.body f.len;
  visible = λ n. visible_on card p.0 d.channel (selecting d.channel d.does.app d.does.current) (ids_of c.body) aids f.app_is (select_visible card d.channel (ids_of c.body) (ids_some c.body f.len) f.selectable n);
}
