-- Tests of channels, and of their numbers.
use Rattle.std.proofs.Common.{◌≡◌, ◌==◌, ◌&&◌, ◌||◌, ℕ, Bool, true, false, if◌then◌else◌, List, [], ◌∷◌, map, refl, ap, sym, ◌∙◌}
use Rattle.std.specs.Prelude.{not, filter}
use Rattle.std.specs.List.{list_any, list_all}
use Rattle.apdu.specs.Words.{is_one_of}
use Rattle.card_model.specs.declared.world.ChannelState.{ChannelState}
use Rattle.epoch_cache.specs.declared.past.Past.{Past}
use Rattle.rules.specs.declared.holdings.Handle.{Handle}
use Rattle.rules.specs.Channels.{held_numbers, is_living_handle}
use Rattle.trace_check.specs.Channels.{numbers, has_number, holds, is_basic_or_held, is_over_or_open}

or-false : (b : Bool) → b || false ≡ b
or-false true = refl
or-false false = refl

held_by : (history : Past) (number : ℕ) (h : Handle) (more : List Handle) (b : Bool) → is_one_of number (map (λ (x : Handle). x.number) (if b then h ∷ filter (is_living_handle history) more else filter (is_living_handle history) more)) ≡ (b && (h.number == number)) || is_one_of number (held_numbers history more)
held_by history number h more true = refl
held_by history number h more false = refl

pub held_any : (history : Past) (number : ℕ) (handles : List Handle) → list_any (holds history number) handles ≡ is_one_of number (held_numbers history handles)
held_any history number [] = refl
held_any history number (h ∷ more) =
    ap (λ b. holds history number h || b) (held_any history number more)
    ∙ sym (held_by history number h more (is_living_handle history h))

pub open_any : (number : ℕ) (channels : List ChannelState) → list_any (has_number number) channels ≡ is_one_of number (numbers channels)
open_any number [] = refl
open_any number (c ∷ more) = ap (λ b. has_number number c || b) (open_any number more)

pub all_held : (held : List ℕ) (channels : List ChannelState) → list_all (is_basic_or_held held) channels ≡ list_all (λ n. (n == 0) || is_one_of n held) (numbers channels)
all_held held [] = refl
all_held held (c ∷ more) = ap (λ b. is_basic_or_held held c && b) (all_held held more)

open_by : (history : Past) (opened : List ℕ) (h : Handle) (more : List Handle) (b : Bool) → list_all (λ n. is_one_of n opened) (map (λ (x : Handle). x.number) (if b then h ∷ filter (is_living_handle history) more else filter (is_living_handle history) more)) ≡ (not b || is_one_of h.number opened) && list_all (λ n. is_one_of n opened) (held_numbers history more)
open_by history opened h more true = refl
open_by history opened h more false = refl

pub all_open : (history : Past) (opened : List ℕ) (handles : List Handle) → list_all (is_over_or_open history opened) handles ≡ list_all (λ n. is_one_of n opened) (held_numbers history handles)
all_open history opened [] = refl
all_open history opened (h ∷ more) =
    ap (λ b. is_over_or_open history opened h && b) (all_open history opened more)
    ∙ sym (open_by history opened h more (is_living_handle history h))
