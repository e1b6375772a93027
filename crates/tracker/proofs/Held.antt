-- The numbers of the held channels, handle by handle.
use Rattle.std.specs.List.{list_any}
use Rattle.std.proofs.Common.{ℕ, Bool, true, false, ◌==◌, ◌&&◌, ◌||◌, not, map, filter, refl, ap, ◌≡◌, List, [], ◌∷◌, Option, Some, None, if◌then◌else◌}
use Rattle.apdu.specs.Words.{is_one_of, is_between}
use Rattle.apdu.specs.Apdu.{is_success}
use Rattle.channels.specs.Channels.{opened_number, new_number}
use Rattle.epoch_cache.specs.declared.past.Past.{Past}
use Rattle.link.specs.declared.chain.Final.{Final}
use Rattle.rules.specs.declared.holdings.Handle.{Handle}
use Rattle.rules.specs.Channels.{held_numbers, is_living_handle}
use Rattle.tracker.specs.Held.{is_held_under, unless_held}

one_more : (history : Past) (n : ℕ) (h : Handle) (hs rest : List Handle) (living : Bool) → list_any (is_held_under history n) hs ≡ is_one_of n (map (λ (h : Handle). h.number) rest) → ((living && (h.number == n)) || list_any (is_held_under history n) hs) ≡ is_one_of n (map (λ (h : Handle). h.number) (if living then h ∷ rest else rest))
one_more history n h hs rest true e = ap (λ b. (h.number == n) || b) e
one_more history n h hs rest false e = e

pub held_any : (history : Past) (n : ℕ) (hs : List Handle) → list_any (is_held_under history n) hs ≡ is_one_of n (held_numbers history hs)
held_any history n [] = refl
held_any history n (h ∷ hs) = one_more history n h hs (filter (is_living_handle history) hs) (is_living_handle history h) (held_any history n hs)

other_way : (n : ℕ) (b : Bool) → (if not b then Some n else None) ≡ (if b then None else Some n)
other_way n true = refl
other_way n false = refl

anew : (held : List ℕ) (n : ℕ) (between : Bool) → (if between && not (is_one_of n held) then Some n else None) ≡ unless_held held (if between && true then Some n else None)
anew held n true = other_way n (is_one_of n held)
anew held n false = refl

new_anew : (held body : List ℕ) → new_number held body ≡ unless_held held (new_number [] body)
new_anew held [] = refl
new_anew held (n ∷ []) = anew held n (is_between 1 19 n)
new_anew held (n ∷ m ∷ ns) = refl

opened_if : (success : Bool) (held body : List ℕ) → (if success then new_number held body else None) ≡ unless_held held (if success then new_number [] body else None)
opened_if true held body = new_anew held body
opened_if false held body = refl

pub opened_anew : (held : List ℕ) (f : Final) → opened_number held f ≡ unless_held held (opened_number [] f)
opened_anew held f = opened_if (is_success f.response.sw) held f.response.body
