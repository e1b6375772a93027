-- What every item of a list is, one that is found in it is.
use Rattle.std.proofs.Common.{ℕ, Bool, true, false, ◌&&◌, refl, ◌≡◌, List, [], ◌∷◌, Option, Some, if◌then◌else◌}
use Rattle.rules.specs.declared.holdings.Handle.{Handle}
use Rattle.rules.specs.Channels.{handle_of, is_handle_of}
use Rattle.planner.specs.Room.{channel_fits, handle_fits, handles_fit}

first_passes : (a b : Bool) → (a && b) ≡ true → a ≡ true
first_passes true b e = refl
first_passes false b e = e

rest_passes : (a b : Bool) → (a && b) ≡ true → b ≡ true
rest_passes true b e = e
rest_passes false true e = refl
rest_passes false false e = e

found_by : (here : Bool) (h : Handle) (rest : Option Handle) → handle_fits h ≡ true → channel_fits rest ≡ true → channel_fits (if here then Some h else rest) ≡ true
found_by true h rest e f = e
found_by false h rest e f = f

pub handle_found : (actor handle : ℕ) (hs : List Handle) → handles_fit hs ≡ true → channel_fits (handle_of actor handle hs) ≡ true
handle_found actor handle [] e = refl
handle_found actor handle (h ∷ hs) e = found_by (is_handle_of actor handle h) h (handle_of actor handle hs) (first_passes (handle_fits h) _ e) (handle_found actor handle hs (rest_passes (handle_fits h) _ e))
