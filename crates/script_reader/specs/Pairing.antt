-- What an actor is given, it gives back; and it takes notices only once it watches.
use Rattle.std.specs.Prelude.{ℕ, ◌+◌, ◌==◌, ◌&&◌, ◌||◌, not, Bool, true, false, if◌then◌else◌, List, [], ◌∷◌}
use Rattle.script_reader.specs.declared.types.Operation.{Operation}
use Rattle.script_reader.specs.declared.types.Operation.TheVariants as operation

-- opens a channel under this ref
abbrev pub opens : ℕ → Operation → Bool
opens ref (operation.OpenChannel r aid) = r == ref
opens ref _ = false

abbrev pub closes : ℕ → Operation → Bool
closes ref (operation.Close r) = r == ref
closes ref _ = false

-- begins a session of this key
abbrev pub verifies : ℕ → Operation → Bool
verifies key (operation.Verify k pin) = k == key
verifies key _ = false

abbrev pub ends_session : ℕ → Operation → Bool
ends_session key (operation.End k) = k == key
ends_session key _ = false

-- how many operations end it, before the next one that begins it
abbrev pub ends_before_next : (Operation → Bool) → (Operation → Bool) → List Operation → ℕ
ends_before_next begins ends [] = 0
ends_before_next begins ends (op ∷ later) = if begins op then 0 else (if ends op then 1 else 0) + ends_before_next begins ends later

abbrev pub ends_once : (Operation → Bool) → (Operation → Bool) → List Operation → Bool
ends_once begins ends later = ends_before_next begins ends later == 1

-- what this operation asks for is given back exactly once before it is asked for again
abbrev pub is_given_back : Operation → List Operation → Bool
is_given_back (operation.OpenChannel ref aid) later = ends_once (opens ref) (closes ref) later
is_given_back (operation.Verify key pin) later = ends_once (verifies key) (ends_session key) later
is_given_back _ later = true

abbrev pub are_given_back : List Operation → Bool
are_given_back [] = true
are_given_back (op ∷ later) = is_given_back op later && are_given_back later

abbrev pub is_watch : Operation → Bool
is_watch (operation.Watch mask) = true
is_watch _ = false

abbrev pub is_notices : Operation → Bool
is_notices operation.Notices = true
is_notices _ = false

-- at most one watch, and no notices before it; `watching` says that there was one
abbrev pub is_watching_once : Bool → List Operation → Bool
is_watching_once watching [] = true
is_watching_once watching (op ∷ later) = not (is_watch op && watching) && (watching || not (is_notices op)) && is_watching_once (watching || is_watch op) later

abbrev pub are_paired : List Operation → Bool
are_paired operations = are_given_back operations && is_watching_once false operations
