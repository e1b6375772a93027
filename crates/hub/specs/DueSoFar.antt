-- The lines of a hub whose run may go on.
use Rattle.std.specs.Prelude.{◌≡◌, true, IfSome}
use Rattle.rules.specs.Due.{due}
use Rattle.rules.specs.Performed.{ends_turn}
use Rattle.performed.specs.Names.{has_utf8_names}
use Rattle.performed.specs.Followed.{are_followed}
use Rattle.performed.specs.Told.{are_told}
use Rattle.hub.specs.Hub.{HubValue, kept_now}

-- each line was due, nothing more is due in the last turn, and the lines show what a slot gave that tells its world
pub record IsDueSoFar (h : HubValue) : Type 0 where
  pub names : has_utf8_names h.script ≡ true
  pub followed : are_followed h.script h.lines ≡ true
  pub ends : ends_turn (due h.script (kept_now h)) ≡ true
  pub told : IfSome h.world (λ world. are_told h.script h.lines ≡ true)
