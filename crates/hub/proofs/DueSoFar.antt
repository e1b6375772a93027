-- The lines of a hub that is whole are due so far.
use Rattle.std.proofs.Common.{◌≡◌, Bool, true, subst}
use Rattle.std.proofs.lemmas.Option.{IfSome_then}
use Rattle.rules.specs.declared.kept.Kept.{Kept}
use Rattle.rules.specs.Due.{due}
use Rattle.rules.specs.Performed.{ends_turn}
use Rattle.performed.specs.Told.{are_told}
use Rattle.hub.specs.Hub.{HubValue}
use Rattle.hub.specs.DueSoFar.{IsDueSoFar}
use Rattle.hub.specs.Parts.{Parts}
use Rattle.hub.specs.Settled.{IsWorldOf, IsSettled}

abbrev value_of : Parts → Bool → HubValue
value_of p whole = record { script = p.script; lines = p.lines.lines; world = p.world; plan = p.plan; whole = whole }

pub due_so_far : (p : Parts) (whole : Bool) → IsSettled p → IsDueSoFar (value_of p whole)
due_so_far p whole h = record {
  names = h.tied.lines.served;
  followed = h.tied.lines.followed;
  ends = subst (λ (k : Kept). ends_turn (due p.script k) ≡ true) h.tied.kept h.ends;
  told = IfSome_then p.world {P = IsWorldOf p.script p.lines.lines} {Q = λ world. are_told p.script p.lines.lines ≡ true} h.tied.lines.world (λ world w. w.told);
}
