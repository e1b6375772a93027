-- The answer to an UPDATE, and its loss, leave the attempt as it is.
use Rattle.std.proofs.Common.{◌≡◌, ℕ, Bool, true, false, if◌then◌else◌, Option, Some, None, List, refl}
use Rattle.apdu.specs.Values.{CommandValue, ResponseValue}
use Rattle.apdu.specs.Apdu.{is_update_ins}
use Rattle.adn.specs.declared.edit.Edit.{Edit}
use Rattle.families.specs.Families.{family_path}
use Rattle.link.specs.Commands.{is_at}
use Rattle.epoch_cache.specs.Cache.{is_update}
use Rattle.editor.specs.declared.editing.Decided.{Decided}
use Rattle.editor.specs.declared.editing.Editing.{Editing}
use Rattle.editor.specs.Editing.{decided_by, extended_by, lost_update, updated_by}
use Rattle.rules.specs.After.{editing_answered, editing_lost}

updated_same : (f : ℕ) (selected : Option (List ℕ)) (event : ℕ) (c : CommandValue) (e : Editing) → (updated_by f selected event c e).attempt ≡ e.attempt
updated_same f selected event c e = by_main (is_at selected (family_path f 0))
  where
    by_decided : (o : Option Decided) → (extended_by c o e).attempt ≡ e.attempt
    by_decided None = refl
    by_decided (Some d) = refl

    by_main : (b : Bool) → (if b then decided_by event c e else extended_by c e.decided e).attempt ≡ e.attempt
    by_main true = refl
    by_main false = by_decided e.decided

pub answered_same : (o : Option (ℕ × Edit)) (selected : Option (List ℕ)) (event : ℕ) (c : CommandValue) (r : ResponseValue) (e : Editing) → (editing_answered o selected event c r e).attempt ≡ e.attempt
answered_same None selected event c r e = refl
answered_same (Some (f, d)) selected event c r e = by_update (is_update c r)
  where
    by_update : (b : Bool) → (if b then updated_by f selected event c e else e).attempt ≡ e.attempt
    by_update true = updated_same f selected event c e
    by_update false = refl

pub lost_same : (o : Option (ℕ × Edit)) (selected : Option (List ℕ)) (event : ℕ) (c : CommandValue) (e : Editing) → (editing_lost o selected event c e).attempt ≡ e.attempt
lost_same None selected event c e = refl
lost_same (Some (f, d)) selected event c e = by_update (is_update_ins c.ins)
  where
    by_main : (b : Bool) → (if b then record e { lost = Some event } else e).attempt ≡ e.attempt
    by_main true = refl
    by_main false = refl

    by_update : (b : Bool) → (if b then lost_update f selected event e else e).attempt ≡ e.attempt
    by_update true = by_main (is_at selected (family_path f 0))
    by_update false = refl
