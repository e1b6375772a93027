-- The items of an array.
use Rattle.std.proofs.Common.{◌≡◌, List, [], ◌∷◌, refl, ap}
use Rattle.serde_json.specs.Data.{Data, item}
use Rattle.serde_json.specs.View.{items_of}
use Rattle.families.specs.Families.{items}

pub same_items : (ds : List Data) → items ds ≡ items_of ds
same_items [] = refl
same_items (d ∷ ds) = ap (item d) (same_items ds)
