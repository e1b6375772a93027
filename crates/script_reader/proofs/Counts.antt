-- The counts of a value's members are those of its map, and its items are those of its list.
use Rattle.std.proofs.Common.{◌≡◌, List, [], ◌∷◌, length, map, refl, ap, arith, String, Global}
use Rattle.serde_json.specs.Data.{Data}
use Rattle.serde_json.specs.View.{view, items_view, members_view}
use Rattle.serde_json.specs.declared.value.Value.{Value}
use Rattle.script_reader.specs.Fields.{count_members, item_list}

pub count_members_view : (es : List (String Global × Value)) → count_members (members_view es) ≡ length es
count_members_view [] = refl
count_members_view (e ∷ es) = omega (arith, count_members_view es)

pub item_list_view : (vs : List Value) → item_list (items_view vs) ≡ map view vs
item_list_view [] = refl
item_list_view (v ∷ vs) = ap (λ (ds : List Data). view v ∷ ds) (item_list_view vs)
