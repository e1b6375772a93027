-- Two plans, of which each has at most three updates, have the same updates.
use Rattle.std.proofs.Common.{◌≡◌, ◌&&◌, Bool, true, false, Option, Some, None, [], ◌∷◌, refl}
use Rattle.adn.specs.declared.edit.RowUpdate.{RowUpdate}
use Rattle.adn.specs.declared.edit.Plan.{Plan}
use Rattle.families.specs.Plans.{plan_updates, some_first}
use Rattle.rules.specs.Rules.{same_update as same, same_updates}
use Rattle.trace_check.specs.Plans.{same_plan}

and_1_1 : (a : Bool) → a && true && true ≡ a && true
and_1_1 true = refl
and_1_1 false = refl

and_1_2 : (a : Bool) → a && false && true ≡ a && false
and_1_2 true = refl
and_1_2 false = refl

and_1_3 : (a : Bool) → a && false && false ≡ a && false
and_1_3 true = refl
and_1_3 false = refl

and_2_2 : (a b : Bool) → a && b && true ≡ a && (b && true)
and_2_2 true b = refl
and_2_2 false b = refl

and_2_3 : (a b : Bool) → a && b && false ≡ a && (b && false)
and_2_3 true b = refl
and_2_3 false b = refl

and_3_3 : (a b c : Bool) → a && b && c ≡ a && (b && (c && true))
and_3_3 true true true = refl
and_3_3 true true false = refl
and_3_3 true false c = refl
and_3_3 false b c = refl

same_three : (a0 a2 b0 b2 : Option RowUpdate) (a1 b1 : RowUpdate) → same_plan (record { before = a0; deciding = a1; after = a2 }) (record { before = b0; deciding = b1; after = b2 }) ≡ same_updates (some_first a0 (a1 ∷ some_first a2 [])) (some_first b0 (b1 ∷ some_first b2 []))
same_three None None None None a1 b1 = and_1_1 (same a1 b1)
same_three None None None (Some y2) a1 b1 = and_1_2 (same a1 b1)
same_three None None (Some y0) None a1 b1 = and_1_2 (same a1 y0)
same_three None None (Some y0) (Some y2) a1 b1 = and_1_3 (same a1 y0)
same_three None (Some x2) None None a1 b1 = and_1_2 (same a1 b1)
same_three None (Some x2) None (Some y2) a1 b1 = and_2_2 (same a1 b1) (same x2 y2)
same_three None (Some x2) (Some y0) None a1 b1 = and_2_2 (same a1 y0) (same x2 b1)
same_three None (Some x2) (Some y0) (Some y2) a1 b1 = and_2_3 (same a1 y0) (same x2 b1)
same_three (Some x0) None None None a1 b1 = and_1_2 (same x0 b1)
same_three (Some x0) None None (Some y2) a1 b1 = and_2_2 (same x0 b1) (same a1 y2)
same_three (Some x0) None (Some y0) None a1 b1 = and_2_2 (same x0 y0) (same a1 b1)
same_three (Some x0) None (Some y0) (Some y2) a1 b1 = and_2_3 (same x0 y0) (same a1 b1)
same_three (Some x0) (Some x2) None None a1 b1 = and_1_3 (same x0 b1)
same_three (Some x0) (Some x2) None (Some y2) a1 b1 = and_2_3 (same x0 b1) (same a1 y2)
same_three (Some x0) (Some x2) (Some y0) None a1 b1 = and_2_3 (same x0 y0) (same a1 b1)
same_three (Some x0) (Some x2) (Some y0) (Some y2) a1 b1 = and_3_3 (same x0 y0) (same a1 b1) (same x2 y2)

pub same_planned : (a b : Plan) → same_plan a b ≡ same_updates (plan_updates a) (plan_updates b)
same_planned a b = same_three a.before a.after b.before b.after a.deciding b.deciding
