-- The updates of a plan fit into commands.
use Rattle.std.proofs.Common.{◌≡◌, ◌≤◌, ◌&&◌, ◌==◌, if◌then◌else◌, ℕ, Bool, true, false, List, [], ◌∷◌, length, Result, Ok, Err, IfOk, refl, sym, subst, arith, le-leb}
use Rattle.std.specs.Prelude.{All, nat_le}
use Rattle.std.specs.List.{list_all, AllByRecursion}
use Rattle.std.proofs.lemmas.List.Elements.{recursion_from_All}
use Rattle.std.proofs.lemmas.Result.{IfOk-weaker}
use Rattle.fcp.specs.declared.rows.FileKind.{FileKind}
use Rattle.fcp.specs.declared.rows.FileKind.TheVariants.{Transparent, Linear, Directory}
use Rattle.fcp.specs.Content.{Content, HasRows, IsContent, is_linear}
use Rattle.adn.specs.declared.edit.Edit.{Edit}
use Rattle.adn.specs.declared.edit.RowUpdate.{RowUpdate}
use Rattle.adn.specs.declared.edit.Plan.{Plan}
use Rattle.adn.specs.declared.edit.PlanError.{PlanError}
use Rattle.families.specs.Plans.{plan_edit, plan_updates}
use Rattle.book_plans.specs.Phonebook.{Files}
use Rattle.book_plans.specs.Law.{Fits, FitsFile, PlansFit, file_of}
use Rattle.family_files.specs.Updates.{is_short}

record HasLimits (width : ℕ) (rows : List (List ℕ)) : Type 0 where
  wide : width ≤ 255
  many : length rows ≤ 255

limits_by : (kind : FileKind) (width : ℕ) (rows : List (List ℕ)) → HasRows kind width rows → is_linear kind ≡ true → HasLimits width rows
limits_by Linear width rows h e = record { wide = h.0; many = h.1 }
limits_by Transparent width rows h e = absurd (cc)
limits_by Directory width rows h e = absurd (cc)

fits_short : (content : Content) (u : RowUpdate) → IsContent content → FitsFile content u → is_short u ≡ true
fits_short content u h fits =
    let limits = limits_by content.kind content.width content.rows h fits.linear in
    let width = limits.wide in
    let many = limits.many in
    let wide = fits.wide in
    let last = fits.last in
    rw (le-leb (length u.bytes) 255 (omega arith)) (le-leb u.row 255 (omega arith))

file_content : (files : Files) (b : Bool) → IsContent files.main → IsContent files.ext → IsContent (let c : Content = (if b then files.main else files.ext) in c)
file_content files true main ext = main
file_content files false main ext = ext

all_short : (files : Files) (updates : List RowUpdate) → IsContent files.main → IsContent files.ext → AllByRecursion (Fits files) updates → list_all is_short updates ≡ true
all_short files [] main ext h = refl
all_short files (u ∷ updates) main ext h = rw (fits_short (file_of files u.file) u (file_content files (u.file == 0) main ext) h.0) (all_short files updates main ext h.1)

pub short_plan : (e : Edit) (main ext : Content) (planned : Result Plan PlanError) → PlansFit → IsContent main → IsContent ext → planned ≡ plan_edit e main ext → IfOk planned (λ plan. list_all is_short (plan_updates plan) ≡ true)
short_plan e main ext planned fit h g is =
    let files : Files = record { main = main; ext = ext } in
    subst (λ (r : Result Plan PlanError). IfOk r (λ plan. list_all is_short (plan_updates plan) ≡ true)) (sym is)
    (IfOk-weaker (plan_edit e main ext) _ _ (λ plan all. all_short files (plan_updates plan) h g (recursion_from_All (Fits files) (plan_updates plan) all)) (fit e files))
