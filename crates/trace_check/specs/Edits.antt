-- What an UPDATE is held against, before the card has it and behind it.
use Rattle.std.specs.Prelude.{◌&&◌, ◌||◌, Bool, true, false, List, Option, Some, None, Result}
use Rattle.apdu.specs.Values.{CommandValue, ResponseValue}
use Rattle.apdu.specs.Apdu.{is_success}
use Rattle.adn.specs.declared.entry.BookRow.{BookRow}
use Rattle.adn.specs.declared.edit.Edit.{Edit}
use Rattle.adn.specs.declared.edit.Plan.{Plan}
use Rattle.adn.specs.declared.edit.PlanError.{PlanError}
use Rattle.card_model.specs.declared.world.World.{World}
use Rattle.families.specs.Families.{family_plan}
use Rattle.families.specs.Plans.{edited, same_book}
use Rattle.link.specs.Commands.{continued}
use Rattle.script_reader.specs.declared.types.Script.{Script}
use Rattle.rules.specs.declared.kept.Kept.{Kept}
use Rattle.rules.specs.State.{view_in}
use Rattle.rules.specs.Rules.{EditTurn, edit_turn, book_in, is_deciding, is_sent_right, is_outside_raw}
use Rattle.trace_check.specs.declared.edits.EditTurn as code
use Rattle.trace_check.specs.declared.edits.Update.{Update}
use Rattle.trace_check.specs.declared.edits.Update.TheVariants.{Free, Stray, OfEdit}

-- the edit whose turn it is, as the rules have it
abbrev pub turn_of : code.EditTurn → EditTurn
turn_of t = record { actor = t.actor; family = t.family; edit = t.edit; begun = t.begun.now }

-- the plan for the card as it is, or why there is none
abbrev pub plan_of : World → EditTurn → Result Plan PlanError
plan_of world e = family_plan e.family e.edit (view_in world)

abbrev pub update_of_edit : World → Kept → CommandValue → EditTurn → Update
update_of_edit world k c e = OfEdit (is_sent_right world k e c (continued c k.chain)) (is_deciding k e) e.family e.edit (book_in world e.family)

abbrev pub update_by : World → Kept → CommandValue → Option EditTurn → Update
update_by world k c None = Stray
update_by world k c (Some e) = update_of_edit world k c e

abbrev pub update_before : Script → World → Kept → CommandValue → Update
update_before s world k c = elim (is_outside_raw s k c) [ true ↦ update_by world k c (edit_turn s k) | false ↦ Free ]

-- the edited book stands behind a deciding success, and behind any other update the one before it
abbrev pub is_book_right : Bool → Edit → List BookRow → List BookRow → Bool
is_book_right decides e book behind = elim decides [
  | true ↦ same_book behind (edited book e)
  | false ↦ same_book behind book
]

-- behind an exchange, which left this world
abbrev pub is_right_behind : World → ResponseValue → Update → Bool
is_right_behind world r Free = true
is_right_behind world r Stray = false
is_right_behind world r (OfEdit ordered deciding f e book) = ordered && is_book_right (deciding && is_success r.sw) e book (book_in world f)

-- behind a failed exchange, which left this world
abbrev pub is_right_lost : World → Update → Bool
is_right_lost world Free = true
is_right_lost world Stray = false
is_right_lost world (OfEdit ordered deciding f e book) = ordered && (same_book (book_in world f) book || (deciding && same_book (book_in world f) (edited book e)))
