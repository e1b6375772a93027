-- An edit that is under way.
--
-- Looking back over the lines: the UPDATE events of an edit fall into attempts. At the first of an attempt the updates of the plan for the
-- card's files at that point begin, in the order before, deciding, after, one in a turn. An event of another's doing that moves a path of
-- the edit ends the attempt, and a new one begins only then. After the deciding success no attempt begins: the update behind it is sent
-- exactly where the epoch still lives and nobody else has moved a path of the edit since the plan; else its row stays marked. Left are
-- the rows that updates before the deciding one marked and that its bytes do not name, of earlier attempts too, and the row of the
-- plan's last update, unless it succeeded.
use Rattle.std.specs.Prelude.{ℕ, ◌+◌, ◌-◌, ◌==◌, ◌&&◌, not, Bool, true, false, nat_lt, if◌then◌else◌, List, [], ◌∷◌, ◌++◌, length, filter, filter_map, slice_get, slice_index, Option, Some, None, option_map}
use Rattle.apdu.specs.Values.{CommandValue}
use Rattle.apdu.specs.Words.{is_between}
use Rattle.apdu.specs.Apdu.{command, update_record_ins}
use Rattle.fcp.specs.declared.control.ArrRef.{ArrRef}
use Rattle.fcp.specs.declared.rule.Need.{Need}
use Rattle.fcp.specs.declared.rule.Need.TheVariants.{Always}
use Rattle.card_model.specs.declared.world.CardState.{CardState}
use Rattle.card_model.specs.declared.world.FileState.{FileState}
use Rattle.card_model.specs.Card.{rule_file_path, rule_of_record, file_of, rule_of}
use Rattle.adn.specs.declared.edit.RowUpdate.{RowUpdate}
use Rattle.adn.specs.declared.edit.Plan.{Plan}
use Rattle.families.specs.Plans.{plan_updates}
use Rattle.families.specs.Families.{family_paths, family_path}
use Rattle.epoch_cache.specs.declared.cached.CachedFile.{CachedFile}
use Rattle.epoch_cache.specs.declared.cached.Touch.{Touch}
use Rattle.editor.specs.declared.editing.Attempt.{Attempt}
use Rattle.editor.specs.declared.editing.Decided.{Decided}
use Rattle.editor.specs.declared.editing.Editing.{Editing}
use Rattle.link.specs.Commands.{is_at}
use Rattle.epoch_cache.specs.Cache.{moves_one, taken, view_of_files}

-- ---- what is edited

abbrev pub path_of_rule : List ℕ → Option CachedFile → Option (List ℕ)
path_of_rule path None = None
path_of_rule path (Some file) = option_map (rule_file_path path) file.arr

-- the EF_ARR path that a current file names
abbrev pub rule_path : List CachedFile → List ℕ → Option (List ℕ)
rule_path files path = path_of_rule path (taken path files)

-- the family's paths, and behind them the EF_ARR paths in the order of the files that name them
abbrev pub edit_paths : List CachedFile → ℕ → List (List ℕ)
edit_paths files f = family_paths f ++ filter_map (rule_path files) (family_paths f)

-- ---- an attempt

abbrev pub planned : ℕ → Plan → List (List ℕ) → Attempt
planned f plan paths = record { family = f; plan = plan; paths = paths; sent = 0; moved = false }

-- the update that comes next
abbrev pub next_update : Attempt → Option RowUpdate
next_update a = slice_get (plan_updates a.plan) a.sent

-- UPDATE RECORD of a planned row
abbrev pub update_command : RowUpdate → CommandValue
update_command u = command update_record_ins u.row 0x04 u.bytes None

abbrev pub no_editing : Editing
no_editing = record { attempt = None; decided = None; marked = []; lost = None }

-- ---- access

abbrev pub row_from_one : List (List ℕ) → ℕ → Option (List ℕ)
row_from_one rows number = if nat_lt 0 number then slice_get rows (number - 1) else None

abbrev pub need_by_rule : List CachedFile → List ℕ → Option ArrRef → Need
need_by_rule files path None = Always
need_by_rule files path (Some arr) = (rule_of_record (row_from_one (view_of_files files (rule_file_path path arr)).rows arr.row)).update

abbrev pub need_of_taken : List CachedFile → List ℕ → Option CachedFile → Need
need_of_taken files path None = Always
need_of_taken files path (Some file) = need_by_rule files path file.arr

-- what updating a current file asks for
abbrev pub update_need : List CachedFile → List ℕ → Need
update_need files path = need_of_taken files path (taken path files)

abbrev pub need_of_file : CardState → Option FileState → Need
need_of_file card None = Always
need_of_file card (Some file) = (rule_of card file).update

-- what the card asks for
abbrev pub card_need : CardState → List ℕ → Need
card_need card path = need_of_file card (file_of path card)

-- ---- steps

-- the next update of the attempt was sent
abbrev pub sent_update : Editing → Editing
sent_update e = record e { attempt = option_map (λ (a : Attempt). record a { sent = a.sent + 1 }) e.attempt }

-- the last byte
abbrev pub last_byte : List ℕ → ℕ
last_byte bytes = slice_index bytes (length bytes - 1)

abbrev pub decided_by : ℕ → CommandValue → Editing → Editing
decided_by event c e = record e { decided = Some (record { event = event; named = last_byte c.body; released = false }) }

abbrev pub extended_by : CommandValue → Option Decided → Editing → Editing
extended_by c None e = record e { marked = c.p1 ∷ e.marked }
extended_by c (Some d) e = record e { decided = Some (record d { released = true }) }

-- an update of this family succeeded; the deciding one alone writes the main file
abbrev pub updated_by : ℕ → Option (List ℕ) → ℕ → CommandValue → Editing → Editing
updated_by f selected event c e = if is_at selected (family_path f 0) then decided_by event c e else extended_by c e.decided e

-- the answer to an update of this family was lost
abbrev pub lost_update : ℕ → Option (List ℕ) → ℕ → Editing → Editing
lost_update f selected event e = if is_at selected (family_path f 0) then record e { lost = Some event } else e

-- before the deciding success it has to be planned anew
abbrev pub moved_attempt : Option Decided → Attempt → Option Attempt
moved_attempt None a = None
moved_attempt (Some d) a = Some (record a { moved = true })

abbrev pub attempt_behind : Touch → Option Decided → Option Attempt → Option Attempt
attempt_behind t d None = None
attempt_behind t d (Some a) = if moves_one t a.paths then moved_attempt d a else Some a

-- an event moved what it moves
abbrev pub moved_editing : Touch → Editing → Editing
moved_editing t e = record e { attempt = attempt_behind t e.decided e.attempt }

-- an attempt begins
abbrev pub with_attempt : Option Attempt → Editing → Editing
with_attempt None e = e
with_attempt (Some a) e = record e { attempt = Some a }

-- ---- behind the deciding success

-- the update that is still to be sent, in the epoch in which the edit began
abbrev pub owed_of : Bool → Option Attempt → Option RowUpdate
owed_of living None = None
owed_of living (Some a) = if living && not a.moved then next_update a else None

abbrev pub owed_update : Bool → Editing → Option RowUpdate
owed_update living e = owed_of living e.attempt

-- rising, each once
abbrev pub with_row : ℕ → List ℕ → List ℕ
with_row r [] = r ∷ []
with_row r (x ∷ xs) = if r == x then x ∷ xs else if nat_lt r x then r ∷ x ∷ xs else x ∷ with_row r xs

abbrev pub rising : List ℕ → List ℕ
rising [] = []
rising (r ∷ rows) = with_row r (rising rows)

abbrev pub after_of : Option Attempt → Option RowUpdate
after_of None = None
after_of (Some a) = a.plan.after

abbrev pub unreleased : Bool → Option RowUpdate → List ℕ
unreleased released None = []
unreleased released (Some u) = if released then [] else u.row ∷ []

-- the deciding bytes name this extension row
abbrev pub names_row : Decided → ℕ → Bool
names_row d row = (d.named == row) && is_between 1 254 row

-- the rows that stay marked
abbrev pub left_rows : Editing → Decided → List ℕ
left_rows e d = rising (filter (λ row. not (names_row d row)) e.marked ++ unreleased d.released (after_of e.attempt))
