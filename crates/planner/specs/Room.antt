-- What the commands that are due ask of what is kept, so that they can be written, and what asks for memory.
use Rattle.std.specs.Prelude.{◌≡◌, ◌&&◌, ◌==◌, ℕ, Bool, IfSome, ⊤, true, false, nat_le, List, length, Option, Some, None, is_some}
use Rattle.std.specs.List.{list_all}
use Rattle.adn.specs.declared.edit.RowUpdate.{RowUpdate}
use Rattle.script_reader.specs.declared.types.Operation.{Operation}
use Rattle.families.specs.Plans.{plan_updates}
use Rattle.editor.specs.declared.editing.Attempt.{Attempt}
use Rattle.rules.specs.declared.holdings.Handle.{Handle}
use Rattle.rules.specs.declared.kept.Begun.{Begun}
use Rattle.rules.specs.declared.kept.Job.{Job}
use Rattle.editor.specs.Editing.{left_rows}
use Rattle.rules.specs.Editing.{family_edit}
use Rattle.rules.specs.declared.due.Due.{Due}
use Rattle.rules.specs.declared.due.Due.TheVariants.{Give as give}
use Rattle.rules.specs.Kept.{begun_of}

-- the number is that of a logical channel
abbrev pub handle_fits : Handle → Bool
handle_fits h = nat_le h.number 19

abbrev pub channel_fits : Option Handle → Bool
channel_fits None = true
channel_fits (Some h) = handle_fits h

abbrev pub handles_fit : List Handle → Bool
handles_fit handles = list_all handle_fits handles

-- the bytes of an update fit into a command
abbrev pub update_fits : RowUpdate → Bool
update_fits u = nat_le (length u.bytes) 255

-- those of all its updates do
abbrev pub attempt_fits : Option Attempt → Bool
attempt_fits None = true
attempt_fits (Some a) = list_all update_fits (plan_updates a.plan)

abbrev pub begun_fits : Option Begun → Bool
begun_fits None = true
begun_fits (Some b) = attempt_fits b.editing.attempt

-- the number of its row is a byte as well
abbrev pub is_short : RowUpdate → Bool
is_short u = update_fits u && nat_le u.row 255

-- an attempt that has sent nothing yet, of such updates
abbrev pub is_new_attempt : Option Attempt → Bool
is_new_attempt None = true
is_new_attempt (Some a) = list_all is_short (plan_updates a.plan) && (a.sent == 0)

-- those of the actor whose turn it is
abbrev pub turn_fits : Option ℕ → List Job → Bool
turn_fits None jobs = true
turn_fits (Some actor) jobs = begun_fits (begun_of actor jobs)

-- ---- what asks for memory

-- an edit, whose plan is made
abbrev pub is_edit : Option Operation → Bool
is_edit None = false
is_edit (Some op) = is_some (family_edit op)

abbrev pub is_decided : Option Begun → Bool
is_decided None = false
is_decided (Some b) = is_some b.editing.decided

-- the actor whose turn it is has an edit under way behind its deciding success, whose answer lists rows
abbrev pub turn_is_decided : Option ℕ → List Job → Bool
turn_is_decided None jobs = false
turn_is_decided (Some actor) jobs = is_decided (begun_of actor jobs)

-- where these rows are made ready, they are those that the edit leaves marked
abbrev pub AreLeft : Option Begun → Option (List ℕ) → Type 0
AreLeft None ready = ⊤
AreLeft (Some b) ready = IfSome ready (λ rows. IfSome b.editing.decided (λ d. rows ≡ left_rows b.editing d))

-- of the actor whose turn it is
abbrev pub AreLeftInTurn : Option ℕ → List Job → Option (List ℕ) → Type 0
AreLeftInTurn None jobs ready = ⊤
AreLeftInTurn (Some actor) jobs ready = AreLeft (begun_of actor jobs) ready

abbrev pub is_given : Due → Bool
is_given (give x) = true
is_given line = false
