-- What ties the parts of a hub to its lines.
use Rattle.std.specs.Prelude.{◌≡◌, ◌<◌, ◌≤◌, ◌⊎◌, ◌++◌, ℕ, ◌+◌, ◌*◌, ◌^◌, true, false, nat_lt, if◌then◌else◌, ⊤, List, ◌∷◌, length, Option, Some, None, option_map, is_some, IfSome}
use Rattle.card_model.specs.declared.world.World.{World}
use Rattle.card_model.specs.Slot.{Plan, StaysTold}
use Rattle.script_reader.specs.declared.types.Script.{Script}
use Rattle.script_reader.specs.Rules.{keeps_rules}
use Rattle.report.specs.declared.line.Line.{Line}
use Rattle.families.specs.Contents.{family_count}
use Rattle.report.specs.declared.line.Line.TheVariants as line
use Rattle.rules.specs.declared.kept.Kept.{Kept}
use Rattle.rules.specs.Kept.{begun_of}
use Rattle.rules.specs.After.{is_mark, kept_of}
use Rattle.rules.specs.declared.due.Due.{Due}
use Rattle.rules.specs.declared.due.Due.TheVariants.{Publish as publish}
use Rattle.rules.specs.Due.{due, kept_text}
use Rattle.rules.specs.Work.{is_idle}
use Rattle.rules.specs.State.{world_of}
use Rattle.rules.specs.Performed.{ends_turn}
use Rattle.planner.specs.Room.{AreLeft, handles_fit, is_decided, turn_fits}
use Rattle.tracker.specs.Room.{HasRoom}
use Rattle.watched_tracker.specs.Asked.{masks_asked}
use Rattle.performed.specs.Names.{has_utf8_names}
use Rattle.performed.specs.Followed.{are_followed}
use Rattle.performed.specs.Told.{are_told}
use Rattle.performed.specs.Laws.{has_no_mark}
use Rattle.performed.specs.Measure.{steps_left}
use Rattle.hub.specs.Hub.{AddsTurn}
use Rattle.hub.specs.declared.engine.Ready.{Ready}
use Rattle.hub.specs.Decided.{IsDecision, MayBegin}
use Rattle.hub.specs.Parts.{Parts}
use Rattle.hub.specs.Short.{are_short}
use Rattle.hub.specs.Ready.{family_ready}

-- the slot's world is that of the lines, which show what the slot gave
pub record IsWorldOf (s : Script) (lines : List Line) (w : World) : Type 0 where
  pub world : w ≡ world_of s lines
  pub told : are_told s lines ≡ true

-- the slot's faults are the script's, and its calls those of the lines
pub record IsPlanOf (s : Script) (k : Kept) (p : Plan) : Type 0 where
  pub faults : p.faults ≡ s.faults
  pub calls : p.calls ≡ k.history.calls

-- the lines of a script: each was due, and where the slot tells its world and its plan, they are those of the lines
pub record AreServed (s : Script) (lines : List Line) (w : Option World) (p : Option Plan) : Type 0 where
  pub rules : keeps_rules s ≡ true
  pub served : has_utf8_names s ≡ true
  pub followed : are_followed s lines ≡ true
  pub world : IfSome w (IsWorldOf s lines)
  pub plan : IfSome p (IsPlanOf s (kept_of s lines))

-- so are the lines of the parts, the tracker keeps what they say, and the masks are the script's; the edits that are under way are short
pub record IsTied (p : Parts) : Type 0 where
  pub kept : p.kept ≡ kept_of p.script p.lines.lines
  pub masks : p.masks ≡ masks_asked p.script
  pub lines : AreServed p.script p.lines.lines p.world p.plan
  pub short : are_short (length p.lines.lines) p.kept.jobs ≡ true

-- and nothing more is due
pub record IsSettled (p : Parts) : Type 0 where
  pub tied : IsTied p
  pub ends : ends_turn (due p.script p.kept) ≡ true

-- ---- what may change

-- the script stays, and so does what the slot tells
pub record StaysWith (old new : Parts) : Type 0 where
  pub script : new.script ≡ old.script
  pub world : StaysTold old.world new.world
  pub plan : StaysTold old.plan new.plan

-- all stays but the room for lines, which does not shrink
pub record KeepsAll (old new : Parts) : Type 0 where
  pub script : new.script ≡ old.script
  pub lines : new.lines.lines ≡ old.lines.lines
  pub kept : new.kept ≡ old.kept
  pub masks : new.masks ≡ old.masks
  pub world : new.world ≡ old.world
  pub plan : new.plan ≡ old.plan
  pub spare : old.lines.spare ≤ new.lines.spare
  pub spare_bytes : old.lines.spare_bytes ≤ new.lines.spare_bytes

-- this line more
pub record HasLine (l : Line) (old new : Parts) : Type 0 where
  pub stays : StaysWith old new
  pub tied : IsTied new
  pub lines : new.lines.lines ≡ l ∷ old.lines.lines
  pub spare : old.lines.spare ≤ new.lines.spare + 1

-- one line more, which is no mark
pub record HasOneMore (old new : Parts) : Type 0 where
  pub line : Line
  pub has : HasLine line old new
  pub own : is_mark line ≡ false

-- behind want of memory: at most lines that are no mark, and an event since there were so many
pub record BreaksBehind (events : ℕ) (old new : Parts) : Type 0 where
  pub stays : StaysWith old new
  pub added : List Line
  pub lines : new.lines.lines ≡ added ++ old.lines.lines
  pub own : has_no_mark added ≡ true
  pub event : events < (kept_of new.script new.lines.lines).history.events

-- ---- before a turn

abbrev pub most_of_text : Option (List ℕ) → ℕ
most_of_text None = 0
most_of_text (Some text) = 32 + length text

-- the text that the turn publishes before any event of its own, and room for all lines of the turn, beside further texts
pub record IsPrepared (a : ℕ) (text : Option (List ℕ)) (p : Parts) : Type 0 where
  pub ready : text ≡ option_map (λ f. kept_text f p.kept) (family_ready p.script p.kept a)
  pub few : length p.lines.lines + 512 < 2 ^ 64
  pub spare : 98 ≤ p.lines.spare
  pub spare_bytes : 59008 + most_of_text text ≤ p.lines.spare_bytes

-- all that a turn of the actor asks for before its first event
pub record IsReadyFor (a : ℕ) (ready : Ready) (p : Parts) : Type 0 where
  pub text : IsPrepared a ready.text p
  pub mark : IsDecision p.script (line.Turn a) p.kept ready.mark
  pub begin : MayBegin p.script p.kept a ready.begin
  pub rows : AreLeft (begun_of a p.kept.jobs) ready.left.ready
  pub decided : is_decided (begun_of a p.kept.jobs) ≡ true → is_some ready.left.ready ≡ true

-- ---- within a turn

-- the turn of the actor is under way, and there is room for its next line, beside a text
pub record IsUnderWay (a : ℕ) (p : Parts) : Type 0 where
  pub tied : IsTied p
  pub turn : p.kept.turn.actor ≡ Some a
  pub counts : HasRoom p.kept
  pub handles : handles_fit p.kept.handles ≡ true
  pub fits : turn_fits p.kept.turn.actor p.kept.jobs ≡ true
  pub spare : 0 < p.lines.spare
  pub spare_bytes : 608 ≤ p.lines.spare_bytes

-- the turn began at so many events, and where its commands came to something, an event of the turn stands before
pub record IsSince (events : ℕ) (k : Kept) : Type 0 where
  pub started : events ≤ k.history.events
  pub came : is_some k.turn.outcome ≡ true → events < k.history.events

-- what was made ready is what the turn publishes next, where that is due; where nothing is ready, an event of the turn stands before
pub record MayPublish (events f : ℕ) (ready : Option (List ℕ)) (p : Parts) : Type 0 where
  pub family : f < family_count
  pub text : IfSome ready (λ t. t ≡ kept_text f p.kept)
  pub event : ready ≡ None → events < p.kept.history.events
  pub spare_bytes : most_of_text ready ≤ p.lines.spare_bytes

-- the bytes that a text took were made ready for it, or there is room for a whole turn beside it
abbrev pub LeavesRoom : ℕ → ℕ → ℕ → ℕ → Type 0
LeavesRoom beside ready old new = (old + beside ≤ new + ready) ⊎ (59008 + beside ≤ new)

-- where the line is a publication, it may be made
abbrev pub MayDo : ℕ → Due → Option (List ℕ) → Parts → Type 0
MayDo events (publish f) text p = MayPublish events f text p
MayDo events l text p = ⊤

-- what is ready for the line behind: the same text, unless an event came since there were so many, or none behind a publication
abbrev pub IsNext : ℕ → Option (List ℕ) → Option (List ℕ) → Parts → Parts → Type 0
IsNext events text next old new =
    ((next ≡ (if nat_lt events new.kept.history.events then None else text)) × (old.lines.spare_bytes ≤ new.lines.spare_bytes + 608))
    ⊎ ((next ≡ None) × (is_some new.kept.turn.published ≡ true) × LeavesRoom 0 (most_of_text text) old.lines.spare_bytes new.lines.spare_bytes)

-- the text is what was made ready before the turn while no event of the turn came; it is used once
abbrev pub IsReady : ℕ → Script → Kept → Kept → Option (List ℕ) → Type 0
IsReady a s before k (Some text) = (k.history.events ≡ before.history.events) × (Some text ≡ option_map (λ f. kept_text f before) (family_ready s before a))
IsReady a s before k None = (family_ready s before a ≡ None) ⊎ ((before.history.events < k.history.events) ⊎ (is_some k.turn.published ≡ true))

-- the rows that the actor's edit leaves marked are ready, or an event came since there were so many
pub record HasLeft (a events : ℕ) (ready : Option (List ℕ)) (k : Kept) : Type 0 where
  pub rows : AreLeft (begun_of a k.jobs) ready
  pub some : is_decided (begun_of a k.jobs) ≡ true → (is_some ready ≡ true) ⊎ (events < k.history.events)

-- a turn of the actor is under way behind these lines, and has room for all that it can still add
pub record IsTurning (a : ℕ) (earlier : List Line) (text : Option (List ℕ)) (p : Parts) : Type 0 where
  pub tied : IsTied p
  pub turn : AddsTurn a earlier p.lines.lines
  pub awake : is_idle p.script (kept_of p.script earlier) a ≡ false
  pub ready : IsReady a p.script (kept_of p.script earlier) p.kept text
  pub since : IsSince (kept_of p.script earlier).history.events p.kept
  pub few : length p.lines.lines + steps_left p.kept + 1 < 2 ^ 64
  pub steps : steps_left p.kept ≤ 96
  pub spare : steps_left p.kept + 1 ≤ p.lines.spare
  pub spare_bytes : 608 * (steps_left p.kept + 1) + most_of_text text ≤ p.lines.spare_bytes

-- ---- behind a turn

-- the turn of the actor was taken to its end
pub record HasTurned (a : ℕ) (old new : Parts) : Type 0 where
  pub stays : StaysWith old new
  pub settled : IsSettled new
  pub turn : AddsTurn a old.lines.lines new.lines.lines

-- it broke off, behind an event of its own
pub record HasBroken (a : ℕ) (old new : Parts) : Type 0 where
  pub stays : StaysWith old new
  pub turn : AddsTurn a old.lines.lines new.lines.lines
  pub event : (kept_of old.script old.lines.lines).history.events < (kept_of new.script new.lines.lines).history.events
