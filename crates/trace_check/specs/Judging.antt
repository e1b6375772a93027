-- What stands behind the lines so far, the tests by it, and how a line changes it.
use Rattle.std.specs.Prelude.{◌≡◌, ℕ, ◌+◌, Bool, true, false, if◌then◌else◌, List, [], ◌∷◌, ◌++◌, length, reverse, slice_get, unwrap_or, Option, ◌==◌, ◌-◌, ◌&&◌, is_some}
use Rattle.card_model.specs.declared.world.World.{World}
use Rattle.card_model.specs.Slot.{refusal_of}
use Rattle.script_reader.specs.declared.types.Script.{Script}
use Rattle.script_reader.specs.World.{first_world}
use Rattle.report.specs.Values.{SeenValue}
use Rattle.report.specs.declared.line.Mode.{Mode}
use Rattle.report.specs.declared.line.Line.{Line}
use Rattle.report.specs.declared.line.Line.TheVariants as line
use Rattle.planner.specs.Room.{handles_fit, turn_fits}
use Rattle.rules.specs.declared.kept.Kept.{Kept}
use Rattle.rules.specs.History.{is_event}
use Rattle.rules.specs.Kept.{nothing_kept}
use Rattle.rules.specs.Standing.{board_of}
use Rattle.rules.specs.After.{is_mark, is_publication, kept_after}
use Rattle.rules.specs.State.{State, world_after, empty_board}
use Rattle.rules.specs.Rules.{is_count_right, same_board, has_right_verify, has_right_place, has_right_fault}
use Rattle.rules.specs.Legal.{Tests, mark_tests, other_tests, end_tests, first_false}
use Rattle.tracker.specs.Room.{HasRoom}
use Rattle.trace_check.specs.Displays.{first_displays, all_refreshed, all_told, is_rest_right, writes_nothing, AreShown}
use Rattle.trace_check.specs.declared.behind.Behind.{Behind}
use Rattle.trace_check.specs.declared.displays.Displays.{Displays}
use Rattle.trace_check.specs.declared.judge.Sent.{Sent}

-- ---- boards, the first one first

abbrev pub boards_behind : Line → Kept → List (List (Option ℕ)) → List (List (Option ℕ))
boards_behind l behind boards = if is_publication l then boards ++ board_of behind.standings ∷ [] else boards

-- the board behind so many publications
abbrev pub board_of_first : ℕ → List (List (Option ℕ)) → List (Option ℕ)
board_of_first count boards = if count == 0 then empty_board else unwrap_or (slice_get boards (count - 1)) empty_board

abbrev pub is_look_right : Mode → Kept → List (List (Option ℕ)) → ℕ → SeenValue → Bool
is_look_right m k boards a seen = is_count_right m k a seen.count && same_board seen.shown (board_of_first seen.count boards)

-- ---- the state, as the rules have it

-- the texts of publications are kept by family
abbrev pub seen_state : World → Kept → List (List (Option ℕ)) → State
seen_state world kept boards = record { world = world; kept = kept; boards = reverse boards; texts = [] }

abbrev pub state_now : Behind → State
state_now b = seen_state b.slot.world b.tracker b.boards

-- ---- tests

abbrev pub mark_tests_now : Script → Mode → Line → Behind → Tests
mark_tests_now s m l b = record (mark_tests s m (λ f. 0) (state_now b) l) { rest = is_rest_right b.tracker b.displays }

abbrev pub end_tests_now : Script → Mode → Behind → Tests
end_tests_now s m b = record (end_tests s m (λ f. 0) (state_now b)) { rest = is_rest_right b.tracker b.displays }

abbrev pub tests_now : Script → Mode → Line → Behind → Tests
tests_now s m l b = elim (is_mark l) [ true ↦ mark_tests_now s m l b | false ↦ other_tests s m (state_now b) l ]

-- an exchange, done or failed
abbrev pub is_sent : Line → Bool
is_sent (line.Exchange a c r) = true
is_sent (line.Failed a c d) = true
is_sent l = false

abbrev pub sent_tests : Script → Mode → State → Line → Sent
sent_tests s m st l = record {
  verifications = has_right_verify s st.kept l;
  turns = has_right_place s m st l;
  faults = has_right_fault s st.world st.kept l;
}

abbrev pub lowest_sent : Bool → Sent → Option ℕ
lowest_sent edits t = first_false 1 (true ∷ true ∷ edits ∷ true ∷ true ∷ true ∷ t.verifications ∷ t.turns ∷ true ∷ t.faults ∷ [])

-- ---- what stands behind a line

-- no call is planned to fail, there is a board for each publication, and what the card shows is known
pub record IsReady (b : Behind) : Type 0 where
  pub faults : b.slot.plan.faults ≡ []
  pub boards : length b.boards ≡ b.tracker.publications
  pub shown : AreShown b.slot.world b.displays

-- the same, and one more line can be followed
pub record HasSpace (b : Behind) : Type 0 where
  pub ready : IsReady b
  pub room : HasRoom b.tracker
  pub handles : handles_fit b.tracker.handles ≡ true
  pub turn : turn_fits b.tracker.turn.actor b.tracker.jobs ≡ true

-- what is kept behind the line may ask for memory
abbrev pub asks_memory : Line → Bool
asks_memory (line.Turn a) = true
asks_memory (line.Begin a i) = true
asks_memory (line.Exchange a c r) = true
asks_memory (line.Answered a i given) = true
asks_memory l = false

-- the slot refuses the line's event of the world
abbrev pub is_refused : World → Line → Bool
is_refused world (line.World a e) = is_some (refusal_of world e)
is_refused world l = false

-- the line can be followed, behind its test
pub record MayFollow (l : Line) (b : Behind) : Type 0 where
  pub faults : b.slot.plan.faults ≡ []
  pub taken : is_refused b.slot.world l ≡ false
  pub shown : writes_nothing l ≡ true → AreShown b.slot.world b.displays
  pub room : HasRoom b.tracker
  pub handles : handles_fit b.tracker.handles ≡ true

-- before the first line
pub record IsFirst (s : Script) (b : Behind) : Type 0 where
  pub world : b.slot.world ≡ first_world s
  pub faults : b.slot.plan.faults ≡ []
  pub kept : b.tracker ≡ nothing_kept s
  pub boards : b.boards ≡ []
  pub displays : b.displays ≡ first_displays (first_world s)

-- an exchange changes the world as it is tested
abbrev pub world_tested : Line → World → World
world_tested l world = elim (is_sent l) [ true ↦ world_after l world | false ↦ world ]

abbrev pub world_followed : Line → World → World
world_followed l world = elim (is_sent l) [ true ↦ world | false ↦ world_after l world ]

-- no more than the world, and the number of calls
pub record Tested (l : Line) (old new : Behind) : Type 0 where
  pub world : new.slot.world ≡ world_tested l old.slot.world
  pub faults : new.slot.plan.faults ≡ []
  pub kept : new.tracker ≡ old.tracker
  pub boards : new.boards ≡ old.boards
  pub displays : new.displays ≡ old.displays

abbrev pub told_behind : Line → Displays → Displays
told_behind (line.Published k f e n text) d = all_told f text d
told_behind l d = d

-- `event` is the number of the event that the line is, `world` is the one behind it
abbrev pub displays_behind : Line → ℕ → World → Displays → Displays
displays_behind l event world d = elim (is_event l) [ true ↦ all_refreshed event world d | false ↦ told_behind l d ]

-- what stood before the line and what stands behind it, where the line left this world
pub record KeepsUp (s : Script) (l : Line) (left : World) (old new : Behind) : Type 0 where
  pub world : new.slot.world ≡ left
  pub faults : new.slot.plan.faults ≡ []
  pub kept : new.tracker ≡ kept_after s l old.tracker
  pub boards : new.boards ≡ boards_behind l (kept_after s l old.tracker) old.boards
  pub displays : new.displays ≡ displays_behind l (old.tracker.history.events + 1) left old.displays

-- behind the test of the line
abbrev pub Followed : Script → Line → Behind → Behind → Type 0
Followed s l old new = KeepsUp s l (world_followed l old.slot.world) old new

-- behind the line
abbrev pub Follows : Script → Line → Behind → Behind → Type 0
Follows s l old new = KeepsUp s l (world_after l old.slot.world) old new
