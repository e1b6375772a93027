-- The world behind the lines, and what is kept of them.
use Rattle.std.specs.Prelude.{ℕ, ◌-◌, ◌==◌, Bool, true, false, if◌then◌else◌, List, [], ◌∷◌, map, slice_get, Option, Some, None, unwrap_or}
use Rattle.apdu.specs.Words.{same_bytes}
use Rattle.fcp.specs.Content.{Content, missing}
use Rattle.card_model.specs.declared.world.CardState.{CardState}
use Rattle.card_model.specs.declared.world.World.{World}
use Rattle.card_model.specs.Card.{rows_of}
use Rattle.card_model.specs.Step.{step, after_reset, after_event, card_inside}
use Rattle.script_reader.specs.declared.types.Script.{Script}
use Rattle.script_reader.specs.World.{first_world}
use Rattle.report.specs.declared.line.Line.{Line}
use Rattle.report.specs.declared.line.Line.TheVariants as line
use Rattle.families.specs.Families.{View, all_families, shown}
use Rattle.rules.specs.History.{is_event}
use Rattle.epoch_cache.specs.Past.{counted}
use Rattle.rules.specs.Standing.{board_of}
use Rattle.rules.specs.declared.kept.Kept.{Kept}
use Rattle.rules.specs.Kept.{nothing_kept}
use Rattle.rules.specs.After.{is_publication, kept_after, kept_of}

-- ---- the world

abbrev pub world_after : Line → World → World
world_after (line.Exchange a c r) world = (step world c).0
world_after (line.Failed a c true) world = (step world c).0
world_after (line.Failed a c false) world = world
world_after (line.Reset a) world = after_reset world
world_after (line.ResetFailed a) world = world
world_after (line.World a e) world = after_event world e
world_after (line.Turn a) world = world
world_after (line.Begin a i) world = world
world_after (line.Published k f e n text) world = world
world_after (line.EpochEnd k e n) world = world
world_after (line.Refused f n) world = world
world_after (line.Answered a i answer) world = world

abbrev pub world_of : Script → List Line → World
world_of s [] = first_world s
world_of s (l ∷ earlier) = world_after l (world_of s earlier)

-- what the file of a path holds on the card in the slot; without a card it is missing
abbrev pub content_on : Option CardState → List ℕ → Content
content_on None path = missing
content_on (Some card) path = rows_of path card

abbrev pub view_in : World → View
view_in world path = content_on (card_inside world) path

abbrev pub shown_on : Option CardState → ℕ → Option (List ℕ)
shown_on None f = None
shown_on (Some card) f = Some (shown f (content_on (Some card)))

-- the text of what the card in the slot shows of a family; without a card nothing is shown
abbrev pub shown_in : World → ℕ → Option (List ℕ)
shown_in world f = shown_on (card_inside world) f

abbrev pub same_shown : Option (List ℕ) → Option (List ℕ) → Bool
same_shown None None = true
same_shown None (Some b) = false
same_shown (Some a) None = false
same_shown (Some a) (Some b) = same_bytes a b

-- ---- the boards of earlier publications, the newest first; they are what a look of a running system may show

abbrev pub boards_after : Line → Kept → List (List (Option ℕ)) → List (List (Option ℕ))
boards_after l behind boards = if is_publication l then board_of behind.standings ∷ boards else boards

abbrev pub boards_of : Script → List Line → List (List (Option ℕ))
boards_of s [] = []
boards_of s (l ∷ earlier) = boards_after l (kept_of s (l ∷ earlier)) (boards_of s earlier)

abbrev pub empty_board : List (Option ℕ)
empty_board = map (λ f. None) all_families

-- the board after the first m of `count` publications
abbrev pub board_after : ℕ → ℕ → List (List (Option ℕ)) → List (Option ℕ)
board_after count m boards = if m == 0 then empty_board else unwrap_or (slice_get boards (count - m)) empty_board

-- ---- the texts of the publications so far, the newest first; the end of an epoch has none

abbrev pub texts_after : Line → List (List ℕ) → List (List ℕ)
texts_after (line.Published k f e n text) texts = text ∷ texts
texts_after (line.EpochEnd k e n) texts = [] ∷ texts
texts_after l texts = texts

abbrev pub texts_of : List Line → List (List ℕ)
texts_of [] = []
texts_of (l ∷ earlier) = texts_after l (texts_of earlier)

-- that of publication `number` of `count`
abbrev pub text_of : ℕ → ℕ → List (List ℕ) → List ℕ
text_of count number texts = unwrap_or (slice_get texts (count - number)) []

-- ---- what the card shows of a family, and the last event that changed it

pub record Changes : Type 0 where
  pub world : World
  pub events : ℕ
  pub changed : ℕ

abbrev pub changes_by : ℕ → Line → World → ℕ → Changes → Changes
changes_by f l world events c = record {
  world = world;
  events = events;
  changed = elim (is_event l) [ false ↦ c.changed | true ↦ if same_shown (shown_in c.world f) (shown_in world f) then c.changed else events ];
}

abbrev pub changes_after : ℕ → Line → Changes → Changes
changes_after f l c = changes_by f l (world_after l c.world) (counted (is_event l) c.events) c

abbrev pub changes_of : Script → ℕ → List Line → Changes
changes_of s f [] = record { world = first_world s; events = 0; changed = 0 }
changes_of s f (l ∷ earlier) = changes_after f l (changes_of s f earlier)

-- ---- all of it

pub record State : Type 0 where
  pub world : World
  pub kept : Kept
  pub boards : List (List (Option ℕ))
  pub texts : List (List ℕ)

abbrev pub first_state : Script → State
first_state s = record { world = first_world s; kept = nothing_kept s; boards = []; texts = [] }

abbrev pub state_by : Line → Kept → State → State
state_by l behind st = record { world = world_after l st.world; kept = behind; boards = boards_after l behind st.boards; texts = texts_after l st.texts }

abbrev pub state_after : Script → Line → State → State
state_after s l st = state_by l (kept_after s l st.kept) st

abbrev pub state_of : Script → List Line → State
state_of s [] = first_state s
state_of s (l ∷ earlier) = state_after s l (state_of s earlier)
