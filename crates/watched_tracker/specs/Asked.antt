-- The watches that a script asks for.
use Rattle.std.specs.Prelude.{◌≡◌, ℕ, List, [], ◌∷◌, map, Option, Some, None, option_map, ⊤}
use Rattle.std.specs.List.{filter_map}
use Rattle.apdu.specs.Words.{or_else}
use Rattle.script_reader.specs.declared.types.Script.{Script}
use Rattle.script_reader.specs.declared.types.Operation.{Operation}
use Rattle.script_reader.specs.declared.types.Operation.TheVariants as operation
use Rattle.report.specs.declared.answer.Answer.TheVariants as answer
use Rattle.report.specs.declared.line.Line.{Line}
use Rattle.report.specs.declared.line.Line.TheVariants as line
use Rattle.rules.specs.Kept.{operation_at}
use Rattle.watchers.specs.Watches.{WatchValue, nothing_noticed}
use Rattle.watched_tracker.specs.Watchers.{WatcherValue, waiting}

abbrev pub mask_of : Operation → Option ℕ
mask_of (operation.Watch mask) = Some mask
mask_of op = None

-- the mask of an actor's watch; an actor has one at most
abbrev pub mask_asked : List Operation → Option ℕ
mask_asked [] = None
mask_asked (op ∷ later) = or_else (mask_of op) (mask_asked later)

-- by actor; the framework, which is actor 0, does not watch
abbrev pub masks_asked : Script → List (Option ℕ)
masks_asked s = None ∷ map mask_asked s.actors

-- one watch for each `watch` of the script, in its order, to which nothing was offered
abbrev pub watches_asked : Script → List WatchValue
watches_asked s = map nothing_noticed (filter_map mask_asked s.actors)

-- ---- by actor

abbrev pub watcher_with : Option ℕ → Option WatcherValue
watcher_with mask = option_map (λ (m : ℕ). waiting (nothing_noticed m)) mask

abbrev pub watcher_asked : List Operation → Option WatcherValue
watcher_asked operations = watcher_with (mask_asked operations)

abbrev pub watchers_asked : Script → List (Option WatcherValue)
watchers_asked s = None ∷ map watcher_asked s.actors

-- the list begins with the watch of this mask, where there is one
abbrev pub BeginsWithMask : Option ℕ → List WatchValue → Type 0
BeginsWithMask None watches = ⊤
BeginsWithMask (Some m) [] = ⊥
BeginsWithMask (Some m) (w ∷ later) = w ≡ nothing_noticed m

abbrev pub BeginsWith : List Operation → List WatchValue → Type 0
BeginsWith operations watches = BeginsWithMask (mask_asked operations) watches

-- without that watch
abbrev pub without_first : Option ℕ → List WatchValue → List WatchValue
without_first None watches = watches
without_first (Some m) [] = []
without_first (Some m) (w ∷ later) = later

abbrev pub watches_behind : List Operation → List WatchValue → List WatchValue
watches_behind operations watches = without_first (mask_asked operations) watches

-- ---- who watches

abbrev pub if_watch : ℕ → Option Operation → Option ℕ
if_watch actor (Some (operation.Watch mask)) = Some actor
if_watch actor op = None

-- the actor who watches from this line on
abbrev pub watching_behind : Script → Line → Option ℕ
watching_behind s (line.Answered a i answer.Watching) = if_watch a (operation_at s a i)
watching_behind s l = None
