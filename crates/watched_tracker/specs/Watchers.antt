-- The watches of the actors, and which of them watch.
use Rattle.std.specs.Prelude.{slice_get, ◌≡◌, ◌<◌, length, Bool, true, false, if◌then◌else◌, ℕ, List, map, Option, Some, None, option_map, option_and_then}
use Rattle.watchers.specs.declared.filter.Notice.{Notice}
use Rattle.watchers.specs.declared.mailbox.Mailbox.{Mailbox}
use Rattle.watchers.specs.Watches.{WatchValue, mailbox_of, nothing_noticed, told}
use Rattle.rules.specs.declared.kept.Job.{Job}
use Rattle.rules.specs.Kept.{change_at}
use Rattle.tracker.specs.Room.{mailbox_has_room}

-- a watch, and whether it was answered that its actor watches
pub record WatcherValue : Type 0 where
  pub watch : WatchValue
  pub watching : Bool

-- before its `watching`
abbrev pub waiting : WatchValue → WatcherValue
waiting w = record { watch = w; watching = false }

abbrev pub begun : WatcherValue → WatcherValue
begun w = record { watch = nothing_noticed w.watch.mask; watching = true }

-- a notice is offered where its actor watches
abbrev pub offered_to_watcher : Notice → WatcherValue → WatcherValue
offered_to_watcher n w = if w.watching then record w { watch = told n w.watch } else w

abbrev pub offered_to_actor : Notice → Option WatcherValue → Option WatcherValue
offered_to_actor n w = option_map (offered_to_watcher n) w

-- ---- by actor

-- what an actor has in its mailbox, where it watches
abbrev pub mailbox_of_watcher : WatcherValue → Option Mailbox
mailbox_of_watcher w = if w.watching then Some (mailbox_of w.watch) else None

abbrev pub mailbox_of_actor : Option WatcherValue → Option Mailbox
mailbox_of_actor w = option_and_then mailbox_of_watcher w

abbrev pub mailbox_at : ℕ → List (Option WatcherValue) → Option Mailbox
mailbox_at actor watchers = option_and_then mailbox_of_actor (slice_get watchers actor)

abbrev pub actor_has_room : Option WatcherValue → Bool
actor_has_room w = mailbox_has_room (mailbox_of_actor w)

abbrev pub mask_of_actor : Option WatcherValue → Option ℕ
mask_of_actor w = option_map (λ (x : WatcherValue). x.watch.mask) w

-- the watches hold what is kept of each actor's mailbox
abbrev pub HoldMailboxes : List (Option WatcherValue) → List Job → Type 0
HoldMailboxes watchers jobs = map mailbox_of_actor watchers ≡ map (λ (job : Job). job.mailbox) jobs

-- so they do, unless all watches were let go for want of memory
abbrev pub AreHeld : List (Option WatcherValue) → List Job → Type 0
AreHeld watchers jobs = 0 < length (map mask_of_actor watchers) → HoldMailboxes watchers jobs

-- this actor begins to watch
abbrev pub begun_at : ℕ → List (Option WatcherValue) → List (Option WatcherValue)
begun_at actor watchers = change_at actor (option_map begun) watchers
