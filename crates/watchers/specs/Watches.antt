-- What a watch holds of the notices that it is offered.
use Rattle.std.specs.Prelude.{◌≡◌, ◌≤◌, ℕ, ◌+◌, ◌-◌, nat_lt, if◌then◌else◌, List, [], ◌∷◌, ◌++◌, length, drop, map, filter}
use Rattle.circular_buffer.specs.Buffer.{Buffer, keep_last}
use Rattle.watchers.specs.declared.filter.Notice.{Notice}
use Rattle.watchers.specs.declared.mailbox.Mailbox.{Mailbox}
use Rattle.watchers.specs.Watching.{mailbox_len, wants}

-- the mask of its filter, how many wanted notices came before those that are kept, and these, the oldest first
pub record WatchValue : Type 0 where
  pub mask : ℕ
  pub dropped : ℕ
  pub notices : List Notice

abbrev pub nothing_noticed : ℕ → WatchValue
nothing_noticed mask = record { mask = mask; dropped = 0; notices = [] }

-- one more at the end, and the first is dropped where the mailbox is full
abbrev pub with_one_more : Notice → WatchValue → WatchValue
with_one_more n w =
    if nat_lt (length w.notices) mailbox_len then record w { notices = w.notices ++ n ∷ [] }
    else record w { dropped = w.dropped + 1; notices = drop 1 w.notices ++ n ∷ [] }

abbrev pub told : Notice → WatchValue → WatchValue
told n w = if wants w.mask n.family then with_one_more n w else w

-- the numbers alone, as a report tells them
abbrev pub mailbox_of : WatchValue → Mailbox
mailbox_of w = record { mask = w.mask; dropped = w.dropped; numbers = record { items = map (λ (n : Notice). n.number) w.notices } }

-- ---- looking back over all that was offered

-- the oldest first
abbrev pub told_all : List Notice → WatchValue → WatchValue
told_all [] w = w
told_all (n ∷ later) w = told_all later (told n w)

abbrev pub wanted : ℕ → List Notice → List Notice
wanted mask offered = filter (λ (n : Notice). wants mask n.family) offered

-- a watch that was offered these keeps the last wanted ones, and tells how many came before
abbrev pub KeepsTheLast : Type 0
KeepsTheLast = (mask : ℕ) (offered : List Notice) → told_all offered (nothing_noticed mask) ≡ record {
  mask = mask;
  dropped = length (wanted mask offered) - mailbox_len;
  notices = keep_last mailbox_len (wanted mask offered);
}

-- ---- the buffer

-- a buffer that is a mailbox
pub record IsMailbox (b : Buffer Notice) : Type 0 where
  pub capacity : b.capacity ≡ mailbox_len
  pub fits : length b.items ≤ mailbox_len
