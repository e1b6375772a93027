-- What a watcher is told.
--
-- Looking back over the lines: an actor's notices are the numbers of the publications since its `watching` that its mask asks for. The
-- last 64 of them are kept, and how many came before them. Taking the notices does not empty the mailbox.
use Rattle.std.specs.Prelude.{ℕ, ◌+◌, ◌/◌, ◌%◌, ◌^◌, ◌==◌, nat_lt, Bool, if◌then◌else◌, [], ◌∷◌, ◌++◌, length, drop, Option, Some, None}
use Rattle.watchers.specs.declared.mailbox.Mailbox.{Mailbox}

abbrev pub mailbox_len : ℕ
mailbox_len = 64

-- bit f of the mask for family f, and bit 7 for an epoch's end; bit 0 is the lowest
abbrev pub wants : ℕ → Option ℕ → Bool
wants mask (Some f) = (mask / 2 ^ f) % 2 == 1
wants mask None = (mask / 2 ^ 7) % 2 == 1

-- one number more at the end, and the first is dropped where the mailbox is full
abbrev pub with_notice : ℕ → Mailbox → Mailbox
with_notice number m =
    if nat_lt (length m.numbers.items) mailbox_len then record m { numbers = record { items = m.numbers.items ++ number ∷ [] } }
    else record m { dropped = m.dropped + 1; numbers = record { items = drop 1 m.numbers.items ++ number ∷ [] } }

-- a publication of this family, or of an epoch's end
abbrev pub offered : Option ℕ → ℕ → Mailbox → Mailbox
offered kind number m = if wants m.mask kind then with_notice number m else m

abbrev pub offered_to : Option ℕ → ℕ → Option Mailbox → Option Mailbox
offered_to kind number None = None
offered_to kind number (Some m) = Some (offered kind number m)
