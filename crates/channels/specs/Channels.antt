-- The commands that open and close logical channels, and the number of one that was opened.
use Rattle.std.specs.Prelude.{ℕ, ◌==◌, ◌&&◌, ◌||◌, not, Bool, if◌then◌else◌, List, [], ◌∷◌, Option, Some, None}
use Rattle.std.specs.List.{list_all}
use Rattle.apdu.specs.Values.{CommandValue}
use Rattle.apdu.specs.Words.{is_one_of, is_between}
use Rattle.apdu.specs.declared.class.ClassKind.{ClassKind}
use Rattle.apdu.specs.declared.class.ClassKind.TheVariants.{Plain}
use Rattle.apdu.specs.Apdu.{command, with_class, class_for, channel_of, select_ins, manage_channel_ins, is_success}
use Rattle.link.specs.declared.chain.Final.{Final}

-- ---- commands

abbrev pub open_command : CommandValue
open_command = command manage_channel_ins 0x00 0x00 [] (Some 1)

abbrev pub close_command : ℕ → CommandValue
close_command number = command manage_channel_ins 0x80 number [] None

abbrev pub select_application : ℕ → List ℕ → CommandValue
select_application channel aid = with_class (class_for Plain channel) (command select_ins 0x04 0x0C aid None)

abbrev pub is_opening : CommandValue → Bool
is_opening c = (c.ins == manage_channel_ins) && (c.p1 == 0x00)

abbrev pub new_number : List ℕ → List ℕ → Option ℕ
new_number held (n ∷ []) = if is_between 1 19 n && not (is_one_of n held) then Some n else None
new_number held _ = None

-- the channel that MANAGE CHANNEL opened: one byte from 1 to 19 that no held channel has
abbrev pub opened_number : List ℕ → Final → Option ℕ
opened_number held f = if is_success f.response.sw then new_number held f.response.body else None

abbrev pub class_on : ℕ → ℕ → Option (ClassKind × ℕ) → ℕ
class_on channel class None = class
class_on channel class (Some (kind, other)) = class_for kind channel

-- the command with the class of its kind for the channel
abbrev pub on_channel : ℕ → CommandValue → CommandValue
on_channel channel c = with_class (class_on channel c.class (channel_of c.class)) c

-- ---- the card's channels are the basic one and those held

abbrev pub same_channels : List ℕ → List ℕ → Bool
same_channels opened held =
    is_one_of 0 opened
    && list_all (λ n. (n == 0) || is_one_of n held) opened
    && list_all (λ n. is_one_of n opened) held
