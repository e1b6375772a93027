-- PIN sessions, and what an access asks for.
use Rattle.std.specs.Prelude.{ℕ, ◌==◌, ◌&&◌, Bool, if◌then◌else◌, List, Option, Some, None}
use Rattle.std.specs.List.{list_any}
use Rattle.fcp.specs.declared.rule.Need.{Need}
use Rattle.fcp.specs.declared.rule.Need.TheVariants.{Always, Never, Key}

-- the PIN of a key reference was verified in an epoch
pub record SessionValue : Type 0 where
  pub key : ℕ
  pub epoch : ℕ

abbrev pub is_session : ℕ → ℕ → SessionValue → Bool
is_session key epoch session = (session.key == key) && (session.epoch == epoch)

abbrev pub has_session : ℕ → ℕ → List SessionValue → Bool
has_session key epoch sessions = list_any (is_session key epoch) sessions

-- the key that an access asks for while no session of this epoch has it; what is never allowed is left to the card
abbrev pub missing_key : Need → List SessionValue → ℕ → Option ℕ
missing_key Always sessions epoch = None
missing_key Never sessions epoch = None
missing_key (Key key) sessions epoch = if has_session key epoch sessions then None else Some key
