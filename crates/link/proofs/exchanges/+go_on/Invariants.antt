use Rattle.std.proofs.Common.{◌-◌}
use Rattle.std.specs.Option.{option_copied}
use Rattle.link.specs.Commands.{count_of}
use Rattle.link.proofs.exchanges.+go_on.Given as goal

-- the exchanges that are left
abbrev pub decreases-go_on : goal.decreases-go_on
decreases-go_on g l = 4 - count_of (option_copied l.before)
