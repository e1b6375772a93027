-- What a line does to start-up, and to the TERMINAL RESPONSE that is owed.
use Rattle.std.specs.Prelude.{ℕ, if◌then◌else◌, Option, None}
use Rattle.apdu.specs.Values.{CommandValue}
use Rattle.refresh_cmd.specs.Values.{ProactiveValue}
use Rattle.report.specs.declared.line.Line.{Line}
use Rattle.report.specs.declared.line.Line.TheVariants as line
use Rattle.rules.specs.History.{is_epoch_border}
use Rattle.link.specs.declared.chain.Final.{Final}
use Rattle.refresher.specs.Refresh.{owed_by, startup_after}

abbrev pub startup_behind : Line → Option Final → ℕ → ℕ
startup_behind (line.Exchange a c r) f step = startup_after c f step
startup_behind l f step = if is_epoch_border l then 0 else step

-- the TERMINAL RESPONSE that is owed
abbrev pub owed_behind : Line → Option ProactiveValue → Option Final → Option CommandValue → Option CommandValue
owed_behind l refresh f before = if is_epoch_border l then None else owed_by refresh f before
