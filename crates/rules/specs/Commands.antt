-- What a line is to the exchanges of a command, and to what is selected on the basic channel.
use Rattle.std.specs.Prelude.{ℕ, if◌then◌else◌, List, Option, None}
use Rattle.report.specs.declared.line.Line.{Line}
use Rattle.report.specs.declared.line.Line.TheVariants as line
use Rattle.link.specs.declared.chain.Chain.{Chain}
use Rattle.link.specs.declared.chain.Final.{Final}
use Rattle.rules.specs.History.{is_epoch_border}
use Rattle.link.specs.Commands.{chain_after, final_after, selection_after}

-- a line that is no exchange ends the chain
abbrev pub chain_behind : Line → Option Chain → Option Chain
chain_behind (line.Exchange a c r) before = chain_after c r before
chain_behind l before = None

abbrev pub final_of : Line → ℕ → Option Chain → Option Final
final_of (line.Exchange a c r) events before = final_after a c r events before
final_of l events before = None

-- none where it is not known, and where it is the master file or the directory of an application
abbrev pub selection_behind : Line → Option (List ℕ) → Option (List ℕ)
selection_behind (line.Exchange a c r) before = selection_after c r before
selection_behind l before = if is_epoch_border l then None else before
