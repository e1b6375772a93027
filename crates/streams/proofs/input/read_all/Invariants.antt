use Rattle.std.proofs.Common.{◌≡◌, ◌≤◌, ◌-◌, length, suc}
use Rattle.streams.proofs.Sources.{HasGiven, Told}
use Rattle.streams.proofs.input.read_all.Given as goal

abbrev pub invariant-reads : goal.invariant-reads
invariant-reads g l = record {
  later : l.fn.streams.source.faults ≤ g.S.Source.faults l.streams-inside.source;
  given : HasGiven l.fn.streams.source.given (g.S.Source.given l.streams-inside.source) (length l.bytes.items);
  told : Told l.fn.streams.source.left (g.S.Source.left l.streams-inside.source) l.bytes.items;
  written : g.K.Sink.written l.streams-inside.sink ≡ l.fn.streams.sink.written;
  faults : g.K.Sink.faults l.streams-inside.sink ≡ l.fn.streams.sink.faults;
}

abbrev pub decreases-reads : goal.decreases-reads
decreases-reads g l = suc l.limit - length l.bytes.items
