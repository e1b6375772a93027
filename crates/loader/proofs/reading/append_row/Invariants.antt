use Rattle.std.proofs.Common.{◌≡◌, ◌≤◌, ◌+◌, ◌-◌, ◌++◌, take, replicate}
use Rattle.loader.proofs.reading.append_row.Given as goal

abbrev pub invariant-fill : goal.invariant-fill
invariant-fill l = record {
  items : l.bytes.items ≡ (l.fn.bytes.items ++ take l.given l.body) ++ replicate (l.counter - l.given) 0xFF;
  spare : l.fn.bytes.spare ≤ l.bytes.spare + l.counter;
  within : l.counter ≤ l.len;
}
