use Rattle.std.proofs.Common.{◌≡◌, ◌<◌, ◌≤◌, ◌++◌, [], Err, length, take}
use Rattle.schedule.proofs.held.Held.cut.Given as goal

abbrev pub invariant-loop-rest : goal.invariant-loop-rest
invariant-loop-rest g l = record {
  good : g.T.Front.read l.fn.self ≡ Err [] → g.T.Front.read (take l.self-inside.len l.self-inside.bytes) ≡ Err [];
  text : g.T.Front.read l.fn.self ≡ Err [] → take l.self-inside.len l.self-inside.bytes ++ l.rest ≡ l.fn.self ++ l.text;
  short : length l.rest ≤ length l.text;
  room : l.self-inside.len < 56;
}

abbrev pub decreases-loop-rest : goal.decreases-loop-rest
decreases-loop-rest g l = length l.rest
