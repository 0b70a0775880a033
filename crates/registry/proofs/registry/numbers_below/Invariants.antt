use Rattle.std.proofs.Common.{◌≡◌, ◌+◌, ◌<◌, ◌≤◌, ◌↔◌, ℕ, length, vec_capacity}
use Rattle.std.specs.List.{Contains}
use Rattle.registry.specs.Layout.{AreOnce}
use Rattle.registry.proofs.registry.numbers_below.Given as goal

-- the numbers from this one on
abbrev pub invariant-loop-number : goal.invariant-loop-number
invariant-loop-number l = record {
  counted : length l.numbers.items + l.number ≡ l.end;
  once : AreOnce l.numbers.items;
  all : (n : ℕ) → Contains l.numbers.items n ↔ ((l.number ≤ n) × (n < l.end));
  room : l.end ≤ vec_capacity l.numbers;
}
