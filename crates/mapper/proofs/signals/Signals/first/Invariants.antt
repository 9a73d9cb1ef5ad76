use Rattle.std.proofs.Common.{◌≡◌, ℕ, ◌<◌, ◌≤◌, length, get_or}
use Rattle.mapper.proofs.signals.Signals.first.Given as goal

abbrev pub invariant-loop-i : goal.invariant-loop-i
invariant-loop-i l = record {
  wide : length l.table ≡ 576;
  below : (s : ℕ) → s < l.i → get_or l.table s 0 ≡ s;
  above : (s : ℕ) → l.i ≤ s → get_or l.table s 0 ≡ 0;
}
