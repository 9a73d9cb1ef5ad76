use Prim.Native.Nat.{ℕ, ◌<◌, ◌^◌}
use mathlib.Core.Path.{◌≡◌}
use Rattle.rules.specs.Refusals.{Res, meaning}
use Rattle.row.proofs.Onward.{Onward}
use Rattle.row.proofs.frames.each_line.Given as goal

abbrev pub invariant-loop-line : goal.invariant-loop-line
invariant-loop-line g l = record {
  small : l.at < 2 ^ 64;
  same : (line : ℕ → Res ℕ) → ((at : ℕ) (r : _) → at < 2 ^ 64 → goal.F-post g l.read at r → meaning r ≡ line at) → Onward line l.start l.count l.at l._line;
}
