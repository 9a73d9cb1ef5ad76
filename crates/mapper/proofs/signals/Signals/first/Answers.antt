use Rattle.std.proofs.Common.{◌≡◌, ℕ, zero, suc, arith, refl, replicate, get_or}
use Rattle.mapper.proofs.signals.Signals.first.Goals as goal

zero_at : (n s : ℕ) → ◌≡◌ {A = ℕ} (get_or (replicate n 0) s 0) 0
zero_at zero s = refl
zero_at (suc n) zero = refl
zero_at (suc n) (suc s) = zero_at n s

pub loop-i-init : goal.loop-i-init
loop-i-init c = record { wide = refl; below = λ s h. absurd (omega arith); above = λ s h. zero_at 576 s }
