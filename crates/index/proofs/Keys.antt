-- Lists of at most four operands below 1024 that have one key are the same list.
use Prim.Native.Nat.{ℕ, zero, suc, ◌+◌, ◌*◌, ◌%◌, ◌<◌, ◌≤◌}
use native.Mathlib.Omega.{arith}
use native.Mathlib.Decide.{dec_lt}
use mathlib.Core.Path.{◌≡◌, sym}
use mathlib.Core.List.{List}
use lib.ListN.{get_or, length}
use lib.Seq.{ext_get_or}
use borrow.Author.Tests.{lt-ltb, le-ltb}
use Rattle.rules.specs.Basics.{pick}
use Rattle.index.specs.Chains.{digit_at, key_of}

pub digit_in : (os : List ℕ) (k : ℕ) → k < length os → get_or os k 0 % 1024 + 1 ≡ digit_at os k
unfolding digit_at pick
digit_in os k h = rw (lt-ltb k (length os) h)

pub digit_out : (os : List ℕ) (k : ℕ) → length os ≤ k → 0 ≡ digit_at os k
unfolding digit_at pick
digit_out os k h = rw (le-ltb k (length os) h)

digit_small : (os : List ℕ) (k : ℕ) → digit_at os k ≤ 1024
digit_small os k = go (dec_lt k (length os))
  where
    go : Dec (k < length os) → digit_at os k ≤ 1024
    go (yes h) = omega (arith, digit_in os k h)
    go (no h) = omega (arith, digit_out os k (omega arith))

-- ---- the digits of a key

-- the last digit and the rest
peel : (a x b y : ℕ) → a ≤ 1024 → b ≤ 1024 → a + 2048 * x ≡ b + 2048 * y → (a ≡ b) × (x ≡ y)
peel a x b y s t e = go (dec_lt x y) (dec_lt y x)
  where
    go : Dec (x < y) → Dec (y < x) → (a ≡ b) × (x ≡ y)
    go (yes h) l = absurd (omega arith)
    go (no h) (yes l) = absurd (omega arith)
    go (no h) (no l) = let z : x ≡ y = omega arith in (omega arith, z)

module _ (os ps : List ℕ) (e : key_of os ≡ key_of ps) where
  digits_same : (digit_at os 0 ≡ digit_at ps 0) × (digit_at os 1 ≡ digit_at ps 1) × (digit_at os 2 ≡ digit_at ps 2) × (digit_at os 3 ≡ digit_at ps 3)
  unfolding key_of
  digits_same =
      let p = peel (digit_at os 0) (digit_at os 1 + 2048 * (digit_at os 2 + 2048 * digit_at os 3)) (digit_at ps 0) (digit_at ps 1 + 2048 * (digit_at ps 2 + 2048 * digit_at ps 3))
      (digit_small os 0) (digit_small ps 0) e in
      let q = peel (digit_at os 1) (digit_at os 2 + 2048 * digit_at os 3) (digit_at ps 1) (digit_at ps 2 + 2048 * digit_at ps 3) (digit_small os 1) (digit_small ps 1) p.1 in
      let r = peel (digit_at os 2) (digit_at os 3) (digit_at ps 2) (digit_at ps 3) (digit_small os 2) (digit_small ps 2) q.1 in
      (p.0, q.0, r.0, r.1)

  -- at most four digits
  digit_same : (k : ℕ) → k < 4 → digit_at os k ≡ digit_at ps k
  digit_same zero h = digits_same.0
  digit_same (suc zero) h = digits_same.1
  digit_same (suc (suc zero)) h = digits_same.2
  digit_same (suc (suc (suc zero))) h = digits_same.3
  digit_same (suc (suc (suc (suc k)))) h = absurd (omega arith)

  module _ (fewO : length os ≤ 4) (fewP : length ps ≤ 4) where
    -- where one list has ended, so has the other
    ends_together : (a b : List ℕ) → ((k : ℕ) → k < 4 → digit_at a k ≡ digit_at b k) → length b ≤ 4 → length a < length b → ⊥
    ends_together a b h few l =
        let x = digit_out a (length a) (omega arith) in
        let y = digit_in b (length a) l in
        omega (arith, x, y, h (length a) (omega arith))

    long_same : length os ≡ length ps
    long_same = go (dec_lt (length os) (length ps)) (dec_lt (length ps) (length os))
      where
        go : Dec (length os < length ps) → Dec (length ps < length os) → length os ≡ length ps
        go (yes h) l = absurd (ends_together os ps digit_same fewP h)
        go (no h) (yes l) = absurd (ends_together ps os (λ k u. sym (digit_same k u)) fewO l)
        go (no h) (no l) = omega arith

    pub key_same : ((k : ℕ) → k < length os → get_or os k 0 < 1024) → ((k : ℕ) → k < length ps → get_or ps k 0 < 1024) → os ≡ ps
    key_same lowO lowP = ext_get_or 0 os ps long_same (λ k h.
        let z = long_same in
        omega (arith, digit_in os k h, digit_in ps k (omega arith), digit_same k (omega arith), lowO k h, lowP k (omega arith)))
