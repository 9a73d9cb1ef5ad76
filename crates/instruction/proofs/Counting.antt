-- Cells counted up to a line's end.
use Prim.Native.Nat.{ℕ, suc, ◌+◌, ◌*◌, ◌≤◌}
use native.Mathlib.Omega.{arith}
use mathlib.Core.Path.{◌≡◌, refl, ap}
use mathlib.Core.Bool.{true, false}
use mathlib.Core.List.{List}
use lib.ListN.{length}
use Rattle.std.specs.Prelude.{Option, Some, None}
use Rattle.std.specs.Option.{is_some}
use Rattle.rules.proofs.Laws.{no_way}
use Rattle.row.specs.Decoded.{cells_from, cell_at}
use Rattle.row.proofs.Decoding.{named, ended, cell_past}

-- k cells have been passed from the first place on
pub record Counted (text : List ℕ) (first k : ℕ) : Type 0 where
  pub same : k + length (cells_from text (first + 2 * k)) ≡ length (cells_from text first)
  pub inside : first + 2 * k ≤ length text + 1

module _ {text : List ℕ} {first k : ℕ} (s : Counted text first k) (r : Option ℕ) (here : r ≡ cell_at text (first + 2 * k)) where
  pub counted_turn : is_some r ≡ true → Counted text first (k + 1)
  counted_turn = go r here
    where
      go : (r : Option ℕ) → r ≡ cell_at text (first + 2 * k) → is_some r ≡ true → Counted text first (k + 1)
      go None e f = absurd (no_way (cc))
      go (Some c) e f =
          let z = named text (first + 2 * k) c e in
          let l : length (cells_from text (first + 2 * k)) ≡ suc (length (cells_from text (first + 2 * k + 2))) = ap length z.0 in
          let n : first + 2 * (k + 1) ≡ first + 2 * k + 2 = omega arith in
          record { same = rw n (omega (arith, s.same, l)); inside = omega (arith, z.1) }

  pub counted_end : is_some r ≡ false → (k ≡ length (cells_from text first)) × (first + 2 * k ≤ length text + 1)
  counted_end = go r here
    where
      go : (r : Option ℕ) → r ≡ cell_at text (first + 2 * k) → is_some r ≡ false → (k ≡ length (cells_from text first)) × (first + 2 * k ≤ length text + 1)
      go (Some c) e f = absurd (no_way (cc))
      go None e f =
          let z : ◌≡◌ {A = ℕ} (length (cells_from text (first + 2 * k))) 0 = ap length (ended text (first + 2 * k) e) in
          (omega (arith, s.same, z), s.inside)

-- a text names fewer cells than it has bytes
pub counted_all : {text : List ℕ} {first k : ℕ} → Counted text first k → k ≡ length text → (length text ≡ length (cells_from text first)) × (first + 2 * length text ≤ length text + 1)
counted_all {text} {first} {k} s e =
    let z = counted_end s None (cell_past text (first + 2 * k) (omega arith)) refl in
    (omega (arith, e, z.0), omega (arith, e, s.inside))
