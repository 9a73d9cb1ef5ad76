-- Lines one after another: the work that is left in a loop over lines, whatever their rule.
use Prim.Native.Nat.{ℕ, suc, ◌+◌, ◌-◌, ◌<◌, ◌≤◌}
use native.Mathlib.Omega.{arith}
use mathlib.Core.Path.{◌≡◌, sym, ap, ◌∙◌}
use Rattle.rules.specs.Refusals.{Res, good, refused, ◌>>=◌}
use Rattle.row.specs.Answers.{lines_answer}

-- the lines from line i on, at a place, answer as all of them do
abbrev pub Onward : (ℕ → Res ℕ) → ℕ → ℕ → ℕ → ℕ → Type 0
Onward line start count at i = lines_answer line at (count - i) ≡ lines_answer line start count

module _ (line : ℕ → Res ℕ) (start count at i : ℕ) (before : Onward line start count at i) where
  one_more : (l : Res ℕ) → i < count → l ≡ line at → (l >>= (λ next. lines_answer line next (count - (i + 1)))) ≡ lines_answer line start count
  unfolding lines_answer
  one_more l h e =
      let z : count - i ≡ suc (count - (i + 1)) = omega arith in
      rw e (ap (lines_answer line at) (sym z) ∙ before)

  pub onward_turn : (next : ℕ) → i < count → good next ≡ line at → Onward line start count next (i + 1)
  unfolding ◌>>=◌
  onward_turn next h e = one_more (good next) h e

  pub onward_stop : (r : ℕ) → i < count → refused r ≡ line at → refused r ≡ lines_answer line start count
  unfolding ◌>>=◌
  onward_stop r h e = one_more (refused r) h e

  pub onward_end : count ≤ i → good at ≡ lines_answer line start count
  unfolding lines_answer
  onward_end h = let z : count - i ≡ 0 = omega arith in rw z at before
