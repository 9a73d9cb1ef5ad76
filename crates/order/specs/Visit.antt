-- The sequence of the gates executed so far, and the order that the visit of all roots gives.
-- Assumes nothing.
use Rattle.std.specs.Prelude.{ℕ, suc, ◌<◌, ◌≤◌, ◌≡◌, Bool, true, false, List, [], count_by, eqb, get_or, take, length}
use Rattle.rules.specs.Basics.{mem, keep, each, upto}
use Rattle.rules.specs.Order.{visit}

-- the marks are those of the first n of the sequence, of which there are as many as marks; behind them nothing is written
pub record Tied (done : List Bool) (seq : List ℕ) (n : ℕ) : Type 0 where
  pub size : n ≡ count_by (λ b. b) done
  pub behind : (i : ℕ) → n ≤ i → get_or seq i 0 ≡ 0
  pub mark : (s : ℕ) → s < 576 → get_or done s false ≡ mem s (take n seq)

-- each signal's operands in a table of them
abbrev pub ops_in : List (List ℕ) → ℕ → List ℕ
ops_in rows s = get_or rows s []

-- a signal's operands are lower than it is
pub record Lower (ops : ℕ → List ℕ) : Type 0 where
  pub low : (s o : ℕ) → mem o (ops s) ≡ true → o < s

-- ---- all roots: gates that no gate reads

abbrev pub unread : List ℕ → ℕ → Bool
unread left s = eqb (get_or left s 0) 0

-- the unread ones of the k signals from a on, visited from d on
unfoldable pub order_from : (ℕ → List ℕ) → List ℕ → ℕ → ℕ → List ℕ → List ℕ
unfolding each keep upto visit
order_from ops left a k d = each (λ g done. visit ops (suc g) g done) (keep (unread left) (upto a k)) d

-- as many as said, which are the first of the list; behind them nothing is written
pub record Listed (d : List ℕ) (n : ℕ) (seq : List ℕ) : Type 0 where
  pub fits : n ≤ 576
  pub is : take n seq ≡ d
  pub behind : (i : ℕ) → n ≤ i → get_or seq i 0 ≡ 0

-- ---- the whole order

-- gates from first up to end, each once
pub record Steps (first end : ℕ) (d : List ℕ) : Type 0 where
  pub once : (i : ℕ) → i < length d → mem (get_or d i 0) (take i d) ≡ false
  pub low : (i : ℕ) → i < length d → first ≤ get_or d i 0
  pub high : (i : ℕ) → i < length d → get_or d i 0 < end
