-- The visit's loop over a signal's operands, and the loop over the roots, against the rule's visit by depth.
-- Assumes nothing.
use Prim.Native.Nat.{ℕ, zero, suc, ◌+◌, ◌-◌, ◌<◌, ◌≤◌}
use native.Mathlib.Omega.{arith}
use native.Mathlib.Numerals.{add-one}
use mathlib.Core.Path.{◌≡◌, refl, ap, ◌∙◌}
use mathlib.Core.Bool.{Bool, true, false}
use mathlib.Core.List.{List, [], ◌∷◌, ◌++◌}
use borrow.Author.Tests.{eq-eqb, ne_eqb}
use lib.ListN.{get_or, length, drop, drop_of_length-le}
use lib.Seq.{drop-cons}
use Rattle.rules.specs.Basics.{pick, mem, keep, each, upto}
use Rattle.rules.specs.Order.{visit}
use Rattle.rules.proofs.Laws.{cons_self, cons_more}
use Rattle.order.specs.Visit.{Lower, order_from}
use Rattle.netlist.proofs.Arrays.{get_or-mem}
use Rattle.order.proofs.Marks.{mem-other}

-- ---- the rule's visit by depth: a depth over the signal's number is enough, and nothing above the signal is executed

each_same : (f h : ℕ → List ℕ → List ℕ) (os : List ℕ) → ((o : ℕ) → mem o os ≡ true → (d : List ℕ) → f o d ≡ h o d) → (d : List ℕ) → each f os d ≡ each h os d
unfolding each
each_same f h [] e d = refl
each_same f h (o ∷ os) e d = ap (each f os) (e o (cons_self o os) d) ∙ each_same f h os (λ x m. e x (cons_more x o os m)) (h o d)

pub each_keeps : (f : ℕ → List ℕ → List ℕ) (s : ℕ) (os : List ℕ) → ((o : ℕ) → mem o os ≡ true → (d : List ℕ) → mem s (f o d) ≡ mem s d) → (d : List ℕ) → mem s (each f os d) ≡ mem s d
unfolding each
each_keeps f s [] e d = refl
each_keeps f s (o ∷ os) e d = each_keeps f s os (λ x m. e x (cons_more x o os m)) (f o d) ∙ e o (cons_self o os) d

module _ (ops : ℕ → List ℕ) (w : Lower ops) where
  pub deep_enough : (a b s : ℕ) (d : List ℕ) → s < a → s < b → visit ops a s d ≡ visit ops b s d
  unfolding visit
  deep_enough zero b s d h k = absurd (omega arith)
  deep_enough (suc a) zero s d h k = absurd (omega arith)
  deep_enough (suc a) (suc b) s d h k =
      ap (λ l. pick (mem s d) d (l ++ (s ∷ [])))
      (each_same (λ o e. visit ops a o e) (λ o e. visit ops b o e) (ops s)
      (λ o m e. let l = w.low s o m in deep_enough a b o e (omega arith) (omega arith)) d)

  pub keeps_higher : (a s o : ℕ) (d : List ℕ) → o < s → mem s (visit ops a o d) ≡ mem s d
  unfolding visit pick
  keeps_higher zero s o d h = refl
  keeps_higher (suc a) s o d h =
      go (mem o d) (mem-other o s (each (λ x e. visit ops a x e) (ops o) d) (λ e. omega arith)
      ∙ each_keeps (λ x e. visit ops a x e) s (ops o) (λ x m e. let l = w.low o x m in keeps_higher a s x e (omega arith)) d)
    where
      go : (b : Bool) → mem s (each (λ x e. visit ops a x e) (ops o) d ++ (o ∷ [])) ≡ mem s d
          → mem s (pick b d (each (λ x e. visit ops a x e) (ops o) d ++ (o ∷ []))) ≡ mem s d
      go true e = refl
      go false e = e

-- ---- after j of the operands of s

pub record Walking (ops : ℕ → List ℕ) (s : ℕ) (d₀ d : List ℕ) (j : ℕ) : Type 0 where
  pub inside : j ≤ length (ops s)
  pub fresh : mem s d ≡ false
  pub left : each (λ o d. visit ops s o d) (drop j (ops s)) d ≡ each (λ o d. visit ops s o d) (ops s) d₀

pub operand_lower : (ops : ℕ → List ℕ) (s j : ℕ) → Lower ops → j < length (ops s) → get_or (ops s) j 0 < s
operand_lower ops s j w h = w.low s (get_or (ops s) j 0) (get_or-mem (ops s) j h)

module _ {ops : ℕ → List ℕ} {s : ℕ} {d₀ d : List ℕ} {j : ℕ} (w : Lower ops) (v : Walking ops s d₀ d j) where
  pub walking_turn : {o : ℕ} → j < length (ops s) → o ≡ get_or (ops s) j 0 → Walking ops s d₀ (visit ops (suc o) o d) (j + 1)
  unfolding each
  walking_turn {o} h e =
      let l : o < s = rw e (operand_lower ops s j w h) in
      let p : drop j (ops s) ≡ o ∷ drop (suc j) (ops s) = rw e (drop-cons (ops s) j 0 h) in
      let q : visit ops (suc o) o d ≡ visit ops s o d = deep_enough ops w (suc o) s o d (omega arith) l in
      record {
        inside = omega arith;
        fresh = ap (mem s) q ∙ keeps_higher ops w s s o d l ∙ v.fresh;
        left = rw (add-one j, q) (rw p at v.left);
      }

  pub walking_done : length (ops s) ≤ j → mem s d₀ ≡ false → d ++ (s ∷ []) ≡ visit ops (suc s) s d₀
  unfolding each visit pick
  walking_done h e = rw e (ap (λ l. l ++ (s ∷ [])) (rw (drop_of_length-le (ops s) h) at v.left))

pub walking_none : (ops : ℕ → List ℕ) (s : ℕ) (d : List ℕ) → mem s d ≡ true → d ≡ visit ops (suc s) s d
unfolding visit pick
walking_none ops s d e = rw e

-- ---- the loop over the roots

pub record Rooting (ops : ℕ → List ℕ) (left : List ℕ) (first end : ℕ) (d₀ d : List ℕ) (s : ℕ) : Type 0 where
  pub inside : s ≤ end
  pub rest : order_from ops left s (end - s) d ≡ order_from ops left first (end - first) d₀

module _ {ops : ℕ → List ℕ} {left : List ℕ} {first end : ℕ} {d₀ d : List ℕ} {s : ℕ} (w : Rooting ops left first end d₀ d s) where
  part : s < end → end - s ≡ suc (end - suc s)
  part h = omega arith

  pub rooting_read : s < end → (get_or left s 0 ≡ 0 → ⊥) → Rooting ops left first end d₀ d (s + 1)
  unfolding order_from keep upto each pick
  rooting_read h e = record { inside = omega arith; rest = rw (add-one s) (rw (part h, ne_eqb (get_or left s 0) 0 e) at w.rest) }

  pub rooting_turn : s < end → get_or left s 0 ≡ 0 → Rooting ops left first end d₀ (visit ops (suc s) s d) (s + 1)
  unfolding order_from keep upto each pick
  rooting_turn h e = record { inside = omega arith; rest = rw (add-one s) (rw (part h, eq-eqb (get_or left s 0) 0 e) at w.rest) }

  pub rooting_end : end ≤ s → d ≡ order_from ops left first (end - first) d₀
  unfolding order_from keep upto each
  rooting_end h = let p : end - s ≡ 0 = omega arith in rw p at w.rest
