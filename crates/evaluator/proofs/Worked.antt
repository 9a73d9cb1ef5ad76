-- The gates worked out one after the other.
use Prim.Native.Nat.{ℕ, suc, ◌+◌, ◌*◌, ◌<◌}
use native.Mathlib.Omega.{arith}
use native.Mathlib.Numerals.{add-one}
use mathlib.Core.Path.{◌≡◌, refl, sym, ap, ◌∙◌}
use mathlib.Core.Bool.{Bool, true, false, ◌&&◌}
use Rattle.std.specs.Int.{from_bool}
use Rattle.std.specs.List.{list_all}
use mathlib.Core.List.{List, [], ◌∷◌, ◌++◌}
use lib.ListN.{get_or, length, take, set}
use lib.Dec.{eqb}
use lib.Seq.{take-suc-set, get_or-take}
use Rattle.rules.specs.Basics.{pick, mem}
use Rattle.rules.specs.Values.{nor, table}
use Rattle.rules.proofs.Laws.{cons_self, cons_more}
use Rattle.netlist.specs.declared.Netlist.{Netlist}
use Rattle.netlist.specs.Flat.{from, gate_in, gates_in}
use Rattle.netlist.specs.Well.{WellFlat}
use Rattle.netlist.proofs.Arrays.{from_mem}
use Rattle.evaluator.specs.Values.{values_at}

-- ---- one gate

-- 1 as long as each operand is 0
pub nor_all : (values os : List ℕ) → from_bool (list_all (λ o. eqb (values_at values o) 0) os) ≡ nor values os
unfolding nor pick
nor_all values [] = refl
nor_all values (o ∷ os) = go (eqb (get_or values o 0) 0) (nor_all values os)
  where
    go : (t : Bool) → from_bool (list_all (λ o. eqb (values_at values o) 0) os) ≡ nor values os
        → from_bool (t && list_all (λ o. eqb (values_at values o) 0) os) ≡ pick t (nor values os) 0
    go true e = e
    go false e = refl

-- two tables that agree on the operands
nor_agree : (a b os : List ℕ) → ((o : ℕ) → mem o os ≡ true → get_or a o 0 ≡ get_or b o 0) → nor a os ≡ nor b os
unfolding nor
nor_agree a b [] h = refl
nor_agree a b (o ∷ os) h = rw (h o (cons_self o os), nor_agree a b os (λ x e. h x (cons_more x o os e)))

-- ---- gate after gate

table_snoc : (vs : List ℕ) (gs : List (List ℕ)) (g : List ℕ) → table nor vs (gs ++ (g ∷ [])) ≡ table nor vs gs ++ (nor (table nor vs gs) g ∷ [])
unfolding table
table_snoc vs [] g = refl
table_snoc vs (x ∷ gs) g = table_snoc (vs ++ (nor vs x ∷ [])) gs g

-- the gates before gate g are worked out
abbrev pub Working : Netlist → List ℕ → List ℕ → ℕ → Type 0
Working n values₀ values g = take (n.inputs + g) values ≡ table nor (take n.inputs values₀) (gates_in n.ops n.counts g)

pub working_start : (n : Netlist) (values : List ℕ) → Working n values values 0
unfolding table gates_in
working_start n values = let e : n.inputs + 0 ≡ n.inputs = omega arith in rw e

module _ (n : Netlist) (w : WellFlat n) (values₀ values : List ℕ) (g : ℕ) (v : Working n values₀ values g) where
  -- the values before the gate's own
  abbrev sofar : List ℕ
  sofar = table nor (take n.inputs values₀) (gates_in n.ops n.counts g)

  -- a gate's value needs only those
  before : g < n.gates → nor values (gate_in n.ops n.counts g) ≡ nor sofar (gate_in n.ops n.counts g)
  unfolding gate_in
  before h = nor_agree values (take (n.inputs + g) values) (from n.ops (4 * g) (get_or n.counts g 0)) (λ o e.
      let q = from_mem n.ops (4 * g) (get_or n.counts g 0) o e in
      let l : o < n.inputs + g = omega (arith, w.lower g q.0 h q.1, q.2) in
      sym (get_or-take (n.inputs + g) values o 0 l))
      ∙ ap (λ t. nor t (from n.ops (4 * g) (get_or n.counts g 0))) v

  pub working_turn : (os : List ℕ) (x : ℕ) (after : List ℕ) → length values ≡ 576 → g < n.gates → os ≡ gate_in n.ops n.counts g → x ≡ nor values os
      → after ≡ set values (n.inputs + g) x → Working n values₀ after (g + 1)
  unfolding gates_in
  working_turn os x after wide h e f s =
      let p : n.inputs + (g + 1) ≡ suc (n.inputs + g) = omega arith in
      let l : n.inputs + g < length values = omega (arith, wide, w.inputs_most, w.gates_most) in
      let y : x ≡ nor sofar (gate_in n.ops n.counts g) = f ∙ ap (nor values) e ∙ before h in
      rw (p, add-one, s, take-suc-set values (n.inputs + g) x l, v, y)
      (sym (table_snoc (take n.inputs values₀) (gates_in n.ops n.counts g) (gate_in n.ops n.counts g)))
