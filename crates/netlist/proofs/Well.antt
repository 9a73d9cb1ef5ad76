-- What callers may rely on: a netlist that was read is well.
use Prim.Native.Nat.{ℕ, ◌+◌, ◌<◌, ◌≤◌}
use native.Mathlib.Omega.{arith}
use native.Mathlib.Decide.{dec_lt}
use mathlib.Core.Path.{◌≡◌, subst}
use mathlib.Core.Bool.{true}
use mathlib.Core.List.{List, []}
use lib.ListN.{get_or, length, get_or-eq_default}
use Rattle.rules.specs.Basics.{mem, ascending}
use Rattle.rules.specs.Form.{form01}
use Rattle.rules.specs.Refusals.{good, ◌>>=◌, ◌>>◌}
use Rattle.rules.specs.Lines.{nothing}
use Rattle.rules.specs.Netlist as rules
use Rattle.rules.specs.Netlist.{Part, netlist_lines, netlist_of, well_formed}
use Rattle.rules.proofs.Laws.{bind_good, then_good, mem-nil}
use Rattle.rules.proofs.Answers.{good_same}
use Rattle.rules.proofs.Reading as reading
use Rattle.rules.proofs.Reading.{Sized, lines_well, formed}
use Rattle.netlist.specs.Flat.{front_of}
use Rattle.netlist.specs.Well.{Well, WellLines}

-- the numbers of the form, and each gate's operands, past the last gate too
module _ (N : rules.Netlist) (w : reading.WellLines N) (z : Sized form01 N) where
  past : (j : ℕ) → length N.gates ≤ j → get_or N.gates j [] ≡ []
  past j u = get_or-eq_default N.gates [] u

  few_at : (j : ℕ) → length (get_or N.gates j []) ≤ 4
  few_at j = go (dec_lt j (length N.gates))
    where
      go : Dec (j < length N.gates) → length (get_or N.gates j []) ≤ 4
      go (yes y) = (w.gate j y).most
      go (no y) = rw (past j (omega arith)) (omega arith)

  lower_at : (j o : ℕ) → mem o (get_or N.gates j []) ≡ true → o < N.inputs + j
  lower_at j o e = go (dec_lt j (length N.gates))
    where
      go : Dec (j < length N.gates) → o < N.inputs + j
      go (yes y) = (w.gate j y).lower o e
      go (no y) = absurd (mem-nil o (rw (past j (omega arith)) at e))

  ascend_at : (j : ℕ) → ascending (get_or N.gates j []) ≡ true
  unfolding ascending
  ascend_at j = go (dec_lt j (length N.gates))
    where
      go : Dec (j < length N.gates) → ascending (get_or N.gates j []) ≡ true
      go (yes y) = (w.gate j y).rising
      go (no y) = rw (past j (omega arith))

  lined : WellLines N
  unfolding form01
  lined = record {
    inputs_least = z.inputs.0;
    inputs_most = z.inputs.1;
    gates_least = z.gates.0;
    gates_most = z.gates.1;
    outputs_least = z.outputs.0;
    outputs_most = z.outputs.1;
    some = λ j u. (w.gate j u).least;
    few = few_at;
    lower = lower_at;
    ascend = ascend_at;
    outputs_high = λ o e. (w.output o e).0;
    outputs_low = λ o e. (w.output o e).1;
  }

-- what was read line by line is well, but for 6 and 7
pub well_lines : (text : List ℕ) (p : Part rules.Netlist) → netlist_lines form01 text ≡ good p → WellLines p.got
well_lines text p e = let (w, z) = lines_well form01 text p e in lined p.got w z

-- 6 and 7 passed
formed_well : (text : List ℕ) (p : Part rules.Netlist) (N : rules.Netlist) → netlist_lines form01 text ≡ good p → well_formed p.got ≡ good N → Well N
formed_well text p N e f =
    let a = formed p.got N f in
    subst Well a.same (record { lines = well_lines text p e; used = a.used; single = a.single; distinct = a.distinct })

-- a netlist that was read from a whole text is well
pub well : (text : List ℕ) (N : rules.Netlist) → netlist_of form01 text ≡ good N → Well N
unfolding netlist_of
well text N e =
    let a = bind_good (netlist_lines form01 text) (λ p. nothing form01 p.tail >> well_formed p.got) N e in
    let b = then_good (nothing form01 a.0.tail) (well_formed a.0.got) N a.2 in
    formed_well text a.0 N a.1 b.2

-- the netlist that a text begins with is well
pub well_front : (text : List ℕ) (p : Part rules.Netlist) → front_of text ≡ good p → Well p.got
unfolding front_of
well_front text p e =
    let a = bind_good (netlist_lines form01 text) (λ q. well_formed q.got >>= λ M. good (record { got = M; tail = q.tail })) p e in
    let b = bind_good (well_formed a.0.got) (λ M. good (record { got = M; tail = a.0.tail })) p a.2 in
    subst (λ q. Well q.got) (good_same (record { got = b.0; tail = a.0.tail }) p b.2) (formed_well text a.0 b.0 a.1 b.1)
