-- The lines of a whole netlist: what a reading says, refused or not, and its tail.
use Prim.Native.Nat.{ℕ}
use mathlib.Core.Path.{◌≡◌, refl, sym, ap, ◌∙◌}
use mathlib.Core.List.{List, []}
use lib.ListN.{length, drop}
use lib.Seq.{drop-length}
use Rattle.std.specs.Prelude.{Ok}
use Rattle.rules.specs.Form.{form01}
use Rattle.rules.specs.Refusals.{Res, good, refused, ◌>>=◌}
use Rattle.rules.specs.Lines.{Line, line}
use Rattle.rules.specs.Netlist as rules
use Rattle.rules.specs.Netlist.{Part, head_of, gate_of, output_of, lines, netlist_lines, netlist_tail, tail_of}
use Rattle.rules.specs.Calls.{tail_outcome}
use Rattle.netlist.specs.declared.Netlist.{Netlist}
use Rattle.netlist.specs.declared.line.Head.{Head}
use Rattle.netlist.specs.Flat.{from, gates_in, netlist_in}
use Rattle.netlist.specs.Steps.{line_by, part, head_in, head_from, head_line, gate_lines, output_lines}

-- ---- stage by stage

-- the outputs, after the gates
with_outputs : rules.Head → Part (List (List ℕ)) → Res (Part rules.Netlist)
with_outputs h gs =
    lines form01 (λ _. output_of form01 h) h.outputs 0 [] gs.tail
    >>= λ os. good (record { got = record { inputs = h.inputs; gates = gs.got; outputs = os.got }; tail = os.tail })

-- the gates and the outputs, after the head
with_gates : Part rules.Head → Res (Part rules.Netlist)
with_gates p = lines form01 (gate_of form01) p.got.gates p.got.inputs [] p.tail >>= with_outputs p.got

after_head : (text : List ℕ) → netlist_lines form01 text ≡ (line_by (head_of form01) text >>= with_gates)
unfolding netlist_lines line_by with_gates with_outputs ◌>>=◌
after_head text = go (line form01 text)
  where
    second : (l : Line) (r : Res rules.Head)
        → (r >>= λ h. with_gates (record { got = h; tail = l.rest })) ≡ (◌>>=◌ {B = Part rules.Head} r (λ h. good (record { got = h; tail = l.rest })) >>= with_gates)
    second l (good h) = refl
    second l (refused r) = refl

    go : (r : Res Line)
        → (r >>= λ l. head_of form01 l.bytes >>= λ h. with_gates (record { got = h; tail = l.rest }))
        ≡ ((r >>= λ l. ◌>>=◌ {B = Part rules.Head} (head_of form01 l.bytes) (λ h. good (record { got = h; tail = l.rest }))) >>= with_gates)
    go (good l) = second l (head_of form01 l.bytes)
    go (refused r) = refl

-- ---- what a reading says

pub no_head_read : (text : List ℕ) (r : ℕ) → refused r ≡ head_line text → refused r ≡ netlist_lines form01 text
unfolding ◌>>=◌
no_head_read text r w = sym (after_head text ∙ rw (← w))

module _ (text : List ℕ) (h : Head) (w : part text head_in (λ _. 11) (Ok h) ≡ head_line text) where
  after_numbers : netlist_lines form01 text ≡ (lines form01 (gate_of form01) h.gates h.inputs [] (drop 11 text) >>= with_outputs (head_in h))
  unfolding with_gates ◌>>=◌
  after_numbers = after_head text ∙ rw (← w)

  -- the netlist after its gates' lines
  module _ (outs₀ : List ℕ) (n : Netlist) (kept : n ≡ record { inputs = h.inputs; gates = h.gates; outputs = h.outputs; ops = n.ops; counts = n.counts; outs = outs₀ }) where
    gates_lines : gate_lines text 11 n ≡ lines form01 (gate_of form01) h.gates h.inputs [] (drop 11 text)
    gates_lines = ap (gate_lines text 11) kept

    pub no_gates_read : (r : ℕ) → refused r ≡ gate_lines text 11 n → refused r ≡ netlist_lines form01 text
    unfolding ◌>>=◌
    no_gates_read r u = sym (after_numbers ∙ rw (← gates_lines, ← u))

    module _ (middle : ℕ) (u : part text (λ _. gates_in n.ops n.counts n.gates) (λ at. at) (Ok middle) ≡ gate_lines text 11 n) where
      after_gates : netlist_lines form01 text ≡ with_outputs (head_in h) (record { got = gates_in n.ops n.counts n.gates; tail = drop middle text })
      unfolding ◌>>=◌
      after_gates = after_numbers ∙ rw (← gates_lines, ← u)

      -- the netlist after its outputs' lines
      module _ (m : Netlist) (still : m ≡ record n { outs = m.outs }) where
        head_same : head_from m ≡ head_in h
        head_same = ap head_from still ∙ ap head_from kept

        after_both : netlist_lines form01 text ≡ (output_lines text middle m >>= λ os. good (record { got = record { inputs = m.inputs; gates = gates_in m.ops m.counts m.gates; outputs = os.got }; tail = os.tail }))
        unfolding with_outputs
        after_both =
            after_gates
            ∙ ap (λ x. with_outputs x (record { got = gates_in n.ops n.counts n.gates; tail = drop middle text })) (sym head_same)
            ∙ ap (λ g. with_outputs (head_from m) (record { got = g; tail = drop middle text })) (sym (ap (λ (x : Netlist). gates_in x.ops x.counts x.gates) still))

        pub no_outputs_read : (r : ℕ) → refused r ≡ output_lines text middle m → refused r ≡ netlist_lines form01 text
        unfolding ◌>>=◌
        no_outputs_read r v = sym (after_both ∙ rw (← v))

        pub netlist_read : (end : ℕ) → part text (λ _. from m.outs 0 m.outputs) (λ at. at) (Ok end) ≡ output_lines text middle m
            → good (record { got = netlist_in m; tail = drop end text }) ≡ netlist_lines form01 text
        unfolding netlist_in ◌>>=◌
        netlist_read end v = sym (after_both ∙ rw (← v))

-- ---- the tail

pub tail_none : (text : List ℕ) (r : ℕ) → refused r ≡ netlist_lines form01 text → drop (length text) text ≡ tail_outcome text
unfolding tail_outcome netlist_tail tail_of
tail_none text r w = drop-length text ∙ ap tail_of w

pub tail_read : (text : List ℕ) (p : Part rules.Netlist) → good p ≡ netlist_lines form01 text → p.tail ≡ tail_outcome text
unfolding tail_outcome netlist_tail tail_of
tail_read text p w = ap tail_of w
