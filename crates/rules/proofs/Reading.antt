-- What the netlist reader's tests give: a well-formed netlist within the limits.
-- Assumes nothing.
use Rattle.std.proofs.Common.{ℕ, zero, suc, ◌+◌, ◌-◌, ◌<◌, ◌≤◌, arith, ◌≡◌, refl, sym, ap, ◌∙◌, true, false, ◌&&◌, not, List, [], ◌∷◌, ◌++◌, append_assoc, append-nil, ltb, leb, ltb-true, leb-true, get_or, length}
use borrow.Author.Tests.{not-true}
use Rattle.rules.specs.Basics.{within, all, mem, repeats, ascending}
use Rattle.rules.specs.Form.{Form, two}
use Rattle.rules.specs.Refusals.{Res, good, or_refuse}
use Rattle.rules.specs.Lines.{line, nothing, numbers, fields}
use Rattle.rules.specs.Netlist.{Netlist, operands_of, due, Head, head_of, gate_of, output_of, Part, lines, netlist_lines, all_used, twins, well_formed, netlist_of}
use Rattle.std.proofs.lemmas.Bool.{and_parts}
use Rattle.rules.proofs.Laws.{bind_good, then_good}
use Rattle.rules.proofs.Answers.{good_same, from_bind, from_require}
use Rattle.rules.proofs.Lists.{within_true, all_mem, member, Each, each_cons, Below}

-- what was read line after line
pub lines_read : {A : Type 0} (F : Form) (rule : ℕ → List ℕ → Res A) (Q : ℕ → A → Type 0) → ((own : ℕ) (bytes : List ℕ) (a : A) → rule own bytes ≡ good a → Q own a)
    → (k own : ℕ) (sofar : List A) (text : List ℕ) (p : Part (List A)) → lines F rule k own sofar text ≡ good p
    → (new : List A) × (p.got ≡ sofar ++ new) × (length new ≡ k) × Each Q own new
unfolding lines
lines_read F rule Q each zero own sofar text p e = let z : sofar ≡ p.got = cc in ([], rw append-nil (sym z), refl, λ j d h. absurd (omega arith))
lines_read F rule Q each (suc k) own sofar text p e =
    let (l, u, v) = bind_good (line F text) _ p e in
    let (a, s, t) = bind_good (rule own l.bytes) _ p v in
    let (new, q, n, h) = lines_read F rule Q each k (suc own) (sofar ++ (a ∷ [])) l.rest p t in
    (a ∷ new, q ∙ rw append_assoc, ap suc n, each_cons Q own a new (each own l.bytes a s) h)

-- a gate's operands are 1 to 4, lower than the gate, ascending
pub record WellGate (own : ℕ) (os : List ℕ) : Type 0 where
  pub least : 1 ≤ length os
  pub most : length os ≤ 4
  pub lower : Below own os
  pub rising : ascending os ≡ true

-- a signal that is a gate
abbrev pub Gate : Netlist → ℕ → Type 0
Gate N s = (N.inputs ≤ s) × (s < N.inputs + length N.gates)

-- a netlist whose gates are well-formed and whose outputs are gates: its lines read well
pub record WellLines (N : Netlist) : Type 0 where
  pub gate : (j : ℕ) → j < length N.gates → WellGate (N.inputs + j) (get_or N.gates j [])
  pub output : (o : ℕ) → mem o N.outputs ≡ true → Gate N o

-- the same, with no twins
pub record Well (N : Netlist) : Type 0 where
  pub lines : WellLines N
  pub single : twins N.gates ≡ false

pub well_gate : (N : Netlist) → Well N → (g : ℕ) → Gate N g → WellGate g (operands_of N g)
unfolding operands_of
well_gate N W g gate =
    let z : N.inputs + (g - N.inputs) ≡ g = omega arith in
    let h : g - N.inputs < length N.gates = omega arith in
    rw z at (W.lines.gate (g - N.inputs) h)

-- a netlist within the numbers of a form
pub record Sized (F : Form) (N : Netlist) : Type 0 where
  pub inputs : (1 ≤ N.inputs) × (N.inputs ≤ F.inputs_most)
  pub gates : (1 ≤ length N.gates) × (length N.gates ≤ F.gates_most)
  pub outputs : (1 ≤ length N.outputs) × (length N.outputs ≤ F.outputs_most)

module _ (F : Form) where
  pub record SizedHead (h : Head) : Type 0 where
    pub inputs : (1 ≤ h.inputs) × (h.inputs ≤ F.inputs_most)
    pub gates : (1 ≤ h.gates) × (h.gates ≤ F.gates_most)
    pub outputs : (1 ≤ h.outputs) × (h.outputs ≤ F.outputs_most)

  head_read : (bytes : List ℕ) (h : Head) → head_of F bytes ≡ good h → SizedHead h
  unfolding head_of
  head_read bytes h e =
      from_bind (due F.netlist_head bytes) _ h e λ l _ b.
      from_bind (or_refuse 2 (fields (F.cell_width ∷ two ∷ F.cell_width ∷ []) l)) _ h b λ ns _ d.
      from_require (within 1 F.inputs_most (get_or ns 0 0)) 3 _ h d λ p q.
      from_require (within 1 F.gates_most (get_or ns 1 0)) 3 _ h q λ r s.
      from_require (within 1 F.outputs_most (get_or ns 2 0)) 3 _ h s λ t u.
      rw (← good_same _ h u) (record {
        inputs = within_true 1 F.inputs_most (get_or ns 0 0) p;
        gates = within_true 1 F.gates_most (get_or ns 1 0) r;
        outputs = within_true 1 F.outputs_most (get_or ns 2 0) t;
      })

  gate_read : (own : ℕ) (bytes os : List ℕ) → gate_of F own bytes ≡ good os → WellGate own os
  unfolding gate_of
  gate_read own bytes os e =
      from_bind (due F.gate_kind bytes) _ os e λ l _ b.
      from_bind (or_refuse 2 (numbers two l)) _ os b λ ns _ d.
      from_require (within 1 4 (length ns)) 2 _ os d λ p q.
      from_require (all (λ o. ltb o own) ns) 4 _ os q λ r s.
      from_require (ascending ns) 5 _ os s λ t u.
      let w = within_true 1 4 (length ns) p in
      rw (← good_same _ os u) (record { least = w.0; most = w.1; lower = λ o m. ltb-true o own (all_mem (λ x. ltb x own) ns r o m); rising = t })

  -- a signal that the head gives to a gate
  abbrev OfGates : Head → ℕ → Type 0
  OfGates h o = (h.inputs ≤ o) × (o < h.inputs + h.gates)

  output_read : (h : Head) (bytes : List ℕ) (o : ℕ) → output_of F h bytes ≡ good o → OfGates h o
  unfolding output_of
  output_read h bytes o e =
      from_bind (due F.output_kind bytes) _ o e λ l _ b.
      from_bind (or_refuse 2 (fields (two ∷ []) l)) _ o b λ ns _ d.
      from_require (leb h.inputs (get_or ns 0 0) && ltb (get_or ns 0 0) (h.inputs + h.gates)) 4 _ o d λ p q.
      let (u, v) = and_parts (leb h.inputs (get_or ns 0 0)) (ltb (get_or ns 0 0) (h.inputs + h.gates)) p in
      rw (← good_same _ o q) (leb-true h.inputs (get_or ns 0 0) u, ltb-true (get_or ns 0 0) (h.inputs + h.gates) v)

  -- what the lines give, before 6 and 7 are asked
  pub lines_well : (text : List ℕ) (p : Part Netlist) → netlist_lines F text ≡ good p → WellLines p.got × Sized F p.got
  unfolding netlist_lines
  lines_well text p e =
      from_bind (line F text) _ p e λ l _ b.
      from_bind (head_of F l.bytes) _ p b λ h c d.
      from_bind (lines F (gate_of F) h.gates h.inputs [] l.rest) _ p d λ gs f g.
      from_bind (lines F (λ _. output_of F h) h.outputs 0 [] gs.tail) _ p g λ os i j.
      let z : record { inputs = h.inputs; gates = gs.got; outputs = os.got } ≡ p.got = ap (λ (q : Part Netlist). q.got) (good_same _ p j) in
      let H = head_read l.bytes h c in
      let (gates, gq, gn, ge) = lines_read F (gate_of F) WellGate gate_read h.gates h.inputs [] l.rest gs f in
      let (outs, oq, on, oe) =
      lines_read F (λ _. output_of F h) (λ _. OfGates h) (λ _. output_read h) h.outputs 0 [] gs.tail os i in
      rw (← z) (
        record {
          gate = λ j k. rw gq (ge j [] (rw gq at k));
          output = λ o m. let w = member (OfGates h) outs oe o (rw oq at m) in rw (gq, gn) w;
        },
        record { inputs = H.inputs; gates = rw (gq, gn) H.gates; outputs = rw (oq, on) H.outputs },
      )

-- what 6 and 7 leave
pub record Formed (N M : Netlist) : Type 0 where
  pub same : N ≡ M
  pub used : all_used N ≡ true
  pub single : twins N.gates ≡ false
  pub distinct : repeats N.outputs ≡ false

pub formed : (N M : Netlist) → well_formed N ≡ good M → Formed N M
unfolding well_formed
formed N M e =
    from_require (all_used N) 6 _ M e λ u s.
    from_require (not (twins N.gates)) 7 _ M s λ t v.
    from_require (not (repeats N.outputs)) 7 _ M v λ w x.
    record { same = good_same N M x; used = u; single = not-true (twins N.gates) t; distinct = not-true (repeats N.outputs) w }

module _ (F : Form) where
  pub netlist_read : (text : List ℕ) (N : Netlist) → netlist_of F text ≡ good N → Well N × Sized F N
  unfolding netlist_of
  netlist_read text N e =
      from_bind (netlist_lines F text) _ N e λ p a b.
      let (u, c, d) = then_good (nothing F p.tail) (well_formed p.got) N b in
      let f = formed p.got N d in
      let (L, Z) = lines_well F text p a in
      rw (← f.same) (record { lines = L; single = f.single }, Z)
