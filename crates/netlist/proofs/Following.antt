-- Line after line: the loops over the gates' lines and the outputs' lines.
use Prim.Native.Nat.{ℕ, suc, ◌+◌, ◌-◌, ◌*◌, ◌<◌, ◌≤◌}
use native.Mathlib.Omega.{arith}
use native.Mathlib.Numerals.{add-one}
use native.Mathlib.Decide.{dec_lt}
use mathlib.Core.Path.{◌≡◌, refl, sym, ap, subst, ◌∙◌}
use mathlib.Core.List.{List, [], ◌∷◌, ◌++◌}
use lib.ListN.{get_or, length, take, drop, set}
use borrow.Rule.Slice.PartMut.{put_mid}
use Rattle.std.proofs.lemmas.List.{get_or-take, get_or-drop}
use Rattle.std.proofs.lemmas.Slice.{take-put_mid_below, between-put_mid}
use lib.Seq.{get_or-set_same, get_or-set_other}
use Rattle.std.specs.Prelude.{Ok}
use Rattle.rules.specs.Form.{form01}
use Rattle.rules.specs.Refusals.{Res, good, refused, ◌>>=◌}
use Rattle.rules.specs.Lines.{Line, line}
use Rattle.rules.specs.Netlist.{Part, gate_of, output_of, lines}
use Rattle.netlist.specs.Flat.{from, gate_in, gates_in}
use Rattle.netlist.specs.declared.Netlist.{Netlist}
use Rattle.netlist.specs.Steps.{line_by, part, head_from, gate_line, OperandsFit, Sized, output_line, gate_lines, output_lines}
use Rattle.netlist.proofs.Arrays.{from_reads, from_snoc, from_agree, gates_agree}

-- one more line, and then the others
lines_turn : {A : Type 0} (rule : ℕ → List ℕ → Res A) (k own : ℕ) (sofar : List A) (text : List ℕ)
    → lines form01 rule (suc k) own sofar text ≡ (line_by (rule own) text >>= λ p. lines form01 rule k (suc own) (sofar ++ (p.got ∷ [])) p.tail)
unfolding lines line_by ◌>>=◌
lines_turn {A} rule k own sofar text = go (line form01 text)
  where
    after : (l : Line) (r : Res A)
        → (r >>= λ a. lines form01 rule k (suc own) (sofar ++ (a ∷ [])) l.rest)
        ≡ (◌>>=◌ {B = Part A} r (λ a. good (record { got = a; tail = l.rest })) >>= λ p. lines form01 rule k (suc own) (sofar ++ (p.got ∷ [])) p.tail)
    after l (good a) = refl
    after l (refused r) = refl

    go : (r : Res Line)
        → (r >>= λ l. rule own l.bytes >>= λ a. lines form01 rule k (suc own) (sofar ++ (a ∷ [])) l.rest)
        ≡ ((r >>= λ l. ◌>>=◌ {B = Part A} (rule own l.bytes) (λ a. good (record { got = a; tail = l.rest }))) >>= λ p. lines form01 rule k (suc own) (sofar ++ (p.got ∷ [])) p.tail)
    go (good l) = after l (rule own l.bytes)
    go (refused r) = refl

-- ---- gates

-- g gates are stored, and the text is read up to a place
pub record Gating (text : List ℕ) (start : ℕ) (before n : Netlist) (at g : ℕ) : Type 0 where
  pub inside : at ≤ length text
  pub kept : n ≡ record before { ops = n.ops; counts = n.counts }
  pub few : (i : ℕ) → i < g → get_or n.counts i 0 ≤ 4
  pub same : lines form01 (gate_of form01) (n.gates - g) (n.inputs + g) (gates_in n.ops n.counts g) (drop at text) ≡ lines form01 (gate_of form01) n.gates n.inputs [] (drop start text)

pub gating_start : (text : List ℕ) (start : ℕ) (n : Netlist) → start ≤ length text → Gating text start n n start 0
unfolding gates_in
gating_start text start n i = record {
  inside = i;
  kept = refl;
  few = λ j h. absurd (omega arith);
  same = let e : n.gates - 0 ≡ n.gates = omega arith in let f : n.inputs + 0 ≡ n.inputs = omega arith in rw (e, f);
}

-- the arrays with one gate more
gates_put : (ops after counts : List ℕ) (g k : ℕ) → ((i : ℕ) → i < 4 * g → get_or after i 0 ≡ get_or ops i 0) → ((i : ℕ) → i < g → get_or counts i 0 ≤ 4) → g < length counts
    → gates_in after (set counts g k) (g + 1) ≡ gates_in ops counts g ++ (from after (4 * g) k ∷ [])
unfolding gates_in gate_in
gates_put ops after counts g k below few long =
    let a : gates_in after (set counts g k) g ≡ gates_in ops counts g =
    gates_agree after ops (set counts g k) counts g (λ i h.
    let e = get_or-set_other counts g i k 0 (λ z. omega arith) in
    rw e (from_agree after ops (4 * i) (get_or counts i 0) (λ j u v. below j (omega (arith, few i h))))) in
    rw (add-one, a, get_or-set_same counts g k 0 long)

-- four operands written at a gate's place
module _ (ops room : List ℕ) (g e : ℕ) (four : e ≡ 4) (long : length room ≡ 4) (fits : 4 * g + 4 ≤ length ops) where
  abbrev after : List ℕ
  after = put_mid (4 * g) e ops room

  put_below : (i : ℕ) → i < 4 * g → get_or after i 0 ≡ get_or ops i 0
  put_below i h =
      sym (get_or-take (4 * g) after i 0 h) ∙ ap (λ l. get_or l i 0) (take-put_mid_below (4 * g) e ops room (4 * g) (omega arith) (omega arith)) ∙ get_or-take (4 * g) ops i 0 h

  put_here : (k : ℕ) → k ≤ 4 → from after (4 * g) k ≡ take k room
  put_here k h =
      let z : 4 * g + 4 - 4 * g ≡ 4 = omega arith in
      let b : take 4 (drop (4 * g) after) ≡ room = rw z at (between-put_mid (4 * g) e ops room (4 * g + 4) (omega arith) (omega arith)) in
      from_reads after room (4 * g) k (omega arith) (λ i u.
      sym (get_or-drop (4 * g) after i 0) ∙ sym (get_or-take 4 (drop (4 * g) after) i 0 (omega arith)) ∙ ap (λ l. get_or l i 0) b)

module _ {text : List ℕ} {start : ℕ} {before n : Netlist} {at g : ℕ} (w : Gating text start before n at g) where
  gates_kept : n.gates ≡ before.gates
  gates_kept = ap (λ (x : Netlist). x.gates) w.kept

  -- what is left, with the next gate's line in front
  next : g < n.gates → lines form01 (gate_of form01) n.gates n.inputs [] (drop start text)
      ≡ (line_by (gate_of form01 (n.inputs + g)) (drop at text) >>= λ p. lines form01 (gate_of form01) (n.gates - (g + 1)) (n.inputs + (g + 1)) (gates_in n.ops n.counts g ++ (p.got ∷ [])) p.tail)
  next h =
      let e : n.gates - g ≡ suc (n.gates - (g + 1)) = omega arith in
      let f : suc (n.inputs + g) ≡ n.inputs + (g + 1) = omega arith in
      sym w.same ∙ rw (e, ← f) (lines_turn (gate_of form01) (n.gates - (g + 1)) (n.inputs + g) (gates_in n.ops n.counts g) (drop at text))

  module _ (more : g < before.gates) where
    pub gating_stop : (r : ℕ) → refused r ≡ gate_line text at (n.inputs + g) → refused r ≡ gate_lines text start n
    unfolding ◌>>=◌
    gating_stop r q = sym (next (omega (arith, gates_kept)) ∙ rw (← q))

    module _ (room : List ℕ) (e k : ℕ) (four : e ≡ 4) (long : length room ≡ 4) (opsLong : length n.ops ≡ 2048) (countsLong : length n.counts ≡ 512) (most : before.gates ≤ 512) where
      few_more : k ≤ 4 → (i : ℕ) → i < g + 1 → get_or (set n.counts g k) i 0 ≤ 4
      few_more v i u = go (dec_lt i g)
        where
          go : Dec (i < g) → get_or (set n.counts g k) i 0 ≤ 4
          go (yes y) = rw (get_or-set_other n.counts g i k 0 (λ z. omega arith)) (w.few i y)
          go (no y) = let e : i ≡ g = omega arith in rw (e, get_or-set_same n.counts g k 0 (omega arith)) v

      pub gating_turn : part text (λ k. take k room) (λ k. at + 4 * k + 3) (Ok k) ≡ gate_line text at (n.inputs + g) → OperandsFit text at k → Gating text start before (record n { ops = put_mid (4 * g) e n.ops room; counts = set n.counts g k }) (at + (4 * k + 3)) (g + 1)
      unfolding ◌>>=◌
      gating_turn means fits =
          let p : at + (4 * k + 3) ≡ at + 4 * k + 3 = omega arith in
          record {
            inside = omega (arith, fits.2);
            kept = ap (λ (x : Netlist). record x { ops = put_mid (4 * g) e n.ops room; counts = set n.counts g k }) w.kept;
            few = few_more fits.1;
            same =
                let put : gates_in (put_mid (4 * g) e n.ops room) (set n.counts g k) (g + 1) ≡ gates_in n.ops n.counts g ++ (take k room ∷ []) =
                gates_put n.ops (put_mid (4 * g) e n.ops room) n.counts g k (put_below n.ops room g e four long (omega arith)) w.few (omega arith)
                ∙ ap (λ x. gates_in n.ops n.counts g ++ (x ∷ [])) (put_here n.ops room g e four long (omega arith) k fits.1) in
                rw (p, put) (sym (next (omega (arith, gates_kept)) ∙ rw (← means)));
          }

  pub gating_end : before.gates ≤ g → g ≤ before.gates → part text (λ _. gates_in n.ops n.counts n.gates) (λ at. at) (Ok at) ≡ gate_lines text start n
  unfolding lines
  gating_end h l =
      let e : n.gates - g ≡ 0 = omega (arith, gates_kept) in
      let f : n.gates ≡ g = omega (arith, gates_kept) in
      ap (λ m. good (record { got = gates_in n.ops n.counts m; tail = drop at text })) f ∙ (rw e at w.same)

-- ---- outputs

-- k outputs are stored, and the text is read up to a place
pub record Outputting (text : List ℕ) (start : ℕ) (before n : Netlist) (at k : ℕ) : Type 0 where
  pub inside : at ≤ length text
  pub kept : n ≡ record before { outs = n.outs }
  pub same : lines form01 (λ _. output_of form01 (head_from n)) (n.outputs - k) k (from n.outs 0 k) (drop at text) ≡ lines form01 (λ _. output_of form01 (head_from n)) n.outputs 0 [] (drop start text)

pub outputting_start : (text : List ℕ) (start : ℕ) (n : Netlist) → start ≤ length text → Outputting text start n n start 0
unfolding from
outputting_start text start n i = record { inside = i; kept = refl; same = let e : n.outputs - 0 ≡ n.outputs = omega arith in rw e }

-- the array with one output more
outputs_put : (outs : List ℕ) (k s : ℕ) → k < length outs → from (set outs k s) 0 (k + 1) ≡ from outs 0 k ++ (s ∷ [])
outputs_put outs k s h =
    let a : from (set outs k s) 0 k ≡ from outs 0 k = from_agree (set outs k s) outs 0 k (λ i u v. get_or-set_other outs k i s 0 (λ z. omega arith)) in
    let e : 0 + k ≡ k = omega arith in
    rw (add-one, from_snoc (set outs k s) 0 k, a, e, get_or-set_same outs k s 0 h)

module _ {text : List ℕ} {start : ℕ} {before n : Netlist} {at k : ℕ} (w : Outputting text start before n at k) where
  rule : List ℕ → Res ℕ
  rule = output_of form01 (head_from n)

  outputs_kept : n.outputs ≡ before.outputs
  outputs_kept = ap (λ (x : Netlist). x.outputs) w.kept

  pub outputting_asks : Sized before → Sized n
  outputting_asks s = subst Sized (sym w.kept) s

  next_output : k < n.outputs → lines form01 (λ _. rule) n.outputs 0 [] (drop start text)
      ≡ (line_by rule (drop at text) >>= λ p. lines form01 (λ _. rule) (n.outputs - (k + 1)) (k + 1) (from n.outs 0 k ++ (p.got ∷ [])) p.tail)
  unfolding rule
  next_output h =
      let e : n.outputs - k ≡ suc (n.outputs - (k + 1)) = omega arith in
      let f : suc k ≡ k + 1 = omega arith in
      sym w.same ∙ rw e (rw f at (lines_turn (λ _. rule) (n.outputs - (k + 1)) k (from n.outs 0 k) (drop at text)))

  module _ (more : k < before.outputs) where
    pub outputting_stop : (r : ℕ) → refused r ≡ output_line text at n → refused r ≡ output_lines text start n
    unfolding ◌>>=◌ rule
    outputting_stop r q = sym (next_output (omega (arith, outputs_kept)) ∙ rw (← q))

    pub outputting_turn : (s : ℕ) → before.outputs ≤ 64 → length n.outs ≡ 64 → part text (λ s. s) (λ _. at + 7) (Ok s) ≡ output_line text at n → at + 7 ≤ length text → Outputting text start before (record n { outs = set n.outs k s }) (at + 7) (k + 1)
    unfolding ◌>>=◌ rule
    outputting_turn s most long means inside = record {
      inside = inside;
      kept = ap (λ (x : Netlist). record x { outs = set n.outs k s }) w.kept;
      same = rw (outputs_put n.outs k s (omega arith)) (sym (next_output (omega (arith, outputs_kept)) ∙ rw (← means)));
    }

  pub outputting_end : before.outputs ≤ k → k ≤ before.outputs → part text (λ _. from n.outs 0 n.outputs) (λ at. at) (Ok at) ≡ output_lines text start n
  unfolding lines
  outputting_end h l =
      let e : n.outputs - k ≡ 0 = omega (arith, outputs_kept) in
      let f : n.outputs ≡ k = omega (arith, outputs_kept) in
      ap (λ m. good (record { got = from n.outs 0 m; tail = drop at text })) f ∙ (rw e at w.same)
