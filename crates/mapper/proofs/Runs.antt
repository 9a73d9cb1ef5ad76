-- The run: its start, one gate more, no room, and its end.
-- Assumes nothing.
use Prim.Native.Nat.{ℕ, zero, suc, ◌+◌, ◌-◌, ◌<◌, ◌≤◌}
use native.Mathlib.Omega.{arith}
use native.Mathlib.Numerals.{add-one}
use mathlib.Core.Path.{◌≡◌, refl, sym, ap, ◌∙◌}
use mathlib.Core.Bool.{false}
use mathlib.Core.List.{List, [], ◌∷◌, ◌++◌, map, append-nil}
use Rattle.std.proofs.Common.{Some, None}
use lib.Dec.{ltb}
use borrow.Author.Tests.{lt-ltb}
use lib.ListN.{get_or, length, take, drop, replicate, drop_of_length-le}
use lib.Seq.{drop-cons, take-suc}
use Rattle.rules.specs.Basics.{mem, upto}
use Rattle.rules.specs.Form.{form01}
use Rattle.rules.specs.Lines.{written}
use Rattle.rules.specs.Refusals.{good, refused, ◌>>=◌}
use Rattle.rules.specs.Sequence.{Instruction, Set, instruction_text, texts}
use Rattle.rules.specs.Cells.{ready, keeps, is_spent, those, State, place, execute_gate, execute_gates, all_spent, opening}
use Rattle.rules.specs.Netlist as rules
use Rattle.rules.proofs.Laws.{or_left}
use Rattle.rules.proofs.Lists.{length-upto}
use Rattle.netlist.specs.declared.Netlist.{Netlist}
use Rattle.netlist.specs.Flat.{netlist_in}
use Rattle.mapper.specs.declared.cells.Cells.{Cells}
use Rattle.mapper.specs.declared.signals.Signals.{Signals}
use Rattle.mapper.specs.Held.{first_cells, Renewed, Roomed}
use Rattle.mapper.specs.Run.{code_text, opened, ran, Placeable, Placed, Mapped, Runnable}
use Rattle.mapper.proofs.Writing.{set_text}
use Rattle.mapper.proofs.Keeping.{kept_cell}
use Rattle.mapper.proofs.Opens.{opened_slots, open_keeps, kept_open, first_spent, first_renewed}
use Rattle.mapper.proofs.Bounds.{Bounded, written_length}
use Rattle.mapper.proofs.Mirror.{Mirrors}
use Rattle.mapper.proofs.Rooms.{Roomy, room_found, room_none}
use Rattle.mapper.proofs.Gatewise.{gate_placeable, gate_mirrors, gate_text, gate_bounded, gate_wide}

pub record Running (n : Netlist) (row : ℕ) (gs : List ℕ) (st : Cells) (g : Signals) (text : List ℕ) (i : ℕ) : Type 0 where
  pub S : State
  pub inputs : g.inputs ≡ n.inputs
  pub inside : i ≤ length gs
  pub mirrors : Mirrors n row S st g.table g.left
  pub bounded : Bounded S i
  pub done : S.done ≡ take i gs
  pub text_is : text ≡ code_text S.code
  pub work : execute_gates (netlist_in n) all_spent (drop i gs) S ≡ ran n row gs
  pub wide : length g.table ≡ 576

placed_done : (N : rules.Netlist) (g c : ℕ) (S : State) → (place N g c S).done ≡ S.done ++ (g ∷ [])
unfolding place
placed_done N g c S = refl

-- ---- the start

open_code : (n : Netlist) (row : ℕ) → (opened n row).code ≡ Set (upto n.inputs (row - n.inputs)) ∷ []
unfolding opened opening netlist_in
open_code n row = refl

open_done : (n : Netlist) (row : ℕ) → (opened n row).done ≡ []
unfolding opened opening netlist_in
open_done n row = refl

one_text : (i : Instruction) → code_text (i ∷ []) ≡ instruction_text form01 i
unfolding texts
one_text i = append-nil (instruction_text form01 i)

pub open_text : (n : Netlist) (row : ℕ) → code_text (opened n row).code ≡ written (0x12 ∷ upto n.inputs (row - n.inputs))
open_text n row = rw (open_code n row, one_text (Set (upto n.inputs (row - n.inputs)))) (set_text (upto n.inputs (row - n.inputs)))

open_unspent : (k a i m : ℕ) → those is_spent k (map keeps (upto a i) ++ (replicate m ready ++ [])) ≡ []
unfolding those is_spent upto
open_unspent k a zero zero = refl
open_unspent k a zero (suc m) = open_unspent (suc k) a zero m
open_unspent k a (suc i) m = open_unspent (suc k) (suc a) i m

open_spent : (n : Netlist) (row : ℕ) → length (all_spent (opened n row).slots) ≡ 0
unfolding all_spent
open_spent n row = rw (opened_slots n row) (ap length (open_unspent 0 0 n.inputs (row - n.inputs)))

ran_whole : (n : Netlist) (row : ℕ) (gs : List ℕ) → execute_gates (netlist_in n) all_spent gs (opened n row) ≡ ran n row gs
unfolding ran
ran_whole n row gs = refl

module _ {n : Netlist} {row : ℕ} {gs : List ℕ} {st₀ : Cells} {g₀ : Signals} {text₀ : List ℕ} (p : Runnable n row gs st₀ g₀ text₀) where
  pub run_start : {text : List ℕ} {u : Cells} → Renewed st₀ text₀ text u → Running n row gs u g₀ text 0
  run_start {text} {u} d₀ =
      let h : n.inputs ≤ row = omega (arith, p.room) in
      let d : Renewed (first_cells n.inputs row) [] text u = rw (p.first, p.empty) at d₀ in
      record {
        S = opened n row;
        inputs = p.seated.inputs_are;
        inside = omega arith;
        mirrors = record {
          rows = d.row;
          size = p.size;
          long = d.long;
          inside = omega (arith, d.next);
          low = λ i k. absurd (omega (arith, d.next));
          cells = rw (opened_slots n row) (d.cells ∙ first_renewed n.inputs row h p.size);
          kept = rw (opened_slots n row) (kept_open n.inputs (row - n.inputs) g₀.table p.seated.inputs_in p.seated.others);
          within = λ c s e.
              let r = open_keeps n.inputs (row - n.inputs) c s (rw (opened_slots n row) at e) in
              or_left (ltb s n.inputs) (mem s (opened n row).done) (lt-ltb s n.inputs (omega (arith, r.0, r.1)));
          wanted = rw (open_done n row) p.wanted;
          lines = rw (open_code n row) d.lines;
        };
        bounded = record {
          short = omega (arith, ap length (open_text n row), written_length (0x12 ∷ upto n.inputs (row - n.inputs)), length-upto n.inputs (row - n.inputs), p.size, open_spent n row);
          few = rw (open_code n row) (omega arith);
        };
        done = open_done n row;
        text_is = d.line ∙ rw (open_text n row, first_spent n.inputs row h p.size);
        work = ran_whole n row gs;
        wide = p.seated.wide;
      }

  module _ {st : Cells} {g : Signals} {text : List ℕ} {i : ℕ} (w : Running n row gs st g text i) where
    -- ---- one gate more, in the cell that is found

    most : i ≤ 576
    most = omega (arith, w.inside, p.most)

    module _ (here : i < length gs) {s : ℕ} (at_gate : s ≡ get_or gs i 0) where
      gate : n.inputs ≤ s
      gate = rw at_gate (p.steps.low i here)

      known : s < n.inputs + n.gates
      known = rw at_gate (p.steps.high i here)

      fresh : mem s w.S.done ≡ false
      fresh = rw (w.done, at_gate) (p.steps.once i here)

      next_gate : drop i gs ≡ s ∷ drop (i + 1) gs
      next_gate = rw (at_gate, add-one i) (drop-cons gs i 0 here)

      -- the rule's next step
      goes_on : (S : State) → execute_gate (netlist_in n) all_spent s w.S ≡ good S → execute_gates (netlist_in n) all_spent (drop (i + 1) gs) S ≡ ran n row gs
      unfolding execute_gates ◌>>=◌
      goes_on S f = ap (λ x. x >>= execute_gates (netlist_in n) all_spent (drop (i + 1) gs)) (sym f) ∙ (rw next_gate at w.work)

      pub run_none : {text' : List ℕ} → Roomed st text text' None → ran n row gs ≡ refused 9
      unfolding execute_gates ◌>>=◌
      run_none d = sym (rw next_gate at w.work) ∙ ap (λ x. x >>= execute_gates (netlist_in n) all_spent (drop (i + 1) gs)) (room_none w.mirrors d s)

      module _ {r : Cells} {text' : List ℕ} (d : Roomed st text text' (Some r)) where
        roomy : Roomy n row i w.S r g.table g.left text'
        roomy = room_found w.mirrors w.bounded w.text_is d

        pub run_placeable : Placeable n s r g text'
        run_placeable = gate_placeable n p.well g roomy s gate known fresh w.inputs most

        pub run_turn : {st' : Cells} {g' : Signals} {text'' : List ℕ} → Placed n s r g text' st' g' text'' → Running n row gs st' g' text'' (i + 1)
        run_turn x = record {
          S = place (netlist_in n) s r.next roomy.S';
          inputs = x.inputs;
          inside = omega (arith, here);
          mirrors = gate_mirrors n p.well g roomy s gate known fresh x (omega (arith, known, w.wide, p.well.inputs_most, p.well.gates_most));
          bounded = gate_bounded n p.well g roomy s gate known fresh x;
          done = placed_done (netlist_in n) s r.next roomy.S' ∙ rw (roomy.done, w.done, add-one i) (sym (take-suc gs i 0 here ∙ rw at_gate));
          text_is = gate_text n p.well g roomy s gate known fresh x;
          work = goes_on (place (netlist_in n) s r.next roomy.S') (roomy.step s);
          wide = gate_wide n p.well g roomy s gate known fresh x ∙ w.wide;
        }

    -- ---- the end

    pub run_end : length gs ≤ i → Mapped n row gs st g text
    unfolding execute_gates
    run_end h = record {
      end = w.S;
      is = sym (rw (drop_of_length-le gs h) at w.work);
      text_is = w.text_is;
      count = w.mirrors.lines;
      table = kept_cell w.mirrors.kept;
      short = omega (arith, ap length w.text_is, w.bounded.short, most);
      few = omega (arith, w.mirrors.lines, w.bounded.few, most);
    }
