-- What the checker answers where the netlist was read, test by test.
use Rattle.std.proofs.Common.{ℕ, ◌≤◌, arith, ◌≡◌, sym, ap, ◌∙◌, Bool, true, false, List, eqb, length, eq-eqb, ne_eqb, Result, Ok, Err}
use Rattle.rules.specs.declared.Refusal.{Refusal}
use Rattle.rules.specs.Form.{form01}
use Rattle.rules.specs.Refusals.{Res, good, refused, ◌>>=◌, ◌>>◌, require, meaning, meaning_by}
use Rattle.rules.specs.Sequence.{sequence_of}
use Rattle.rules.specs.Book.{Cell, first_book, steps, placed, checked}
use Rattle.rules.proofs.SequenceReading.{sequence_read}
use Rattle.row.specs.declared.Head.{Head}
use Rattle.row.specs.Decoded.{instructions_at, places_at, sequence_at, sequence_in}
use Rattle.row.proofs.Listing.{instructions_count}
use Rattle.instruction.specs.Line as line
use Rattle.instruction.proofs.Standing.{same_instructions}
use Rattle.netlist.specs.declared.Netlist.{Netlist}
use Rattle.netlist.specs.Flat.{from, netlist_in}
use Rattle.netlist.specs.Well.{Well}
use Rattle.netlist.proofs.Arrays.{length_from}
use Rattle.netlist.proofs.FlatWell.{flat}
use Rattle.book.specs.declared.Book.{Book}
use Rattle.book.specs.Cells.{book_in, first_of}
use Rattle.book.proofs.Meaning.{first_means}
use Rattle.checker.specs.Judged.{Agreed, judged_of}

-- ---- where the heads agree

module _ (n : Netlist) (text : List ℕ) (h : Head) (a : Agreed n text h) where
  pub outputs_few : n.outputs ≤ 64
  outputs_few = (flat n a.well.lines).outputs_most

  pub listed_few : (outs : List ℕ) → outs ≡ from n.outs 0 n.outputs → length outs ≤ 64
  listed_few outs e = omega (arith, ap length e ∙ length_from n.outs 0 n.outputs, outputs_few)

  pub inputs_same : (m : Netlist) → m ≡ n → (first : Book) → first ≡ first_of h.row n.inputs → first.inputs ≡ m.inputs
  unfolding first_of
  inputs_same m same first e = rw same (ap (λ b. b.inputs) e)

  -- what is asked after the instructions
  placing : List Cell → Res ℕ
  placing book = require (placed book (places_at text h.places h.outputs) (from n.outs 0 n.outputs)) 16 >> good h.instructions

  module _ (m : Netlist) (same : m ≡ n) (first after : Book) (r : Result (Unit {0}) Refusal) (begun : first ≡ first_of h.row n.inputs)
      (worked : meaning_by (λ _. book_in after) r ≡ steps (netlist_in m) (line.instructions_at text h.code h.instructions) (book_in first)) where
    -- the steps of document 01's rule say what the loop answers
    steps_are : meaning_by (λ _. book_in after) r ≡ steps (netlist_in n) (instructions_at text h.code h.instructions) (first_book n.inputs h.row)
    steps_are =
        let f : book_in first ≡ first_book n.inputs h.row =
        ap book_in begun ∙ first_means h.row n.inputs (omega (arith, a.inputs_agree, a.inputs_few)) a.row_most in
        worked
        ∙ ap (λ k. steps (netlist_in k) (line.instructions_at text h.code h.instructions) (book_in first)) same
        ∙ ap (steps (netlist_in n) (line.instructions_at text h.code h.instructions)) f
        ∙ ap (λ l. steps (netlist_in n) l (first_book n.inputs h.row)) (same_instructions text h.instructions h.code)

    checked_is : (meaning_by (λ _. book_in after) r >>= placing) ≡ checked (netlist_in n) (sequence_at text h)
    unfolding checked netlist_in require ◌>>◌ placing
    checked_is =
        let l = length_from n.outs 0 n.outputs in
        let i : eqb h.inputs n.inputs ≡ true = eq-eqb h.inputs n.inputs a.inputs_agree in
        let u : eqb h.outputs (length (from n.outs 0 n.outputs)) ≡ true = eq-eqb h.outputs (length (from n.outs 0 n.outputs)) (a.outputs_agree ∙ sym l) in
        rw (i, u, instructions_count text h.code h.instructions, ← steps_are)

    pub follow_refused : (x : Refusal) → r ≡ Err x → meaning (Err x) ≡ checked (netlist_in n) (sequence_at text h)
    unfolding ◌>>=◌
    follow_refused x e = rw e at checked_is

    module _ (passed : r ≡ Ok tt) (outs : List ℕ) (listed : outs ≡ from n.outs 0 n.outputs) (t : Bool)
        (held : t ≡ placed (book_in after) (places_at text h.places (length outs)) outs) where
      placed_is : (require t 16 >> good h.instructions) ≡ checked (netlist_in n) (sequence_at text h)
      unfolding ◌>>=◌ placing
      placed_is =
          let l : length outs ≡ h.outputs = ap length listed ∙ length_from n.outs 0 n.outputs ∙ sym a.outputs_agree in
          let q : t ≡ placed (book_in after) (places_at text h.places h.outputs) (from n.outs 0 n.outputs) =
          held ∙ ap (λ k. placed (book_in after) (places_at text h.places k) outs) l ∙ ap (placed (book_in after) (places_at text h.places h.outputs)) listed in
          ap (λ k. require k 16 >> good h.instructions) q ∙ (rw passed at checked_is)

      pub follow_misplaced : t ≡ false → refused 16 ≡ checked (netlist_in n) (sequence_at text h)
      unfolding require ◌>>◌
      follow_misplaced e = rw e at placed_is

      pub follow_passed : t ≡ true → good h.instructions ≡ checked (netlist_in n) (sequence_at text h)
      unfolding require ◌>>◌
      follow_passed e = rw e at placed_is

-- ---- the sequence's text, and the heads

module _ (n : Netlist) (w : Well (netlist_in n)) (text : List ℕ) (s : Result Head Refusal) (e : sequence_in text s ≡ sequence_of form01 text) where
  pub judge_refused : (x : Refusal) → s ≡ Err x → meaning (Err x) ≡ judged_of (netlist_in n) text
  unfolding judged_of ◌>>=◌
  judge_refused x q = rw (← e, q)

  module _ (h : Head) (q : s ≡ Ok h) where
    read_is : sequence_of form01 text ≡ good (sequence_at text h)
    read_is = sym (rw q at e)

    judged_is : checked (netlist_in n) (sequence_at text h) ≡ judged_of (netlist_in n) text
    unfolding judged_of ◌>>=◌
    judged_is = rw read_is

    pub judge_inputs : (h.inputs ≡ n.inputs → ⊥) → refused 11 ≡ judged_of (netlist_in n) text
    unfolding checked netlist_in require ◌>>◌
    judge_inputs z = rw (ne_eqb h.inputs n.inputs z) at judged_is

    pub judge_outputs : h.inputs ≡ n.inputs → (h.outputs ≡ n.outputs → ⊥) → refused 11 ≡ judged_of (netlist_in n) text
    unfolding checked netlist_in require ◌>>◌
    judge_outputs same z =
        let l = length_from n.outs 0 n.outputs in
        let u : eqb h.outputs (length (from n.outs 0 n.outputs)) ≡ false = ne_eqb h.outputs (length (from n.outs 0 n.outputs)) (λ y. z (y ∙ l)) in
        rw (eq-eqb h.inputs n.inputs same, u) at judged_is

    pub judge_agreed : h.inputs ≡ n.inputs → h.outputs ≡ n.outputs → Agreed n text h
    unfolding form01
    judge_agreed i o =
        let f = sequence_read form01 text (sequence_at text h) read_is in
        record { well = w; inputs_agree = i; outputs_agree = o; row_most = f.row_most; inputs_few = f.fewer }

    pub judge_followed : (r : Res ℕ) → r ≡ checked (netlist_in n) (sequence_at text h) → r ≡ judged_of (netlist_in n) text
    judge_followed r z = z ∙ judged_is
