-- From a netlist's text to a sequence's text, over any form that fits: the sequence reads back, passes, and is short.
-- Assumes nothing.
use Rattle.std.proofs.Common.{ℕ, ◌-◌, ◌*◌, ◌<◌, ◌≤◌, arith, ◌≡◌, List, ltb, ltb-true, length}
use Rattle.rules.specs.Basics.{within}
use Rattle.rules.specs.Form.{Form, form01}
use Rattle.rules.specs.Refusals.{good, ◌>>=◌}
use Rattle.rules.specs.Netlist.{Netlist, netlist_of}
use Rattle.rules.specs.Sequence.{Sequence, sequence_of, sequence_text}
use Rattle.rules.specs.Cells.{all_spent}
use Rattle.rules.specs.Order.{order}
use Rattle.rules.specs.Mapping.{mapped, mapped_text}
use Rattle.rules.specs.Book.{checked, checked_text}
use Rattle.rules.proofs.Answers.{good_same, from_bind, from_require}
use Rattle.rules.proofs.Lists.{within_true}
use Rattle.rules.proofs.Reading.{Sized, netlist_read}
use Rattle.claims.proofs.OrderIsTrue.{well_ordered}
use Rattle.claims.proofs.Keeping.{all_spent_sparing}
use Rattle.claims.proofs.Passing.{Right, passing}
use Rattle.claims.proofs.Counting.{counting}
use Rattle.claims.proofs.Bytes.{bytes, holding}
use Rattle.claims.proofs.PartsBack.{Fits}
use Rattle.claims.proofs.SequenceBack.{Writable, sequence_back}

-- a sequence text t mapped from a netlist text
pub record Mapped (F : Form) (text t : List ℕ) : Type 0 where
  pub netlist : Netlist
  pub sequence : Sequence
  pub read : netlist_of F text ≡ good netlist
  pub back : sequence_of F t ≡ good sequence
  pub passed : checked_text F text t ≡ good (length sequence.instructions)
  pub twice : length sequence.instructions ≤ 2 * length netlist.gates

module _ (F : Form) (fits : Fits F) (row : ℕ) (text : List ℕ) where
  -- what the mapping rule makes of a netlist within the limits is within them too
  writable : (N : Netlist) → Sized F N → 2 ≤ row → row ≤ F.row_most → N.inputs < row → (S : Sequence) → Right N row S
      → (1 ≤ length S.instructions) × (length S.instructions ≤ 2 * length N.gates) → Writable F S
  writable N Z h k i S R c = record {
    row = rw R.row_size (h, k);
    inputs = rw R.inputs Z.inputs;
    work = rw (R.inputs, R.row_size) i;
    outputs = rw R.outputs Z.outputs;
    instructions = (c.0, omega (arith, Z.gates, fits.twice));
    fine = rw R.row_size R.fine;
    as_many = rw R.outputs R.as_many;
    inside = rw R.row_size R.inside;
  }

  pub text_mapped : (t : List ℕ) → mapped_text F row text ≡ good t → Mapped F text t
  unfolding mapped_text mapped
  text_mapped t e =
      from_require (within 2 F.row_most row) 8 _ t e λ size a.
      from_bind (netlist_of F text) _ t a λ N read b.
      from_bind (mapped N row) _ t b λ S rule c.
      from_require (ltb N.inputs row) 9 _ S rule λ room d.
      let h = within_true 2 F.row_most row size in
      let i = ltb-true N.inputs row room in
      let (W, Z) = netlist_read F text N read in
      let T = well_ordered N W in
      let R = passing N W row (order N) T all_spent all_spent_sparing (row - N.inputs) (omega arith) (omega arith) S d in
      let n = counting N all_spent (order N) T.as_many Z.gates.0 (row - N.inputs) row (omega arith) (omega arith) S d in
      let back = sequence_back F fits S (writable N Z h.0 h.1 i S R n) in
      rw (← good_same (sequence_text F S) t c) (record {
        netlist = N;
        sequence = S;
        read = read;
        back = back;
        passed = checks N S read back R.passed;
        twice = n.1;
      })
    where
      checks : (N : Netlist) (S : Sequence) → netlist_of F text ≡ good N → sequence_of F (sequence_text F S) ≡ good S → checked N S ≡ good (length S.instructions)
          → checked_text F text (sequence_text F S) ≡ good (length S.instructions)
      checks N S p q r = unfold checked_text ◌>>=◌ in rw (p, q, r)

-- document 01's form is such a one
pub form01_fits : Fits form01
unfolding form01 bytes holding
form01_fits = record {
  head_kind = omega arith;
  set_kind_lem = omega arith;
  nor_kind_lem = omega arith;
  place_kind_lem = omega arith;
  apart = λ e. omega arith;
  rows = omega arith;
  inputs = omega arith;
  outputs = omega arith;
  instructions = omega arith;
  twice = omega arith;
  set_line = omega arith;
  nor_line = omega arith;
}
