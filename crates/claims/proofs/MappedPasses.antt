-- Every text that map answers is passed by check, with the number that its head states.
-- Assumes nothing.
use Rattle.std.proofs.Common.{sym, ap, ◌∙◌, [], length}
use Rattle.rules.specs.Form.{form01}
use Rattle.rules.specs.Lines.{line, nothing}
use Rattle.rules.specs.Netlist.{lines}
use Rattle.rules.specs.Sequence.{Sequence, sequence_head_of, instruction_of, place_of, sequence_of}
use Rattle.rules.specs.Calls.{check_outcome}
use Rattle.rules.proofs.Laws.{then_good}
use Rattle.claims.specs.Passes.{MappedPasses, HeadCounts}
use Rattle.rules.proofs.Answers.{good_same, from_bind}
use Rattle.rules.proofs.Reading.{lines_read}
use Rattle.claims.proofs.Delivered.{map-answered}

pub mapped_passes : MappedPasses
unfolding check_outcome
mapped_passes row text out n e = let M = map-answered row text out n e in (M.sequence, M.back, M.passed)

pub head_counts : HeadCounts
unfolding sequence_of
head_counts t S e =
    from_bind (line form01 t) _ S e λ l p a.
    from_bind (sequence_head_of form01 l.bytes) _ S a λ h q b.
    from_bind (lines form01 (λ _. instruction_of form01 h.row) h.instructions 0 [] l.rest) _ S b λ is r c.
    from_bind (lines form01 (λ _. place_of form01 h.row) h.outputs 0 [] is.tail) _ S c λ ps s d.
    let (u, v, w) = then_good (nothing form01 ps.tail) _ S d in
    let z = ap (λ (x : Sequence). length x.instructions) (good_same _ S w) in
    let (new, got, count, _) = lines_read form01 (λ _. instruction_of form01 h.row) (λ _ _. Unit {0}) (λ _ _ _ _. tt) h.instructions 0 [] l.rest is r in
    (l, h, p, q, sym count ∙ sym (ap length got) ∙ z)
