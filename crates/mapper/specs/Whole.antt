-- The whole mapping of a netlist that was read.
-- Assumes nothing.
use Rattle.std.specs.Prelude.{ℕ, ◌<◌, ◌≤◌, ◌≡◌, List, ◌++◌, length, Result, Ok, Err}
use Rattle.rules.specs.declared.Refusal.{Refusal}
use Rattle.rules.specs.Form.{form01}
use Rattle.rules.specs.Refusals.{Res, good, refused, number_of, ◌>>=◌}
use Rattle.rules.specs.Sequence.{Sequence, instruction_text, place_text, texts, sequence_text}
use Rattle.rules.specs.Mapping.{mapped}
use Rattle.netlist.specs.declared.Netlist.{Netlist}
use Rattle.netlist.specs.Flat.{netlist_in}
use Rattle.netlist.specs.Well.{WellFlat}
use Rattle.order.specs.declared.Plan.{Plan}
use Rattle.order.specs.Plan.{Planned}

-- a netlist that was read, with its plan, and a row that has a work cell
pub record Due (n : Netlist) (row : ℕ) (plan : Plan) : Type 0 where
  pub well : WellFlat n
  pub planned : Planned n plan
  pub room : n.inputs < row
  pub size : row ≤ 256

-- the sequence's text, from a netlist that was read
unfoldable pub text_in : Netlist → ℕ → Res (List ℕ)
unfolding mapped netlist_in sequence_text form01 ◌>>=◌
text_in n row = mapped (netlist_in n) row >>= λ S. good (sequence_text form01 S)

-- the lines behind the head: instructions, then places
unfoldable pub body_text : Sequence → List ℕ
unfolding texts instruction_text place_text form01
body_text S = texts (instruction_text form01) S.instructions ++ texts (place_text form01) S.places

-- they are written, and their length and the number of instructions are known
pub record Bodied (n : Netlist) (row : ℕ) (text : List ℕ) (lines : ℕ) : Type 0 where
  pub sequence : Sequence
  pub is : mapped (netlist_in n) row ≡ good sequence
  pub rows : sequence.row ≡ row
  pub inputs : sequence.inputs ≡ n.inputs
  pub outputs : sequence.outputs ≡ n.outputs
  pub text_is : text ≡ body_text sequence
  pub count : lines ≡ length sequence.instructions
  pub short : length text ≤ 15900
  pub few : lines ≤ 2000

unfoldable pub BodyOf : Netlist → ℕ → List ℕ → Result ℕ Refusal → Type 0
BodyOf n row text (Ok lines) = Bodied n row text lines
BodyOf n row text (Err r) = mapped (netlist_in n) row ≡ refused (number_of r)
