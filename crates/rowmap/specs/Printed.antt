-- What the mapping program prints where so many bytes of output are held. Document 01's programs hold 65,536.
-- Assumes nothing.
use Rattle.std.specs.Prelude.{ℕ, List, ltb, length}
use Rattle.rules.specs.Basics.{pick}
use Rattle.rules.specs.Form.{form01}
use Rattle.rules.specs.Refusals.{Res, good, refused}
use Rattle.rules.specs.Programs.{refusal_line, held, mapping_answer}

-- a longer output prints 1F0A alone
unfoldable pub printed_in : ℕ → Res (List ℕ) → List ℕ
unfolding pick refusal_line
printed_in size (good text) = pick (ltb size (length text)) (refusal_line 10) text
printed_in size (refused r) = refusal_line r

unfoldable pub rowmap_in : ℕ → List ℕ → List ℕ
unfolding printed_in held mapping_answer form01
rowmap_in size input = printed_in size (held input (mapping_answer form01 input))
