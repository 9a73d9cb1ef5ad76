-- The job line, as document 01's programs read it.
-- Assumes nothing.
use Rattle.std.specs.Prelude.{ℕ, ◌+◌, List, eqb, Result, Ok, Err}
use Rattle.rules.specs.declared.Refusal.{Refusal}
use Rattle.rules.specs.declared.Refusal.TheVariants.{WrongFrame}
use Rattle.rules.specs.Basics.{pick}
use Rattle.lines.specs.Line.{line_at, byte_at}

-- 0F job: row size less one (1)
unfoldable pub job_from : List ℕ → Result ℕ Refusal → Result ℕ Refusal
job_from input (Ok n) =
    pick (eqb (byte_at input 0) 0x0F)
    (pick (eqb n 4) (Ok (byte_at input 2 + 1)) (Err WrongFrame))
    (Err WrongFrame)
job_from input (Err r) = Err r

unfoldable pub job_at : List ℕ → Result ℕ Refusal
job_at input = job_from input (line_at input 0)
