-- A line put byte by byte is the line that the checking program prints.
use Rattle.std.proofs.Common.{ℕ, ◌/◌, ◌%◌, ◌≡◌, List, set}
use lib.Seq.{sets}
use Rattle.rules.specs.Lines.{written, bytes_of}
use Rattle.rules.specs.Programs.{cycles_line}
use Rattle.lines.proofs.Printing.{two}

pub cycles_put : (o o₁ o₂ o₃ : List ℕ) (n : ℕ) → o₁ ≡ sets o 0 (two 30) → o₂ ≡ sets (sets o₁ 2 (two (n / 256))) 4 (two (n % 256)) → o₃ ≡ set o₂ 6 10
    → o₃ ≡ sets o 0 (cycles_line n)
unfolding cycles_line written bytes_of
cycles_put o o₁ o₂ o₃ n e₁ e₂ e₃ = rw (e₃, e₂, e₁)
