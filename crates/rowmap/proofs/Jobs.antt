-- The job line that is read is document 01's.
use Prim.Native.Nat.{ℕ, zero, suc, ◌+◌, ◌-◌, ◌/◌, ◌%◌}
use native.Mathlib.Omega.{arith}
use native.Mathlib.Decide.{ℕ_discrete}
use mathlib.Core.Path.{◌≡◌, refl, ap, ◌∙◌}
use mathlib.Core.Bool.{Bool, true, false}
use mathlib.Core.List.{List, [], ◌∷◌}
use lib.Dec.{eqb}
use lib.ListN.{get_or, drop}
use borrow.Author.Tests.{eq-eqb, ne_eqb}
use Rattle.std.specs.Prelude.{Result, Ok, Err}
use Rattle.rules.specs.declared.Refusal.{Refusal}
use Rattle.rules.specs.declared.Refusal.TheVariants.{WrongFrame}
use Rattle.rules.specs.Basics.{pick}
use Rattle.rules.specs.Form.{form01, one}
use Rattle.rules.specs.Refusals.{Res, good, refused, number_of, ◌>>=◌, or_refuse}
use Rattle.rules.specs.Lines as rules
use Rattle.rules.specs.Lines.{line, fields, also}
use Rattle.rules.specs.Netlist.{due}
use Rattle.rules.specs.Mapping.{mapped_text}
use Rattle.rules.specs.Programs.{job_of, mapping_answer}
use Rattle.lines.specs.Line.{line_at, byte_at, bytes_from}
use Rattle.lines.proofs.Meaning.{frame_fits, line_is, line_not}
use Rattle.rowmap.specs.Job.{job_from, job_at}

-- ---- what the code answers

module _ (input : List ℕ) where
  pub job_not : (r : Refusal) → line_at input 0 ≡ Err r → Err r ≡ job_at input
  unfolding job_at job_from
  job_not r e = rw e

  module _ (n : ℕ) (e : line_at input 0 ≡ Ok n) where
    pub job_other : (byte_at input 0 ≡ 15 → ⊥) → Err WrongFrame ≡ job_at input
    unfolding job_at job_from pick
    job_other h = rw (e, ne_eqb (byte_at input 0) 15 h)

    module _ (h : byte_at input 0 ≡ 15) where
      pub job_size : (n ≡ 4 → ⊥) → Err WrongFrame ≡ job_at input
      unfolding job_at job_from pick
      job_size z = rw (e, eq-eqb (byte_at input 0) 15 h, ne_eqb n 4 z)

      pub job_row : n ≡ 4 → Ok (byte_at input 2 + 1) ≡ job_at input
      unfolding job_at job_from pick
      job_row z = rw (e, eq-eqb (byte_at input 0) 15 h, eq-eqb n 4 z)

-- ---- what it means

unfoldable pub answer_of : List ℕ → Result ℕ Refusal → Res (List ℕ)
answer_of input (Ok row) = mapped_text form01 row (drop 5 input)
answer_of input (Err r) = refused (number_of r)

-- a job line's bytes: the kind, then exactly one byte
job_bytes : (input : List ℕ) (b m p : ℕ)
    → job_of form01 (b ∷ bytes_from input p m) ≡ pick (eqb b 15) (pick (eqb m 1) (good (byte_at input p + 1)) (refused 2)) (refused 2)
unfolding job_of due fields also or_refuse bytes_from form01 pick ◌>>=◌
job_bytes input b m p = go (eqb b 15) m
  where
    more : (m : ℕ) → eqb (suc (suc m)) 1 ≡ false
    more m = ne_eqb (suc (suc m)) 1 (λ e. omega arith)

    go : (t : Bool) (m : ℕ)
        → (pick t (good (bytes_from input p m)) (refused 2) >>= (λ l. or_refuse 2 (fields (one ∷ []) l) >>= (λ ns. good (get_or ns 0 0 + 1))))
        ≡ pick t (pick (eqb m 1) (good (byte_at input p + 1)) (refused 2)) (refused 2)
    go false m = refl
    go true zero = refl
    go true (suc zero) = refl
    go true (suc (suc m)) = rw (more m)

module _ (input : List ℕ) where
  onward : rules.Line → Res (List ℕ)
  onward l = job_of form01 l.bytes >>= λ row. mapped_text form01 row l.rest

  opened : (r : Res rules.Line) → line form01 input ≡ r → mapping_answer form01 input ≡ (r >>= onward)
  unfolding mapping_answer onward
  opened r e = ap (λ x. x >>= onward) e

  framed : (n : ℕ) → line_at input 0 ≡ Ok n → mapping_answer form01 input ≡ answer_of input (job_from input (Ok n))
  unfolding onward bytes_from job_from answer_of pick ◌>>=◌
  framed n e =
      let f = frame_fits input 0 n e in
      let half : n / 2 ≡ suc (n / 2 - 1) = omega (arith, f.even, f.least) in
      let bytes : bytes_from input 0 (n / 2) ≡ byte_at input 0 ∷ bytes_from input 2 (n / 2 - 1) = ap (bytes_from input 0) half in
      let job : job_of form01 (bytes_from input 0 (n / 2))
      ≡ pick (eqb (byte_at input 0) 15) (pick (eqb (n / 2 - 1) 1) (good (byte_at input 2 + 1)) (refused 2)) (refused 2) =
      ap (job_of form01) bytes ∙ job_bytes input (byte_at input 0) (n / 2 - 1) 2 in
      opened _ (line_is input 0 n e)
      ∙ ap (λ j. j >>= λ row. mapped_text form01 row (drop (0 + n + 1) input)) job
      ∙ go (eqb (byte_at input 0) 15) (ℕ_discrete n 4) f.even
    where
      go : (t : Bool) → Dec (n ≡ 4) → n % 2 ≡ 0
          → (pick t (pick (eqb (n / 2 - 1) 1) (good (byte_at input 2 + 1)) (refused 2)) (refused 2) >>= λ row. mapped_text form01 row (drop (0 + n + 1) input))
          ≡ answer_of input (pick t (pick (eqb n 4) (Ok (byte_at input 2 + 1)) (Err WrongFrame)) (Err WrongFrame))
      go false d v = refl
      go true (yes z) v = rw z
      go true (no z) v =
          let w : n / 2 - 1 ≡ 1 → ⊥ = λ q. z (omega arith) in
          rw (ne_eqb n 4 z, ne_eqb (n / 2 - 1) 1 w)

  pub job_means : mapping_answer form01 input ≡ answer_of input (job_at input)
  unfolding job_at job_from answer_of ◌>>=◌
  job_means = go (line_at input 0) refl
    where
      go : (l : Result ℕ Refusal) → line_at input 0 ≡ l → mapping_answer form01 input ≡ answer_of input (job_from input l)
      go (Ok n) e = framed n e
      go (Err r) e = opened _ (line_not input 0 r e)
