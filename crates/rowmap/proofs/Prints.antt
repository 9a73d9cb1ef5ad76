-- What stands in the buffer is what the mapping program prints.
use Prim.Native.Nat.{ℕ, ◌<◌, ◌≤◌}
use mathlib.Core.Path.{◌≡◌, refl, ap}
use mathlib.Core.Bool.{Bool, true, false}
use mathlib.Core.List.{List, ◌++◌}
use lib.Dec.{ltb}
use lib.ListN.{length, drop}
use lib.Seq.{sets}
use borrow.Author.Tests.{lt-ltb, le-ltb, ltb-false}
use Rattle.std.specs.Prelude.{Ok, Err}
use Rattle.rules.specs.declared.Refusal.{Refusal}
use Rattle.rules.specs.Basics.{pick}
use Rattle.rules.specs.Form.{form01}
use Rattle.rules.specs.Refusals.{Res, good, refused, number_of}
use Rattle.rules.specs.Lines.{written}
use Rattle.rules.specs.Programs.{refusal_line, printed, held, mapping_answer, mapping_program}
use Rattle.rules.specs.Calls.{Outcome, delivered, map_outcome, rowmap_output}
use Rattle.rules.proofs.Laws.{no_way}
use Rattle.rules.proofs.Lists.{sets_front}
use Rattle.rowmap.specs.Job.{job_at}
use Rattle.rowmap.specs.Printed.{printed_in, rowmap_in}
use Rattle.rowmap.proofs.Jobs.{answer_of, job_means}

-- the program lends as many bytes as document 01's programs hold
pub whole : (input : List ℕ) → rowmap_in 65536 input ≡ rowmap_output input
unfolding rowmap_in printed_in rowmap_output mapping_program printed
whole input = go (held input (mapping_answer form01 input))
  where
    go : (R : Res (List ℕ)) → printed_in 65536 R ≡ printed (λ t. t) R
    go (good t) = refl
    go (refused r) = refl

-- ---- what is delivered

module _ (out out' : List ℕ) where
  delivered_given : (R : Res (List ℕ)) (n : ℕ) → ◌≡◌ {A = Outcome} (record { answer = good n; lent = out' }) (delivered R out)
      → (n ≡ length (printed_in (length out) R)) × (out' ≡ sets out 0 (printed_in (length out) R))
  unfolding delivered printed_in pick
  delivered_given (refused r) n e = absurd (no_way (let z = ap (λ (o : Outcome). o.answer) e in cc))
  delivered_given (good t) n e = go (ltb (length out) (length t)) refl e
    where
      go : (u : Bool) → ltb (length out) (length t) ≡ u
          → ◌≡◌ {A = Outcome} (record { answer = good n; lent = out' }) (pick u (record { answer = refused 10; lent = out }) (record { answer = good (length t); lent = t ++ drop (length t) out }))
          → (n ≡ length (pick u (refusal_line 10) t)) × (out' ≡ sets out 0 (pick u (refusal_line 10) t))
      go true q f = absurd (no_way (let z = ap (λ (o : Outcome). o.answer) f in cc))
      go false q f =
          let z = ap (λ (o : Outcome). o.answer) f in
          let m : n ≡ length t = cc in
          let l : out' ≡ t ++ drop (length t) out = ap (λ (o : Outcome). o.lent) f in
          let h = ltb-false (length out) (length t) q in
          (m, rw (sets_front t out h) l)

  delivered_refused : (R : Res (List ℕ)) (r : ℕ) → ◌≡◌ {A = Outcome} (record { answer = refused r; lent = out' }) (delivered R out)
      → (out' ≡ out) × (printed_in (length out) R ≡ refusal_line r)
  unfolding delivered printed_in pick
  delivered_refused (refused x) r e =
      let z = ap (λ (o : Outcome). o.answer) e in
      let w : x ≡ r = cc in
      (ap (λ (o : Outcome). o.lent) e, ap refusal_line w)
  delivered_refused (good t) r e = go (ltb (length out) (length t)) e
    where
      go : (u : Bool)
          → ◌≡◌ {A = Outcome} (record { answer = refused r; lent = out' }) (pick u (record { answer = refused 10; lent = out }) (record { answer = good (length t); lent = t ++ drop (length t) out }))
          → (out' ≡ out) × (pick u (refusal_line 10) t ≡ refusal_line r)
      go true f =
          let z = ap (λ (o : Outcome). o.answer) f in
          let w : 10 ≡ r = cc in
          (ap (λ (o : Outcome). o.lent) f, ap refusal_line w)
      go false f = absurd (no_way (let z = ap (λ (o : Outcome). o.answer) f in cc))

-- ---- what is printed

pub printed_most : (size : ℕ) (input : List ℕ) → 5 ≤ size → length (rowmap_in size input) ≤ size
unfolding rowmap_in printed_in refusal_line written pick
printed_most size input h = go (held input (mapping_answer form01 input))
  where
    go : (R : Res (List ℕ)) → length (printed_in size R) ≤ size
    go (refused r) = h
    go (good t) = pick_most (ltb size (length t)) refl
      where
        pick_most : (u : Bool) → ltb size (length t) ≡ u → length (pick u (refusal_line 10) t) ≤ size
        pick_most true e = h
        pick_most false e = ltb-false size (length t) e

line_long : (r : ℕ) → 5 ≡ length (refusal_line r)
unfolding refusal_line written
line_long r = refl

module _ (input out : List ℕ) where
  -- a longer input, a job line that is bad, and what map answers
  pub answer_long : 65536 < length input → ◌≡◌ {A = Outcome} (record { answer = refused 1; lent = out }) (delivered (held input (mapping_answer form01 input)) out)
  unfolding delivered held pick
  answer_long h = rw (lt-ltb 65536 (length input) h)

  module _ (h : length input ≤ 65536) where
    held_is : held input (mapping_answer form01 input) ≡ answer_of input (job_at input)
    unfolding held pick
    held_is = rw (le-ltb 65536 (length input) h) (job_means input)

    pub answer_bad : (r : Refusal) → Err r ≡ job_at input
        → ◌≡◌ {A = Outcome} (record { answer = refused (number_of r); lent = out }) (delivered (held input (mapping_answer form01 input)) out)
    unfolding delivered answer_of
    answer_bad r e = rw (held_is, ← e)

    pub answer_mapped : (row : ℕ) → Ok row ≡ job_at input → map_outcome row (drop 5 input) out ≡ delivered (held input (mapping_answer form01 input)) out
    unfolding map_outcome answer_of
    answer_mapped row e = rw (held_is, ← e)

  module _ (out' : List ℕ) where
    pub prints_text : (n : ℕ) → ◌≡◌ {A = Outcome} (record { answer = good n; lent = out' }) (delivered (held input (mapping_answer form01 input)) out)
        → (n ≡ length (rowmap_in (length out) input)) × (out' ≡ sets out 0 (rowmap_in (length out) input))
    unfolding rowmap_in
    prints_text n e = delivered_given out out' (held input (mapping_answer form01 input)) n e

    pub prints_refusal : (r : ℕ) {out₂ : List ℕ} → ◌≡◌ {A = Outcome} (record { answer = refused r; lent = out' }) (delivered (held input (mapping_answer form01 input)) out)
        → out₂ ≡ sets out' 0 (refusal_line r) → (5 ≡ length (rowmap_in (length out) input)) × (out₂ ≡ sets out 0 (rowmap_in (length out) input))
    unfolding rowmap_in
    prints_refusal r e p =
        let (kept, said) = delivered_refused out out' (held input (mapping_answer form01 input)) r e in
        (rw said (line_long r), rw said (rw kept at p))
