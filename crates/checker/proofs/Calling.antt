-- The two ways in, over two texts and over one, and what the checking program prints.
use Rattle.std.proofs.Common.{ℕ, ◌<◌, ◌≤◌, arith, ◌≡◌, refl, sym, ap, ◌∙◌, List, eqb, length, drop, lt-ltb, le-ltb, Result, Ok, Err}
use Rattle.rules.specs.declared.Refusal.{Refusal}
use Rattle.rules.specs.Basics.{pick}
use Rattle.rules.specs.Form.{form01}
use Rattle.rules.specs.Refusals.{Res, good, refused, ◌>>=◌, number_of, meaning}
use Rattle.rules.specs.Lines.{written, bytes_of}
use Rattle.rules.specs.Netlist as rules
use Rattle.rules.specs.Netlist.{Part, netlist_lines, netlist_of, well_formed}
use Rattle.rules.specs.Sequence.{Sequence, sequence_of}
use Rattle.rules.specs.Book.{first_book, steps, placed, checked, checked_text}
use Rattle.rules.specs.Programs.{refusal_line, cycles_line, printed, held, checking_answer, checking_program}
use Rattle.rules.specs.Calls.{check_outcome, rowcheck_output}
use Rattle.rules.proofs.Laws.{bind_good, require_good}
use Rattle.rules.proofs.SequenceReading.{sequence_read}
use Rattle.netlist.specs.declared.Netlist.{Netlist}
use Rattle.netlist.specs.declared.Front.{Front}
use Rattle.netlist.specs.Flat.{netlist_in, reading_of, part_of, front_of}
use Rattle.checker.specs.Judged.{judged_of}

-- ---- two texts

outcome_is : (netlist sequence : List ℕ) → check_outcome netlist sequence ≡ (netlist_of form01 netlist >>= λ N. judged_of N sequence)
unfolding check_outcome checked_text judged_of
outcome_is netlist sequence = refl

module _ (netlist sequence : List ℕ) (r : Result Netlist Refusal) (e : reading_of r ≡ netlist_of form01 netlist) where
  pub check_refused : (x : Refusal) → r ≡ Err x → meaning (Err x) ≡ check_outcome netlist sequence
  unfolding ◌>>=◌
  check_refused x q = rw (outcome_is netlist sequence, ← e, q)

  pub check_judged : (n : Netlist) → r ≡ Ok n → (m : Res ℕ) → m ≡ judged_of (netlist_in n) sequence → m ≡ check_outcome netlist sequence
  unfolding ◌>>=◌
  check_judged n q m z = rw (outcome_is netlist sequence, ← e, q) z

-- ---- one text

abbrev part : rules.Netlist → List ℕ → Part rules.Netlist
part N tail = record { got = N; tail = tail }

after_is : (input : List ℕ) → checking_answer form01 input ≡ (front_of input >>= λ p. judged_of p.got p.tail)
unfolding checking_answer front_of judged_of ◌>>=◌
after_is input = go (netlist_lines form01 input)
  where
    formed : (p : Part rules.Netlist) (f : Res rules.Netlist)
        → (f >>= λ N. judged_of N p.tail) ≡ ((f >>= λ N. good (part N p.tail)) >>= λ q. judged_of q.got q.tail)
    formed p (good N) = refl
    formed p (refused r) = refl

    go : (l : Res (Part rules.Netlist))
        → (l >>= λ p. well_formed p.got >>= λ N. judged_of N p.tail)
        ≡ ((l >>= λ p. well_formed p.got >>= λ N. good (part N p.tail)) >>= λ q. judged_of q.got q.tail)
    go (good p) = formed p (well_formed p.got)
    go (refused r) = refl

module _ (input : List ℕ) (r : Result Front Refusal) (e : part_of input r ≡ front_of input) where
  pub after_refused : (x : Refusal) → r ≡ Err x → meaning (Err x) ≡ checking_answer form01 input
  unfolding ◌>>=◌
  after_refused x q = rw (after_is input, ← e, q)

  pub after_judged : (f : Front) → r ≡ Ok f → (tail : List ℕ) → tail ≡ drop f.tail input → (m : Res ℕ) → m ≡ judged_of (netlist_in f.netlist) tail
      → m ≡ checking_answer form01 input
  unfolding ◌>>=◌
  after_judged f q tail t m z = rw (after_is input, ← e, q, ← t) z

-- ---- the number of instructions takes two bytes

checked_count : (N : rules.Netlist) (S : Sequence) (n : ℕ) → checked N S ≡ good n → length S.instructions ≡ n
unfolding checked
checked_count N S n e =
    let a = require_good (eqb S.inputs N.inputs) 11 _ n e in
    let b = require_good (eqb S.outputs (length N.outputs)) 11 _ n a.1 in
    let c = bind_good (steps N S.instructions (first_book N.inputs S.row)) _ n b.1 in
    let d = require_good (placed c.0 S.places N.outputs) 16 _ n c.2 in
    let z : good (length S.instructions) ≡ good n = d.1 in
    cc

after_few : (input : List ℕ) (n : ℕ) → checking_answer form01 input ≡ good n → n ≤ 1024
unfolding judged_of form01
after_few input n e =
    let a = bind_good (front_of input) (λ p. judged_of p.got p.tail) n (sym (after_is input) ∙ e) in
    let b = bind_good (sequence_of form01 a.0.tail) (λ S. checked a.0.got S) n a.2 in
    let w = sequence_read form01 a.0.tail b.0 b.1 in
    omega (arith, w.most, checked_count a.0.got b.0 n b.2)

pub cycles_fit : (input : List ℕ) (a : Result ℕ Refusal) (n : ℕ) → meaning a ≡ checking_answer form01 input → a ≡ Ok n → n < 65536
cycles_fit input a n answers q = omega (arith, after_few input n (sym answers ∙ ap meaning q))

-- ---- what is printed

output_is : (input : List ℕ) → rowcheck_output input ≡ printed cycles_line (held input (checking_answer form01 input))
unfolding rowcheck_output checking_program
output_is input = refl

pub refusal_long : (r : ℕ) → length (refusal_line r) ≡ 5
unfolding refusal_line written
refusal_long r = refl

pub cycles_long : (n : ℕ) → length (cycles_line n) ≡ 7
unfolding cycles_line written bytes_of
cycles_long n = refl

-- an input longer than the program holds
pub output_long : (input : List ℕ) → 65536 < length input → rowcheck_output input ≡ refusal_line 1
unfolding held printed pick
output_long input h = rw (output_is input, lt-ltb 65536 (length input) h)

module _ (input : List ℕ) (a : Result ℕ Refusal) (short : length input ≤ 65536) (answers : meaning a ≡ checking_answer form01 input) where
  answer_is : rowcheck_output input ≡ printed cycles_line (meaning a)
  unfolding held pick
  answer_is = rw (output_is input, le-ltb 65536 (length input) short, answers)

  pub output_passed : (n : ℕ) → a ≡ Ok n → rowcheck_output input ≡ cycles_line n
  unfolding printed pick
  output_passed n q = rw (answer_is, q, cycles_long n)

  pub output_refused : (r : Refusal) → a ≡ Err r → rowcheck_output input ≡ refusal_line (number_of r)
  unfolding printed
  output_refused r q = rw (answer_is, q)
