-- What a run leaves alone: the row's length, cells that no instruction names, and, once passed, the input cells.
use Rattle.std.proofs.Common.{ℕ, zero, suc, ◌≤◌, arith, ◌≡◌, refl, ◌∙◌, Bool, true, false, List, [], ◌∷◌, eqb, ne_eqb, get_or, length, set, length-set, get_or-set_other}
use borrow.Author.Tests.{eqb-false}
use Rattle.std.proofs.lemmas.Bool.{or_parts}
use Rattle.rules.specs.Basics.{pick, any, mem, set_all}
use Rattle.rules.specs.Refusals.{good, refused, ◌>>=◌}
use Rattle.rules.specs.Netlist.{Netlist}
use Rattle.rules.specs.Sequence.{Instruction, Set, Nor}
use Rattle.rules.specs.Device.{execute, run, touches}
use Rattle.rules.specs.Book.{Cell, unknown, ready, holds, signals, fixed, made, step, steps}
use Rattle.rules.proofs.Laws.{bind_good}
use Rattle.rules.proofs.Lists.{length-set_all}

-- ---- a budget that lets the sequence end

pub run_ends : (budget : ℕ) (is : List Instruction) (r : List ℕ) → length is ≤ budget → run budget is r ≡ run (length is) is r
unfolding run
run_ends zero [] r h = refl
run_ends (suc b) [] r h = refl
run_ends zero (i ∷ is) r h = absurd (omega arith)
run_ends (suc b) (i ∷ is) r h = run_ends b is (execute i r) (omega arith)

-- ---- the row's length

execute_length : (i : Instruction) (r : List ℕ) → length (execute i r) ≡ length r
unfolding execute
execute_length (Set cs) r = length-set_all 1 cs r
execute_length (Nor w os) r = length-set r w _

pub run_length : (b : ℕ) (is : List Instruction) (r : List ℕ) → length (run b is r) ≡ length r
unfolding run
run_length zero is r = refl
run_length (suc b) [] r = refl
run_length (suc b) (i ∷ is) r = run_length b is (execute i r) ∙ execute_length i r

-- ---- cells that are not named

set_all_stays : {A : Type 0} (v d : A) (c : ℕ) (cs : List ℕ) (l : List A) → mem c cs ≡ false → get_or (set_all v cs l) c d ≡ get_or l c d
unfolding set_all mem
set_all_stays v d c [] l e = refl
set_all_stays v d c (x ∷ cs) l e =
    let (p, q) = or_parts (eqb c x) (mem c cs) e in
    set_all_stays v d c cs (set l x v) q ∙ get_or-set_other l x c v d (eqb-false c x p)

execute_stays : (c : ℕ) (i : Instruction) (r : List ℕ) → touches c i ≡ false → get_or (execute i r) c 0 ≡ get_or r c 0
unfolding touches execute
execute_stays c (Set cs) r e = set_all_stays 1 0 c cs r e
execute_stays c (Nor w os) r e = get_or-set_other r w c _ 0 (eqb-false c w e)

pub run_stays : (c b : ℕ) (is : List Instruction) (r : List ℕ) → any (touches c) is ≡ false → get_or (run b is r) c 0 ≡ get_or r c 0
unfolding run
run_stays c zero is r e = refl
run_stays c (suc b) [] r e = refl
run_stays c (suc b) (i ∷ is) r e =
    let (p, q) = or_parts (touches c i) (any (touches c) is) e in
    run_stays c b is (execute i r) q ∙ execute_stays c i r p

-- ---- cells that may not be named

any_mem : (p : ℕ → Bool) (c : ℕ) (cs : List ℕ) → p c ≡ true → any p cs ≡ false → mem c cs ≡ false
unfolding mem
any_mem p c [] h e = refl
any_mem p c (x ∷ cs) h e =
    let q = or_parts (p x) (any p cs) e in
    rw (ne_eqb c x (λ u. cc), any_mem p c cs h q.1)

module _ (N : Netlist) (c : ℕ) (fix : fixed N c ≡ true) where
  step_spares : (i : Instruction) (b b' : List Cell) → step N i b ≡ good b' → touches c i ≡ false
  unfolding step touches pick
  step_spares (Set cs) b b' e = go (any (fixed N) cs) refl e
    where
      go : (t : Bool) → any (fixed N) cs ≡ t → pick t (refused 13) (good (set_all ready cs b)) ≡ good b' → mem c cs ≡ false
      go true p f = cc
      go false p f = any_mem (fixed N) c cs fix p
  step_spares (Nor w os) b b' e = go (fixed N w) refl e
    where
      go : (t : Bool) → fixed N w ≡ t → pick t (refused 13) (made N (get_or b w unknown) (signals b os) >>= λ g. good (set b w (holds g))) ≡ good b'
          → eqb c w ≡ false
      go true p f = cc
      go false p f = ne_eqb c w (λ u. cc)

  -- what is passed touches no fixed cell
  pub steps_spare : (is : List Instruction) (b b' : List Cell) → steps N is b ≡ good b' → any (touches c) is ≡ false
  unfolding steps
  steps_spare [] b b' e = refl
  steps_spare (i ∷ is) b b' e =
      let (x, p, q) = bind_good (step N i b) (steps N is) b' e in
      rw (step_spares i b x p, steps_spare is x b' q)
