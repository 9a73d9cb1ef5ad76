-- The checker's book tells the truth about the row, instruction by instruction.
use Rattle.std.proofs.Common.{ℕ, ◌<◌, ◌≤◌, arith, ◌≡◌, refl, sym, ◌∙◌, Bool, true, false, List, [], ◌∷◌, eqb, get_or, length, set, length-set, get_or-set_same, get_or-set_other}
use native.Mathlib.Decide.{ℕ_discrete, dec_lt}
use mathlib.Core.Option.{Option, none, some}
use lib.Seq.{set_out}
use Rattle.rules.proofs.Lists.{known}
use Rattle.rules.specs.Basics.{pick, any, sort, set_all}
use Rattle.rules.specs.Refusals.{good, refused, ◌>>=◌}
use Rattle.rules.specs.Netlist.{Netlist}
use Rattle.rules.specs.Sequence.{Instruction, Set, Nor}
use Rattle.rules.specs.Values.{nor}
use Rattle.rules.specs.Device.{execute, run}
use Rattle.rules.specs.Book.{Cell, unknown, ready, holds, if_holds, signals, gate_with, fixed, gate_on, made, step, steps}
use Rattle.rules.proofs.Laws.{bind_good, or_refuse_good}
use Rattle.claims.proofs.Table.{nor_sort}

-- a held signal's cell has its value, a ready cell has 1
pub record Fits (vs : List ℕ) (b : List Cell) (r : List ℕ) : Type 0 where
  pub len : length b ≡ length r
  pub val : (c s : ℕ) → get_or b c unknown ≡ holds s → get_or r c 0 ≡ get_or vs s 0
  pub one : (c : ℕ) → get_or b c unknown ≡ ready → get_or r c 0 ≡ 1

-- one cell is altered in both
put : (vs : List ℕ) (b : List Cell) (r : List ℕ) (c : ℕ) (x : Cell) (v : ℕ) → c < length b → Fits vs b r
    → ((s : ℕ) → x ≡ holds s → v ≡ get_or vs s 0) → (x ≡ ready → v ≡ 1) → Fits vs (set b c x) (set r c v)
put vs b r c x v h fit new one = record {
  len = length-set b c x ∙ fit.len ∙ sym (length-set r c v);
  val = λ k s e. at_k k (ℕ_discrete k c) s e;
  one = λ k e. one_k k (ℕ_discrete k c) e;
}
  where
    h' : c < length r
    h' = omega (arith, fit.len)

    at_k : (k : ℕ) → Dec (k ≡ c) → (s : ℕ) → get_or (set b c x) k unknown ≡ holds s → get_or (set r c v) k 0 ≡ get_or vs s 0
    at_k k (yes p) s e = rw p (get_or-set_same r c v 0 h' ∙ new s (sym (get_or-set_same b c x unknown h) ∙ rw p at e))
    at_k k (no q) s e = get_or-set_other r c k v 0 q ∙ fit.val k s (sym (get_or-set_other b c k x unknown q) ∙ e)

    one_k : (k : ℕ) → Dec (k ≡ c) → get_or (set b c x) k unknown ≡ ready → get_or (set r c v) k 0 ≡ 1
    one_k k (yes p) e = rw p (get_or-set_same r c v 0 h' ∙ one (sym (get_or-set_same b c x unknown h) ∙ rw p at e))
    one_k k (no q) e = get_or-set_other r c k v 0 q ∙ fit.one k (sym (get_or-set_other b c k x unknown q) ∙ e)

-- setting a cell, in the row or past its end
ready_one : (vs : List ℕ) (b : List Cell) (r : List ℕ) (c : ℕ) → Dec (c < length b) → Fits vs b r → Fits vs (set b c ready) (set r c 1)
ready_one vs b r c (yes h) fit = put vs b r c ready 1 h fit (λ s e. cc) (λ _. refl)
ready_one vs b r c (no h) fit =
    let hb : length b ≤ c = omega arith in
    let hr : length r ≤ c = omega (arith, fit.len) in
    rw (set_out b c ready hb, set_out r c 1 hr) fit

ready_all : (vs : List ℕ) (cs : List ℕ) (b : List Cell) (r : List ℕ) → Fits vs b r → Fits vs (set_all ready cs b) (set_all 1 cs r)
unfolding set_all
ready_all vs [] b r fit = fit
ready_all vs (c ∷ cs) b r fit = ready_all vs cs (set b c ready) (set r c 1) (ready_one vs b r c (dec_lt c (length b)) fit)

-- the operand cells' values are the operand signals' values
operands : (vs : List ℕ) (b : List Cell) (r : List ℕ) → Fits vs b r → (cs ss : List ℕ) → signals b cs ≡ some ss → nor r cs ≡ nor vs ss
unfolding signals nor if_holds
operands vs b r fit [] ss e = let p : [] ≡ ss = cc in rw (← p)
operands vs b r fit (c ∷ cs) ss e = go (get_or b c unknown) refl (signals b cs) refl (operands vs b r fit cs) e
  where
    go : (x : Cell) → get_or b c unknown ≡ x → (o : Option (List ℕ)) → signals b cs ≡ o
        → ((ts : List ℕ) → signals b cs ≡ some ts → nor r cs ≡ nor vs ts) → if_holds x o ≡ some ss
        → pick (eqb (get_or r c 0) 0) (nor r cs) 0 ≡ nor vs ss
    go unknown p o q rec e' = cc
    go ready p o q rec e' = cc
    go (holds s) p none q rec e' = cc
    go (holds s) p (some ts) q rec e' = let w : s ∷ ts ≡ ss = cc in rw (← w, fit.val c s p, rec ts q)

-- what a NOR that is passed was given: a ready cell, and signals that are a gate's operands
made_good : (N : Netlist) (x : Cell) (o : Option (List ℕ)) (g : ℕ) → made N x o ≡ good g
    → (x ≡ ready) × (ss : List ℕ) × (o ≡ some ss) × (gate_with (sort ss) N.inputs N.gates ≡ some g)
unfolding made gate_on
made_good N unknown o g e = cc
made_good N (holds s) o g e = cc
made_good N ready none g e = let p = or_refuse_good 15 none g e in cc
made_good N ready (some ss) g e = (refl, ss, refl, or_refuse_good 15 (gate_with (sort ss) N.inputs N.gates) g e)

module _ (N : Netlist) (vs : List ℕ)
    (true_gates : (l : List ℕ) (s : ℕ) → gate_with l N.inputs N.gates ≡ some s → get_or vs s 0 ≡ nor vs l) where
  nor_fits : (b b' : List Cell) (r : List ℕ) (w : ℕ) (cs : List ℕ) → Fits vs b r
      → (made N (get_or b w unknown) (signals b cs) >>= λ g. good (set b w (holds g))) ≡ good b' → Fits vs b' (execute (Nor w cs) r)
  unfolding execute pick
  nor_fits b b' r w cs fit e =
      let (g, p, q) = bind_good (made N (get_or b w unknown) (signals b cs)) (λ g. good (set b w (holds g))) b' e in
      let (is_ready, ss, o, u) = made_good N (get_or b w unknown) (signals b cs) g p in
      let same : set b w (holds g) ≡ b' = cc in
      let v : nor r cs ≡ get_or vs g 0 = operands vs b r fit cs ss o ∙ sym (true_gates (sort ss) g u ∙ nor_sort vs ss) in
      rw (← same, fit.one w is_ready)
      (put vs b r w (holds g) (nor r cs) (known b w ready is_ready (λ q. cc)) fit (λ t f. let h : g ≡ t = cc in v ∙ rw h) (λ f. cc))

  step_fits : (i : Instruction) (b b' : List Cell) (r : List ℕ) → Fits vs b r → step N i b ≡ good b' → Fits vs b' (execute i r)
  unfolding step execute pick
  step_fits (Set cs) b b' r fit e = go (any (fixed N) cs) e
    where
      go : (t : Bool) → pick t (refused 13) (good (set_all ready cs b)) ≡ good b' → Fits vs b' (set_all 1 cs r)
      go true f = cc
      go false f = let g : set_all ready cs b ≡ b' = cc in rw (← g) (ready_all vs cs b r fit)
  step_fits (Nor w cs) b b' r fit e = go (fixed N w) e
    where
      go : (t : Bool) → pick t (refused 13) (made N (get_or b w unknown) (signals b cs) >>= λ g. good (set b w (holds g))) ≡ good b'
          → Fits vs b' (execute (Nor w cs) r)
      go true f = cc
      go false f = nor_fits b b' r w cs fit f

  -- at the end of what is passed the book fits the row
  pub steps_fit : (is : List Instruction) (b b' : List Cell) (r : List ℕ) → Fits vs b r → steps N is b ≡ good b' → Fits vs b' (run (length is) is r)
  unfolding steps run
  steps_fit [] b b' r fit e = let g : b ≡ b' = cc in rw (← g) fit
  steps_fit (i ∷ is) b b' r fit e =
      let (x, p, q) = bind_good (step N i b) (steps N is) b' e in
      steps_fit is x b' (execute i r) (step_fits i b x r fit p) q
