-- A netlist that is refused is refused with 1 to 7.
-- Assumes nothing.
use Rattle.std.proofs.Common.{ℕ, zero, suc, ◌+◌, ◌≤◌, arith, ◌≡◌, Bool, true, false, ◌&&◌, not, List, [], ◌∷◌, ◌++◌, eqb, ltb, leb, get_or, length}
use mathlib.Core.Option.{Option, none, some}
use Rattle.rules.specs.Basics.{within, all, repeats, ascending}
use Rattle.rules.specs.Form.{Form, two}
use Rattle.rules.specs.Refusals.{Res, good, refused, ◌>>=◌, ◌>>◌, require, or_refuse}
use Rattle.rules.specs.Lines.{is_line, first_line, line, nothing, numbers, fields}
use Rattle.rules.specs.Netlist.{Netlist, due, Head, head_of, gate_of, output_of, lines, netlist_lines, all_used, twins, well_formed, netlist_of}
use Rattle.rules.proofs.Laws.{by_pick}
use Rattle.rules.proofs.Answers.{refused_same}

-- what is refused is refused with 1 to 7
abbrev pub Refuses : {A : Type 0} → Res A → Type 0
Refuses r = (x : ℕ) → r ≡ refused x → (1 ≤ x) × (x ≤ 7)

never : {A : Type 0} (a : A) → Refuses (good a)
never a x e = cc

with_number : (A : Type 0) (n : ℕ) → (1 ≤ n) × (n ≤ 7) → Refuses {A = A} (refused n)
with_number A n h x e = let z = refused_same A n x e in omega arith

bind_refuses : {A B : Type 0} (r : Res A) (k : A → Res B) → Refuses r → ((a : A) → Refuses (k a)) → Refuses (r >>= k)
unfolding ◌>>=◌
bind_refuses (good a) k f g x e = g a x e
bind_refuses (refused y) k f g x e = f x (cc)

then_refuses : {A B : Type 0} (r : Res A) (k : Res B) → Refuses r → Refuses k → Refuses (r >> k)
unfolding ◌>>◌
then_refuses (good a) k f g x e = g x e
then_refuses (refused y) k f g x e = f x (cc)

require_refuses : {B : Type 0} (t : Bool) (n : ℕ) (k : Res B) → (1 ≤ n) × (n ≤ 7) → Refuses k → Refuses (require t n >> k)
unfolding require ◌>>◌
require_refuses true n k h f x e = f x e
require_refuses {B} false n k h f x e = with_number B n h x e

or_refuses : {A B : Type 0} (n : ℕ) (o : Option A) (k : A → Res B) → (1 ≤ n) × (n ≤ 7) → ((a : A) → Refuses (k a)) → Refuses (or_refuse n o >>= k)
unfolding or_refuse ◌>>=◌
or_refuses {B} n none k h f x e = with_number B n h x e
or_refuses n (some a) k h f x e = f a x e

line_refuses : (F : Form) (t : List ℕ) → Refuses (line F t)
unfolding line
line_refuses F [] = with_number _ 2 (omega arith)
line_refuses F (c ∷ t) = by_pick Refuses (is_line F (c ∷ t)) (λ _. never (first_line (c ∷ t))) (λ _. with_number _ 1 (omega arith))

nothing_refuses : (F : Form) (t : List ℕ) → Refuses (nothing F t)
unfolding nothing
nothing_refuses F [] = never tt
nothing_refuses F (c ∷ t) = by_pick Refuses (is_line F (c ∷ t)) (λ _. with_number _ 2 (omega arith)) (λ _. with_number _ 1 (omega arith))

due_refuses : (k : ℕ) (l : List ℕ) → Refuses (due k l)
unfolding due
due_refuses k [] = with_number _ 2 (omega arith)
due_refuses k (b ∷ l) = by_pick Refuses (eqb b k) (λ _. never l) (λ _. with_number _ 2 (omega arith))

module _ (F : Form) where
  head_refuses : (bytes : List ℕ) → Refuses (head_of F bytes)
  unfolding head_of
  head_refuses bytes =
      bind_refuses (due F.netlist_head bytes) _ (due_refuses F.netlist_head bytes) λ l.
      or_refuses 2 (fields (F.cell_width ∷ two ∷ F.cell_width ∷ []) l) _ (omega arith) λ ns.
      require_refuses (within 1 F.inputs_most (get_or ns 0 0)) 3 _ (omega arith)
      (require_refuses (within 1 F.gates_most (get_or ns 1 0)) 3 _ (omega arith)
      (require_refuses (within 1 F.outputs_most (get_or ns 2 0)) 3 _ (omega arith) (never _)))

  gate_refuses : (own : ℕ) (bytes : List ℕ) → Refuses (gate_of F own bytes)
  unfolding gate_of
  gate_refuses own bytes =
      bind_refuses (due F.gate_kind bytes) _ (due_refuses F.gate_kind bytes) λ l.
      or_refuses 2 (numbers two l) _ (omega arith) λ os.
      require_refuses (within 1 4 (length os)) 2 _ (omega arith)
      (require_refuses (all (λ o. ltb o own) os) 4 _ (omega arith)
      (require_refuses (ascending os) 5 _ (omega arith) (never _)))

  output_refuses : (h : Head) (bytes : List ℕ) → Refuses (output_of F h bytes)
  unfolding output_of
  output_refuses h bytes =
      bind_refuses (due F.output_kind bytes) _ (due_refuses F.output_kind bytes) λ l.
      or_refuses 2 (fields (two ∷ []) l) _ (omega arith) λ ns.
      require_refuses (leb h.inputs (get_or ns 0 0) && ltb (get_or ns 0 0) (h.inputs + h.gates)) 4 _ (omega arith) (never _)

  lines_refuses : {A : Type 0} (rule : ℕ → List ℕ → Res A) → ((own : ℕ) (bytes : List ℕ) → Refuses (rule own bytes))
      → (k own : ℕ) (sofar : List A) (text : List ℕ) → Refuses (lines F rule k own sofar text)
  unfolding lines
  lines_refuses rule h zero own sofar text = never _
  lines_refuses rule h (suc k) own sofar text =
      bind_refuses (line F text) _ (line_refuses F text) λ l.
      bind_refuses (rule own l.bytes) _ (h own l.bytes) λ a.
      lines_refuses rule h k (suc own) (sofar ++ (a ∷ [])) l.rest

  all_lines_refuse : (text : List ℕ) → Refuses (netlist_lines F text)
  unfolding netlist_lines
  all_lines_refuse text =
      bind_refuses (line F text) _ (line_refuses F text) λ l.
      bind_refuses (head_of F l.bytes) _ (head_refuses l.bytes) λ h.
      bind_refuses (lines F (gate_of F) h.gates h.inputs [] l.rest) _ (lines_refuses (gate_of F) gate_refuses h.gates h.inputs [] l.rest) λ gs.
      bind_refuses (lines F (λ _. output_of F h) h.outputs 0 [] gs.tail) _
      (lines_refuses (λ _. output_of F h) (λ _. output_refuses h) h.outputs 0 [] gs.tail) λ os. never _

  well_refuses : (N : Netlist) → Refuses (well_formed N)
  unfolding well_formed
  well_refuses N =
      require_refuses (all_used N) 6 _ (omega arith)
      (require_refuses (not (twins N.gates)) 7 _ (omega arith)
      (require_refuses (not (repeats N.outputs)) 7 _ (omega arith) (never _)))

  pub netlist_refuses : (text : List ℕ) → Refuses (netlist_of F text)
  unfolding netlist_of
  netlist_refuses text =
      bind_refuses (netlist_lines F text) _ (all_lines_refuse text) λ p.
      then_refuses (nothing F p.tail) (well_formed p.got) (nothing_refuses F p.tail) (well_refuses p.got)
