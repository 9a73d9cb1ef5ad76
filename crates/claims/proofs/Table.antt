-- A table grown gate by gate: earlier entries stay. In the table of values each new one is a NOR over the whole table.
use Rattle.std.proofs.Common.{ℕ, zero, suc, ◌+◌, ◌<◌, arith, add-zero, ◌≡◌, refl, sym, ap, ◌∙◌, Bool, true, false, List, [], ◌∷◌, ◌++◌, eqb, leb, get_or, length}
use lib.ListN.{get_or-append}
use lib.Seq.{get_or-append_seam}
use Rattle.std.proofs.lemmas.List.{length_push}
use Rattle.rules.specs.Basics.{pick, insert, sort}
use Rattle.rules.specs.Values.{nor, table}
use Rattle.rules.proofs.Laws.{by_pick, cons_self, cons_more}
use Rattle.rules.proofs.Lists.{Below}

pub table_keeps : {G : Type 0} (f : List ℕ → G → ℕ) (vs : List ℕ) (gs : List G) (i : ℕ) → i < length vs → get_or (table f vs gs) i 0 ≡ get_or vs i 0
unfolding table
table_keeps f vs [] i h = refl
table_keeps f vs (g ∷ gs) i h =
    table_keeps f (vs ++ (f vs g ∷ [])) gs i (omega (arith, length_push vs (f vs g))) ∙ get_or-append vs (f vs g ∷ []) 0 i h

-- a NOR looks only at its operands
nor_local : (m : ℕ) (g vs us : List ℕ) → Below m g → ((i : ℕ) → i < m → get_or vs i 0 ≡ get_or us i 0) → nor vs g ≡ nor us g
unfolding nor
nor_local m [] vs us b e = refl
nor_local m (o ∷ os) vs us b e = rw (e o (b o (cons_self o os)), nor_local m os vs us (λ x i. b x (cons_more x o os i)) e)

-- Low m g: g reads only below m. `locally`: then f sees only the entries below m, and an entry follows f over the whole table
module _ {G : Type 0} (f : List ℕ → G → ℕ) (Low : ℕ → G → Type 0)
    (locally : (m : ℕ) (g : G) (vs us : List ℕ) → Low m g → ((i : ℕ) → i < m → get_or vs i 0 ≡ get_or us i 0) → f vs g ≡ f us g) where
  pub table_spec : (d : G) (vs : List ℕ) (gs : List G) → ((j : ℕ) → j < length gs → Low (length vs + j) (get_or gs j d)) → (j : ℕ) → j < length gs
      → get_or (table f vs gs) (length vs + j) 0 ≡ f (table f vs gs) (get_or gs j d)
  unfolding table
  table_spec d vs [] low j h = absurd (omega arith)
  table_spec d vs (g ∷ gs) low zero h =
      ap (λ (k : ℕ). get_or (table f (vs ++ (f vs g ∷ [])) gs) k 0) (add-zero (length vs))
      ∙ table_keeps f (vs ++ (f vs g ∷ [])) gs (length vs) (omega (arith, length_push vs (f vs g)))
      ∙ get_or-append_seam vs (f vs g) [] 0
      ∙ locally (length vs) g vs (table f (vs ++ (f vs g ∷ [])) gs) (rw add-zero at (low 0 h)) (λ i k. sym (table_keeps f vs (g ∷ gs) i k))
  table_spec d vs (g ∷ gs) low (suc j) h =
      let same : (i : ℕ) → length vs + suc i ≡ length (vs ++ (f vs g ∷ [])) + i = λ i. omega (arith, length_push vs (f vs g)) in
      rw (same j) (table_spec d (vs ++ (f vs g ∷ [])) gs (λ i k. rw (same i) at (low (suc i) (omega arith))) j (omega arith))

-- a gate's entry is the NOR of its operands' entries
pub values_spec : (vs : List ℕ) (gs : List (List ℕ)) → ((j : ℕ) → j < length gs → Below (length vs + j) (get_or gs j [])) → (j : ℕ) → j < length gs
    → get_or (table nor vs gs) (length vs + j) 0 ≡ nor (table nor vs gs) (get_or gs j [])
values_spec vs gs low j h = table_spec nor Below nor_local [] vs gs low j h

-- ---- the order of a NOR's operands

nor_insert : (vs : List ℕ) (a : ℕ) (bs : List ℕ) → nor vs (insert a bs) ≡ nor vs (a ∷ bs)
unfolding nor insert pick
nor_insert vs a [] = refl
nor_insert vs a (b ∷ bs) =
    by_pick (λ (l : List ℕ). nor vs l ≡ nor vs (a ∷ b ∷ bs)) (leb a b) (λ _. refl)
    (λ _. rw (nor_insert vs a bs) (swap (eqb (get_or vs a 0) 0) (eqb (get_or vs b 0) 0) (nor vs bs)))
  where
    swap : (s t : Bool) (x : ℕ) → pick t (pick s x 0) 0 ≡ pick s (pick t x 0) 0
    swap true true x = refl
    swap true false x = refl
    swap false true x = refl
    swap false false x = refl

-- the order of its operands is nothing to a NOR
pub nor_sort : (vs bs : List ℕ) → nor vs (sort bs) ≡ nor vs bs
unfolding nor sort
nor_sort vs [] = refl
nor_sort vs (b ∷ bs) = nor_insert vs b (sort bs) ∙ rw (nor_sort vs bs)
