-- A list that is in order, and a list put in order by insertion that has the same entries, are the same: for the operands of a NOR and for gates by weight.
-- Assumes nothing.
use Rattle.std.proofs.Common.{ℕ, ◌+◌, arith, ◌≡◌, refl, sym, ap, ◌∙◌, Bool, true, false, cond, List, [], ◌∷◌}
use mathlib.Core.Path.{subst}
use Rattle.std.specs.List.{sum_by}
use Rattle.std.proofs.lemmas.List.Sums.{sum_by-cons}
use Rattle.rules.specs.Basics.{pick, mem}
use Rattle.rules.proofs.Laws.{cons_cases, cons_more, cons_self}

clash : {A : Type 0} → true ≡ false → A
clash e = absurd cc

-- the test of the insertion, and the order that it makes
module _ (first ahead : ℕ → ℕ → Bool) (goes : (x y : ℕ) → first x y ≡ true → ahead x y ≡ true) (stays : (x y : ℕ) → first x y ≡ false → ahead y x ≡ true)
    (chain : (x y z : ℕ) → ahead x y ≡ true → ahead y z ≡ true → ahead x z ≡ true) (one_place : (x y : ℕ) → ahead x y ≡ true → ahead y x ≡ true → x ≡ y) where
  unfoldable pub inserted : ℕ → List ℕ → List ℕ
  inserted a [] = a ∷ []
  inserted a (b ∷ l) = pick (first a b) (a ∷ b ∷ l) (b ∷ inserted a l)

  unfoldable pub in_order : List ℕ → List ℕ
  in_order [] = []
  in_order (a ∷ l) = inserted a (in_order l)

  itself : (x : ℕ) → ahead x x ≡ true
  itself x = go (first x x) refl
    where
      go : (t : Bool) → first x x ≡ t → ahead x x ≡ true
      go true e = goes x x e
      go false e = stays x x e

  -- each stands ahead of those after it
  unfoldable pub Ranked : List ℕ → Type 0
  Ranked [] = Unit {0}
  Ranked (a ∷ l) = ((x : ℕ) → mem x l ≡ true → ahead a x ≡ true) × Ranked l

  mem_inserted : (x a : ℕ) (l : List ℕ) (P : Type 0) → mem x (inserted a l) ≡ true → (x ≡ a → P) → (mem x l ≡ true → P) → P
  unfolding inserted pick mem
  mem_inserted x a [] P m f g = cons_cases P x a [] m f (λ p. absurd cc)
  mem_inserted x a (b ∷ l) P m f g = go (first a b) m (λ p. mem_inserted x a l P p f (λ q. g (cons_more x b l q)))
    where
      go : (t : Bool) → mem x (pick t (a ∷ b ∷ l) (b ∷ inserted a l)) ≡ true → (mem x (inserted a l) ≡ true → P) → P
      go true m rec = cons_cases P x a (b ∷ l) m f g
      go false m rec = cons_cases P x b (inserted a l) m (λ p. g (subst (λ y. mem y (b ∷ l) ≡ true) (sym p) (cons_self b l))) rec

  ranked_inserted : (a : ℕ) (l : List ℕ) → Ranked l → Ranked (inserted a l)
  unfolding Ranked inserted pick mem
  ranked_inserted a [] h = ((λ x m. absurd cc), tt)
  ranked_inserted a (b ∷ l) h = go (first a b) refl (ranked_inserted a l h.1)
    where
      go : (t : Bool) → first a b ≡ t → Ranked (inserted a l) → Ranked (pick t (a ∷ b ∷ l) (b ∷ inserted a l))
      go true e r =
          let u = goes a b e in ((λ x m. cons_cases (ahead a x ≡ true) x b l m (λ p. rw p u) (λ p. chain a b x u (h.0 x p))), h)
      go false e r =
          let u = stays a b e in ((λ x m. mem_inserted x a l (ahead b x ≡ true) m (λ p. rw p u) (λ p. h.0 x p)), r)

  ranked_in_order : (l : List ℕ) → Ranked (in_order l)
  unfolding in_order Ranked
  ranked_in_order [] = tt
  ranked_in_order (a ∷ l) = ranked_inserted a (in_order l) (ranked_in_order l)

  sum_inserted : (f : ℕ → ℕ) (a : ℕ) (l : List ℕ) → sum_by f (inserted a l) ≡ f a + sum_by f l
  unfolding inserted pick
  sum_inserted f a [] = sum_by-cons f a []
  sum_inserted f a (b ∷ l) = go (first a b) (sum_inserted f a l)
    where
      go : (t : Bool) → sum_by f (inserted a l) ≡ f a + sum_by f l → sum_by f (pick t (a ∷ b ∷ l) (b ∷ inserted a l)) ≡ f a + sum_by f (b ∷ l)
      go true r = sum_by-cons f a (b ∷ l)
      go false r = omega (arith, r, sum_by-cons f b (inserted a l), sum_by-cons f b l)

  sum_in_order : (f : ℕ → ℕ) (l : List ℕ) → sum_by f (in_order l) ≡ sum_by f l
  unfolding in_order
  sum_in_order f [] = refl
  sum_in_order f (a ∷ l) = omega (arith, sum_inserted f a (in_order l), sum_in_order f l, sum_by-cons f a l)

  -- counts what stands ahead of a
  one_ahead : ℕ → ℕ → ℕ
  one_ahead a x = cond (ahead x a) 1 0

  none_ahead : (a : ℕ) (l : List ℕ) → ((x : ℕ) → mem x l ≡ true → ahead x a ≡ false) → sum_by (one_ahead a) l ≡ 0
  unfolding one_ahead mem
  none_ahead a [] h = refl
  none_ahead a (b ∷ l) h =
      let z : one_ahead a b ≡ 0 = rw (h b (cons_self b l)) in
      omega (arith, sum_by-cons (one_ahead a) b l, z, none_ahead a l (λ x m. h x (cons_more x b l m)))

  -- a list in order begins with what stands ahead of all
  first_ahead : (a b : ℕ) (l m : List ℕ) → Ranked (b ∷ m) → sum_by (one_ahead a) (a ∷ l) ≡ sum_by (one_ahead a) (b ∷ m) → ahead b a ≡ true
  unfolding Ranked one_ahead
  first_ahead a b l m s e = go (ahead b a) refl
    where
      not_ahead : ahead b a ≡ false → (x : ℕ) → mem x m ≡ true → (t : Bool) → ahead x a ≡ t → ahead x a ≡ false
      not_ahead u x q true f = clash (sym (chain b x a (s.0 x q) f) ∙ u)
      not_ahead u x q false f = f

      go : (t : Bool) → ahead b a ≡ t → ahead b a ≡ true
      go true u = u
      go false u =
          let z : one_ahead a a ≡ 1 = rw (itself a) in
          let n = none_ahead a (b ∷ m) (λ x q. cons_cases (ahead x a ≡ false) x b m q (λ p. rw p u) (λ p. not_ahead u x p (ahead x a) refl)) in
          absurd (omega (arith, e, n, z, sum_by-cons (one_ahead a) a l))

  same_lists : (l m : List ℕ) → Ranked l → Ranked m → ((f : ℕ → ℕ) → sum_by f l ≡ sum_by f m) → l ≡ m
  unfolding Ranked
  same_lists [] [] r s h = refl
  same_lists [] (b ∷ m) r s h = absurd (omega (arith, h (λ _. 1), sum_by-cons (λ _. 1) b m))
  same_lists (a ∷ l) [] r s h = absurd (omega (arith, h (λ _. 1), sum_by-cons (λ _. 1) a l))
  same_lists (a ∷ l) (b ∷ m) r s h =
      let e : a ≡ b = one_place a b (first_ahead b a m l r (sym (h (one_ahead b)))) (first_ahead a b l m s (h (one_ahead a))) in
      let t : l ≡ m = same_lists l m r.1 s.1 (λ f. omega (arith, h f, sum_by-cons f a l, sum_by-cons f b m, ap f e)) in
      rw (e, t)

  pub ranked_same : (xs ys : List ℕ) → Ranked ys → ((f : ℕ → ℕ) → sum_by f xs ≡ sum_by f ys) → ys ≡ in_order xs
  ranked_same xs ys r h = same_lists ys (in_order xs) r (ranked_in_order xs) (λ f. sym (h f) ∙ sym (sum_in_order f xs))
