-- Members of lists that are filtered and sorted, and weights that agree on them.
-- Assumes nothing.
use Prim.Native.Nat.{ℕ}
use mathlib.Core.Path.{◌≡◌, refl}
use mathlib.Core.Bool.{Bool, true, false}
use mathlib.Core.List.{List, [], ◌∷◌}
use Rattle.rules.specs.Basics.{pick, mem}
use Rattle.rules.specs.Weight.{goes_before, insert_by, high_to_low}
use Rattle.rules.proofs.Laws.{cons_cases, cons_self, cons_more}

-- ---- members of the lists that are sorted

mem-insert : (w : ℕ → ℕ) (o a : ℕ) (l : List ℕ) → mem o (insert_by w a l) ≡ true → mem o (a ∷ l) ≡ true
unfolding insert_by pick
mem-insert w o a [] e = e
mem-insert w o a (b ∷ l) e = go (goes_before w a b) (mem-insert w o a l) e
  where
    go : (t : Bool) → (mem o (insert_by w a l) ≡ true → mem o (a ∷ l) ≡ true) → mem o (pick t (a ∷ b ∷ l) (b ∷ insert_by w a l)) ≡ true → mem o (a ∷ b ∷ l) ≡ true
    go true ih f = f
    go false ih f =
        cons_cases (mem o (a ∷ b ∷ l) ≡ true) o b (insert_by w a l) f
        (λ h. rw h (cons_more b a (b ∷ l) (cons_self b l)))
        (λ h. cons_cases (mem o (a ∷ b ∷ l) ≡ true) o a l (ih h) (λ q. rw q (cons_self a (b ∷ l))) (λ q. cons_more o a (b ∷ l) (cons_more o b l q)))

pub mem-sorted : (w : ℕ → ℕ) (o : ℕ) (l : List ℕ) → mem o (high_to_low w l) ≡ true → mem o l ≡ true
unfolding high_to_low
mem-sorted w o [] e = e
mem-sorted w o (a ∷ l) e =
    cons_cases (mem o (a ∷ l) ≡ true) o a (high_to_low w l) (mem-insert w o a (high_to_low w l) e) (λ h. rw h (cons_self a l)) (λ h. cons_more o a l (mem-sorted w o l h))

-- ---- weights that agree on a list's members sort it alike

module _ (w v : ℕ → ℕ) where
  insert_same : (a : ℕ) (l : List ℕ) → ((o : ℕ) → mem o (a ∷ l) ≡ true → w o ≡ v o) → insert_by w a l ≡ insert_by v a l
  unfolding insert_by pick
  insert_same a [] h = refl
  insert_same a (b ∷ l) h =
      let p = h a (cons_self a (b ∷ l)) in
      let q = h b (cons_more b a (b ∷ l) (cons_self b l)) in
      let r = insert_same a l (λ o m. h o (cons_cases (mem o (a ∷ b ∷ l) ≡ true) o a l m (λ z. rw z (cons_self a (b ∷ l))) (λ z. cons_more o a (b ∷ l) (cons_more o b l z)))) in
      rw (p, q, r)

  pub sorted_same : (l : List ℕ) → ((o : ℕ) → mem o l ≡ true → w o ≡ v o) → high_to_low w l ≡ high_to_low v l
  unfolding high_to_low
  sorted_same [] h = refl
  sorted_same (a ∷ l) h =
      rw (sorted_same l (λ o m. h o (cons_more o a l m)))
      (insert_same a (high_to_low v l) (λ o m. h o (cons_cases (mem o (a ∷ l) ≡ true) o a (high_to_low v l) m (λ z. rw z (cons_self a l)) (λ z. cons_more o a l (mem-sorted v o l z)))))
