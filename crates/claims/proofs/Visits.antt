-- The visit runs operands first, each gate once.
-- Assumes nothing.
use Rattle.std.proofs.Common.{ℕ, zero, suc, ◌<◌, ◌≤◌, arith, ◌≡◌, ◌∙◌, true, false, List, [], ◌∷◌, ◌++◌, append-nil, append_assoc}
use Rattle.std.proofs.lemmas.Bool.{or_left}
use Rattle.rules.specs.Basics.{mem, each}
use Rattle.rules.specs.Order.{visit}
use Rattle.rules.proofs.Laws.{by_pick, snoc_more, snoc_self, mem-snoc, snoc_cases, cons_cases, cons_more, cons_self, mem-nil, mem-append}

-- each of the list's gates comes behind its operands, and only once; d is what ran before
unfoldable pub Runs : (ℕ → List ℕ) → List ℕ → List ℕ → Type 0
Runs ops d [] = Unit {0}
Runs ops d (g ∷ l) = ((o : ℕ) → mem o (ops g) ≡ true → mem o d ≡ true) × (mem g d ≡ false) × Runs ops (d ++ (g ∷ [])) l

runs_snoc : (ops : ℕ → List ℕ) (d l : List ℕ) (g : ℕ) → Runs ops d l → ((o : ℕ) → mem o (ops g) ≡ true → mem o (d ++ l) ≡ true)
    → mem g (d ++ l) ≡ false → Runs ops d (l ++ (g ∷ []))
unfolding Runs
runs_snoc ops d [] g r h k = ((λ o e. rw append-nil at (h o e)), rw append-nil at k, tt)
runs_snoc ops d (x ∷ l) g r h k =
    (r.0, r.1, runs_snoc ops (d ++ (x ∷ [])) l g r.2 (λ o e. rw append_assoc (h o e)) (rw append_assoc k))

-- what a gate that ran reads has run
pub runs_mem : (ops : ℕ → List ℕ) (d l : List ℕ) (r o : ℕ) → Runs ops d l → mem r l ≡ true → mem o (ops r) ≡ true → mem o (d ++ l) ≡ true
unfolding Runs
runs_mem ops d [] r o u e f = absurd (mem-nil r e)
runs_mem ops d (g ∷ l) r o u e f =
    cons_cases (mem o (d ++ (g ∷ l)) ≡ true) r g l e
    (λ p. mem-append o d (g ∷ l) ∙ or_left (mem o d) (mem o (g ∷ l)) (u.0 o (rw p at f)))
    (λ p. rw append_assoc at (runs_mem ops (d ++ (g ∷ [])) l r o u.2 p f))

-- wherever a gate stands, what it reads stands before it
pub runs_before : (ops : ℕ → List ℕ) (d l : List ℕ) (g o : ℕ) (m : List ℕ) → Runs ops d (l ++ (g ∷ m)) → mem o (ops g) ≡ true → mem o (d ++ l) ≡ true
unfolding Runs
runs_before ops d [] g o m r e = rw append-nil (r.0 o e)
runs_before ops d (x ∷ l) g o m r e = rw append_assoc at (runs_before ops (d ++ (x ∷ [])) l g o m r.2 e)

module _ (ops : ℕ → List ℕ) (Gate : ℕ → Type 0) (low : (g o : ℕ) → Gate g → mem o (ops g) ≡ true → (o < g) × Gate o) where
  -- from d to d': more has run, rightly, all of it gates below m
  pub record Visited (m : ℕ) (d d' : List ℕ) : Type 0 where
    pub runs : Runs ops [] d → Runs ops [] d'
    pub more : (x : ℕ) → mem x d ≡ true → mem x d' ≡ true
    pub only : (x : ℕ) → m ≤ x → mem x d ≡ false → mem x d' ≡ false
    pub gates : ((x : ℕ) → mem x d ≡ true → Gate x) → (x : ℕ) → mem x d' ≡ true → Gate x

  still : (m : ℕ) (d : List ℕ) → Visited m d d
  still m d = record { runs = λ r. r; more = λ x e. e; only = λ x h e. e; gates = λ a. a }

  then' : {m : ℕ} {a b c : List ℕ} → Visited m a b → Visited m b c → Visited m a c
  then' u v = record {
    runs = λ r. v.runs (u.runs r);
    more = λ x e. v.more x (u.more x e);
    only = λ x h e. v.only x h (u.only x h e);
    gates = λ k. v.gates (u.gates k);
  }

  pub wider : {m n : ℕ} {a b : List ℕ} → m ≤ n → Visited m a b → Visited n a b
  wider h u = record { runs = u.runs; more = u.more; only = λ x k e. u.only x (omega arith) e; gates = u.gates }

  pub each_visited : (f : ℕ → List ℕ → List ℕ) (m : ℕ) (P : ℕ → Type 0)
      → ((o : ℕ) (d : List ℕ) → P o → Visited m d (f o d) × (mem o (f o d) ≡ true))
      → (os d : List ℕ) → ((o : ℕ) → mem o os ≡ true → P o)
      → Visited m d (each f os d) × ((o : ℕ) → mem o os ≡ true → mem o (each f os d) ≡ true)
  unfolding each
  each_visited f m P st [] d k = (still m d, λ o e. absurd (mem-nil o e))
  each_visited f m P st (a ∷ os) d k =
      let (u, v) = st a d (k a (cons_self a os)) in
      let (s, t) = each_visited f m P st os (f a d) (λ o e. k o (cons_more o a os e)) in
      (then' u s, λ o e. cons_cases (mem o (each f os (f a d)) ≡ true) o a os e (λ p. s.more o (rw p v)) (λ p. t o p))

  run_last : (g : ℕ) (d d₁ : List ℕ) → Gate g → mem g d ≡ false → Visited g d d₁ → ((o : ℕ) → mem o (ops g) ≡ true → mem o d₁ ≡ true)
      → Visited (suc g) d (d₁ ++ (g ∷ []))
  run_last g d d₁ k e v had = record {
    runs = λ r. runs_snoc ops [] d₁ g (v.runs r) had (v.only g (omega arith) e);
    more = λ x p. snoc_more x d₁ g (v.more x p);
    only = λ x h p. mem-snoc x g d₁ (λ q. omega arith) ∙ v.only x (omega arith) p;
    gates = λ a x p. snoc_cases (Gate x) x d₁ g p (λ q. v.gates a x q) (λ q. rw q k);
  }

  pub visit_visited : (f g : ℕ) (d : List ℕ) → g < f → Gate g → Visited (suc g) d (visit ops f g d) × (mem g (visit ops f g d) ≡ true)
  unfolding visit
  visit_visited zero g d h k = absurd (omega arith)
  visit_visited (suc f) g d h k =
      let (v, had) = each_visited (λ o e. visit ops f o e) g (λ o. (o < g) × Gate o)
      (λ o e p. let (u, w) = visit_visited f o e (omega arith) p.1 in (wider p.0 u, w)) (ops g) d (λ o p. low g o k p) in
      by_pick (λ (x : List ℕ). Visited (suc g) d x × (mem g x ≡ true)) (mem g d) (λ e. (still (suc g) d, e))
      (λ e. (run_last g d (each (λ o c. visit ops f o c) (ops g) d) k e v had, snoc_self (each (λ o c. visit ops f o c) (ops g) d) g))
