-- What was good in the end was good at each step, told to a continuation, so that what each step gave is a variable there.
-- Assumes nothing.
use Rattle.std.proofs.Common.{ℕ, ◌≡◌, refl, Bool, true, false}
use Rattle.rules.specs.Refusals.{Res, good, refused, ◌>>=◌, ◌>>◌, require}
use Rattle.rules.proofs.Laws.{bind_good, require_good}

pub good_same : {A : Type 0} (a b : A) → good a ≡ good b → a ≡ b
good_same a b e = cc

pub refused_same : (A : Type 0) (r s : ℕ) → ◌≡◌ {A = Res A} (refused r) (refused s) → r ≡ s
refused_same A r s e = cc

pub from_bind : {A B : Type 0} {P : Type 0} (r : Res A) (k : A → Res B) (y : B) → (r >>= k) ≡ good y → ((x : A) → r ≡ good x → k x ≡ good y → P) → P
from_bind r k y e f = let (a, p, q) = bind_good r k y e in f a p q

pub from_require : {B : Type 0} {P : Type 0} (t : Bool) (n : ℕ) (k : Res B) (y : B) → (require t n >> k) ≡ good y → (t ≡ true → k ≡ good y → P) → P
from_require t n k y e f = let (p, q) = require_good t n k y e in f p q

-- what was refused in the end was refused at one step
pub refused_bind : {A B : Type 0} {P : Type 0} (r : Res A) (k : A → Res B) (x : ℕ) → (r >>= k) ≡ refused x
    → (r ≡ refused x → P) → ((a : A) → r ≡ good a → k a ≡ refused x → P) → P
unfolding ◌>>=◌
refused_bind (good a) k x e f g = g a refl e
refused_bind (refused y) k x e f g = f (cc)

pub refused_require : {B : Type 0} {P : Type 0} (t : Bool) (n : ℕ) (k : Res B) (x : ℕ) → (require t n >> k) ≡ refused x
    → (t ≡ false → n ≡ x → P) → (t ≡ true → k ≡ refused x → P) → P
unfolding ◌>>◌ require
refused_require true n k x e f g = g refl e
refused_require {B} false n k x e f g = f refl (refused_same B n x e)
