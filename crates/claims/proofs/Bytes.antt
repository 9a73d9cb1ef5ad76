-- Numbers written as bytes read back, of one byte or of two.
-- Assumes nothing.
use Rattle.std.proofs.Common.{ℕ, ◌+◌, ◌*◌, ◌/◌, ◌%◌, ◌<◌, arith, ◌≡◌, refl, List, [], ◌∷◌, ◌++◌, length}
use mathlib.Core.Option.{some}
use Rattle.rules.proofs.Lists.{Below}
use Rattle.rules.specs.Form.{Width, one, two}
use Rattle.rules.specs.Lines.{also, numbers, fields, bytes_of}
use Rattle.rules.proofs.Laws.{cons_cases, cons_more, cons_self, mem-nil}

-- how many bytes a width takes, and the numbers that they hold
unfoldable pub bytes : Width → ℕ
bytes one = 1
bytes two = 2

unfoldable pub holding : Width → ℕ
holding one = 256
holding two = 65536

-- high byte first
two_back : (x : ℕ) → x / 256 * 256 + x % 256 ≡ x
two_back x = omega arith

pub numbers_back : (w : Width) (l : List ℕ) → numbers w (bytes_of w l) ≡ some l
unfolding numbers bytes_of also
numbers_back one [] = refl
numbers_back one (x ∷ l) = rw (numbers_back one l)
numbers_back two [] = refl
numbers_back two (x ∷ l) = rw (numbers_back two l, two_back x)

pub place_back : (w : Width) (c : ℕ) → fields (w ∷ []) (bytes_of w (c ∷ [])) ≡ some (c ∷ [])
unfolding fields bytes_of also
place_back one c = refl
place_back two c = rw (two_back c)

pub head_back : (w : Width) (a b c d : ℕ) → fields (w ∷ w ∷ w ∷ two ∷ []) (bytes_of w (a ∷ b ∷ c ∷ []) ++ bytes_of two (d ∷ [])) ≡ some (a ∷ b ∷ c ∷ d ∷ [])
unfolding fields bytes_of also
head_back one a b c d = rw (two_back d)
head_back two a b c d = rw (two_back a, two_back b, two_back c, two_back d)

pub bytes_length : (w : Width) (l : List ℕ) → length (bytes_of w l) ≡ bytes w * length l
unfolding bytes_of bytes
bytes_length one [] = refl
bytes_length one (x ∷ l) = omega (arith, bytes_length one l)
bytes_length two [] = refl
bytes_length two (x ∷ l) = omega (arith, bytes_length two l)

pub bytes_below : (w : Width) (l : List ℕ) → Below (holding w) l → Below 256 (bytes_of w l)
unfolding bytes_of holding
bytes_below one [] h x m = h x m
bytes_below one (y ∷ l) h x m =
    cons_cases (x < 256) x y (bytes_of one l) m (λ p. let k = h y (cons_self y l) in omega arith) (λ p. bytes_below one l (λ z n. h z (cons_more z y l n)) x p)
bytes_below two [] h x m = absurd (mem-nil x m)
bytes_below two (y ∷ l) h x m =
    cons_cases (x < 256) x (y / 256) ((y % 256) ∷ bytes_of two l) m (λ p. let k = h y (cons_self y l) in omega arith)
    (λ n. cons_cases (x < 256) x (y % 256) (bytes_of two l) n (λ p. omega arith) (λ p. bytes_below two l (λ z q. h z (cons_more z y l q)) x p))
