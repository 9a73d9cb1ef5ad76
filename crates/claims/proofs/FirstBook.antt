-- The first cells of a row hold the inputs: what stands there, and how long the first book is.
-- Assumes nothing.
use Rattle.std.proofs.Common.{ℕ, ◌+◌, ◌-◌, ◌<◌, ◌≤◌, arith, ◌≡◌, refl, ◌∙◌, List, ◌++◌, map, get_or, length, length-append}
use lib.ListN.{length-map, length-replicate, get_or-append}
use lib.Seq.{get_or-append_right}
use Rattle.std.specs.List.{range_with_len}
use Rattle.std.proofs.lemmas.List.FromFn.{length-map-range_with_len, get_or-map-range_with_len}
use Rattle.rules.specs.Basics.{upto}
use Rattle.rules.specs.Book.{first_book}
use Rattle.rules.proofs.Lists.{upto_range, length-upto}

pub front : {A : Type 0} (f : ℕ → A) (a n c : ℕ) (xs : List A) (d : A) → c < n → get_or (map f (upto a n) ++ xs) c d ≡ f (a + c)
front f a n c xs d h =
    rw (← upto_range a n)
    (get_or-append (map f (range_with_len a n)) xs d c (omega (arith, length-map-range_with_len f a n)) ∙ get_or-map-range_with_len f a n c (a + c) d h refl)

pub behind : {A : Type 0} (f : ℕ → A) (n c : ℕ) (xs : List A) (d : A) → n ≤ c → get_or (map f (upto 0 n) ++ xs) c d ≡ get_or xs (c - n) d
behind f n c xs d h =
    let len : length (map f (upto 0 n)) ≡ n = length-map (upto 0 n) f ∙ length-upto 0 n in
    rw len at (get_or-append_right (map f (upto 0 n)) xs c d (omega (arith, len)))

pub book_size : (inputs row : ℕ) → inputs ≤ row → length (first_book inputs row) ≡ row
unfolding first_book
book_size inputs row h = simp (length-append, length-map, length-upto, length-replicate) (omega arith)
