-- Keys of operand lists, and chains of keys that leave one remainder.
-- Assumes nothing.
use Rattle.std.specs.Prelude.{ℕ, zero, suc, ◌+◌, ◌*◌, ◌%◌, Bool, List, eqb, ltb, get_or, length, set, replicate, Option, None, Some}
use Rattle.std.specs.List.{list_any, range_with_len}
use Rattle.std.specs.Option.{is_some}
use Rattle.rules.specs.Basics.{pick}
use Rattle.index.specs.declared.Chains.{Chains}

-- ---- keys

-- an operand, one more than itself; 0 past the end
unfoldable pub digit_at : List ℕ → ℕ → ℕ
unfolding pick
digit_at os k = pick (ltb k (length os)) (get_or os k 0 % 1024 + 1) 0

-- the first four operands as one number: lists of at most four operands below 1024 that differ have keys that differ
unfoldable pub key_of : List ℕ → ℕ
unfolding digit_at
key_of os = digit_at os 0 + 2048 * (digit_at os 1 + 2048 * (digit_at os 2 + 2048 * digit_at os 3))

-- ---- chains

abbrev pub remainder_of : ℕ → ℕ
remainder_of key = key % 1021

-- a key entered at place g: its chain goes on where the chain began before
unfoldable pub entered : Chains → ℕ → ℕ → Chains
entered ch g key = record { heads = set ch.heads (remainder_of key) (g + 1); next = set ch.next g (get_or ch.heads (remainder_of key) 0) }

-- the chains of the first n keys
unfoldable pub chained : List ℕ → ℕ → Chains
unfolding entered
chained keys zero = record { heads = replicate 1024 0; next = replicate 512 0 }
chained keys (suc g) = entered (chained keys g) g (get_or keys g 0)

-- down the chain from a link on, so many links at most
unfoldable pub follows : List ℕ → List ℕ → ℕ → ℕ → ℕ → Option ℕ
unfolding pick
follows keys next key zero link = None
follows keys next key (suc left) zero = None
follows keys next key (suc left) (suc g) = pick (eqb (get_or keys g 0) key) (Some g) (follows keys next key left (get_or next g 0))

unfoldable pub found_in : List ℕ → Chains → ℕ → Option ℕ
unfolding follows
found_in keys ch key = follows keys ch.next key 512 (get_or ch.heads (remainder_of key) 0)

unfoldable pub again_in : List ℕ → List ℕ → ℕ → Bool
unfolding follows
again_in keys next g = is_some (follows keys next (get_or keys g 0) 512 (get_or next g 0))

-- whether one of n places from g on has the key of an earlier one
abbrev pub twice_in : List ℕ → List ℕ → ℕ → ℕ → Bool
twice_in keys next g n = list_any (again_in keys next) (range_with_len g n)

-- ---- what the chains are for

-- the latest of the first n places that has the key
unfoldable pub seek : List ℕ → ℕ → ℕ → Option ℕ
unfolding pick
seek keys key zero = None
seek keys key (suc n) = pick (eqb (get_or keys n 0) key) (Some n) (seek keys key n)

-- the link to the latest of the first n places whose key leaves remainder h
unfoldable pub last_of : List ℕ → ℕ → ℕ → ℕ
unfolding pick
last_of keys h zero = 0
last_of keys h (suc n) = pick (eqb (remainder_of (get_or keys n 0)) h) (suc n) (last_of keys h n)
