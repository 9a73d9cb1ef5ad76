-- Laws of digits, lines and bytes at a place.
use Rattle.std.proofs.Common.{ℕ, suc, ◌+◌, ◌-◌, ◌*◌, ◌/◌, ◌%◌, ◌<◌, ◌≤◌, arith, add-one, ◌≡◌, sym, ◌∙◌, true, false, ◌&&◌, List, leb, get_or, length, drop, drop_of_length-le, length-drop, drop-cons, get_or-drop, le-leb, leb-true, eq-eqb, ne_eqb, Result, Ok, Err}
use native.Mathlib.Decide.{dec_lt}
use borrow.Author.Tests.{lt-leb}
use Rattle.rules.specs.Basics.{pick}
use Rattle.rules.specs.Form.{form01}
use Rattle.rules.specs.Lines.{is_digit, value_of, digits, is_line}
use Rattle.std.proofs.lemmas.Bool.{and_parts}
use Rattle.std.proofs.lemmas.List.{get_or_past}
use Rattle.rules.proofs.Laws.{by_pick}
use Rattle.rules.specs.declared.Refusal.{Refusal}
use Rattle.rules.specs.declared.Refusal.TheVariants.{BadLine, WrongFrame}
use Rattle.lines.specs.Line.{byte_at, word_at, line_at, ends_at, ends_from}

-- ---- one character

pub value_low : (c : ℕ) → c < 48 → value_of c ≡ 0
unfolding value_of pick
value_low c h = simp (lt-leb 48 c h, lt-leb 65 c (omega arith))

pub value_number : (c : ℕ) → 48 ≤ c → c < 58 → value_of c ≡ c - 48
unfolding value_of pick
value_number c h l = simp (le-leb 48 c h, le-leb c 57 (omega arith))

pub value_between : (c : ℕ) → 58 ≤ c → c < 65 → value_of c ≡ 0
unfolding value_of pick
value_between c h l = simp (le-leb 48 c (omega arith), lt-leb c 57 h, lt-leb 65 c l)

pub value_letter : (c : ℕ) → 65 ≤ c → c < 71 → value_of c ≡ c - 55
unfolding value_of pick
value_letter c h l = simp (le-leb 48 c (omega arith), lt-leb c 57 (omega arith), le-leb 65 c h, le-leb c 70 (omega arith))

pub value_high : (c : ℕ) → 71 ≤ c → value_of c ≡ 0
unfolding value_of pick
value_high c h = simp (le-leb 48 c (omega arith), lt-leb c 57 (omega arith), le-leb 65 c (omega arith), lt-leb c 70 h)

-- a digit's value without telling 0-9 from A-F: the low four bits, and 9 more for a letter
module _ (c : ℕ) (least : 48 ≤ c) (most : c ≤ 70) where
  pub value_gap : c % 16 < c / 64 → value_of c ≡ 0
  value_gap h = value_between c (omega arith) (omega arith)

  pub value_none : c / 64 ≤ c % 16 → 10 - c / 64 * 4 ≤ c % 16 - c / 64 → value_of c ≡ 0
  value_none h l = value_between c (omega arith) (omega arith)

  pub value_quick : c / 64 ≤ c % 16 → c % 16 - c / 64 < 10 - c / 64 * 4 → c % 16 + c / 64 * 9 ≡ value_of c
  value_quick h l = go (dec_lt c 64)
    where
      go : Dec (c < 64) → c % 16 + c / 64 * 9 ≡ value_of c
      go (yes u) =
          let q : c / 64 ≡ 0 = omega arith in
          let r : c % 16 ≡ c - 48 = omega arith in
          let z : c % 16 + c / 64 * 9 ≡ c - 48 = omega (arith, q, r) in
          z ∙ sym (value_number c least (omega (arith, q, r, l)))
      go (no u) =
          let q : c / 64 ≡ 1 = omega arith in
          let r : c % 16 ≡ c - 64 = omega arith in
          let z : c % 16 + c / 64 * 9 ≡ c - 55 = omega (arith, q, r) in
          z ∙ sym (value_letter c (omega (arith, q, r, h)) (omega arith))

pub value_small : (c : ℕ) → value_of c ≤ 15
unfolding value_of
value_small c =
    by_pick (λ n. n ≤ 15) (leb 48 c && leb c 57) {x = c - 48} {y = pick (leb 65 c && leb c 70) (c - 55) 0}
    (λ e. omega (arith, leb-true c 57 (and_parts (leb 48 c) (leb c 57) e).1))
    (λ _. by_pick (λ n. n ≤ 15) (leb 65 c && leb c 70) {x = c - 55} {y = 0} (λ e. omega (arith, leb-true c 70 (and_parts (leb 65 c) (leb c 70) e).1))
    (λ _. omega arith))

-- ---- the digits that a list begins with

-- the first i characters are digits
pub record Scanned (l : List ℕ) (i : ℕ) : Type 0 where
  pub same : i + digits (drop i l) ≡ digits l

module _ {l : List ℕ} {i : ℕ} (s : Scanned l i) where
  pub scanned_turn : i < length l → is_digit (get_or l i 0) ≡ true → Scanned l (i + 1)
  unfolding digits pick
  scanned_turn h e = record { same = let z : digits (drop i l) ≡ suc (digits (drop (i + 1) l)) = rw (add-one, drop-cons l i 0 h, e) in omega (arith, s.same, z) }

  pub scanned_stop : i < length l → is_digit (get_or l i 0) ≡ false → i ≡ digits l
  unfolding digits pick
  scanned_stop h e = let z : digits (drop i l) ≡ 0 = rw (drop-cons l i 0 h, e) in omega (arith, s.same, z)

  pub scanned_end : length l ≤ i → i ≤ length l → length l ≡ digits l
  unfolding digits
  scanned_end h k = let z : digits (drop i l) ≡ 0 = rw (drop_of_length-le l h) in omega (arith, s.same, z)

-- ---- bytes at a place

pub byte_past : (s : List ℕ) (i : ℕ) → length s ≤ i → byte_at s i ≡ 0
unfolding byte_at
byte_past s i h =
    rw (get_or_past s i 0 h, get_or_past s (i + 1) 0 (omega arith), value_low 0 (omega arith))

pub byte_small : (s : List ℕ) (i : ℕ) → byte_at s i ≤ 255
unfolding byte_at
byte_small s i = omega (arith, value_small (get_or s i 0), value_small (get_or s (i + 1) 0))

pub byte_read : (r : ℕ) (s : List ℕ) (i : ℕ) → r ≡ byte_at s i → r ≤ 255
byte_read r s i e = rw e (byte_small s i)

pub word_past : (s : List ℕ) (i : ℕ) → length s ≤ i → word_at s i ≡ 0
unfolding word_at
word_past s i h = rw (byte_past s i h, byte_past s (i + 2) (omega arith))

pub word_short : (s : List ℕ) (i : ℕ) → length s ≤ i + 2 → word_at s i ≡ byte_at s i * 256
unfolding word_at
word_short s i h = rw (byte_past s (i + 2) h) (omega arith)

pub word_small : (s : List ℕ) (i : ℕ) → word_at s i ≤ 65535
unfolding word_at
word_small s i = omega (arith, byte_small s i, byte_small s (i + 2))

-- ---- the line at a place

pub line_past : (text : List ℕ) (at : ℕ) → length text ≤ at → Err WrongFrame ≡ line_at text at
unfolding line_at pick
line_past text at h = rw (le-leb (length text) at h)

module _ (text rest : List ℕ) (at n : ℕ) (r : rest ≡ drop at text) (e : n ≡ digits rest) (inside : at < length text) where
  pub line_open : length text - at ≤ n → Err BadLine ≡ line_at text at
  unfolding line_at pick is_line form01
  line_open h =
      let z : get_or (drop at text) n 0 ≡ 0 = get_or_past (drop at text) n 0 (omega (arith, length-drop at text)) in
      rw (lt-leb (length text) at inside, ← r, ← e, r, z)

  char : get_or rest n 0 ≡ get_or text (at + n) 0
  char = rw r (get_or-drop at text n 0)

  pub line_unfed : (get_or text (at + n) 0 ≡ 10 → ⊥) → Err BadLine ≡ line_at text at
  unfolding line_at pick is_line form01
  line_unfed h = rw (lt-leb (length text) at inside, ← r, ← e, char, ne_eqb (get_or text (at + n) 0) 10 h)

  module _ (fed : get_or text (at + n) 0 ≡ 10) where
    pub line_odd : (n % 2 ≡ 0 → ⊥) → Err BadLine ≡ line_at text at
    unfolding line_at pick is_line form01
    line_odd h = rw (lt-leb (length text) at inside, ← r, ← e, char, eq-eqb (get_or text (at + n) 0) 10 fed, ne_eqb (n % 2) 0 h)

    module _ (even : n % 2 ≡ 0) where
      pub line_empty : n < 2 → Err BadLine ≡ line_at text at
      unfolding line_at pick is_line form01
      line_empty h =
          rw (lt-leb (length text) at inside, ← r, ← e, char, eq-eqb (get_or text (at + n) 0) 10 fed, eq-eqb (n % 2) 0 even, lt-leb 2 n h)

      pub line_long : 2 ≤ n → 514 < n → Err BadLine ≡ line_at text at
      unfolding line_at pick is_line form01
      line_long l h =
          rw (lt-leb (length text) at inside, ← r, ← e, char, eq-eqb (get_or text (at + n) 0) 10 fed, eq-eqb (n % 2) 0 even, le-leb 2 n l, lt-leb n 514 h)

      pub line_good : 2 ≤ n → n ≤ 514 → Ok n ≡ line_at text at
      unfolding line_at pick is_line form01
      line_good l h =
          rw (lt-leb (length text) at inside, ← r, ← e, char, eq-eqb (get_or text (at + n) 0) 10 fed, eq-eqb (n % 2) 0 even, le-leb 2 n l, le-leb n 514 h)

-- ---- what follows a place

module _ (text : List ℕ) (at : ℕ) where
  pub ends_past : length text ≤ at → Ok tt ≡ ends_at text at
  unfolding ends_at pick
  ends_past h = rw (le-leb (length text) at h)

  module _ (l : Result ℕ Refusal) (e : l ≡ line_at text at) (inside : at < length text) where
    pub ends_bad : (r : Refusal) → l ≡ Err r → Err r ≡ ends_at text at
    unfolding ends_at ends_from pick
    ends_bad r f = rw (lt-leb (length text) at inside, ← e, f)

    pub ends_more : (n : ℕ) → l ≡ Ok n → Err WrongFrame ≡ ends_at text at
    unfolding ends_at ends_from pick
    ends_more n f = rw (lt-leb (length text) at inside, ← e, f)
