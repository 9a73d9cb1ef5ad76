-- A written line reads back: its bytes, and the rest of the text.
-- Assumes nothing.
use Rattle.std.proofs.Common.{ℕ, suc, ◌+◌, ◌*◌, ◌/◌, ◌%◌, ◌<◌, ◌≤◌, arith, add-one, ◌≡◌, refl, ap, true, List, [], ◌∷◌, ◌++◌, eq-eqb, lt-ltb, le-ltb, le-leb, length, drop}
use native.Mathlib.Decide.{dec_lt}
use borrow.Author.Tests.{lt-leb}
use lib.Seq.{take-append_seam, drop-append-add, get_or-append_seam}
use Rattle.rules.proofs.Lists.{Below}
use Rattle.rules.specs.Basics.{pick}
use Rattle.rules.specs.Form.{Form}
use Rattle.rules.specs.Refusals.{good}
use Rattle.rules.specs.Lines.{is_digit, value_of, digits, is_line, bytes_in, first_line, line, digit_of, written}
use Rattle.rules.proofs.Laws.{cons_more, cons_self}

digit_is : (v : ℕ) → v < 16 → is_digit (digit_of v) ≡ true
unfolding is_digit digit_of pick
digit_is v h = go (dec_lt v 10)
  where
    go : Dec (v < 10) → is_digit (digit_of v) ≡ true
    go (yes p) = rw (lt-ltb v 10 p, le-leb 48 (v + 48) (omega arith), le-leb (v + 48) 57 (omega arith))
    go (no q) = rw (
      le-ltb v 10 (omega arith),
      le-leb 48 (v + 55) (omega arith),
      lt-leb (v + 55) 57 (omega arith),
      le-leb 65 (v + 55) (omega arith),
      le-leb (v + 55) 70 (omega arith),
    )

digit_value : (v : ℕ) → v < 16 → value_of (digit_of v) ≡ v
unfolding value_of digit_of pick
digit_value v h = go (dec_lt v 10)
  where
    go : Dec (v < 10) → value_of (digit_of v) ≡ v
    go (yes p) = rw (lt-ltb v 10 p, le-leb 48 (v + 48) (omega arith), le-leb (v + 48) 57 (omega arith)) (omega arith)
    go (no q) = rw (
      le-ltb v 10 (omega arith),
      le-leb 48 (v + 55) (omega arith),
      lt-leb (v + 55) 57 (omega arith),
      le-leb 65 (v + 55) (omega arith),
      le-leb (v + 55) 70 (omega arith),
    ) (omega arith)

-- the digits of a written line
hex : List ℕ → List ℕ
hex [] = []
hex (b ∷ l) = digit_of (b / 16) ∷ digit_of (b % 16) ∷ hex l

written_hex : (bs rest : List ℕ) → written bs ++ rest ≡ hex bs ++ (10 ∷ rest)
unfolding written hex
written_hex [] rest = refl
written_hex (b ∷ bs) rest = ap (λ (t : List ℕ). digit_of (b / 16) ∷ digit_of (b % 16) ∷ t) (written_hex bs rest)

hex_length : (bs : List ℕ) → length (hex bs) ≡ 2 * length bs
unfolding hex
hex_length [] = refl
hex_length (b ∷ bs) = omega (arith, hex_length bs)

hex_digits : (bs rest : List ℕ) → Below 256 bs → digits (hex bs ++ (10 ∷ rest)) ≡ length (hex bs)
unfolding hex digits pick
hex_digits [] rest h = refl
hex_digits (b ∷ bs) rest h =
    let k = h b (cons_self b bs) in
    rw (digit_is (b / 16) (omega arith), digit_is (b % 16) (omega arith), hex_digits bs rest (λ x m. h x (cons_more x b bs m)))

hex_bytes : (bs : List ℕ) → Below 256 bs → bytes_in (hex bs) ≡ bs
unfolding hex bytes_in
hex_bytes [] h = refl
hex_bytes (b ∷ bs) h =
    let k = h b (cons_self b bs) in
    let z : 16 * (b / 16) + b % 16 ≡ b = omega arith in
    rw (digit_value (b / 16) (omega arith), digit_value (b % 16) (omega arith), z, hex_bytes bs (λ x m. h x (cons_more x b bs m)))

module _ (F : Form) (bs rest : List ℕ) (small : Below 256 bs) where
  abbrev text : List ℕ
  text = hex bs ++ (10 ∷ rest)

  hex_line : 1 ≤ length bs → length bs ≤ F.line_most → is_line F text ≡ true
  unfolding is_line
  hex_line h k =
      let n = hex_length bs in
      rw (
        hex_digits bs rest small,
        get_or-append_seam (hex bs) 10 rest 0,
        eq-eqb (length (hex bs) % 2) 0 (omega arith),
        le-leb 2 (length (hex bs)) (omega arith),
        le-leb (length (hex bs)) (2 * F.line_most) (omega arith),
      )

  hex_first : first_line text ≡ record { bytes = bs; rest = rest }
  unfolding first_line
  hex_first =
      let after : drop (suc (length (hex bs))) text ≡ rest = rw (← add-one (length (hex bs))) (drop-append-add (hex bs) (10 ∷ rest) 1) in
      rw (hex_digits bs rest small, take-append_seam (hex bs) (10 ∷ rest), hex_bytes bs small, after)

-- the roundtrip of a line of 1 to F.line_most bytes
pub line_back : (F : Form) (bs rest : List ℕ) → Below 256 bs → 1 ≤ length bs → length bs ≤ F.line_most
    → line F (written bs ++ rest) ≡ good (record { bytes = bs; rest = rest })
unfolding line hex pick
line_back F [] rest b h k = absurd (omega arith)
line_back F (x ∷ bs) rest b h k = rw (written_hex (x ∷ bs) rest) (rw (hex_line F (x ∷ bs) rest b h k, hex_first F (x ∷ bs) rest b))
