-- Document 01, "Lines": the rule for lines, the bytes of a line, and the frame reader.
-- Assumes nothing.
use Rattle.std.specs.Prelude.{ℕ, suc, ◌+◌, ◌-◌, ◌*◌, ◌/◌, ◌%◌, Bool, ◌&&◌, ◌||◌, List, [], ◌∷◌, eqb, ltb, get_or, take, drop}
use Rattle.std.proofs.Math.Option.{Option, none, some}
use Rattle.rules.specs.Basics.{pick, within}
use Rattle.rules.specs.Form.{Form, Width, one, two}
use Rattle.rules.specs.Refusals.{Res, good, refused}

-- ---- A line is an even number, at least 2, of digits 0-9 A-F (capitals only), then one line feed. It carries 1 to 257 bytes.

-- digits 0-9 (48 to 57) A-F (65 to 70)
unfoldable pub is_digit : ℕ → Bool
is_digit c = within 48 57 c || within 65 70 c

-- what a digit stands for; any other character counts 0
unfoldable pub value_of : ℕ → ℕ
unfolding pick
value_of c = pick (within 48 57 c) (c - 48) (pick (within 65 70 c) (c - 55) 0)

-- how many digits a text begins with
unfoldable pub digits : List ℕ → ℕ
unfolding pick is_digit
digits [] = 0
digits (c ∷ t) = pick (is_digit c) (suc (digits t)) 0

-- an even number, at least 2, of digits, then one line feed (10); 1 to 257 bytes
unfoldable pub is_line : Form → List ℕ → Bool
unfolding digits
is_line F t =
    let d = digits t in
    eqb (get_or t d 0) 10 && (eqb (d % 2) 0 && within 2 (2 * F.line_most) d)

-- the bytes that digits carry
unfoldable pub bytes_in : List ℕ → List ℕ
unfolding value_of
bytes_in [] = []
bytes_in (h ∷ []) = []
bytes_in (h ∷ l ∷ t) = (16 * value_of h + value_of l) ∷ bytes_in t

pub record Line : Type 0 where
  pub bytes : List ℕ
  pub rest : List ℕ

unfoldable pub first_line : List ℕ → Line
unfolding digits bytes_in
first_line t = let d = digits t in record { bytes = bytes_in (take d t); rest = drop (suc d) t }

-- 1: a line breaks the rule for lines, or the last has no line feed; 2: a frame is missing; an empty text
unfoldable pub line : Form → List ℕ → Res Line
unfolding pick is_line first_line
line F [] = refused 2
line F (c ∷ t) = pick (is_line F (c ∷ t)) (good (first_line (c ∷ t))) (refused 1)

-- Nothing follows: 2 if a good line stands there, 1 if a bad one does.
unfoldable pub nothing : Form → List ℕ → Res (Unit {0})
unfolding pick is_line
nothing F [] = good tt
nothing F (c ∷ t) = pick (is_line F (c ∷ t)) (refused 2) (refused 1)

-- ---- Two-byte numbers are high byte first.

unfoldable pub also : ℕ → Option (List ℕ) → Option (List ℕ)
also x none = none
also x (some l) = some (x ∷ l)

-- bytes as numbers of one width, to the last byte
unfoldable pub numbers : Width → List ℕ → Option (List ℕ)
unfolding also
numbers one [] = some []
numbers one (a ∷ l) = also a (numbers one l)
numbers two [] = some []
numbers two (a ∷ []) = none
numbers two (a ∷ b ∷ l) = also (a * 256 + b) (numbers two l)

-- bytes as exactly the fields that a kind has after it
unfoldable pub fields : List Width → List ℕ → Option (List ℕ)
unfolding also
fields [] [] = some []
fields [] (a ∷ l) = none
fields (one ∷ ws) [] = none
fields (one ∷ ws) (a ∷ l) = also a (fields ws l)
fields (two ∷ ws) [] = none
fields (two ∷ ws) (a ∷ []) = none
fields (two ∷ ws) (a ∷ b ∷ l) = also (a * 256 + b) (fields ws l)

-- ---- writing

unfoldable pub bytes_of : Width → List ℕ → List ℕ
bytes_of one [] = []
bytes_of one (x ∷ l) = x ∷ bytes_of one l
bytes_of two [] = []
bytes_of two (x ∷ l) = (x / 256) ∷ (x % 256) ∷ bytes_of two l

-- digits 0-9 A-F (capitals only)
unfoldable pub digit_of : ℕ → ℕ
unfolding pick
digit_of v = pick (ltb v 10) (v + 48) (v + 55)

-- one frame a line
unfoldable pub written : List ℕ → List ℕ
unfolding digit_of
written [] = 10 ∷ []
written (b ∷ l) = digit_of (b / 16) ∷ digit_of (b % 16) ∷ written l

-- ---- a frame reader that holds the text and its place and gives one frame at a time

-- as the part of the text with its digits, or the empty part at the text's end and at a line that breaks the rule for lines
unfoldable pub frame_at : Form → List ℕ → ℕ → List ℕ
unfolding pick is_line digits
frame_at F text at = let t = drop at text in pick (is_line F t) (take (digits t) t) []

-- where it stays
unfoldable pub place_after : Form → List ℕ → ℕ → ℕ
unfolding pick is_line digits
place_after F text at = let t = drop at text in pick (is_line F t) (at + digits t + 1) at
