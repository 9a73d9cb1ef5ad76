-- Text written piece by piece: what is written so far and what is left make the whole.
-- Assumes nothing.
use Prim.Native.Nat.{ℕ, ◌+◌, ◌<◌, ◌≤◌}
use native.Mathlib.Numerals.{add-one}
use mathlib.Core.Path.{◌≡◌, refl, sym, ap, ◌∙◌}
use mathlib.Core.List.{List, [], ◌∷◌, ◌++◌, map, append-nil, append_assoc}
use lib.ListN.{get_or, length, drop, set, drop_of_length-le}
use lib.Seq.{sets, drop-cons}
use Rattle.rules.specs.Form.{form01, one}
use Rattle.rules.specs.Lines.{written, bytes_of}
use Rattle.rules.specs.Sequence.{Set, Nor, instruction_text, place_text, texts}
use Rattle.mapper.specs.Text.{digits, entry}

-- ---- the lines of a sequence

bytes_one : (l : List ℕ) → bytes_of one l ≡ l
unfolding bytes_of
bytes_one [] = refl
bytes_one (x ∷ l) = ap (λ t. x ∷ t) (bytes_one l)

pub set_text : (cs : List ℕ) → instruction_text form01 (Set cs) ≡ written (0x12 ∷ cs)
unfolding instruction_text form01
set_text cs = rw (bytes_one cs)

pub nor_text : (c : ℕ) (cs : List ℕ) → instruction_text form01 (Nor c cs) ≡ written (0x13 ∷ c ∷ cs)
unfolding instruction_text form01
nor_text c cs = rw (bytes_one cs)

pub place_length : (c : ℕ) → length (place_text form01 c) ≡ 5
unfolding place_text form01 bytes_of written
place_length c = refl

-- a byte of those that are left
pub byte_turn : (text : List ℕ) (b : ℕ) (l : List ℕ) → (text ++ digits b) ++ written l ≡ text ++ written (b ∷ l)
unfolding written
byte_turn text b l = rw append_assoc

-- ---- the cells of the operands from i on are left to write

pub nor_turn : (table os text whole : List ℕ) (i : ℕ) {text' : List ℕ} {o b : ℕ} → i < length os → text ++ written (map (entry table) (drop i os)) ≡ whole
    → o ≡ get_or os i 0 → b ≡ get_or table o 0 → text' ≡ text ++ digits b → text' ++ written (map (entry table) (drop (i + 1) os)) ≡ whole
nor_turn table os text whole i h w e f d = rw (d, byte_turn, f, e, add-one i) (rw (drop-cons os i 0 h) at w)

pub nor_end : (table os text whole : List ℕ) (i : ℕ) {text' : List ℕ} → length os ≤ i → text ++ written (map (entry table) (drop i os)) ≡ whole → text' ≡ text ++ (10 ∷ []) → text' ≡ whole
unfolding written
nor_end table os text whole i h w d = d ∙ rw (drop_of_length-le os h) at w

pub nor_whole : (text os : List ℕ) (c : ℕ) → (text ++ digits 0x13 ++ digits c) ++ written os ≡ text ++ instruction_text form01 (Nor c os)
nor_whole text os c = byte_turn (text ++ digits 0x13) c os ∙ byte_turn text 0x13 (c ∷ os) ∙ ap (λ t. text ++ t) (sym (nor_text c os))

-- ---- the places from i on are left to write

place_put : (text : List ℕ) (c : ℕ) (l : List ℕ) → (text ++ digits 0x14 ++ digits c ++ (10 ∷ [])) ++ l ≡ text ++ (place_text form01 c ++ l)
unfolding place_text form01 bytes_of written
place_put text c l = simp append_assoc

pub place_turn : (table os text whole : List ℕ) (i : ℕ) {first second third : List ℕ} {o b : ℕ} → i < length os → text ++ texts (place_text form01) (map (entry table) (drop i os)) ≡ whole
    → first ≡ text ++ digits 0x14 → o ≡ get_or os i 0 → b ≡ get_or table o 0 → second ≡ first ++ digits b → third ≡ second ++ (10 ∷ [])
    → third ++ texts (place_text form01) (map (entry table) (drop (i + 1) os)) ≡ whole
unfolding texts
place_turn table os text whole i h w a e f b c = rw (c, b, a, place_put, f, e, add-one i) (rw (drop-cons os i 0 h) at w)

pub place_end : (table os text whole : List ℕ) (i : ℕ) → length os ≤ i → text ++ texts (place_text form01) (map (entry table) (drop i os)) ≡ whole → text ≡ whole
unfolding texts
place_end table os text whole i h w = sym (append-nil text) ∙ rw (drop_of_length-le os h) at w

-- ---- the head

pub head_put : (a : List ℕ) {b c d e g h : List ℕ} (row inputs outputs high low : ℕ) → b ≡ sets a 0 (digits 0x11) → c ≡ sets b 2 (digits row) → d ≡ sets c 4 (digits inputs) → e ≡ sets d 6 (digits outputs)
    → g ≡ sets (sets e 8 (digits high)) 10 (digits low) → h ≡ set g 12 10 → h ≡ sets a 0 (written (0x11 ∷ row ∷ inputs ∷ outputs ∷ high ∷ low ∷ []))
unfolding written
head_put a row inputs outputs high low p q r s u v = v ∙ rw (u, s, r, q, p)
