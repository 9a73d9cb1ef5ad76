-- Places one after another: each holds its output, or the checker says 16.
use Rattle.std.proofs.Common.{ℕ, suc, ◌+◌, ◌-◌, ◌*◌, ◌<◌, ◌≤◌, min, arith, add-one, ◌≡◌, refl, sym, ap, ◌∙◌, Bool, true, false, ◌&&◌, List, get_or, length, take, drop, drop-cons, eq-eqb, ne_eqb}
use native.Mathlib.Decide.{dec_lt}
use Rattle.rules.specs.Book.{is_holding, placed}
use Rattle.lines.specs.Line.{byte_at}
use Rattle.lines.proofs.Laws.{byte_past}
use Rattle.row.specs.Decoded.{each_line, places_at}
use Rattle.book.specs.declared.Cell.{Cell}
use Rattle.book.specs.declared.Cell.TheVariants.{Unknown, Ready, Holds}
use Rattle.book.specs.declared.Book.{Book}
use Rattle.book.specs.Cells.{cell_in, book_in}
use Rattle.book.proofs.Laws.{book_at}

module _ (b : Book) (text : List ℕ) (places : ℕ) (outs : List ℕ) where
  -- whether the places from the j-th on hold their outputs
  abbrev from_place : ℕ → Bool
  from_place j = placed (book_in b) (places_at text (places + 5 * j) (length outs - j)) (drop j outs)

  -- the first j places hold theirs
  pub record Held (j : ℕ) : Type 0 where
    pub same : from_place j ≡ placed (book_in b) (places_at text places (length outs)) outs

  pub held_start : Held 0
  held_start = record {
    same = let y : places + 5 * 0 ≡ places = omega arith in let z : length outs - 0 ≡ length outs = omega arith in rw (y, z);
  }

  module _ {j : ℕ} (h : Held j) (at p : ℕ) (c : Cell) (l : j < length outs) (a : at ≡ min (places + (5 * j + 2)) 18446744073709551615)
      (long : length text ≤ 18446744073709551615) (q : p ≡ byte_at text at) (f : c ≡ get_or (take b.row b.cells) p Unknown) where
    abbrev o : ℕ
    o = get_or outs j 0

    -- past the largest place the text has ended
    place_is : p ≡ byte_at text (places + 5 * j + 2)
    place_is = go (dec_lt (places + (5 * j + 2)) 18446744073709551616)
      where
        go : Dec (places + (5 * j + 2) < 18446744073709551616) → p ≡ byte_at text (places + 5 * j + 2)
        go (yes u) = let z : at ≡ places + 5 * j + 2 = omega arith in q ∙ ap (byte_at text) z
        go (no u) = q ∙ byte_past text at (omega arith) ∙ sym (byte_past text (places + 5 * j + 2) (omega arith))

    next_place : from_place j ≡ (is_holding (cell_in c) o && from_place (suc j))
    unfolding placed places_at each_line book_in
    next_place =
        let z : length outs - j ≡ suc (length outs - suc j) = omega arith in
        let y : places + 5 * j + 5 ≡ places + 5 * suc j = omega arith in
        rw (z, y, drop-cons outs j 0 l, ← place_is, book_at b p, ← f)

    pub held_turn : c ≡ Holds o → Held (j + 1)
    unfolding is_holding cell_in
    held_turn g = record { same = rw add-one (sym (rw (g, eq-eqb o o refl) at next_place) ∙ h.same) }

    pub held_stop : (c ≡ Holds o → ⊥) → false ≡ placed (book_in b) (places_at text places (length outs)) outs
    unfolding is_holding cell_in
    held_stop g = sym (next_place ∙ ap (λ t. t && from_place (suc j)) (go c g)) ∙ h.same
      where
        go : (d : Cell) → (d ≡ Holds o → ⊥) → is_holding (cell_in d) o ≡ false
        go Unknown n = refl
        go Ready n = refl
        go (Holds t) n = ne_eqb t o (λ z. n (ap Holds z))

  pub held_end : {j : ℕ} → Held j → length outs ≤ j → true ≡ placed (book_in b) (places_at text places (length outs)) outs
  unfolding placed places_at each_line
  held_end {j} h l = let z : length outs - j ≡ 0 = omega arith in rw z at h.same
