-- The frame at a place and the place after it, by what the line reader answers there.
-- Assumes nothing.
use Rattle.std.proofs.Common.{ℕ, ◌+◌, ◌-◌, ◌<◌, arith, ◌≡◌, refl, sym, ap, ◌∙◌, Bool, true, false, List, [], length, take, drop, drop_of_length-le, length-take, length-drop, Bor, ne_eqb, Result, Ok, Err}
use native.Mathlib.Decide.{dec_lt}
use borrow.Author.Tests.{lt-leb}
use Rattle.rules.specs.declared.Refusal.{Refusal}
use Rattle.rules.specs.Basics.{pick}
use Rattle.rules.specs.Form.{form01}
use Rattle.rules.specs.Lines.{digits, is_line, frame_at, place_after}
use Rattle.rules.specs.Calls.{frame_outcome, place_outcome}
use Rattle.rules.specs.declared.Refusal.TheVariants.{BadLine}
use Rattle.lines.specs.Line.{line_at}
use Rattle.frames.specs.Reader.{start_of, spot_in}
use Rattle.lines.proofs.Meaning.{Fits, frame_fits}

-- a part that starts where the frame's part does stands where it stands
pub stands : (text : Bor (List ℕ)) {k : ℕ} (at : ℕ) → k ≡ start_of text.now at → (text.ref_ptr.0, k + text.ref_ptr.1) ≡ spot_in text at
stands text at e = ap (λ (k : ℕ). (text.ref_ptr.0, k + text.ref_ptr.1)) e

-- where the line reader refuses, no good line stands
no_line : (text : List ℕ) (at : ℕ) (r : Refusal) → line_at text at ≡ Err r → is_line form01 (drop at text) ≡ false
unfolding line_at is_line digits pick
no_line text at r e = go (dec_lt at (length text))
  where
    bad : (t : Bool) → is_line form01 (drop at text) ≡ t → pick t (Ok (digits (drop at text))) (Err BadLine) ≡ Err r
        → is_line form01 (drop at text) ≡ false
    bad true q f = cc
    bad false q f = q

    go : Dec (at < length text) → is_line form01 (drop at text) ≡ false
    go (yes h) = bad (is_line form01 (drop at text)) refl (rw (lt-leb (length text) at h) at e)
    go (no h) = rw (drop_of_length-le text {i = at} (omega arith))

module _ (text : List ℕ) (at : ℕ) (l : Result ℕ Refusal) (read : l ≡ line_at text at) where
  module _ (n : ℕ) (is : l ≡ Ok n) where
    fits : Fits text at n
    fits = frame_fits text at n (sym read ∙ is)

    -- the line feed stands inside the text
    pub frame_inside : at + n < length text
    frame_inside = fits.inside

    -- what `&text[at..at + n]` is
    pub frame_there : take (at + n - at) (drop at text) ≡ frame_outcome text at
    unfolding frame_outcome frame_at pick
    frame_there = let z : at + n - at ≡ n = omega arith in rw (fits.good, fits.is, z)

    -- where it starts
    pub start_there : at ≡ start_of text at
    unfolding start_of pick
    start_there =
        let z : length (frame_outcome text at) ≡ n = ap length (sym frame_there) ∙ simp (length-take, length-drop) (omega (arith, fits.inside)) in
        rw (z, ne_eqb n 0 (λ e. omega (arith, fits.least)))

    pub place_past : at + n + 1 ≡ place_outcome text at
    unfolding place_outcome place_after pick
    place_past = rw (fits.good, fits.is)

  module _ (r : Refusal) (is : l ≡ Err r) where
    none : is_line form01 (drop at text) ≡ false
    none = no_line text at r (sym read ∙ is)

    pub frame_empty : [] ≡ frame_outcome text at
    unfolding frame_outcome frame_at pick
    frame_empty = rw (none)

    -- what `&text[end..]` is, at the text's end
    pub frame_end : take (length text - length text) (drop (length text) text) ≡ frame_outcome text at
    frame_end = let z : length text - length text ≡ 0 = omega arith in rw (z) frame_empty

    pub start_end : length text ≡ start_of text at
    unfolding start_of pick
    start_end = rw (← frame_empty)

    pub place_stays : at ≡ place_outcome text at
    unfolding place_outcome place_after pick
    place_stays = rw (none)
