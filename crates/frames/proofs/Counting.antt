-- What the loop of `count` cites: a frame moves the place on within the text and counts one; where none stands nothing more is counted.
-- Assumes nothing.
use Rattle.std.proofs.Common.{ℕ, zero, suc, ◌+◌, ◌-◌, ◌<◌, ◌≤◌, arith, ◌≡◌, refl, sym, ap, ◌∙◌, subst, List, length, eq-eqb, ne_eqb, eqb-true, Result, Ok, Err, Bor, Bool, true, false, eqb}
use borrow.Author.Tests.{eqb-false}
use Rattle.rules.specs.Basics.{pick}
use Rattle.rules.specs.Calls.{frame_outcome, place_outcome}
use Rattle.rules.specs.declared.Refusal.{Refusal}
use Rattle.lines.specs.Line.{line_at}
use Rattle.frames.specs.declared.Frames.{Frames}
use Rattle.frames.specs.Reader.{at_start, gives, moved, frames_from, frames_in}
use Rattle.frames.proofs.Laws.{frame_inside, frame_empty, place_past}

-- the place after a frame lies further on, inside the text or at its end
record Onward (text : List ℕ) (at next : ℕ) : Type 0 where
  more : at < next
  within : next ≤ length text

onward : (text : List ℕ) (at : ℕ) → (length (frame_outcome text at) ≡ 0 → ⊥) → Onward text at (place_outcome text at)
onward text at some = go (line_at text at) refl
  where
    go : (l : Result ℕ Refusal) → l ≡ line_at text at → Onward text at (place_outcome text at)
    go (Ok n) e =
        let i = frame_inside text at (Ok n) e n refl in
        subst (Onward text at) (place_past text at (Ok n) e n refl) (record { more = omega arith; within = omega (arith, i) })
    go (Err r) e = absurd (some (ap length (sym (frame_empty text at (Err r) e r refl))))

-- the n frames before a place are counted, and the rest is still to be counted
pub record Counted (text : List ℕ) (at n : ℕ) : Type 0 where
  pub low : n ≤ at
  pub high : at ≤ length text
  pub left : n + frames_from (length text - n) text at ≡ frames_in text

pub counted_start : (text : List ℕ) → Counted text 0 0
unfolding frames_in
counted_start text =
    let z : length text - 0 ≡ length text = omega arith in
    record { low = omega arith; high = omega arith; left = rw z (omega arith) }

none_from : (most : ℕ) (text : List ℕ) (at : ℕ) → length (frame_outcome text at) ≡ 0 → frames_from most text at ≡ 0
unfolding frames_from pick
none_from zero text at e = refl
none_from (suc most) text at e = rw (eq-eqb (length (frame_outcome text at)) 0 e)

-- one turn, by the width of the frame at the place
module _ {text : List ℕ} {at n : ℕ} (c : Counted text at n) where
  pub counted_end : length (frame_outcome text at) ≡ 0 → n ≡ frames_in text
  counted_end e = omega (arith, c.left, none_from (length text - n) text at e)

  module _ (some : length (frame_outcome text at) ≡ 0 → ⊥) where
    pub counted_room : n < length text
    counted_room = let o = onward text at some in omega (arith, c.low, o.more, o.within)

    pub counted_less : length text - place_outcome text at < length text - at
    counted_less = let o = onward text at some in omega (arith, o.more, o.within)

    pub counted_turn : Counted text (place_outcome text at) (n + 1)
    unfolding frames_from pick
    counted_turn =
        let o = onward text at some in
        let r = counted_room in
        let m : length text - n ≡ suc (length text - (n + 1)) = omega arith in
        let z : frames_from (length text - n) text at ≡ suc (frames_from (length text - (n + 1)) text (place_outcome text at)) =
        rw (m, ne_eqb (length (frame_outcome text at)) 0 some) in
        record {
          low = omega (arith, c.low, o.more);
          high = o.within;
          left = omega (arith, c.left, z);
        }

-- a reader of the text stands behind the frames counted
pub record CountedBy (text : List ℕ) (r : Frames) (n : ℕ) : Type 0 where
  pub same : r.text.now ≡ text
  pub counted : Counted text r.at n

pub by_start : (text : Bor (List ℕ)) (r : Frames) → r ≡ at_start text → CountedBy text.now r 0
by_start text r e = rw e (record { same = refl; counted = counted_start text.now })

module _ {text : List ℕ} {r : Frames} {n : ℕ} (c : CountedBy text r n) (part : List ℕ) (given : part ≡ gives r) (none : Bool) (asked : none ≡ eqb (length part) 0) where
  wide : length part ≡ length (frame_outcome text r.at)
  wide = ap length given ∙ ap (λ t. length (frame_outcome t r.at)) c.same

  pub by_end : none ≡ true → n ≡ frames_in text
  by_end e = counted_end c.counted (sym wide ∙ eqb-true (length part) 0 (sym asked ∙ e))

  module _ (e : none ≡ false) (after : Frames) (is : after ≡ moved r) where
    some : length (frame_outcome text r.at) ≡ 0 → ⊥
    some f = eqb-false (length part) 0 (sym asked ∙ e) (wide ∙ f)

    place : after.at ≡ place_outcome text r.at
    place = ap (λ (f : Frames). f.at) is ∙ ap (λ t. place_outcome t r.at) c.same

    pub by_less : length text - after.at < length text - r.at
    by_less = let l = counted_less c.counted some in omega (arith, l, place)

    pub by_turn : CountedBy text after (n + 1)
    by_turn = record {
      same = ap (λ (f : Frames). f.text.now) is ∙ c.same;
      counted = subst (λ p. Counted text p (n + 1)) (sym place) (counted_turn c.counted some);
    }
