-- What the line reader answers is what document 01 says of the line: its bytes, the text after it, or its refusal.
use Rattle.std.proofs.Common.{ℕ, zero, suc, ◌+◌, ◌*◌, ◌/◌, ◌%◌, ◌<◌, ◌≤◌, arith, add_assoc, add-one, ◌≡◌, refl, sym, ap, ◌∙◌, subst, Bool, true, false, ◌&&◌, List, [], ◌∷◌, eqb, leb, get_or, length, take, drop, drop_of_length-le, length-drop, drop-cons, drop-drop, le-leb, leb-true, eqb-true, Result, Ok, Err}
use native.Mathlib.Decide.{dec_lt}
use mathlib.Core.Option.{none, some}
use borrow.Author.Tests.{lt-leb}
use Rattle.rules.specs.declared.Refusal.{Refusal}
use Rattle.rules.specs.declared.Refusal.TheVariants.{BadLine, WrongFrame}
use Rattle.rules.specs.Basics.{pick}
use Rattle.rules.specs.Form.{form01, one, two}
use Rattle.rules.specs.Refusals.{Res, good, refused, number_of}
use Rattle.rules.specs.Lines.{value_of, digits, is_line, bytes_in, first_line, line, nothing, numbers, also}
use Rattle.std.proofs.lemmas.Bool.{and_parts}
use Rattle.rules.proofs.Lists.{known}
use Rattle.lines.specs.Line.{byte_at, word_at, bytes_from, words_from, line_at, ends_at, ends_from}

-- ---- what a frame is

-- the digits of a good line stand inside the text, with the line feed behind them
pub record Fits (text : List ℕ) (at n : ℕ) : Type 0 where
  pub inside : at + n < length text
  pub even : n % 2 ≡ 0
  pub least : 2 ≤ n
  pub most : n ≤ 514
  pub good : is_line form01 (drop at text) ≡ true
  pub is : digits (drop at text) ≡ n

fits_line : (text : List ℕ) (at : ℕ) → is_line form01 (drop at text) ≡ true → Fits text at (digits (drop at text))
unfolding is_line form01
fits_line text at e =
    let d = digits (drop at text) in
    let a = and_parts (eqb (get_or (drop at text) d 0) 10) (eqb (d % 2) 0 && (leb 2 d && leb d 514)) e in
    let b = and_parts (eqb (d % 2) 0) (leb 2 d && leb d 514) a.1 in
    let c = and_parts (leb 2 d) (leb d 514) b.1 in
    let h = known (drop at text) d 10 (eqb-true _ _ a.0) (λ e. omega arith) in
    record {
      inside = omega (arith, h, length-drop at text);
      even = eqb-true _ _ b.0;
      least = leb-true 2 d c.0;
      most = leb-true d 514 c.1;
      good = e;
      is = refl;
    }

module _ (text : List ℕ) (at : ℕ) where
  pub frame_fits : (n : ℕ) → line_at text at ≡ Ok n → Fits text at n
  unfolding line_at pick
  frame_fits n e = go (leb (length text) at) (is_line form01 (drop at text)) refl e
    where
      go : (t u : Bool) → is_line form01 (drop at text) ≡ u
          → pick t (Err WrongFrame) (pick u (Ok (digits (drop at text))) (Err BadLine)) ≡ Ok n → Fits text at n
      go true u q f = cc
      go false true q f = let z : digits (drop at text) ≡ n = cc in subst (Fits text at) z (fits_line text at q)
      go false false q f = cc

-- ---- the bytes of a frame

two_more : (k : ℕ) → 2 * suc k ≡ suc (suc (2 * k))
two_more k = omega arith

pub bytes_are : (k : ℕ) (text : List ℕ) (at : ℕ) → at + 2 * k ≤ length text → bytes_in (take (2 * k) (drop at text)) ≡ bytes_from text at k
unfolding bytes_from bytes_in byte_at
bytes_are zero text at h = refl
bytes_are (suc k) text at h =
    let d₁ : drop at text ≡ get_or text at 0 ∷ drop (at + 1) text = rw (add-one) (drop-cons text at 0 (omega arith)) in
    let d₂ : drop (at + 1) text ≡ get_or text (at + 1) 0 ∷ drop (suc (at + 1)) text = drop-cons text (at + 1) 0 (omega arith) in
    let e : suc (at + 1) ≡ at + 2 = omega arith in
    let r = bytes_are k text (at + 2) (omega arith) in
    rw (two_more k, d₁, d₂, e, r) (byte k text at)
  where
    byte : (k : ℕ) (text : List ℕ) (at : ℕ)
        → (16 * value_of (get_or text at 0) + value_of (get_or text (at + 1) 0)) ∷ bytes_from text (at + 2) k ≡ byte_at text at ∷ bytes_from text (at + 2) k
    byte k text at = refl

module _ (text : List ℕ) (at n : ℕ) (e : line_at text at ≡ Ok n) where
  fits : Fits text at n
  fits = frame_fits text at n e

  -- a good line has its bytes, and the text goes on after its line feed
  pub line_is : line form01 (drop at text) ≡ good (record { bytes = bytes_from text at (n / 2); rest = drop (at + n + 1) text })
  unfolding line first_line pick
  line_is =
      let f = fits in
      let half : 2 * (n / 2) ≡ n = omega (arith, f.even) in
      let c = drop-cons text at 0 (omega (arith, f.inside)) in
      let b : bytes_in (take n (drop at text)) ≡ bytes_from text at (n / 2) =
      ap (λ m. bytes_in (take m (drop at text))) (sym half) ∙ bytes_are (n / 2) text at (omega (arith, f.inside)) in
      let m : at + suc n ≡ at + n + 1 = omega arith in
      let t : drop (suc n) (drop at text) ≡ drop (at + n + 1) text = drop-drop (suc n) at text ∙ ap (λ k. drop k text) m in
      go (drop at text) c f.good f.is b t
    where
      go : (t : List ℕ) → t ≡ get_or text at 0 ∷ drop (suc at) text → is_line form01 t ≡ true → digits t ≡ n → bytes_in (take n t) ≡ bytes_from text at (n / 2)
          → drop (suc n) t ≡ drop (at + n + 1) text → line form01 t ≡ good (record { bytes = bytes_from text at (n / 2); rest = drop (at + n + 1) text })
      go [] c g d b t = cc
      go (x ∷ l) c g d b t = rw (g, d, b, t)

pub line_not : (text : List ℕ) (at : ℕ) (r : Refusal) → line_at text at ≡ Err r → line form01 (drop at text) ≡ refused (number_of r)
unfolding line_at line pick
line_not text at r e = go (dec_lt at (length text))
  where
    bad : (u : Bool) (l : List ℕ) → is_line form01 l ≡ u → pick u (Ok (digits l)) (Err BadLine) ≡ Err r
        → pick u (good (first_line l)) (refused 1) ≡ refused (number_of r)
    bad true l q f = cc
    bad false l q f = cc

    go : Dec (at < length text) → line form01 (drop at text) ≡ refused (number_of r)
    go (yes h) =
        let c = drop-cons text at 0 h in
        let f : pick (is_line form01 (drop at text)) (Ok (digits (drop at text))) (Err BadLine) ≡ Err r =
        rw (lt-leb (length text) at h) at e in
        rw c (bad (is_line form01 (get_or text at 0 ∷ drop (suc at) text)) (get_or text at 0 ∷ drop (suc at) text) refl (rw c at f))
    go (no h) =
        let p : length text ≤ at = omega arith in
        let f : Err WrongFrame ≡ Err r = rw (le-leb (length text) at p) at e in
        rw (drop_of_length-le text p) (cc)

-- ---- numbers of a frame's bytes

pub numbers_one : (l : List ℕ) → numbers one l ≡ some l
unfolding numbers also
numbers_one [] = refl
numbers_one (a ∷ l) = rw (numbers_one l)

pub words_are : (k : ℕ) (text : List ℕ) (at : ℕ) → numbers two (bytes_from text at (2 * k)) ≡ some (words_from text at k)
unfolding numbers also bytes_from words_from word_at
words_are zero text at = refl
words_are (suc k) text at = rw (two_more k, add_assoc, words_are k text (at + 4))

pub words_odd : (k : ℕ) (text : List ℕ) (at : ℕ) → numbers two (bytes_from text at (suc (2 * k))) ≡ none
unfolding numbers also bytes_from
words_odd zero text at = refl
words_odd (suc k) text at = rw (two_more k, words_odd k text (at + 2 + 2))

-- ---- nothing follows

module _ (text : List ℕ) (at : ℕ) where
  pub ends_good : ends_at text at ≡ Ok tt → nothing form01 (drop at text) ≡ good tt
  unfolding ends_at ends_from nothing pick
  ends_good e = go (dec_lt at (length text))
    where
      none_given : (l : Result ℕ Refusal) → ends_from l ≡ Ok tt → ⊥
      none_given (Ok m) f = cc
      none_given (Err r) f = cc

      go : Dec (at < length text) → nothing form01 (drop at text) ≡ good tt
      go (yes h) = absurd (none_given (line_at text at) (rw (lt-leb (length text) at h) at e))
      go (no h) = rw (drop_of_length-le text {i = at} (omega arith))

  pub ends_refused : (r : Refusal) → ends_at text at ≡ Err r → nothing form01 (drop at text) ≡ refused (number_of r)
  unfolding ends_at ends_from line_at nothing pick
  ends_refused r e = go (dec_lt at (length text))
    where
      bad : (u : Bool) (l : List ℕ) → is_line form01 l ≡ u
          → ends_from (pick u (Ok (digits l)) (Err BadLine)) ≡ Err r
          → ◌≡◌ {A = Res (Unit {0})} (pick u (refused 2) (refused 1)) (refused (number_of r))
      bad true l q f = cc
      bad false l q f = cc

      go : Dec (at < length text) → nothing form01 (drop at text) ≡ refused (number_of r)
      go (yes h) =
          let c = drop-cons text at 0 h in
          let f : ends_from (pick (is_line form01 (drop at text)) (Ok (digits (drop at text))) (Err BadLine)) ≡ Err r =
          rw (lt-leb (length text) at h) at e in
          rw c (bad (is_line form01 (get_or text at 0 ∷ drop (suc at) text)) (get_or text at 0 ∷ drop (suc at) text) refl (rw c at f))
      go (no h) =
          let f : Ok tt ≡ Err r = rw (le-leb (length text) at (omega arith)) at e in
          cc
