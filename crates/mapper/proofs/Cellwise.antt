-- A set line: each cell passed by is named if it was spent, and is ready then.
-- Assumes nothing.
use Prim.Native.Nat.{ℕ, suc, ◌+◌, ◌*◌, ◌<◌, ◌≤◌}
use native.Mathlib.Omega.{arith}
use native.Mathlib.Numerals.{add-one}
use mathlib.Core.Path.{◌≡◌, refl, sym, ap, ◌∙◌}
use mathlib.Core.List.{List, [], ◌∷◌, ◌++◌, map}
use lib.ListN.{get_or, length, take, drop, set, length-set, length-append, drop_of_length-le}
use lib.Seq.{take-suc, take-suc-set, drop-set-lt, drop-cons, get_or-take, length-take-le}
use Rattle.std.proofs.lemmas.List.{map-append}
use Rattle.rules.specs.Lines.{written}
use Rattle.mapper.specs.declared.cells.Hold.{Hold}
use Rattle.mapper.specs.declared.cells.Hold.TheVariants.{Ready, Spent, Keeps}
use Rattle.mapper.specs.declared.cells.Cells.{Cells}
use Rattle.mapper.specs.Text.{digits}
use Rattle.mapper.specs.Held.{cells_of, spent_in, renewed, Renewed}
use Rattle.mapper.proofs.Writing.{byte_turn}

-- the cells below i are done, the others as they were
pub record Renewing (st₀ : Cells) (text₀ : List ℕ) (st : Cells) (text : List ℕ) (i : ℕ) : Type 0 where
  pub long₀ : length st₀.held ≡ 256
  pub long : length st.held ≡ 256
  pub row : st.row ≡ st₀.row
  pub lines : st.lines ≡ st₀.lines
  pub done : take i st.held ≡ map renewed (take i st₀.held)
  pub rest : drop i st.held ≡ drop i st₀.held
  pub wide : length text ≤ length text₀ + 2 * i
  pub left : text ++ written (spent_in i (drop i (cells_of st₀))) ≡ text₀ ++ written (spent_in 0 (cells_of st₀))

renewed_other : (x : Hold) → (x ≡ Spent → ⊥) → renewed x ≡ x
unfolding renewed
renewed_other Ready h = refl
renewed_other Spent h = absurd (h refl)
renewed_other Keeps h = refl

spent_other : (x : Hold) (i : ℕ) (l : List Hold) → (x ≡ Spent → ⊥) → spent_in i (x ∷ l) ≡ spent_in (suc i) l
unfolding spent_in
spent_other Ready i l h = refl
spent_other Spent i l h = absurd (h refl)
spent_other Keeps i l h = refl

spent_this : (x : Hold) (i : ℕ) (l : List Hold) → x ≡ Spent → spent_in i (x ∷ l) ≡ i ∷ spent_in (suc i) l
unfolding spent_in
spent_this x i l h = rw h

renewed_this : (x : Hold) → x ≡ Spent → renewed x ≡ Ready
unfolding renewed
renewed_this x h = rw h

module _ {st₀ : Cells} {text₀ : List ℕ} {st : Cells} {text : List ℕ} {i : ℕ} (size : st₀.row ≤ 256) (w : Renewing st₀ text₀ st text i) where
  module _ (h : i < st₀.row) where
    x : Hold
    x = get_or st.held i Keeps

    -- the cell at i is as it was, and so are those behind it
    rest_same : (x ≡ get_or st₀.held i Keeps) × (drop (i + 1) st.held ≡ drop (i + 1) st₀.held)
    unfolding x
    rest_same =
        let e : x ∷ drop (suc i) st.held ≡ get_or st₀.held i Keeps ∷ drop (suc i) st₀.held =
        sym (drop-cons st.held i Keeps (omega (arith, w.long))) ∙ w.rest ∙ drop-cons st₀.held i Keeps (omega (arith, w.long₀)) in
        rw (add-one i) (cc, cc)

    rest_cells : drop i (cells_of st₀) ≡ x ∷ drop (i + 1) (cells_of st₀)
    unfolding x
    rest_cells =
        let g : length (cells_of st₀) ≡ st₀.row = length-take-le st₀.row st₀.held (omega (arith, w.long₀)) in
        rw (add-one i, rest_same.0, ← get_or-take st₀.row st₀.held i Keeps h) (drop-cons (cells_of st₀) i Keeps (omega (arith, g)))

    done_more : map renewed (take (i + 1) st₀.held) ≡ take i st.held ++ (renewed x ∷ [])
    unfolding x
    done_more = rw (add-one i, take-suc st₀.held i Keeps (omega (arith, w.long₀)), map-append renewed, ← rest_same.0, w.done)

    pub renew_takes : {text' : List ℕ} → get_or st.held i Keeps ≡ Spent → text' ≡ text ++ digits i
        → Renewing st₀ text₀ (record { held = set st.held i Ready; row = st.row; next = st.next; lines = st.lines }) text' (i + 1)
    unfolding x
    renew_takes {text'} e d = record {
      long₀ = w.long₀;
      long = length-set st.held i Ready ∙ w.long;
      row = w.row;
      lines = w.lines;
      done = rw (done_more, renewed_this x e, add-one i) (take-suc-set st.held i Ready (omega (arith, w.long)));
      rest = rw (← rest_same.1, add-one i) (drop-set-lt (suc i) st.held i Ready (omega arith));
      wide = omega (arith, w.wide, ap length d, length-append text (digits i));
      left = rw (d, byte_turn, add-one i) (rw (rest_cells, spent_this x i _ e, add-one i) at w.left);
    }

    pub renew_leaves : (get_or st.held i Keeps ≡ Spent → ⊥) → Renewing st₀ text₀ st text (i + 1)
    unfolding x
    renew_leaves e = record {
      long₀ = w.long₀;
      long = w.long;
      row = w.row;
      lines = w.lines;
      done = rw (done_more, renewed_other x e, add-one i) (take-suc st.held i Keeps (omega (arith, w.long)));
      rest = rest_same.1;
      wide = omega (arith, w.wide);
      left = rw (add-one i) (rw (rest_cells, spent_other x i _ e, add-one i) at w.left);
    }

pub renew_end : {st₀ : Cells} {text first : List ℕ} {st : Cells} {text' text'' : List ℕ} {i : ℕ} → st₀.row ≤ 256 → first ≡ text ++ digits 0x12 → Renewing st₀ first st text' i → i ≡ st₀.row
    → text'' ≡ text' ++ (10 ∷ []) → Renewed st₀ text text'' (record { held = st.held; row = st.row; next = 0; lines = st.lines + 1 })
unfolding written spent_in
renew_end {st₀} {text} {first} {st} {text'} {text''} {i} size a w h d =
    let none : length (cells_of st₀) ≤ i = omega (arith, length-take-le st₀.row st₀.held (omega (arith, w.long₀))) in
    record {
      row = w.row;
      next = refl;
      lines = ap (λ k. k + 1) w.lines;
      long = w.long;
      cells = rw (w.row, ← h) w.done;
      line = d ∙ (rw (drop_of_length-le (cells_of st₀) none) at w.left) ∙ rw (a, byte_turn);
    }
