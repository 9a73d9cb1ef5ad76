-- The opening: inputs are kept, the lowest `opened` work cells are ready, the rest are blank. The book agrees after its one set line.
-- Assumes nothing.
use Rattle.std.proofs.Common.{ℕ, ◌+◌, ◌-◌, ◌<◌, ◌≤◌, arith, ◌≡◌, refl, ap, ◌∙◌, Bool, true, false, ◌||◌, List, [], ◌++◌, ltb, ltb-true, le-ltb, get_or, replicate, length-append}
use native.Mathlib.Decide.{dec_lt}
use mathlib.Core.Option.{some}
use lib.ListN.{length-map, length-replicate, get_or-append, get_or-replicate}
use lib.Seq.{get_or-append_right}
use Rattle.rules.specs.Sequence.{Set}
use Rattle.std.proofs.lemmas.List.Elements.{All-nil, All-cons}
use Rattle.std.proofs.lemmas.Bool.{false_from_ne_true}
use Rattle.rules.specs.Basics.{pick, mem, upto, set_all}
use Rattle.rules.specs.Refusals.{◌>>=◌}
use Rattle.rules.specs.Netlist.{Netlist}
use Rattle.rules.specs.Cells.{Slot, blank, ready, keeps, is_ready, lowest, opening}
use Rattle.rules.specs.Book.{Cell, unknown, ready as set_ready, holds, first_book, fixed, step, steps}
use Rattle.rules.proofs.Laws.{mem-nil}
use Rattle.rules.proofs.Lists.{none_of, upto_mem, upto_in, length-upto, asc_upto, length-set_all, all_default}
use Rattle.claims.proofs.FirstBook.{front, behind, book_size}
use Rattle.claims.proofs.Slots.{lowest_found, set_all_at}
use Rattle.claims.proofs.Served.{present}
use Rattle.claims.proofs.Keeping.{Kept}
use Rattle.claims.proofs.Agreeing.{Agrees}
use Rattle.claims.proofs.Fine.{FineSet, Fine, AllFine}

upto_not : (n k c : ℕ) → c < n → mem c (upto n k) ≡ false
upto_not n k c h = false_from_ne_true (mem c (upto n k)) (λ e. let z = upto_in n k c e in omega arith)

module _ (N : Netlist) (row opened : ℕ) (room : N.inputs + opened ≤ row) where
  abbrev first : List Slot
  first = (opening N opened row).slots

  work : List Slot
  work = replicate opened ready ++ replicate (row - N.inputs - opened) blank

  at_input : (c : ℕ) → c < N.inputs → get_or first c blank ≡ keeps c
  unfolding opening work
  at_input c h = let z : 0 + c ≡ c = omega arith in front keeps 0 N.inputs c work blank h ∙ ap keeps z

  at_work : (c : ℕ) → N.inputs ≤ c → get_or first c blank ≡ get_or work (c - N.inputs) blank
  unfolding opening work
  at_work c h = behind keeps N.inputs c work blank h

  at_opened : (c : ℕ) → N.inputs ≤ c → c < N.inputs + opened → get_or first c blank ≡ ready
  unfolding work
  at_opened c h k =
      at_work c h
      ∙ get_or-append (replicate opened ready) (replicate (row - N.inputs - opened) blank) blank (c - N.inputs) (rw length-replicate (omega arith))
      ∙ get_or-replicate opened (c - N.inputs) ready blank (omega arith)

  at_rest : (c : ℕ) → N.inputs + opened ≤ c → get_or first c blank ≡ blank
  unfolding work
  at_rest c h =
      at_work c (omega arith)
      ∙ get_or-append_right (replicate opened ready) (replicate (row - N.inputs - opened) blank) (c - N.inputs) blank (rw length-replicate (omega arith))
      ∙ all_default (row - N.inputs - opened) _ blank

  -- some cell is ready at first
  pub ready_first : 1 ≤ opened → (c : ℕ) × (lowest is_ready 0 first ≡ some c)
  unfolding is_ready
  ready_first h = lowest_found is_ready refl first 0 N.inputs (ap is_ready (at_opened N.inputs (omega arith) (omega arith)))

  pub opening_keeps : Kept N row (opening N opened row)
  unfolding opening present
  opening_keeps = record {
    size = simp (length-append, length-map, length-upto, length-replicate) (omega arith);
    input = at_input;
    needed = λ s e f. needed s (ltb s N.inputs) refl e;
  }
    where
      needed : (s : ℕ) (t : Bool) → ltb s N.inputs ≡ t → (t || mem s []) ≡ true → (c : ℕ) × (get_or first c blank ≡ keeps s)
      needed s true p e = (s, at_input s (ltb-true s N.inputs p))
      needed s false p e = absurd (mem-nil s e)

  unfoldable pub opened_book : List Cell
  opened_book = set_all set_ready (upto N.inputs opened) (first_book N.inputs row)

  book_input : (c : ℕ) → c < N.inputs → get_or (first_book N.inputs row) c unknown ≡ holds c
  unfolding first_book
  book_input c h = let z : 0 + c ≡ c = omega arith in front holds 0 N.inputs c (replicate (row - N.inputs) unknown) unknown h ∙ ap holds z

  book_at : (c : ℕ) → c < row → get_or opened_book c unknown ≡ pick (mem c (upto N.inputs opened)) set_ready (get_or (first_book N.inputs row) c unknown)
  unfolding opened_book
  book_at c h = set_all_at set_ready (upto N.inputs opened) (first_book N.inputs row) c unknown (omega (arith, book_size N.inputs row (omega arith)))

  pub opening_agrees : Agrees N row opened_book (opening N opened row)
  unfolding opening opened_book steps step ◌>>=◌ pick
  opening_agrees = record {
    ran = rw (none_of (fixed N) (upto N.inputs opened) (λ c e. le-ltb c N.inputs (upto_in N.inputs opened c e).0));
    size = length-set_all set_ready (upto N.inputs opened) (first_book N.inputs row) ∙ book_size N.inputs row (omega arith);
    set = λ c e. set' c e (dec_lt c N.inputs) (dec_lt c (N.inputs + opened));
    held = λ c s e. held' c s e (dec_lt c N.inputs) (dec_lt c (N.inputs + opened));
  }
    where
      set' : (c : ℕ) → get_or first c blank ≡ ready → Dec (c < N.inputs) → Dec (c < N.inputs + opened) → get_or opened_book c unknown ≡ set_ready
      set' c e (yes p) d = let z = at_input c p in cc
      set' c e (no q) (yes l) = book_at c (omega arith) ∙ rw (upto_mem N.inputs opened c (omega arith) l)
      set' c e (no q) (no l) = let z = at_rest c (omega arith) in cc

      held' : (c s : ℕ) → get_or first c blank ≡ keeps s → Dec (c < N.inputs) → Dec (c < N.inputs + opened) → get_or opened_book c unknown ≡ holds s
      held' c s e (yes p) d =
          let z = at_input c p in
          let same : c ≡ s = cc in
          book_at c (omega arith) ∙ rw (upto_not N.inputs opened c p) (book_input c p ∙ ap holds same)
      held' c s e (no q) (yes l) = let z = at_opened c (omega arith) l in cc
      held' c s e (no q) (no l) = let z = at_rest c (omega arith) in cc

  pub opening_fine : 1 ≤ opened → AllFine row (opening N opened row).code
  unfolding opening Fine
  opening_fine h =
      let set : FineSet row (upto N.inputs opened) = record {
        some_cell = omega (arith, length-upto N.inputs opened);
        rising = asc_upto N.inputs opened;
        inside = λ c m. let z = upto_in N.inputs opened c m in omega arith;
      } in
      All-cons (Fine row) (Set (upto N.inputs opened)) [] set (All-nil (Fine row))
