-- The gate that is found by key is the gate that document 01's rule for the checker names.
use Rattle.std.proofs.Common.{ℕ, suc, ◌+◌, ◌-◌, ◌<◌, ◌≤◌, min, arith, ◌≡◌, refl, sym, ap, ◌∙◌, Bool, true, false, List, [], ◌∷◌, map, ltb, get_or, length, ltb-true, ltb-false, Some, None, ◌⊎◌, inl, inr}
use mathlib.Core.Option as maybe
use mathlib.Core.Option.{none, some}
use lib.ListN.{get_or-map}
use Rattle.std.proofs.lemmas.List.{nil_from_length}
use Rattle.rules.specs.Basics.{pick, mem, sort}
use Rattle.rules.specs.Book as rules
use Rattle.rules.specs.Book.{unknown, ready, holds, if_holds, signals, gate_with, gate_on}
use Rattle.rules.proofs.Laws.{no_way, cons_cases, cons_more, cons_self, mem-nil, gate_with_spec}
use Rattle.lines.specs.Line.{bytes_from}
use Rattle.instruction.specs.declared.Instruction.{Instruction}
use Rattle.instruction.specs.Line.{instruction_in}
use Rattle.row.proofs.Judging.{length-bytes}
use Rattle.netlist.specs.declared.Netlist.{Netlist}
use Rattle.netlist.specs.Flat.{gates_in, netlist_in}
use Rattle.netlist.specs.Well.{Well}
use Rattle.netlist.specs.Keys.{keys_in, found_gate}
use Rattle.netlist.proofs.FlatWell.{flat}
use Rattle.netlist.proofs.Finding.{finds}
use Rattle.index.specs.declared.Chains.{Chains}
use Rattle.index.specs.Chains.{key_of, chained, found_in}
use Rattle.book.specs.declared.Book.{Book}
use Rattle.book.specs.Cells.{book_in}
use Rattle.book.specs.Steps.{gate_in, gate_for}
use Rattle.checker.specs.declared.gates.Gates.{Gates}
use Rattle.checker.specs.Operands.{key_over, low_cell}
use Rattle.checker.proofs.Gathering.{sort_long}
use Rattle.checker.proofs.Finding.{none_with, Low, mem-sort, low_at}

-- ---- operands as many as the line names

signals_long : (book : List rules.Cell) (os ss : List ℕ) → signals book os ≡ some ss → length ss ≡ length os
unfolding signals
signals_long book [] ss e = let z : [] ≡ ss = cc in rw (← z)
signals_long book (c ∷ os) ss e = go (get_or book c unknown) (signals book os) refl e (signals_long book os)
  where
    go : (x : rules.Cell) (o : maybe.Option (List ℕ)) → signals book os ≡ o → if_holds x o ≡ some ss → ((t : List ℕ) → signals book os ≡ some t → length t ≡ length os) → length ss ≡ suc (length os)
    go unknown o q f r = absurd (no_way (cc))
    go ready o q f r = absurd (no_way (cc))
    go (holds s) none q f r = absurd (no_way (cc))
    go (holds s) (some t) q f r = let z : s ∷ t ≡ ss = cc in sym (ap length z) ∙ ap suc (r t q)

-- ---- operand cells whose signals are low

lows_at : (book : List rules.Cell) (c : ℕ) → get_or (map low_cell book) c unknown ≡ low_cell (get_or book c unknown)
unfolding low_cell
lows_at book c = get_or-map low_cell book c unknown

-- where each operand cell holds a low signal, these are the operand signals
low_same : (book : List rules.Cell) (os ss : List ℕ) → signals (map low_cell book) os ≡ some ss → (signals book os ≡ some ss) × Low ss
unfolding signals low_cell if_holds pick
low_same book [] ss e = let z : [] ≡ ss = cc in (e, λ o m. absurd (mem-nil o (rw (← z) at m)))
low_same book (c ∷ os) ss e = go (get_or book c unknown) (signals (map low_cell book) os) refl (rw (lows_at book c) at e) (low_same book os)
  where
    Rest : Type 0
    Rest = (t : List ℕ) → signals (map low_cell book) os ≡ some t → (signals book os ≡ some t) × Low t

    held : (s : ℕ) (b : Bool) (o : maybe.Option (List ℕ)) → ltb s 1024 ≡ b → signals (map low_cell book) os ≡ o → if_holds (pick b (holds s) unknown) o ≡ some ss → Rest
        → (if_holds (holds s) (signals book os) ≡ some ss) × Low ss
    held s true none l q f r = absurd (no_way (cc))
    held s true (some t) l q f r =
        let z : s ∷ t ≡ ss = cc in
        let y = r t q in
        (rw y.0 f, λ o m. cons_cases (o < 1024) o s t (rw (← z) at m) (λ p. omega (arith, p, ltb-true s 1024 l)) (λ p. y.1 o p))
    held s false o l q f r = absurd (no_way (cc))

    go : (x : rules.Cell) (o : maybe.Option (List ℕ)) → signals (map low_cell book) os ≡ o → if_holds (low_cell x) o ≡ some ss → Rest
        → (if_holds x (signals book os) ≡ some ss) × Low ss
    go unknown o q f r = absurd (no_way (cc))
    go ready o q f r = absurd (no_way (cc))
    go (holds s) o q f r = held s (ltb s 1024) o refl q f r

-- where one does not, an operand cell holds no signal or one that is past 1023
past_one : (book : List rules.Cell) (os ss : List ℕ) → signals (map low_cell book) os ≡ none → signals book os ≡ some ss → (s : ℕ) × (mem s ss ≡ true) × (1024 ≤ s)
unfolding signals low_cell if_holds pick
past_one book [] ss e f = absurd (no_way (cc))
past_one book (c ∷ os) ss e f = go (get_or book c unknown) (signals book os) refl (rw (lows_at book c) at e) f (past_one book os)
  where
    Rest : Type 0
    Rest = (t : List ℕ) → signals (map low_cell book) os ≡ none → signals book os ≡ some t → (s : ℕ) × (mem s t ≡ true) × (1024 ≤ s)

    held : (s : ℕ) (t : List ℕ) (b : Bool) (o : maybe.Option (List ℕ)) → ltb s 1024 ≡ b → signals (map low_cell book) os ≡ o → signals book os ≡ some t
        → if_holds (pick b (holds s) unknown) o ≡ none → s ∷ t ≡ ss → Rest → (s : ℕ) × (mem s ss ≡ true) × (1024 ≤ s)
    held s t true none l p q g z r = let y = r t p q in (y.0, rw (← z) (cons_more y.0 s t y.1), y.2)
    held s t true (some u) l p q g z r = absurd (no_way (cc))
    held s t false o l p q g z r = (s, rw (← z) (cons_self s t), ltb-false s 1024 l)

    go : (x : rules.Cell) (o : maybe.Option (List ℕ)) → signals book os ≡ o → if_holds (low_cell x) (signals (map low_cell book) os) ≡ none → if_holds x o ≡ some ss → Rest
        → (s : ℕ) × (mem s ss ≡ true) × (1024 ≤ s)
    go unknown o q g h r = absurd (no_way (cc))
    go ready o q g h r = absurd (no_way (cc))
    go (holds s) none q g h r = absurd (no_way (cc))
    go (holds s) (some t) q g h r = let z : s ∷ t ≡ ss = cc in held s t (ltb s 1024) (signals (map low_cell book) os) refl refl q g z r

-- ---- the gate

module _ (n : Netlist) (w : Well (netlist_in n)) where
  abbrev gates : List (List ℕ)
  gates = gates_in n.ops n.counts n.gates

  -- no gate has no operand, more than four, or one past 1023
  none_empty : gate_with [] n.inputs gates ≡ none
  unfolding netlist_in
  none_empty = none_with [] n.inputs gates (λ j u e. omega (arith, w.lines.some j u, ap length e))

  none_long : (l : List ℕ) → 4 < length l → gate_with l n.inputs gates ≡ none
  unfolding netlist_in
  none_long l h = none_with l n.inputs gates (λ j u e. omega (arith, w.lines.few j, ap length e))

  none_past : (l : List ℕ) (s : ℕ) → mem s l ≡ true → 1024 ≤ s → gate_with l n.inputs gates ≡ none
  unfolding netlist_in
  none_past l s m h = none_with l n.inputs gates (λ j u e. omega (arith, w.lines.lower j s (rw e m), w.lines.inputs_most, w.lines.gates_most))

  gate_small : (o : maybe.Option (List ℕ)) (x : ℕ) → gate_on (netlist_in n) o ≡ some x → x < 576
  unfolding gate_on netlist_in
  gate_small none x e = absurd (no_way (cc))
  gate_small (some ss) x e = let p = gate_with_spec (sort ss) n.inputs gates x e in omega (arith, p.1, p.2, w.lines.inputs_most, w.lines.gates_most)

  -- the gate that the chains have for the key of an operand list
  by_key : (keys : List ℕ) (ch : Chains) → keys ≡ keys_in n → ch ≡ chained keys (min n.gates 512) → (l : List ℕ) → length l ≤ 4 → Low l
      → found_gate n.inputs (found_in keys ch (key_of l)) ≡ gate_with l n.inputs gates
  unfolding netlist_in
  by_key keys ch keyed linked l few low = rw (linked, keyed) (finds n (flat n w.lines) w.single l few (low_at l low))

module _ (gs : Gates) (b : Book) (text : List ℕ) (i : Instruction) where
  abbrev n : Netlist
  n = gs.netlist.now

  abbrev pub told : maybe.Option ℕ
  told = gate_for (netlist_in n) (instruction_in text i) (book_in b)

  abbrev os : List ℕ
  os = bytes_from text (i.first + 2) (i.cells - 1)

  abbrev pub held : maybe.Option (List ℕ)
  held = signals (map low_cell (book_in b)) os

  pub made_set : i.set ≡ true → gate_in None ≡ told
  unfolding gate_in gate_for instruction_in pick
  made_set e = rw e

  module _ (nor : i.set ≡ false) where
    told_is : (o : maybe.Option (List ℕ)) → signals (book_in b) os ≡ o → told ≡ gate_on (netlist_in n) o
    unfolding gate_for instruction_in pick
    told_is o e = rw (nor, e)

    -- of too few operands or of too many
    pub made_odd : (i.cells < 2) ⊎ (5 < i.cells) → gate_in None ≡ told
    unfolding gate_in gate_on netlist_in
    made_odd h = sym (told_is (signals (book_in b) os) refl ∙ go (signals (book_in b) os) refl)
      where
        some_list : (ss : List ℕ) → length ss ≡ i.cells - 1 → (i.cells < 2) ⊎ (5 < i.cells) → gate_with (sort ss) n.inputs (gates n gs.well) ≡ none
        some_list ss l (inl u) = rw (nil_from_length (sort ss) (omega (arith, sort_long ss))) (none_empty n gs.well)
        some_list ss l (inr u) = none_long n gs.well (sort ss) (omega (arith, sort_long ss))

        go : (o : maybe.Option (List ℕ)) → signals (book_in b) os ≡ o → gate_on (netlist_in n) o ≡ none
        go none e = refl
        go (some ss) e = some_list ss (signals_long (book_in b) os ss e ∙ length-bytes text (i.first + 2) (i.cells - 1)) h

    -- an operand cell holds no signal, or one that is no netlist's
    pub made_unheld : None ≡ key_over held → gate_in None ≡ told
    unfolding gate_in key_over gate_on netlist_in
    made_unheld e = sym (told_is (signals (book_in b) os) refl ∙ go (signals (book_in b) os) refl held refl e)
      where
        go : (o : maybe.Option (List ℕ)) → signals (book_in b) os ≡ o → (l : maybe.Option (List ℕ)) → held ≡ l → None ≡ key_over l → gate_on (netlist_in n) o ≡ none
        go none q l p e = refl
        go (some ss) q none p e = let y = past_one (book_in b) os ss p q in none_past n gs.well (sort ss) y.0 (mem-sort y.0 ss ∙ y.1) y.2
        go (some ss) q (some t) p e = absurd (no_way (cc))

    module _ (few : i.cells ≤ 5) (key : ℕ) (read : Some key ≡ key_over held) where
      found_is : found_gate n.inputs (found_in gs.keys gs.chains key) ≡ told
      unfolding key_over gate_on netlist_in
      found_is = go held refl read
        where
          go : (l : maybe.Option (List ℕ)) → held ≡ l → Some key ≡ key_over l → found_gate n.inputs (found_in gs.keys gs.chains key) ≡ told
          go none p e = absurd (no_way (cc))
          go (some ss) p e =
              let y = low_same (book_in b) os ss p in
              let z : length (sort ss) ≡ i.cells - 1 = sort_long ss ∙ signals_long (map low_cell (book_in b)) os ss p ∙ length-bytes text (i.first + 2) (i.cells - 1) in
              let k : key ≡ key_of (sort ss) = cc in
              let q = by_key n gs.well gs.keys gs.chains gs.keyed gs.linked (sort ss) (omega arith) (λ o m. y.1 o (sym (mem-sort o ss) ∙ m)) in
              ap (λ x. found_gate n.inputs (found_in gs.keys gs.chains x)) k ∙ q ∙ sym (told_is (some ss) y.0)

      module _ (g : ℕ) (found : Some g ≡ found_in gs.keys gs.chains key) where
        pub made_gate : gate_in (Some (n.inputs + g)) ≡ told
        unfolding gate_in found_gate
        made_gate = rw (← found) at found_is

        -- it is a signal of the netlist
        pub made_small : n.inputs + g < 576
        unfolding gate_in
        made_small = gate_small n gs.well (signals (book_in b) os) (n.inputs + g) (sym (told_is (signals (book_in b) os) refl) ∙ sym made_gate)

      pub made_missing : None ≡ found_in gs.keys gs.chains key → gate_in None ≡ told
      unfolding gate_in found_gate
      made_missing found = rw (← found) at found_is
