-- The library's own entry points: the lines, then a line too many, then 6, then 7.
use Prim.Native.Nat.{ℕ}
use mathlib.Core.Path.{◌≡◌, refl}
use mathlib.Core.Bool.{Bool, true, false, not, ◌||◌}
use mathlib.Core.List.{List}
use Rattle.std.specs.Prelude.{drop, Ok, Err}
use Rattle.rules.specs.declared.Refusal.{Refusal}
use Rattle.rules.specs.declared.Refusal.TheVariants.{Unused, Twins}
use Rattle.rules.specs.Basics.{repeats}
use Rattle.rules.specs.Form.{form01}
use Rattle.rules.specs.Refusals.{number_of, good, refused, ◌>>=◌, ◌>>◌, require}
use Rattle.rules.specs.Netlist as rules
use Rattle.rules.specs.Netlist.{netlist_lines, netlist_of, well_formed, all_used, twins}
use Rattle.lines.specs.Line.{ends_at}
use Rattle.lines.proofs.Meaning.{ends_good, ends_refused}
use Rattle.netlist.specs.declared.Netlist.{Netlist}
use Rattle.netlist.specs.Flat.{netlist_in, formed_of, front_of, any_twins}
use Rattle.netlist.proofs.FlatWell.{lines_flat}

-- ---- 6, then 7

module _ (n : Netlist) where
  pub formed_unused : false ≡ all_used (netlist_in n) → formed_of n (Err Unused) ≡ well_formed (netlist_in n)
  unfolding well_formed require ◌>>◌
  formed_unused e = rw (← e)

  module _ (e : true ≡ all_used (netlist_in n)) where
    pub formed_twins : true ≡ any_twins (netlist_in n) → formed_of n (Err Twins) ≡ well_formed (netlist_in n)
    unfolding well_formed any_twins require ◌>>◌
    formed_twins f = rw (← e) (go (twins (netlist_in n).gates) (repeats (netlist_in n).outputs) f)
      where
        go : (t o : Bool) → true ≡ (t || o) → refused 7 ≡ (require (not t) 7 >> (require (not o) 7 >> good (netlist_in n)))
        go true o f = refl
        go false true f = refl
        go false false f = cc

    pub formed_good : false ≡ any_twins (netlist_in n) → formed_of n (Ok tt) ≡ well_formed (netlist_in n)
    unfolding well_formed any_twins require ◌>>◌
    formed_good f = rw (← e) (go (twins (netlist_in n).gates) (repeats (netlist_in n).outputs) f)
      where
        go : (t o : Bool) → false ≡ (t || o) → good (netlist_in n) ≡ (require (not t) 7 >> (require (not o) 7 >> good (netlist_in n)))
        go true o f = cc
        go false true f = cc
        go false false f = refl

-- ---- after the lines

module _ (text : List ℕ) where
  module _ (r : ℕ) (w : refused r ≡ netlist_lines form01 text) where
    pub front_refused : refused r ≡ front_of text
    unfolding front_of ◌>>=◌
    front_refused = rw (← w)

    pub read_refused : refused r ≡ netlist_of form01 text
    unfolding netlist_of ◌>>=◌
    read_refused = rw (← w)

  module _ (N : rules.Netlist) (place : ℕ) (w : good (record { got = N; tail = drop place text }) ≡ netlist_lines form01 text) where
    pub front_ill : (r : ℕ) → refused r ≡ well_formed N → refused r ≡ front_of text
    unfolding front_of ◌>>=◌
    front_ill r e = rw (← w, ← e)

    pub front_formed : good N ≡ well_formed N → good (record { got = N; tail = drop place text }) ≡ front_of text
    unfolding front_of ◌>>=◌
    front_formed e = rw (← w, ← e)

    pub ended_not : (r : Refusal) → ends_at text place ≡ Err r → refused (number_of r) ≡ netlist_of form01 text
    unfolding netlist_of ◌>>=◌ ◌>>◌
    ended_not r e = rw (← w, ends_refused text place r e)

    module _ (ended : ends_at text place ≡ Ok tt) where
      pub read_ill : (r : ℕ) → refused r ≡ well_formed N → refused r ≡ netlist_of form01 text
      unfolding netlist_of ◌>>=◌ ◌>>◌
      read_ill r e = rw (← w, ends_good text place ended, ← e)

      pub read_formed : good N ≡ well_formed N → good N ≡ netlist_of form01 text
      unfolding netlist_of ◌>>=◌ ◌>>◌
      read_formed e = rw (← w, ends_good text place ended, ← e)

-- what `well_formed` is proved by
pub ruleset formed_rules = (formed_unused, formed_twins, formed_good)

-- what `read_front` is proved by
pub ruleset front_rules = (lines_flat, front_refused, front_ill, front_formed)

-- what `read` is proved by
pub ruleset read_rules = (lines_flat, read_refused, ended_not, read_ill, read_formed)
