-- What an answer and a reading are as one number.
use Rattle.std.specs.Prelude.{ℕ, Result, Ok, Err}
use Prim.Native.Nat.{◌-◌, ◌%◌, ◌^◌}
use mathlib.Core.Path.{◌≡◌}
use mathlib.Core.List.{List}
use Rattle.rules.specs.declared.Refusal.{Refusal}
use Rattle.rules.specs.Form.{form01}
use Rattle.rules.specs.Refusals.{number_of, meaning, ◌>>=◌}
use Rattle.rules.specs.Netlist.{netlist_of}
use Rattle.netlist.specs.declared.Netlist.{Netlist}
use Rattle.netlist.specs.Flat.{reading_of}
use Rattle.calls.specs.Coded.{coded, read_answer}

module _ (a : Result ℕ Refusal) where
  pub value_coded : (n : ℕ) → a ≡ Ok n → n ≡ coded (meaning a)
  unfolding coded
  value_coded n e = rw e

  pub refusal_coded : (r : Refusal) (m : ℕ) → a ≡ Err r → m ≡ (2 ^ 64 - number_of r) % 2 ^ 64 → m ≡ coded (meaning a)
  unfolding coded
  refusal_coded r m e f = rw (e, f)

module _ (text : List ℕ) (r : Result Netlist Refusal) (e : reading_of r ≡ netlist_of form01 text) where
  pub read_well : (n : Netlist) → r ≡ Ok n → 0 ≡ coded (read_answer text)
  unfolding read_answer coded ◌>>=◌
  read_well n f = rw (← e, f)

  pub read_ill : (q : Refusal) (m : ℕ) → r ≡ Err q → m ≡ (2 ^ 64 - number_of q) % 2 ^ 64 → m ≡ coded (read_answer text)
  unfolding read_answer coded ◌>>=◌
  read_ill q m f g = rw (← e, f, g)
