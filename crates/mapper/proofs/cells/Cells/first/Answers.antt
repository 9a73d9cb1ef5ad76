use native.Mathlib.Omega.{arith}
use mathlib.Core.Path.{◌≡◌, ap, ◌∙◌}
use lib.ListN.{replicate, length, length-replicate, take}
use lib.Seq.{length-take-le}
use Rattle.std.proofs.lemmas.List.{drop-replicate}
use Rattle.mapper.specs.declared.cells.Hold.{Hold}
use Rattle.mapper.specs.declared.cells.Hold.TheVariants.{Spent, Keeps}
use Rattle.mapper.specs.Held.{first_held}
use Rattle.mapper.proofs.cells.Cells.first.Goals as goal

pub returns : goal.returns
unfolding first_held
returns c =
    let all : length (replicate {A = Hold} 256 Spent) ≡ 256 = length-replicate 256 Spent in
    let n : length (take c.args.inputs (replicate {A = Hold} 256 Spent)) ≡ c.args.inputs = length-take-le _ _ (omega (arith, all)) in
    let e : c.fill.new.self ≡ replicate c.args.inputs Keeps = c.fill.ensures.after (λ y h. h) ∙ ap (λ k. replicate k Keeps) n in
    rw (e, drop-replicate)
