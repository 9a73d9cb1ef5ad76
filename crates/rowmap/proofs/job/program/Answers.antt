use native.Mathlib.Omega.{arith}
use lib.ListN.{length}
use Rattle.rules.specs.Refusals.{number_of}
use Rattle.rowmap.proofs.Prints.{printed_most, prints_text, prints_refusal}
use Rattle.rowmap.proofs.job.program.Goals as goal

pub returns-in-Ok : goal.returns-in-Ok
returns-in-Ok c =
    let p = prints_text c.args.input.now c.args.out.now _ _ c.in-Ok.ensures in
    record { within = λ h. omega (arith, p.0, printed_most (length c.args.out.now) c.args.input.now h); long = p.0; printed = p.1 }

pub returns-in-Err : goal.returns-in-Err
returns-in-Err c =
    let p = prints_refusal c.args.input.now c.args.out.now _ (number_of c.in-Err.r) c.in-Err.ensures c.put_refusal.ensures in
    record { within = λ h. h; long = p.0; printed = p.1 }
