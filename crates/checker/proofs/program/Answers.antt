use Rattle.std.proofs.Common.{rules, ◌≡◌, ◌∙◌, ap, sym, length}
use Rattle.std.proofs.lemmas.List.Edits.{sets}
use Rattle.rules.specs.Refusals.{number_of}
use Rattle.rules.specs.Programs.{refusal_line}
use Rattle.rules.specs.Calls.{rowcheck_output}
use Rattle.checker.proofs.Calling.{refusal_long, output_refused}
use Rattle.checker.proofs.program.Goals as goal

pub returns-in-Err : goal.returns-in-Err
returns-in-Err c =
    let e : rowcheck_output c.args.input.now ≡ refusal_line (number_of c.in-Err.r) = output_refused _ _ (search rules) c.check_after.ensures _ c.in-Err.is in
    (sym (ap length e ∙ refusal_long _), c.put_refusal-in-Err.ensures ∙ ap (sets c.args.out.now 0) (sym e))
