use Rattle.std.proofs.Common.{rules, tests}
use Rattle.std.proofs.lemmas.Result.{err_from_is_err_and}
use Rattle.rules.specs.Form.{form01}
use Rattle.rules.specs.Sequence.{instruction_of, place_of}
use Rattle.row.specs.Answers.{line_answer}
use Rattle.row.proofs.Whole.{head_ends, instructions_end, places_end, text_goes_on, read_whole}
use Rattle.row.proofs.read.Goals as goal

pub returns-in_default : goal.returns-in_default
returns-in_default c = head_ends _ _ (rw c.unwrap_err.ensures at c.head_line-l.ensures.means)

pub returns-in_err-places : goal.returns-in_err-places
returns-in_err-places c =
    let p = err_from_is_err_and c.from_residual.result c.from_residual.ensures.1 in
    let t = c.args.text.now in
    let row = c.in-Ok.head.row in
    rw (p.1, p.2) (instructions_end t _ c.in-Ok.ensures.means c.in-Ok.ensures.long _
    (c.in_err-places.ensures (λ at. line_answer (instruction_of form01 row) t at) (λ at r fits post. search (rules, tests))))

pub returns-in_err-end : goal.returns-in_err-end
returns-in_err-end c =
    let p = err_from_is_err_and c.from_residual-in_err-end.result c.from_residual-in_err-end.ensures.1 in
    let t = c.args.text.now in
    let row = c.in-Ok.head.row in
    rw (p.1, p.2) (places_end t _ c.in-Ok.ensures.means c.in-Ok.ensures.long _
    (c.in_ok-places.ensures (λ at. line_answer (instruction_of form01 row) t at) (λ at r fits post. search (rules, tests))) _
    (c.in_err-end.ensures (λ at. line_answer (place_of form01 row) t at) (λ at r fits post. search (rules, tests))))

pub returns-in_err-ends : goal.returns-in_err-ends
returns-in_err-ends c =
    let p = err_from_is_err_and c.from_residual-in_err-ends.result c.from_residual-in_err-ends.ensures.1 in
    let t = c.args.text.now in
    let row = c.in-Ok.head.row in
    rw (p.1, p.2) (text_goes_on t _ c.in-Ok.ensures.means c.in-Ok.ensures.long _
    (c.in_ok-places.ensures (λ at. line_answer (instruction_of form01 row) t at) (λ at r fits post. search (rules, tests))) _
    (c.in_ok-end.ensures (λ at. line_answer (place_of form01 row) t at) (λ at r fits post. search (rules, tests))) _ c.in_err-ends.ensures)

pub returns : goal.returns
returns c =
    let t = c.args.text.now in
    let row = c.in-Ok.head.row in
    read_whole t _ c.in-Ok.ensures.means c.in-Ok.ensures.long _
    (c.in_ok-places.ensures (λ at. line_answer (instruction_of form01 row) t at) (λ at r fits post. search (rules, tests))) _
    (c.in_ok-end.ensures (λ at. line_answer (place_of form01 row) t at) (λ at r fits post. search (rules, tests))) c.in_ok-ends.ensures
