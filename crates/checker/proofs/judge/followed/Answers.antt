use Rattle.std.proofs.Common.{rules, ◌≡◌, Err}
use Rattle.checker.proofs.Answering.{outputs_few, listed_few, inputs_same, follow_refused, follow_misplaced, follow_passed}
use Rattle.checker.proofs.judge.followed.Goals as goal

pub worked-requires : goal.worked-requires
worked-requires c = inputs_same _ _ _ c.requires _ c.of-gates.ensures _ c.first-book.ensures

pub returns-in_err-worked : goal.returns-in_err-worked
returns-in_err-worked c =
    let e : c.from_residual.result ≡ Err c.in_err-worked.field-0.0 = search rules in
    rw e (follow_refused _ _ _ c.requires _ c.of-gates.ensures _ _ _ c.first-book.ensures c.worked.ensures _ c.in_err-worked.was)

pub hold-requires : goal.hold-requires
hold-requires c = listed_few _ _ _ c.requires _ (c.output_list.ensures.held (outputs_few _ _ _ c.requires))

pub returns-then-not-hold : goal.returns-then-not-hold
returns-then-not-hold c =
    follow_misplaced _ _ _ c.requires _ c.of-gates.ensures _ _ _ c.first-book.ensures c.worked.ensures c.in_ok-worked.was _ (c.output_list.ensures.held (outputs_few _ _ _ c.requires)) _ c.hold.ensures c.if-not-hold.true

pub returns : goal.returns
returns c =
    follow_passed _ _ _ c.requires _ c.of-gates.ensures _ _ _ c.first-book.ensures c.worked.ensures c.in_ok-worked.was _ (c.output_list.ensures.held (outputs_few _ _ _ c.requires)) _ c.hold.ensures c.if-not-hold.false
