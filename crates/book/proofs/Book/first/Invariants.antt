use Rattle.std.proofs.Common.{◌≡◌}
use Rattle.book.proofs.Laws.{begun}
use Rattle.book.proofs.Book.first.Given as goal

abbrev pub invariant-loop-s : goal.invariant-loop-s
invariant-loop-s l = l.cells ≡ begun l.s
