use Rattle.std.proofs.Common.{◌≡◌}
use Rattle.book.proofs.Laws.{readied}
use Rattle.book.proofs.Book.make_ready.Given as goal

abbrev pub invariant-loop-j : goal.invariant-loop-j
invariant-loop-j l = l.self ≡ readied l.initial.self l.cells.text.now l.cells.first l.j
