use Rattle.std.proofs.Common.{rules}
use Rattle.book.proofs.Judging.{nor_passed}
use Rattle.book.proofs.Book.nor.Goals as goal

pub returns : goal.returns
returns c = nor_passed _ _ _ _ _ c.from.ensures c.if-from-self.false _ c.cell.ensures _ _ (search rules) c.in-Some.is c.put.ensures
