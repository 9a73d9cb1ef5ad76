use Rattle.std.proofs.Common.{◌∙◌, sym}
use Rattle.book.proofs.Judging.{set_passed}
use Rattle.book.proofs.Book.set.Goals as goal

pub returns : goal.returns
returns c = set_passed _ _ _ _ (sym c.if-any_below.false ∙ c.any_below.ensures) c.make_ready.ensures
