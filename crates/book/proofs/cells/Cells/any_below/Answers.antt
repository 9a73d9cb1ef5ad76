use Rattle.std.proofs.Common.{rules, tests, ◌+◌, ◌*◌, ltb, ◌∙◌, arith, refl}
use Rattle.std.proofs.lemmas.Iterator.{YieldsList-from_range}
use Rattle.std.proofs.lemmas.Iterator.Search.{any_from_yields_List}
use Rattle.lines.specs.Line.{byte_at}
use Rattle.book.proofs.Laws.{any_below}
use Rattle.book.proofs.cells.Cells.any_below.Goals as goal

pub returns : goal.returns
returns c =
    any_from_yields_List (λ j. ltb (byte_at c.args.self.now.text.now (c.args.self.now.first + 2 * j)) c.args.n) _ _ c.any.result c.any.ensures.ran (YieldsList-from_range 0 c.args.self.now.count c.args.self.now.count refl (omega arith)) (λ x b q k. search (rules, tests))
    ∙ any_below _ _ _ _
