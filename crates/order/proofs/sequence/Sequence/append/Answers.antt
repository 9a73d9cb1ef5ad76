use Rattle.order.proofs.Marks.{room, longer, appended}
use Rattle.order.proofs.sequence.Sequence.append.Goals as goal

pub bounds-self-inside-self-inside : goal.bounds-self-inside-self-inside
bounds-self-inside-self-inside c = let p = c.self in
    room p.inside.done p.inside.seq p.inside.n c.args.s p.told.0 p.told.1 p.invariant c.requires.signal (rw (← p.view_is) at c.requires.fresh)

pub invariant_of-self : goal.invariant_of-self
invariant_of-self c = let p = c.self in
    appended p.inside.done p.inside.seq p.inside.n c.args.s p.told.0 p.told.1 p.invariant c.requires.signal (rw (← p.view_is) at c.requires.fresh)

pub returns : goal.returns
returns c = let p = c.self in
    rw (← p.view_is) (longer p.inside.done p.inside.seq p.inside.n c.args.s p.told.0 p.told.1 p.invariant c.requires.signal (rw (← p.view_is) at c.requires.fresh))
