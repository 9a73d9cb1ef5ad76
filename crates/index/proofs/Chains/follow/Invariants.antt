use Rattle.std.proofs.Common.{◌≡◌, ◌-◌}
use Rattle.index.specs.Chains.{follows}
use Rattle.index.proofs.Chains.follow.Given as goal

abbrev pub invariant-loop-turn : goal.invariant-loop-turn
invariant-loop-turn l = follows l.keys l.self.next l.key (512 - l._turn) l.c ≡ follows l.keys l.self.next l.key 512 l.link
