-- Demand 3: what the checker passes, the row does; and what is mapped passes. The statements are in specs/Defended and specs/Passes.
use Rattle.claims.specs.Defended.{Defended}
use Rattle.claims.specs.Passes.{MappedPasses, HeadCounts}
use Rattle.claims.specs.Demands.{Demand3, ours}
use Rattle.claims.proofs.Defended as run
use Rattle.claims.proofs.MappedPasses as mapping
use Rattle.claims.proofs.ShutOut.{ours_meet}

-- for all texts that check passes, every row and every budget that lets the sequence end, the run is right
pub defended : Defended
defended = run.defended

-- every text that map answers is passed by check
pub mapped_passes : MappedPasses
mapped_passes = mapping.mapped_passes

-- with the number of instructions that its head states
pub head_counts : HeadCounts
head_counts = mapping.head_counts

-- both, of the calls of document 01
pub demand3 : Demand3 ours
demand3 = ours_meet.demand3
