-- Demand 2: what the mapping rule answers. The statements are in specs/NoRoom, specs/Twice and specs/TrueOrder.
use Rattle.claims.specs.NoRoom.{NoRoomExactly, NoRoomOnly}
use Rattle.claims.specs.Twice.{TwiceAtMost}
use Rattle.claims.specs.TrueOrder.{OrderIsTrue}
use Rattle.claims.specs.Demands.{Demand2, ours}
use Rattle.claims.proofs.NoRoomExactly as room
use Rattle.claims.proofs.TwiceAtMost as twice
use Rattle.claims.proofs.OrderIsTrue as order
use Rattle.claims.proofs.ShutOut.{ours_meet}

-- 9 is answered exactly where there is no work cell, or a gate is met with no cell ready and none spent
pub no_room_exactly : NoRoomExactly
no_room_exactly = room.no_room_exactly

-- and nowhere else
pub no_room_only : NoRoomOnly
no_room_only = room.no_room_only

-- a mapping has at most twice as many instructions as the netlist has gates
pub twice_at_most : TwiceAtMost
twice_at_most = twice.twice_at_most

-- the order has each gate once, operands first
pub order_is_true : OrderIsTrue
order_is_true = order.order_is_true

-- the calls of document 01 do what document 01 says, on every input
pub demand2 : Demand2 ours
demand2 = ours_meet.demand2
