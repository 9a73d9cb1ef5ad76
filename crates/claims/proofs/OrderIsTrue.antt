-- The order of every netlist that reads well is a true order.
-- Assumes nothing.
use Rattle.std.proofs.Common.{[], ◌∷◌, ◌++◌, length}
use Rattle.std.specs.Cmp.{both_ways}
use Rattle.rules.specs.Basics.{mem}
use Rattle.rules.specs.Form.{form01}
use Rattle.rules.specs.Netlist.{Netlist, gate_signals}
use Rattle.rules.specs.Order.{visit_order, order}
use Rattle.claims.specs.TrueOrder.{TrueOrder, OrderIsTrue}
use Rattle.rules.proofs.Lists.{upto_mem, upto_in}
use Rattle.claims.proofs.Visits.{Runs, runs_before}
use Rattle.rules.proofs.Reading.{Well, netlist_read}
use Rattle.claims.proofs.Whole.{order_runs, order_gates, order_all, order_operand}
use Rattle.claims.proofs.Once.{runs_once, order_length}

pub well_ordered : (N : Netlist) → Well N → TrueOrder N (order N)
unfolding gate_signals
well_ordered N W = record {
  once = runs_once (visit_order N) [] (order N) (order_runs N W);
  as_many = order_length N W;
  the_gates = λ s. both_ways (mem s (order N)) (mem s (gate_signals N))
      (λ e. let g = order_gates N W s e in upto_mem N.inputs (length N.gates) s g.0 g.1)
      (λ e. order_all N W s (upto_in N.inputs (length N.gates) s e));
  operands_first = λ before after g o e m h.
      let r : Runs (visit_order N) [] (before ++ (g ∷ after)) = rw e at (order_runs N W) in
      runs_before (visit_order N) [] before g o after r (order_operand N W g o m h);
}

pub order_is_true : OrderIsTrue
order_is_true text N e = well_ordered N (netlist_read form01 text N e).0
