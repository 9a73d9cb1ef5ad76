-- The lines behind the head: from the plan and the run to the rule's mapping.
-- Assumes nothing.
use Prim.Native.Nat.{ℕ, ◌*◌, ◌≤◌}
use native.Mathlib.Omega.{arith}
use mathlib.Core.Path.{◌≡◌, refl, sym, ap, ◌∙◌}
use mathlib.Core.List.{List, [], ◌∷◌, ◌++◌, map}
use borrow.Author.Tests.{lt-ltb, le-ltb}
use lib.ListN.{length, length-append, length-map, take}
use lib.Seq.{length-take-le}
use Rattle.rules.specs.Basics.{pick}
use Rattle.rules.specs.Form.{form01}
use Rattle.rules.specs.Refusals.{Res, good, refused, ◌>>=◌, ◌>>◌, require}
use Rattle.rules.specs.Sequence.{place_text, texts}
use Rattle.rules.specs.Order.{order}
use Rattle.rules.specs.Cells.{State, cell_of}
use Rattle.rules.specs.Mapping.{sequence_from, mapped_by, mapped}
use Rattle.netlist.specs.declared.Netlist.{Netlist}
use Rattle.netlist.specs.Flat.{from, netlist_in}
use Rattle.netlist.proofs.Arrays.{length_from}
use Rattle.order.specs.declared.Plan.{Plan}
use Rattle.order.specs.Plan.{order_in, wanted_in}
use Rattle.order.proofs.Orders.{order_steps}
use Rattle.order.proofs.Bounds.{flat_fits, well_flat}
use Rattle.mapper.specs.declared.cells.Cells.{Cells}
use Rattle.mapper.specs.declared.signals.Signals.{Signals}
use Rattle.mapper.specs.Held.{first_cells}
use Rattle.mapper.specs.Text.{entry}
use Rattle.mapper.proofs.Writing.{place_length}
use Rattle.mapper.specs.Wanted.{Wanted}
use Rattle.mapper.specs.Run.{opened, ran, Seated, Mapped, Runnable}
use Rattle.mapper.specs.Whole.{Due, body_text, Bodied}

places_long : (cs : List ℕ) → length (texts (place_text form01) cs) ≡ 5 * length cs
unfolding texts
places_long [] = refl
places_long (c ∷ cs) = length-append (place_text form01 c) (texts (place_text form01) cs) ∙ omega (arith, place_length c, places_long cs)

pub body_no_row : (n : Netlist) (row : ℕ) → row ≤ n.inputs → mapped (netlist_in n) row ≡ refused 9
unfolding mapped netlist_in ◌>>◌ require
body_no_row n row h = rw (le-ltb n.inputs row h)

module _ (n : Netlist) (row : ℕ) {plan : Plan} (d : Due n row plan) where
  plan_order : take plan.count plan.seq ≡ order (netlist_in n)
  unfolding order_in pick
  plan_order = d.planned.order ∙ rw (well_flat n d.well)

  plan_wanted : Wanted n [] plan.left
  unfolding wanted_in pick
  plan_wanted = record { is = λ s. d.planned.wanted s ∙ rw (well_flat n d.well) }

  module _ {st₀ : Cells} (f : st₀ ≡ first_cells n.inputs row) where
    row_is : st₀.row ≡ row
    row_is = ap (λ (c : Cells). c.row) f

    -- what the run is handed
    pub plan_runnable : plan.count ≤ length plan.seq → {g : Signals} → Seated n.inputs plan.left g → {text : List ℕ} → text ≡ [] → Runnable n st₀.row (take plan.count plan.seq) st₀ g text
    plan_runnable l s e = record {
      well = d.well;
      room = rw row_is d.room;
      size = rw row_is d.size;
      most = omega (arith, length-take-le plan.count plan.seq l, d.planned.fits);
      steps = rw plan_order (order_steps n (flat_fits n (well_flat n d.well)));
      wanted = rw s.left_is plan_wanted;
      first = f ∙ ap (first_cells n.inputs) (sym row_is);
      seated = record { inputs_are = s.inputs_are; inputs_in = s.inputs_in; others = s.others; left_is = refl; wide = s.wide };
      empty = e;
    }

    -- the rule's mapping, by the run
    mapped_is : {r : Res State} → ran n st₀.row (take plan.count plan.seq) ≡ r
        → mapped (netlist_in n) row ≡ (r >>= λ end. good (sequence_from (netlist_in n) row end))
    unfolding mapped mapped_by ran opened netlist_in ◌>>◌ require
    mapped_is {r} e = rw (lt-ltb n.inputs row d.room) (ap (λ x. x >>= λ end. good (sequence_from (netlist_in n) row end)) (rw (row_is, plan_order) at e))

    pub body_none : {r : ℕ} → ran n st₀.row (take plan.count plan.seq) ≡ refused r → mapped (netlist_in n) row ≡ refused r
    unfolding ◌>>=◌
    body_none e = mapped_is e

    pub body_some : {st : Cells} {g : Signals} {text text' : List ℕ} → Mapped n st₀.row (take plan.count plan.seq) st g text
        → text' ≡ text ++ texts (place_text form01) (map (entry g.table) (from n.outs 0 n.outputs)) → Bodied n row text' st.lines
    unfolding ◌>>=◌ body_text sequence_from netlist_in
    body_some {st} {g} {text} x e =
        record {
          sequence = sequence_from (netlist_in n) row x.end;
          is = mapped_is x.is;
          rows = refl;
          inputs = refl;
          outputs = length_from n.outs 0 n.outputs;
          text_is = e ∙ rw (x.text_is, same (from n.outs 0 n.outputs));
          count = x.count;
          short = rw e
              (omega (
                arith,
                x.short,
                length-append text (texts (place_text form01) (map (entry g.table) (from n.outs 0 n.outputs))),
                places_long (map (entry g.table) (from n.outs 0 n.outputs)),
                length-map (from n.outs 0 n.outputs) (entry g.table),
                length_from n.outs 0 n.outputs,
                d.well.outputs_most,
              ));
          few = x.few;
        }
      where
        same : (l : List ℕ) → map (entry g.table) l ≡ map (cell_of x.end.slots) l
        same [] = refl
        same (o ∷ l) = rw (x.table o, same l)
