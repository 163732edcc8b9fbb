-- What the parts of a run on its working grid ask follows from what it is given.
use Rattle.std.specs.declared.result.Result.{Result}
use Rattle.std.specs.declared.result.Result.TheVariants.{Ok}
use Rattle.std.specs.Result.{is_ok}
use Prim.Native.Nat.{ℕ, ◌*◌}
use mathlib.Core.Path.{◌≡◌, sym, ap, ◌∙◌}
use mathlib.Core.Bool.{Bool, true, ◌&&◌}
use mathlib.Core.List.{List}
use lib.ListN.{length}
use lib.Dec.{eqb}
use lib.Ieee.{Float}
use Rattle.grid.specs.Heights.{all_finite}
use Rattle.flood.specs.Slices.{AcceptedGrid}
use Rattle.flow.specs.Route.{Enough}
use Rattle.run_plans.proofs.InputLaws.{within_range, own_cells}
use Rattle.run_parts.specs.declared.Ended.{Ended}
use Rattle.run_parts.specs.Reached.{Reduced}
use Rattle.fluvial_loop.specs.declared.FluvialPlan.{FluvialPlan}
use Rattle.fluvial_grid.specs.Grids.{Scratch, Erodes}

module _ {w h dw dh : ℕ} {plan : FluvialPlan} {stop : ℕ} {map : List Float} {s : Scratch} (e : Erodes w h dw dh plan stop map s) where
  -- the slices of the loops, where n is the length of the heights
  pub erodes_enough : {n : ℕ} → n ≡ dw * dh
      → Enough (dw * dh) (record { heights = n; order = s.order; receivers = s.recv; spill = s.copy; areas = s.area; queue = s.queue; status = s.status })
  erodes_enough f =
      record { heights = f; order = e.order; receivers = e.recv; spill = e.copy; areas = e.area; queue = e.queue; status = e.status }

  -- the map may be routed where the working sides are its own
  pub erodes_map : {t : Bool} → t ≡ (eqb dw w && eqb dh h) → t ≡ true → AcceptedGrid dw dh map
  erodes_map f t = record { sides = within_range e.sides; cells = own_cells e.sides f t e.heights; finites = e.finites }

  -- and so may its averages, if they are finite
  pub erodes_averages : {small : List Float} (eroded : List Float) {x : Result (Unit {0}) Ended} {u : Unit {0}} → Reduced w h dw dh map (is_ok x) small eroded → x ≡ Ok u → length eroded ≡ s.eroded
      → AcceptedGrid dw dh eroded
  erodes_averages eroded r t f =
      record { sides = within_range e.sides; cells = f ∙ e.eroded; finites = ap all_finite r.started ∙ sym r.finites ∙ ap is_ok t }
