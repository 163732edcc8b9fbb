-- A routing of finite binary32 heights on a grid in range with a base cell is drained along any work list of its
-- receivers.
use Prim.Native.Nat.{ℕ, ◌*◌, ◌<◌}
use mathlib.Core.Path.{◌≡◌, refl, sym, ◌∙◌}
use mathlib.Core.Bool.{Bool, true, false}
use mathlib.Core.List.{List}
use lib.ListN.{get_or}
use lib.Dec.{eqb}
use lib.Ieee.{Float}
use borrow.Author.Tests.{eq-eqb, ne_eqb}
use Rattle.loops.proofs.TestLaws.{clash}
use Rattle.float_order.specs.Order.{rank}
use Rattle.grid.specs.Sides.{InRange}
use Rattle.grid.specs.Heights.{all_finite}
use Rattle.grid.proofs.SidesLaws.{cells_bound}
use Rattle.drainage.specs.Ground.{floats, grid_ground, no_base}
use Rattle.drainage.specs.declared.Land.{Land}
use Rattle.drainage.specs.Ways.{WorkList, area_of}
use Rattle.drainage.specs.Theorems.{Network, CountedAreas}
use Rattle.drainage.proofs.GroundLaws.{grid_networks}
use Rattle.drainage.proofs.AreaLaws.{areas}
use Rattle.loops.proofs.CountLaws.{sum_by}
use Rattle.drainage.specs.Routing.{order_on, receivers_on}
use Rattle.run_machine.specs.Demand3.{Drained}
use Rattle.run_machine.proofs.SoundLaws.{Sized}

module _ (w h : ℕ) (land : Land) (range : InRange w h) (hs : List Float) (sized : Sized (w * h) hs) (all : all_finite hs ≡ true) (some : no_base (grid_ground w h land hs) ≡ false) where
  net : Network floats (grid_ground w h land hs) hs rank
  net = grid_networks w h land hs range sized.long sized.fit all some

  pub order_work_list : WorkList (w * h) (receivers_on (grid_ground w h land) hs) (order_on (grid_ground w h land) hs)
  order_work_list = net.work_list

  own_is_base : (c : ℕ) → c < w * h → eqb (get_or (receivers_on (grid_ground w h land) hs) c 0) c ≡ (grid_ground w h land hs).base c
  own_is_base c l = go ((grid_ground w h land hs).base c) refl
    where
      go : (b : Bool) → (grid_ground w h land hs).base c ≡ b → eqb (get_or (receivers_on (grid_ground w h land) hs) c 0) c ≡ b
      go true e = eq-eqb _ c (net.base_own c l e)
      go false e = ne_eqb _ c (λ own. clash (net.own_base c l own) e)

  pub drained : (list : List ℕ) → WorkList (w * h) (receivers_on (grid_ground w h land) hs) list → Drained (grid_ground w h land) hs list
  drained list work =
      let a : CountedAreas (w * h) (receivers_on (grid_ground w h land) hs) list = areas (w * h) (cells_bound w h range.wide range.high) (receivers_on (grid_ground w h land) hs) list work in
      record {
        work_list = work;
        spill = net.least;
        base = own_is_base;
        area = a.area;
        total = sum_by (w * h) (grid_ground w h land hs).base (λ c. eqb (get_or (receivers_on (grid_ground w h land) hs) c 0) c) (area_of (w * h) (receivers_on (grid_ground w h land) hs)) (λ c l. sym (own_is_base c l)) ∙ a.total;
      }
