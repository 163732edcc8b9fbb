-- An incision of binary32 heights gives as many binary32 heights.
use Prim.Native.Nat.{ℕ}
use mathlib.Core.Path.{◌∙◌}
use mathlib.Core.Bool.{Bool, true, false, cond}
use mathlib.Core.List.{List, [], ◌∷◌}
use lib.Dec.{T}
use lib.ListN.{get_or, set, length-set}
use lib.IntN.{pos}
use lib.Ieee.{Float, nan, binary32, fits, le, of_int}
use lib.Ieee.Fits.{div-fits}
use Rattle.float_order.proofs.FitLaws.{fit_set}
use Rattle.drainage.specs.Ground.{Ground}
use Rattle.drainage.specs.Receivers.{distance_to}
use Rattle.drainage.specs.Ways.{areas_along}
use Rattle.fluvial_erosion.specs.Incision.{solved, incision_coef, incised_height, incised_at, drains_to, incise_along, incised_by}
use Rattle.fluvial_erosion.specs.declared.FluvialParams.{FluvialParams}
use Rattle.drainage.specs.Routing.{order_on, receivers_on}
use Rattle.run_machine.specs.Run.{Choice, incision_by}
use Rattle.run_machine.proofs.SoundLaws.{Sized}

height_fits : (p : FluvialParams) (n : ℕ) (area d height down : Float) → T (fits binary32 height) → T (fits binary32 (incised_height p n area d height down))
height_fits p n area d height down f = go (le height p.water_level)
  where
    go : (b : Bool) → T (fits binary32 (cond b height (solved height p.uplift (incision_coef area (of_int binary32 (pos n)) p.k d) down)))
    go true = f
    go false = div-fits binary32 _ _

along_sized : (g : Ground) (p : FluvialParams) (areas : List Float) (recv : List ℕ) (n : ℕ) (list : List ℕ) (hs : List Float) → Sized n hs → Sized n (incise_along g p areas recv list hs)
unfolding incise_along
along_sized g p areas recv n [] hs s = s
along_sized g p areas recv n (c ∷ rest) hs s =
    along_sized g p areas recv n rest (set hs c (incised_at g p areas recv hs c))
    (record {
      long = length-set hs c (incised_at g p areas recv hs c) ∙ s.long;
      fit = fit_set hs c (incised_at g p areas recv hs c) s.fit (height_fits p g.cells (get_or areas c nan) (distance_to g c (get_or recv c 0)) (get_or hs c nan) (drains_to g p areas recv hs c) (s.fit c));
    })

pub incision_sized : (ground : List Float → Ground) (p : FluvialParams) (choose : Choice) (n it : ℕ) (hs : List Float) → Sized n hs → Sized n (incision_by ground p choose it hs)
unfolding incision_by incised_by
incision_sized ground p choose n it hs s =
    along_sized (ground hs) p (areas_along (ground hs).cells (receivers_on ground hs) (choose it (order_on ground hs))) (receivers_on ground hs) n (choose it (order_on ground hs)) hs s
