-- The grids of a run, the map's and that of the averages.
use Prim.Native.Nat.{ℕ, ◌*◌}
use mathlib.Core.Path.{◌≡◌, sym, ◌∙◌}
use Rattle.resample.specs.WorkSize.{Within}
use Rattle.upsample.specs.Places.{Grid}
use Rattle.upsample.proofs.AddLaws.{full_grid, small_grid}

-- what `add_back` asks of the lengths of the map, the averages and the eroded grid
pub back_grids : {w h dw dh map small eroded : ℕ} → Within w h dw dh → map ≡ w * h → small ≡ dw * dh → eroded ≡ dw * dh
    → Grid w h map × (Grid dw dh small × (eroded ≡ small))
back_grids n a b c = (full_grid n a, (small_grid n b, c ∙ sym b))
