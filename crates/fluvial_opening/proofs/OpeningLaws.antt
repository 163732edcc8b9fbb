-- The incision of an opening is that of a run; and the slices lent stay the same ones.
use Prim.Native.Nat.{ℕ}
use mathlib.Core.Path.{◌≡◌, refl, ◌∙◌}
use mathlib.Core.List.{List}
use lib.Ieee.{Float}
use Rattle.drainage.specs.Ground.{grid_ground}
use Rattle.drainage.specs.declared.Land.{Land}
use Rattle.fluvial_erosion.specs.declared.FluvialParams.{FluvialParams}
use Rattle.run_machine.specs.Run.{ours, incision_by}
use Rattle.fluvial_carve.specs.Carve.{carved_of}
use Rattle.fluvial_opening.specs.Opening.{SameSlices}
use Rattle.fluvial_opening.specs.declared.Scratch.{Scratch}

-- the heights carved are the incision of a run that takes the flood's own lists, whatever the iteration's number
pub carved_by : (w h : ℕ) (land : Land) (p : FluvialParams) (it : ℕ) (hs : List Float)
    → carved_of w h land p hs ≡ incision_by (grid_ground w h land) p ours it hs
unfolding incision_by
carved_by w h land p it hs = refl

pub same_slices : (s : Scratch) → SameSlices s s
same_slices s = record { copy = refl; area = refl; order = refl; recv = refl; queue = refl; status = refl }

pub same_then : {r s t : Scratch} → SameSlices r s → SameSlices s t → SameSlices r t
same_then a b = record {
  copy = b.copy ∙ a.copy;
  area = b.area ∙ a.area;
  order = b.order ∙ a.order;
  recv = b.recv ∙ a.recv;
  queue = b.queue ∙ a.queue;
  status = b.status ∙ a.status;
}
