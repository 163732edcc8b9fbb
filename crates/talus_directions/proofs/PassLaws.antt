-- The cells of a block, and what each gains.
use Prim.Native.Nat.{ℕ, ◌+◌, ◌*◌, ◌<◌}
use mathlib.Core.Path.{◌≡◌, ap, ◌∙◌, subst}
use mathlib.Core.List.{List}
use native.Mathlib.Omega.{arith}
use lib.ListN.{get_or, set}
use lib.Ieee.{Float, nan}
use Rattle.grid.specs.Directions.{neighbour_at}
use Rattle.grid_inner.specs.Inner.{Inner}
use Rattle.talus.specs.Talus.{excess_to}
use Rattle.talus_directions.specs.Parts.{InnerRow, gained_by, changed, gain_of}

-- column x + i of a row of inner cells
pub inner_column : {w h cells y x n : ℕ} → InnerRow w h cells y x n → (i : ℕ) → i < n → Inner w h (x + i + y * w)
inner_column {w} {h} {cells} {y} {x} r i l = let e : x + y * w + i ≡ x + i + y * w = omega arith in subst (Inner w h) e (r.inner.inner i l)

pub inner_is : {w h cells y x n i c : ℕ} → InnerRow w h cells y x n → i < n → c ≡ x + i + y * w → Inner w h c
inner_is {i = i} r l e = rw e (inner_column r i l)

-- one gain, as the code works it out
pub gain_more : (w h : ℕ) (ts hs : List Float) (y x : ℕ) (totals moved : List Float) (d i : ℕ) (s : List Float) {m : ℕ} {e v : Float}
    → m ≡ neighbour_at w h (x + i + y * w) d
    → e ≡ excess_to ts hs (x + i + y * w) m d
    → v ≡ gained_by e (get_or totals i nan) (get_or moved i nan) (get_or s m nan)
    → set s m v ≡ gain_of w h ts hs y x totals moved d i s
gain_more w h ts hs y x totals moved d i s {m} e g f =
    ap (set s m) f ∙ ap (λ (e : Float). changed (gained_by e (get_or totals i nan) (get_or moved i nan)) m s) g ∙ ap (λ (k : ℕ). changed (gained_by (excess_to ts hs (x + i + y * w) k d) (get_or totals i nan) (get_or moved i nan)) k s) e
