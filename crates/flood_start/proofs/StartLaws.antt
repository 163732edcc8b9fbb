-- Laws of the first state: rows of marks are the list of marks, spill heights are heights, and no cell has left.
use Prim.Native.Nat.{ℕ, ◌*◌, ◌<◌}
use mathlib.Core.Path.{◌≡◌, refl, sym, ap, ◌∙◌}
use mathlib.Core.Bool.{Bool, true, false, cond}
use mathlib.Core.List.{List, []}
use native.Mathlib.Omega.{arith}
use lib.ListN.{get_or, get_or-eq_default}
use lib.Ieee.{Float, nan}
use mir.Val.{bool_byte}
use Rattle.loops.specs.Loops.{tabulate}
use Rattle.loops.proofs.TableLaws.{length_tabulate, get_d_tabulate}
use Rattle.grid.specs.Sides.{cell_of}
use Rattle.grid.specs.Base.{base_on}
use Rattle.grid.proofs.BaseLaws.{base_cell}
use Rattle.drainage.specs.Flood.{Flood, flood_start}
use Rattle.drainage.specs.declared.Land.{Land}
use Rattle.flood_start.specs.Slices.{state_of, mark_of, Started}

-- the number of a flag
pub flag_number : (b : Bool) → bool_byte b ≡ cond b 1 0
flag_number true = refl
flag_number false = refl

module _ (w h : ℕ) (hs : List Float) (land : Land) where
  -- the marks of all cells, and that of column x, row y
  abbrev pub marks : ℕ → ℕ
  marks c = cond (base_on w h land.sides land.water_level hs c) 1 0

  abbrev pub mark_at : ℕ → ℕ → List ℕ → ℕ
  mark_at x y l = mark_of w h land x y (get_or hs (cell_of w x y) nan)

  pub mark_is : (x y : ℕ) → x < w → mark_of w h land x y (get_or hs (cell_of w x y) nan) ≡ marks (cell_of w x y)
  mark_is x y l = ap (λ b. cond b 1 0) (base_cell w h x y land.sides land.water_level hs l)

pub started :
    (w h : ℕ) (land : Land) (hs : List Float) (status : List ℕ) (spill : List Float) (recv : List ℕ) → status ≡ tabulate (w * h) (marks w h hs land)
    → spill ≡ hs → recv ≡ tabulate (w * h) (λ c. c) → Started w h land hs status spill recv
unfolding flood_start
started w h land hs status spill recv a b c = record { state = λ i. state_of (a i) (b i) (c i) [] }

-- at the start no cell has left
pub started_fresh :
    (w h : ℕ) (land : Land) (hs : List Float) (status : List ℕ) (spill : List Float) (recv : List ℕ) → Started w h land hs status spill recv
    → (c : ℕ) → get_or status c 0 ≡ 2 → ⊥
unfolding flood_start
started_fresh w h land hs status spill recv s c e = elim (native.Mathlib.Decide.dec_lt c (w * h)) [
  | yes l ↦ marked (base_on w h land.sides land.water_level hs c) (sym (at ∙ get_d_tabulate (marks w h hs land) (w * h) c 0 l) ∙ e)
  | no l ↦ unlike (sym (at ∙ get_or-eq_default (tabulate (w * h) (marks w h hs land)) 0 {n = c} (omega (arith, length_tabulate (marks w h hs land) (w * h)))) ∙ e)
]
  where
    at : get_or status c 0 ≡ get_or (tabulate (w * h) (marks w h hs land)) c 0
    at = ap (λ (t : Flood Float). get_or t.status c 0) s.state

    marked : (b : Bool) → ◌≡◌ {A = ℕ} (cond b 1 0) 2 → ⊥
    marked true z = omega arith
    marked false z = omega arith

    unlike : ◌≡◌ {A = ℕ} 0 2 → ⊥
    unlike z = omega arith

pub started_spill :
    (w h : ℕ) (land : Land) (hs : List Float) (status : List ℕ) (spill : List Float) (recv : List ℕ) → Started w h land hs status spill recv → spill ≡ hs
unfolding flood_start
started_spill w h land hs status spill recv s = ap (λ (t : Flood Float). t.spill) s.state
