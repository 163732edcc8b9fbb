-- A cell by its total and its loss is the cell slid.
use Prim.Native.Nat.{ℕ, suc, ◌+◌, ◌*◌, ◌≤◌, ◌<◌}
use mathlib.Core.Path.{◌≡◌, refl, sym, ap, ◌∙◌}
use mathlib.Core.Bool.{Bool, true, false}
use mathlib.Core.List.{List}
use native.Mathlib.Omega.{arith}
use lib.ListN.{get_or, set}
use lib.Seq.{set-get_or}
use lib.Ieee.{Float, nan, binary32, of_bits, sub, le}
use Rattle.loops.specs.Loops.{turns}
use Rattle.loops.proofs.TurnLaws.{turns_same, turns_kept}
use Rattle.grid.specs.Directions.{neighbour_at}
use Rattle.grid_inner.proofs.InnerLaws.{inner_cell}
use Rattle.talus.specs.Talus.{gain_step, gains_of, slide_cell, slide_cells}
use Rattle.talus.proofs.CountedLaws.{gain_counted}
use Rattle.talus.proofs.StepLaws.{gain_step_in}
use Rattle.talus_directions.specs.Parts.{InnerRow, loss_of, gain_of, slide_by, slide_all}
use Rattle.talus_directions.proofs.PassLaws.{inner_column}
use Rattle.talus_rows.specs.Blocks.{Sheds}
use Rattle.talus_rows.proofs.BlockLaws.{cell_still, cell_moved}

module _ (w h : ℕ) (ts hs : List Float) (y x : ℕ) (totals moved : List Float) (cells n : ℕ) (r : InnerRow w h cells y x n) (strength water : Float)
    (s : Sheds w h ts hs strength water (record { y = y; x = x; n = n }) (record { totals = totals; moved = moved })) where
  module _ (i : ℕ) (l : i < n) where
    -- a cell that does not shed
    still : (d : ℕ) (t : List Float) → le (get_or totals i nan) (of_bits binary32 0) ≡ true → gain_of w h ts hs y x totals moved d i t ≡ t
    still d t e = rw e (set-get_or t (neighbour_at w h (x + i + y * w) d) nan)

    kept : (t : List Float) → le (get_or totals i nan) (of_bits binary32 0) ≡ true → loss_of w y x totals moved i t ≡ t
    kept t e = rw e (set-get_or t (x + i + y * w) nan)

    -- and one that does
    sheds : (d : ℕ) (t : List Float) → 1 ≤ d → d ≤ 8 → le (get_or totals i nan) (of_bits binary32 0) ≡ false
        → gain_of w h ts hs y x totals moved d i t ≡ gain_step w h ts hs (x + i + y * w) (get_or moved i nan) (get_or totals i nan) d t
    sheds d t lo hi e =
        gain_step_in w h ts hs (x + i + y * w) d (neighbour_at w h (x + i + y * w) d) refl (inner_cell w h (x + i + y * w) d lo hi (inner_column r i l)) (get_or moved i nan) (get_or totals i nan) t _
        (gain_counted ts hs (x + i + y * w) (neighbour_at w h (x + i + y * w) d) d (get_or moved i nan) (get_or totals i nan) t refl (rw e refl))

    loses : (t : List Float) → le (get_or totals i nan) (of_bits binary32 0) ≡ false
        → loss_of w y x totals moved i t ≡ set t (x + i + y * w) (sub binary32 (get_or t (x + i + y * w) nan) (get_or moved i nan))
    loses t e = rw e refl

    cell_parts : (t : List Float) → slide_cell w h ts hs strength water (x + i + y * w) t ≡ slide_by w h ts hs y x totals moved i t
    unfolding gains_of
    cell_parts t = go (le (get_or totals i nan) (of_bits binary32 0)) refl
      where
        go : (b : Bool) → le (get_or totals i nan) (of_bits binary32 0) ≡ b
            → slide_cell w h ts hs strength water (x + i + y * w) t ≡ slide_by w h ts hs y x totals moved i t
        go true e =
            sym (cell_still w h ts hs strength water (x + i + y * w) t (get_or totals i nan) (s.total i l) e) ∙ sym (kept t e)
            ∙ sym (turns_kept (λ k. gain_of w h ts hs y x totals moved (suc k) i) (loss_of w y x totals moved i t) 8 (λ k. still (suc k) (loss_of w y x totals moved i t) e))
        go false e =
            sym (cell_moved w h ts hs strength water (x + i + y * w) t (get_or totals i nan) (s.total i l) (get_or moved i nan)
            (slide_by w h ts hs y x totals moved i t) (s.loss i l) e
            (turns_same (λ k. gain_of w h ts hs y x totals moved (suc k) i) (λ k. gain_step w h ts hs (x + i + y * w) (get_or moved i nan) (get_or totals i nan) (suc k)) (loss_of w y x totals moved i t) 8 (λ k u m. sheds (suc k) u (omega arith) (omega arith) e)
            ∙ ap (turns 8 (λ k. gain_step w h ts hs (x + i + y * w) (get_or moved i nan) (get_or totals i nan) (suc k))) (loses t e)))

  -- all of them
  pub block_slid : (out : List Float) → slide_all w h ts hs y x totals moved n out ≡ slide_cells w h ts hs strength water y x n out
  unfolding slide_all slide_cells
  block_slid out =
      sym (turns_same (λ i. slide_cell w h ts hs strength water (x + i + y * w)) (slide_by w h ts hs y x totals moved) out n (λ i t l. cell_parts i l t))
