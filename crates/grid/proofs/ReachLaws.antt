-- Any cell reaches any other: east along a row and south along a column from the first cell, and back the same way.
use Prim.Native.Nat.{ℕ, zero, suc, ◌+◌, ◌*◌, ◌≤◌, ◌<◌}
use native.Mathlib.Omega.{arith}
use native.Mathlib.Numerals.{add-one}
use mathlib.Core.Path.{◌≡◌, ◌∙◌, subst}
use lib.IntN.{pos}
use Rattle.grid.specs.Sides.{cell_of, column_of, row_of}
use Rattle.grid.specs.Directions.{shifted_of, Adjacent, Reaches}
use Rattle.grid.specs.Directions.Reaches.{here, step}
use Rattle.grid.specs.Joined.{Connected, Spreads}
use Rattle.grid.proofs.SidesLaws.{cell_lt, column_cell, row_cell, column_lt, row_lt, cell_back, some_column}
use Rattle.grid.proofs.NeighbourLaws.{Beside, neighbour_beside, shift_ahead, adjacent_back}

module _ {w h : ℕ} where
  pub join : {a b c : ℕ} → Reaches w h a b → Reaches w h b c → Reaches w h a c
  join here r = r
  join (step s q) r = step s (join q r)

  pub reach_back : {a b : ℕ} → a < w * h → Reaches w h a b → Reaches w h b a
  reach_back l here = here
  reach_back l (step s r) = join (reach_back s.inside r) (step (adjacent_back w h _ _ l s) here)

  pub spread : (P : ℕ → Type 0) → ((a b : ℕ) → a < w * h → Adjacent w h a b → P a → P b) → {a b : ℕ} → a < w * h → P a → Reaches w h a b → P b
  spread P f l p here = p
  spread P f l p (step s r) = spread P f s.inside (f _ _ l s p) r

stays : (y side : ℕ) → y < side → shifted_of y (pos 0) side ≡ y
stays y side l =
    let e : y + 0 ≡ y = omega arith in
    shift_ahead y 0 side (omega arith) ∙ e

next : (x side : ℕ) → suc x < side → shifted_of x (pos 1) side ≡ suc x
next x side l = shift_ahead x 1 side (omega arith) ∙ add-one x

module _ (w h : ℕ) where
  pub beside_adjacent : {x y d nx ny : ℕ} → x < w → 1 ≤ d → d ≤ 8 → Beside w h x y d nx ny → Adjacent w h (cell_of w x y) (cell_of w nx ny)
  beside_adjacent {x} {y} {d} {nx} {ny} hx lo hi b =
      record {
        direction = d;
        first = lo;
        last = hi;
        inside = cell_lt w nx ny b.columns h b.rows;
        leads = rw (column_cell w x y hx, row_cell w x y hx) (neighbour_beside b);
      }

  to_east : (x y : ℕ) → suc x < w → y < h → Adjacent w h (cell_of w x y) (cell_of w (suc x) y)
  to_east x y hx hy =
      beside_adjacent {d = 5} (omega arith) (omega arith) (omega arith)
      (record { column = next x w hx; row = stays y h hy; columns = hx; rows = hy })

  to_south : (x y : ℕ) → x < w → suc y < h → Adjacent w h (cell_of w x y) (cell_of w x (suc y))
  to_south x y hx hy =
      beside_adjacent {d = 7} hx (omega arith) (omega arith)
      (record { column = stays x w hx; row = next y h hy; columns = hx; rows = hy })

  along : (y : ℕ) → y < h → (x : ℕ) → x < w → Reaches w h (cell_of w 0 y) (cell_of w x y)
  along y hy zero hx = here
  along y hy (suc x) hx = join (along y hy x (omega arith)) (step (to_east x y hx hy) here)

  down : 0 < w → (y : ℕ) → y < h → Reaches w h (cell_of w 0 0) (cell_of w 0 y)
  down hw zero hy = here
  down hw (suc y) hy = join (down hw y (omega arith)) (step (to_south 0 y hw hy) here)

  from_first : (c : ℕ) → c < w * h → Reaches w h (cell_of w 0 0) c
  from_first c l =
      subst (Reaches w h (cell_of w 0 0)) (cell_back w c)
      (join (down (some_column w h c l) (row_of w c) (row_lt w h c l)) (along (row_of w c) (row_lt w h c l) (column_of w c) (column_lt w h c l)))

  pub connected : Connected w h
  connected a b l m =
      let some : 0 < h = omega (arith, row_lt w h a l) in
      join (reach_back (cell_lt w 0 0 (some_column w h a l) h some) (from_first a l)) (from_first b m)

  pub spreads : Spreads w h
  spreads P f a l p b m = spread P f l p (connected a b l m)
