-- The neighbour in a direction: where it lies, that it is another cell, and that the direction 9 - d leads back.
use Prim.Native.Nat.{ℕ, zero, suc, ◌+◌, ◌-◌, ◌*◌, ◌≤◌, ◌<◌}
use native.Mathlib.Omega.{arith}
use native.Mathlib.Decide.{dec_lt}
use mathlib.Core.Path.{◌≡◌, refl, sym, ap, ap₂, ◌∙◌}
use mathlib.Core.Logic.{◌≢◌, ◌⊎◌, inl, inr}
use mathlib.Core.Bool.{Bool, true, false, cond, ◌&&◌}
use lib.IntN.{ℤ, pos, negsuc, neg_ℤ, nat_abs}
use lib.ListN.{get_or}
use mir.Syntax.{w32}
use mir.Val.{of_z, to_z}
use lib.Dec.{ltb}
use borrow.Author.Tests.{lt-ltb, le-ltb, ltb-true}
use Rattle.loops.proofs.TestLaws.{clash, not_second}
use Rattle.grid.specs.Sides.{cell_of, column_of, row_of}
use Rattle.grid.specs.Directions.{dir_x, dir_y, Step, shifted_of, stepped_of, neighbour_of, neighbour_at}
use Rattle.grid.specs.Joined.{Mutual, Apart}
use Rattle.grid.proofs.ShiftedLaws.{entry_small, read_small}
use Rattle.grid.proofs.SidesLaws.{column_cell, row_cell, column_lt, row_lt, cell_back}

abbrev pub step_x : ℕ → ℤ
step_x d = get_or dir_x d (pos 0)

abbrev pub step_y : ℕ → ℤ
step_y d = get_or dir_y d (pos 0)

-- what holds of each of the eight directions
pub each_direction : (P : ℕ → Type 0) → P 1 → P 2 → P 3 → P 4 → P 5 → P 6 → P 7 → P 8 → (d : ℕ) → 1 ≤ d → d ≤ 8 → P d
each_direction P nw n ne w e sw s se zero lo hi = absurd (omega arith)
each_direction P nw n ne w e sw s se (suc zero) lo hi = nw
each_direction P nw n ne w e sw s se (suc (suc zero)) lo hi = n
each_direction P nw n ne w e sw s se (suc (suc (suc zero))) lo hi = ne
each_direction P nw n ne w e sw s se (suc (suc (suc (suc zero)))) lo hi = w
each_direction P nw n ne w e sw s se (suc (suc (suc (suc (suc zero))))) lo hi = e
each_direction P nw n ne w e sw s se (suc (suc (suc (suc (suc (suc zero)))))) lo hi = sw
each_direction P nw n ne w e sw s se (suc (suc (suc (suc (suc (suc (suc zero))))))) lo hi = s
each_direction P nw n ne w e sw s se (suc (suc (suc (suc (suc (suc (suc (suc zero)))))))) lo hi = se
each_direction P nw n ne w e sw s se (suc (suc (suc (suc (suc (suc (suc (suc (suc d))))))))) lo hi = absurd (omega arith)

-- the step of a direction is at most one column and one row
pub step_of : (d : ℕ) → Step (step_x d) (step_y d)
step_of d = record { columns = entry_small dir_x tt d; rows = entry_small dir_y tt d }

abbrev pub is_zero : ℤ → Bool
is_zero (pos zero) = true
is_zero (pos (suc n)) = false
is_zero (negsuc n) = false

-- direction 9 - d is the opposite of d, and d moves in the column or in the row
record Turns (d : ℕ) : Type 0 where
  column : step_x (9 - d) ≡ neg_ℤ (step_x d)
  row : step_y (9 - d) ≡ neg_ℤ (step_y d)
  moves : (is_zero (step_x d) && is_zero (step_y d)) ≡ false

turns : (d : ℕ) → 1 ≤ d → d ≤ 8 → Turns d
turns =
    each_direction Turns
    (record { column = refl; row = refl; moves = refl })
    (record { column = refl; row = refl; moves = refl })
    (record { column = refl; row = refl; moves = refl })
    (record { column = refl; row = refl; moves = refl })
    (record { column = refl; row = refl; moves = refl })
    (record { column = refl; row = refl; moves = refl })
    (record { column = refl; row = refl; moves = refl })
    (record { column = refl; row = refl; moves = refl })

-- a step that stays on the side
pub shift_ahead : (x k side : ℕ) → x + k < side → shifted_of x (pos k) side ≡ x + k
shift_ahead x k side h = rw (lt-ltb (x + k) side h)

pub shift_behind : (x k side : ℕ) → k < x → shifted_of x (negsuc k) side ≡ x - suc k
shift_behind x k side h = rw (lt-ltb k x h)

held : (b : Bool) (m side n : ℕ) → cond b m side ≡ n → n < side → (b ≡ true) × (m ≡ n)
held b m side n e l = not_second b m side (λ z. omega arith) e

-- and back from where it led
pub from_ahead : (x k side n : ℕ) → shifted_of x (pos k) side ≡ n → n < side → x + k ≡ n
from_ahead x k side n e l = (held (ltb (x + k) side) (x + k) side n e l).1

pub from_behind : (x k side n : ℕ) → shifted_of x (negsuc k) side ≡ n → n < side → n + suc k ≡ x
from_behind x k side n e l =
    let t = held (ltb k x) (x - suc k) side n e l in
    let u : k < x = ltb-true k x t.0 in
    let p : x - suc k ≡ n = t.1 in
    omega arith

-- a step of at most one leads to a place at most one off
pub close_step : (x : ℕ) (z : ℤ) (side n : ℕ) → nat_abs z ≤ 1 → shifted_of x z side ≡ n → n < side → (x ≤ n + 1) × (n ≤ x + 1)
close_step x (pos k) side n s e l = omega (arith, from_ahead x k side n e l)
close_step x (negsuc k) side n s e l = omega (arith, from_behind x k side n e l)

shift_back : (x : ℕ) (z : ℤ) (side n : ℕ) → x < side → shifted_of x z side ≡ n → n < side → shifted_of n (neg_ℤ z) side ≡ x
shift_back x (pos zero) side n h e l =
    let p : x + 0 ≡ n = from_ahead x 0 side n e l in
    let q : n + 0 ≡ x = omega arith in
    shift_ahead n 0 side (omega arith) ∙ q
shift_back x (pos (suc k)) side n h e l =
    let p : x + suc k ≡ n = from_ahead x (suc k) side n e l in
    let q : n - suc k ≡ x = omega arith in
    shift_behind n k side (omega arith) ∙ q
shift_back x (negsuc k) side n h e l =
    let q : n + suc k ≡ x = from_behind x k side n e l in
    shift_ahead n (suc k) side (omega arith) ∙ q

-- only a step of 0 stays where it is
shift_still : (x : ℕ) (z : ℤ) (side : ℕ) → x < side → shifted_of x z side ≡ x → is_zero z ≡ true
shift_still x (pos zero) side h e = refl
shift_still x (pos (suc k)) side h e = absurd (omega (arith, from_ahead x (suc k) side x e h))
shift_still x (negsuc k) side h e = absurd (omega (arith, from_behind x k side x e h))

-- the cell of a step by the moved column and row
module _ (w h x y : ℕ) (dx dy : ℤ) (nx : ℕ) (ex : shifted_of x dx w ≡ nx) where
  pub past_column : w ≤ nx → stepped_of w h x y dx dy ≡ w * h
  unfolding stepped_of
  past_column l = rw (ex, le-ltb nx w l)

  module _ (ny : ℕ) (ey : shifted_of y dy h ≡ ny) (l : nx < w) where
    pub past_row : h ≤ ny → stepped_of w h x y dx dy ≡ w * h
    unfolding stepped_of
    past_row m = rw (ex, ey, lt-ltb nx w l, le-ltb ny h m)

    pub within : ny < h → stepped_of w h x y dx dy ≡ cell_of w nx ny
    unfolding stepped_of
    within m = rw (ex, ey, lt-ltb nx w l, lt-ltb ny h m)

-- the neighbour in a direction is the cell of its step
pub by_step : (w h x y d : ℕ) → neighbour_of w h x y d ≡ stepped_of w h x y (step_x d) (step_y d)
unfolding neighbour_of
by_step w h x y d = refl

-- a step as the machine reads it
module _ (dx dy : ℤ) (s : Step dx dy) where
  pub read_step : Step (to_z w32 (of_z w32 dx)) (to_z w32 (of_z w32 dy))
  read_step = rw (read_small dx s.columns, read_small dy s.rows) s

  pub read_stepped : (w h x y : ℕ) {r : ℕ} → r ≡ stepped_of w h x y (to_z w32 (of_z w32 dx)) (to_z w32 (of_z w32 dy)) → r ≡ stepped_of w h x y dx dy
  read_stepped w h x y e = e ∙ ap₂ (stepped_of w h x y) (read_small dx s.columns) (read_small dy s.rows)

-- the two entries of a direction, as the machine reads them, are a step, and it leads to the neighbour
pub entry_step : (d : ℕ) → Step (to_z w32 (of_z w32 (step_x d))) (to_z w32 (of_z w32 (step_y d)))
entry_step d = read_step (step_x d) (step_y d) (step_of d)

pub entry_neighbour : (w h x y d : ℕ) {r : ℕ} → r ≡ stepped_of w h x y (to_z w32 (of_z w32 (step_x d))) (to_z w32 (of_z w32 (step_y d))) → r ≡ neighbour_of w h x y d
entry_neighbour w h x y d e = read_stepped (step_x d) (step_y d) (step_of d) w h x y e ∙ sym (by_step w h x y d)

-- column nx, row ny is the neighbour in direction d
pub record Beside (w h x y d nx ny : ℕ) : Type 0 where
  pub column : shifted_of x (step_x d) w ≡ nx
  pub row : shifted_of y (step_y d) h ≡ ny
  pub columns : nx < w
  pub rows : ny < h

pub neighbour_beside : {w h x y d nx ny : ℕ} → Beside w h x y d nx ny → neighbour_of w h x y d ≡ cell_of w nx ny
neighbour_beside {w} {h} {x} {y} {d} {nx} {ny} b = by_step w h x y d ∙ within w h x y (step_x d) (step_y d) nx b.column ny b.row b.columns b.rows

-- a neighbour lies outside the grid, or beside
pub outside_or_beside : (w h x y d : ℕ) → (neighbour_of w h x y d ≡ w * h) ⊎ Beside w h x y d (shifted_of x (step_x d) w) (shifted_of y (step_y d) h)
outside_or_beside w h x y d = go (dec_lt nx w) (dec_lt ny h)
  where
    nx : ℕ
    nx = shifted_of x (step_x d) w

    ny : ℕ
    ny = shifted_of y (step_y d) h

    go : Dec (nx < w) → Dec (ny < h) → (neighbour_of w h x y d ≡ w * h) ⊎ Beside w h x y d nx ny
    go (yes p) (yes q) = inr (record { column = refl; row = refl; columns = p; rows = q })
    go (yes p) (no q) = inl (by_step w h x y d ∙ past_row w h x y (step_x d) (step_y d) nx refl ny refl p (omega arith))
    go (no p) q = inl (by_step w h x y d ∙ past_column w h x y (step_x d) (step_y d) nx refl (omega arith))

-- the neighbour of a cell from its column and row, as `neighbour` has it
pub neighbour_cell : (w h x y d : ℕ) → x < w → neighbour_of w h x y d ≡ neighbour_at w h (cell_of w x y) d
neighbour_cell w h x y d l = rw (column_cell w x y l, row_cell w x y l)

-- a neighbour that is a cell, by its coordinates
pub inside_beside : (w h a b d : ℕ) → b < w * h → neighbour_at w h a d ≡ b → Beside w h (column_of w a) (row_of w a) d (column_of w b) (row_of w b)
inside_beside w h a b d l e = go (outside_or_beside w h (column_of w a) (row_of w a) d)
  where
    go : {nx ny : ℕ} → (neighbour_at w h a d ≡ w * h) ⊎ Beside w h (column_of w a) (row_of w a) d nx ny → Beside w h (column_of w a) (row_of w a) d (column_of w b) (row_of w b)
    go (inl o) = absurd (omega arith)
    go {nx} {ny} (inr s) =
        let same : b ≡ cell_of w nx ny = sym e ∙ neighbour_beside s in
        let column : column_of w b ≡ nx = ap (column_of w) same ∙ column_cell w nx ny s.columns in
        let row : row_of w b ≡ ny = ap (row_of w) same ∙ row_cell w nx ny s.columns in
        rw (column, row) s

module _ (w h a d : ℕ) (lo : 1 ≤ d) (hi : d ≤ 8) (l : a < w * h) where
  back_beside : (b : ℕ) → b < w * h → neighbour_at w h a d ≡ b → Beside w h (column_of w b) (row_of w b) (9 - d) (column_of w a) (row_of w a)
  back_beside b m e =
      let s = inside_beside w h a b d m e in
      let t = turns d lo hi in
      record {
        column = rw t.column (shift_back _ (step_x d) w _ (column_lt w h a l) s.column s.columns);
        row = rw t.row (shift_back _ (step_y d) h _ (row_lt w h a l) s.row s.rows);
        columns = column_lt w h a l;
        rows = row_lt w h a l;
      }

  pub neighbour_apart : a ≢ neighbour_at w h a d
  neighbour_apart e =
      let s = inside_beside w h a a d l (sym e) in
      clash (ap₂ ◌&&◌ (shift_still _ (step_x d) w s.columns s.column) (shift_still _ (step_y d) h s.rows s.row)) (turns d lo hi).moves

pub adjacent_back : (w h : ℕ) → Mutual w h
adjacent_back w h a b l s =
    let d = s.direction in
    record {
      direction = 9 - d;
      first = omega arith;
      last = omega arith;
      inside = l;
      leads = neighbour_beside (back_beside w h a d s.first s.last l b s.inside s.leads) ∙ cell_back w a;
    }

pub adjacent_apart : (w h : ℕ) → Apart w h
adjacent_apart w h a b l s e = neighbour_apart w h a s.direction s.first s.last l (e ∙ sym s.leads)
