-- A block of inner cells: totals and losses worked out one after the other, and the cells slid by them.
use Prim.Native.Nat.{ℕ, zero, suc, ◌+◌, ◌*◌, ◌≤◌, ◌<◌}
use mathlib.Core.Path.{◌≡◌, refl, sym, ap, ap₂, ◌∙◌}
use mathlib.Core.Bool.{Bool, true, false, cond}
use mathlib.Core.List.{List}
use native.Mathlib.Numerals.{add-one}
use native.Mathlib.Omega.{arith}
use native.Mathlib.Decide.{ℕ_discrete}
use lib.ListN.{get_or, set}
use lib.Ieee.{Float, nan, binary32, of_bits, sub, mul, lt, le}
use Rattle.loops.proofs.TestLaws.{clash, either}
use Rattle.loops.proofs.TurnLaws.{turns_keep}
use Rattle.loops.proofs.LoopLaws.{at_end}
use Rattle.loops.proofs.TableLaws.{filled_read}
use Rattle.grid.specs.declared.map.Map.{Map}
use Rattle.talus.specs.declared.Shed.{Shed}
use Rattle.talus.specs.Talus.{shed_of, gains_of, slide_cell, slide_cells}
use Rattle.talus.proofs.CellLaws.{slide_under, slide_still, slide_moved}
use Rattle.talus_rows.specs.Blocks.{shed_total, moved_from, RowCells, ShedArrays, Sheds, ShedsPut, shedders}

-- the arrays that totals and losses were put into hold them
pub sheds_put : {w h : ℕ} {ts hs : List Float} {strength water : Float} {cells : RowCells} {before after : ShedArrays}
    → ShedsPut w h ts hs strength water cells before after → Sheds w h ts hs strength water cells after
sheds_put {w} {h} {ts} {hs} {strength} {water} {cells} {before} p = record {
  total = λ i l. filled_read (λ i. shed_total w h ts hs water (cells.x + i + cells.y * w)) cells.n before.totals p.total i nan l;
  loss = λ i l. filled_read (λ i. moved_from w h ts hs strength (cells.x + i + cells.y * w)) cells.n before.moved p.loss i nan l;
}

-- the total and the loss of a cell, as the code finds them by its own sides and number
module _ {z a : Map} {c k : ℕ} (ts : List Float) {s : Shed} (e : z ≡ a) (f : c ≡ k) (g : s ≡ shed_of z.size.w z.size.h ts z.heights.now c) where
  pub total_found : (water : Float) {t : Float} → t ≡ cond (lt (get_or z.heights.now c nan) water) (of_bits binary32 0) s.total → t ≡ shed_total a.size.w a.size.h ts a.heights.now water k
  total_found water t = t ∙ rw (g, e, f)

  pub loss_found : (strength : Float) → mul binary32 strength s.greatest ≡ moved_from a.size.w a.size.h ts a.heights.now strength k
  loss_found strength = rw (g, e, f)

zero_still : le (of_bits binary32 0) (of_bits binary32 0) ≡ true
unfolding le of_bits
zero_still = refl

-- the two ends of a cell that sheds by `total`
module _ (w h : ℕ) (ts hs : List Float) (strength water : Float) (c : ℕ) (out : List Float) (total : Float) (e : total ≡ shed_total w h ts hs water c) where
  under : lt (get_or hs c nan) water ≡ true → le total (of_bits binary32 0) ≡ true
  under u = rw (e, u) zero_still

  above : lt (get_or hs c nan) water ≡ false → total ≡ (shed_of w h ts hs c).total
  above u = rw (e, u) refl

  pub cell_still : le total (of_bits binary32 0) ≡ true → out ≡ slide_cell w h ts hs strength water c out
  cell_still t = go (lt (get_or hs c nan) water) refl
    where
      go : (b : Bool) → lt (get_or hs c nan) water ≡ b → out ≡ slide_cell w h ts hs strength water c out
      go true u = slide_under w h ts hs strength water c out u
      go false u =
          slide_still w h ts hs strength water c out (shed_of w h ts hs c) refl u (ap (λ (z : Float). le z (of_bits binary32 0)) (sym (above u)) ∙ t)

  pub cell_moved : (moved : Float) (r : List Float)
      → moved ≡ moved_from w h ts hs strength c
      → le total (of_bits binary32 0) ≡ false
      → r ≡ gains_of w h ts hs c moved total (set out c (sub binary32 (get_or out c nan) moved))
      → r ≡ slide_cell w h ts hs strength water c out
  cell_moved moved r f t g = go (lt (get_or hs c nan) water) refl
    where
      go : (b : Bool) → lt (get_or hs c nan) water ≡ b → r ≡ slide_cell w h ts hs strength water c out
      go true u = absurd (clash (under u) t)
      go false u =
          slide_moved w h ts hs strength water c out (shed_of w h ts hs c) refl u r (ap (λ (z : Float). le z (of_bits binary32 0)) (sym (above u)) ∙ t)
          (g ∙ ap₂ (λ (m a : Float). gains_of w h ts hs c m a (set out c (sub binary32 (get_or out c nan) m))) f (above u))

-- how many shed
shed_one : (b : Bool) (k n : ℕ) → k ≤ n → k + cond b 0 1 ≤ suc n
shed_one b k n l = either (λ (v : ℕ). k + v ≤ suc n) b 0 1 (omega arith) (omega arith)

pub shedders_most : (totals : List Float) (n : ℕ) → shedders totals n ≤ n
unfolding shedders
shedders_most totals zero = omega arith
shedders_most totals (suc n) = shed_one (le (get_or totals n nan) (of_bits binary32 0)) (shedders totals n) n (shedders_most totals n)

pub shedders_more : (totals : List Float) (i k v : ℕ) → k ≡ shedders totals i → v ≡ cond (le (get_or totals i nan) (of_bits binary32 0)) 0 1
    → k + v ≡ shedders totals (i + 1)
unfolding shedders
shedders_more totals i k v e f = ap₂ (λ (a b : ℕ). a + b) e f ∙ ap (shedders totals) (sym (add-one i))

pub shedders_end : (totals : List Float) {i n k : ℕ} → k ≡ shedders totals i → i ≤ n → n ≤ i → k ≡ shedders totals n
shedders_end totals e a b = at_end (shedders totals) e a b

shed_none : (b : Bool) (k : ℕ) → k + cond b 0 1 ≡ 0 → (k ≡ 0) × (b ≡ true)
shed_none true k e = (omega arith, refl)
shed_none false k e = absurd (omega arith)

shedders_none : (totals : List Float) (n : ℕ) → shedders totals n ≡ 0 → (i : ℕ) → i < n → le (get_or totals i nan) (of_bits binary32 0) ≡ true
unfolding shedders
shedders_none totals zero e i l = absurd (omega arith)
shedders_none totals (suc n) e i l =
    let one = shed_none (le (get_or totals n nan) (of_bits binary32 0)) (shedders totals n) e in
    go one.1 (shedders_none totals n one.0 i) (ℕ_discrete i n)
  where
    go : le (get_or totals n nan) (of_bits binary32 0) ≡ true → (i < n → le (get_or totals i nan) (of_bits binary32 0) ≡ true) → Dec (i ≡ n)
        → le (get_or totals i nan) (of_bits binary32 0) ≡ true
    go a b (yes q) = rw q a
    go a b (no q) = b (omega arith)

-- a block where none sheds
pub block_still : (w h : ℕ) (ts hs : List Float) (strength water : Float) (y x n : ℕ) (totals moved out : List Float)
    → Sheds w h ts hs strength water (record { y = y; x = x; n = n }) (record { totals = totals; moved = moved })
    → shedders totals n ≡ 0
    → out ≡ slide_cells w h ts hs strength water y x n out
unfolding slide_cells
block_still w h ts hs strength water y x n totals moved out s e =
    turns_keep (λ i. slide_cell w h ts hs strength water (x + i + y * w)) (λ t. out ≡ t) out n refl
    (λ i t l q. q ∙ cell_still w h ts hs strength water (x + i + y * w) t (get_or totals i nan) (s.total i l) (shedders_none totals n e i l))
