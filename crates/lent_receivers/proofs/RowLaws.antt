-- A row that passes the quick test has no bad receiver.
use Rattle.std.proofs.Common.{◌≡◌, ℕ, zero, suc, ◌+◌, ◌-◌, ◌*◌, ◌<◌, ◌≤◌, Bool, true, false, cond, not, ◌&&◌, ◌||◌, eqb, ltb, leb, List, get_or, sym, refl, ap, ◌∙◌, subst, true≢false, arith, ltb-false, ltb-true, le-ltb, ne_eqb, leb-true}
use native.Mathlib.Decide.{ℕ_discrete}
use borrow.Author.Tests.{eqb-false}
use Rattle.loops.proofs.TestLaws.{both, chosen, passed}
use Rattle.loops.proofs.LoopLaws.{all_pass}
use Rattle.grid.specs.Sides.{InRange, cell_of}
use Rattle.grid.proofs.SidesLaws.{cell_lt, cells_bound}
use Rattle.loops.specs.Firsts.{First}
use Rattle.lent_receivers.specs.Receivers.{among_three, beside_inner, inner_pass, row_passes, good_receiver, receiver_test}
use Rattle.lent_receivers.proofs.ReceiverLaws.{above, level, below, band_good}
use Rattle.loops.proofs.FirstLaws.{first_end}

among : (from r : ℕ) → among_three from r ≡ true → (from ≤ r) × (r < from + 3)
among from r e = let p = both (leb from r) (ltb r (from + 3)) e in (leb-true from r p.0, ltb-true r (from + 3) p.1)

-- ---- the three bands of an inner cell
module _ (w h x y : ℕ) (west : 1 ≤ x) (east : x + 1 < w) (north : 1 ≤ y) (south : y + 1 < h) where
  rows : (k : ℕ) → y ≡ suc k → x + y * w ≡ x + k * w + w
  rows k e = ap (λ (z : ℕ). x + z * w) e ∙ omega arith

  deep : w + 1 ≤ x + y * w
  deep = go y refl
    where
      go : (k : ℕ) → y ≡ k → w + 1 ≤ x + y * w
      go zero e = absurd (omega arith)
      go (suc k) e = omega (arith, rows k e)

  last : x + y * w + w + 1 < w * h
  last = omega (arith, cell_lt w (x + 1) (y + 1) east h south)

  pub inner_places : (w + 1 ≤ x + y * w) × (x + y * w + w + 1 < w * h)
  inner_places = (deep, last)

  pub beside_good : (r : ℕ) → beside_inner w (x + y * w) r ≡ true → good_receiver w h (cell_of w x y) r ≡ true
  beside_good r e = go (among_three (x + y * w - (w + 1)) r) refl (among_three (x + y * w - (w + 1) + w) r) refl (among_three (x + y * w - (w + 1) + w + w) r) refl e
    where
      go : (a : Bool) → among_three (x + y * w - (w + 1)) r ≡ a → (b : Bool) → among_three (x + y * w - (w + 1) + w) r ≡ b → (c : Bool) → among_three (x + y * w - (w + 1) + w + w) r ≡ c
          → (a || b || c) ≡ true → good_receiver w h (cell_of w x y) r ≡ true
      go true p b q c s e =
          let t = among (x + y * w - (w + 1)) r p in
          band_good w h x y (omega arith) (omega arith) r (omega (arith, t, deep, last)) (above (omega (arith, t, deep)) (omega (arith, t, deep)))
      go false p true q c s e =
          let t = among (x + y * w - (w + 1) + w) r q in
          band_good w h x y (omega arith) (omega arith) r (omega (arith, t, deep, last)) (level (omega (arith, t, deep)) (omega (arith, t, deep)))
      go false p false q true s e =
          let t = among (x + y * w - (w + 1) + w + w) r s in
          band_good w h x y (omega arith) (omega arith) r (omega (arith, t, deep, last)) (below (omega (arith, t, deep)) (omega (arith, t, deep)))
      go false p false q false s e = absurd (true≢false (sym e))

-- ---- the loop
-- the i-th inner cell of an inner row, with all nine cells beside it, lies in the grid
pub record InnerAt (w h y i : ℕ) : Type 0 where
  pub wide : w ≤ 4096
  pub few : w * h ≤ 4096 * 4096
  pub above : w ≤ y * w
  pub last : 1 + i + y * w + w + 1 < w * h

pub inner_at : {w h y : ℕ} → InRange w h → (3 ≤ w) × (1 ≤ y) × (y + 1 < h) → (i : ℕ) → i < w - 2 → InnerAt w h y i
inner_at {w} {h} {y} sides inner i l =
    let first = inner_places w h 1 y (omega arith) (omega arith) inner.1 inner.2 in
    let here = inner_places w h (1 + i) y (omega arith) (omega arith) inner.1 inner.2 in
    record { wide = sides.wide; few = cells_bound w h sides.wide sides.high; above = omega (arith, first); last = here.1 }

-- the test of the row's i-th inner cell, as the code works it out
module _ (w : ℕ) (recv : List ℕ) (y : ℕ) where
  abbrev pub passing : ℕ → Bool → Bool
  passing i good = good && beside_inner w (1 + i + y * w) (get_or recv (1 + i + y * w) 0)

  pub passing_is : {h i : ℕ} (good : Bool) {next : Bool} → InnerAt w h y i → next ≡ beside_inner w (y * w - w + i + (w + 1)) (get_or recv (1 + i + y * w) 0)
      → (good && next) ≡ passing i good
  passing_is {h} {i} good a e =
      let cell : y * w - w + i + (w + 1) ≡ 1 + i + y * w = omega (arith, a.above) in
      ap (λ (b : Bool). good && b) (e ∙ ap (λ (k : ℕ). beside_inner w k (get_or recv (1 + i + y * w) 0)) cell)

module _ (w h : ℕ) (recv : List ℕ) (y : ℕ) (row : y < h) where
  -- a row that passes has no bad receiver
  pub row_good : {b : Bool} → b ≡ row_passes w h recv y → b ≡ true → First w (λ x. receiver_test w h recv (cell_of w x y)) w
  unfolding row_passes inner_pass
  row_good e t = first_end (λ x l. go (ltb w 3) refl (eqb y 0) refl (eqb (y + 1) h) refl (receiver_test w h recv (0 + y * w)) refl (receiver_test w h recv (w - 1 + y * w)) refl (sym e ∙ t) x l (ℕ_discrete x 0) (ℕ_discrete x (w - 1)))
    where
      go : (a : Bool) → ltb w 3 ≡ a → (b : Bool) → eqb y 0 ≡ b → (c : Bool) → eqb (y + 1) h ≡ c → (d : Bool) → receiver_test w h recv (0 + y * w) ≡ d
          → (f : Bool) → receiver_test w h recv (w - 1 + y * w) ≡ f
          → cond a false (cond b false (cond c false (cond (not d) false (cond (not f) false (inner_pass w recv y))))) ≡ true
          → (x : ℕ) → x < w → Dec (x ≡ 0) → Dec (x ≡ w - 1) → receiver_test w h recv (cell_of w x y) ≡ true
      go true a b c d e f g i j k x l m n = absurd (true≢false (sym k))
      go false a true c d e f g i j k x l m n = absurd (true≢false (sym k))
      go false a false c true e f g i j k x l m n = absurd (true≢false (sym k))
      go false a false c false e false g i j k x l m n = absurd (true≢false (sym k))
      go false a false c false e true g false j k x l m n = absurd (true≢false (sym k))
      go false a false c false e true g true j k x l (yes m) n = ap (λ (z : ℕ). receiver_test w h recv (z + y * w)) m ∙ g
      go false a false c false e true g true j k x l (no m) (yes n) = ap (λ (z : ℕ). receiver_test w h recv (z + y * w)) n ∙ j
      go false a false c false e true g true j k x l (no m) (no n) =
          let wide : 3 ≤ w = omega (arith, ltb-false w 3 a) in
          let first : y ≡ 0 → ⊥ = eqb-false y 0 c in
          let other : y + 1 ≡ h → ⊥ = eqb-false (y + 1) h e in
          let back : 1 + (x - 1) ≡ x = omega arith in
          let test : beside_inner w (x + y * w) (get_or recv (x + y * w) 0) ≡ true =
          subst (λ (z : ℕ). beside_inner w (z + y * w) (get_or recv (z + y * w) 0) ≡ true) back
          (all_pass (w - 2) (λ i. beside_inner w (1 + i + y * w) (get_or recv (1 + i + y * w) 0)) k (x - 1) (omega arith)) in
          beside_good w h x y (omega arith) (omega arith) (omega arith) (omega arith) (get_or recv (x + y * w) 0) test

-- ---- the ends of `row_passes` in an inner row
stop : (s x : Bool) {t : Bool} → t ≡ s → t ≡ true → false ≡ cond s false x
stop s x e f = chosen s false x (sym e ∙ f)

pass : (s x : Bool) {t v : Bool} → t ≡ s → t ≡ false → v ≡ x → v ≡ cond s false x
pass s x e f g = g ∙ passed s false x (sym e ∙ f)

module _ (w h : ℕ) (recv : List ℕ) (y : ℕ) (wide : 3 ≤ w) (first : y ≡ 0 → ⊥) (last : y + 1 ≡ h → ⊥) {west : Bool} (a : west ≡ not (good_receiver w h (cell_of w 0 y) (get_or recv (y * w) 0))) where
  at : west ≡ not (receiver_test w h recv (0 + y * w))
  at = let e : y * w ≡ 0 + y * w = omega arith in a ∙ ap (λ (z : ℕ). not (good_receiver w h (0 + y * w) (get_or recv z 0))) e

  pub passes_west : west ≡ true → false ≡ row_passes w h recv y
  unfolding row_passes
  passes_west f = rw (le-ltb w 3 wide, ne_eqb y 0 first, ne_eqb (y + 1) h last) (stop (not (receiver_test w h recv (0 + y * w))) _ at f)

  module _ (e : west ≡ false) {east : Bool} (b : east ≡ not (good_receiver w h (cell_of w (w - 1) y) (get_or recv (w - 1 + y * w) 0))) where
    pub passes_east : east ≡ true → false ≡ row_passes w h recv y
    unfolding row_passes
    passes_east f =
        rw (le-ltb w 3 wide, ne_eqb y 0 first, ne_eqb (y + 1) h last)
        (pass (not (receiver_test w h recv (0 + y * w))) _ at e (stop (not (receiver_test w h recv (w - 1 + y * w))) _ b f))

    pub passes_inner : east ≡ false → {r : Bool} → r ≡ inner_pass w recv y → r ≡ row_passes w h recv y
    unfolding row_passes
    passes_inner f g =
        rw (le-ltb w 3 wide, ne_eqb y 0 first, ne_eqb (y + 1) h last)
        (pass (not (receiver_test w h recv (0 + y * w))) _ at e (pass (not (receiver_test w h recv (w - 1 + y * w))) _ b f g))
