-- A good receiver by its place: the cell itself or a neighbour, which lies in one of three short bands of cell numbers.
use Rattle.std.proofs.Common.{◌≡◌, ℕ, zero, suc, ◌+◌, ◌-◌, ◌*◌, ◌<◌, ◌≤◌, min, Bool, true, false, not, ◌&&◌, ◌||◌, eqb, ltb, ◌⊎◌, ℤ, pos, negsuc, nat_abs, sym, refl, ap, ◌∙◌, subst, inl, inr, true≢false, mul-le-mul_right, suc-mul, mul_comm, zero-mul, arith, lit≤, leb, leb-true, le-leb, ltb-true, le-ltb, lt-ltb, eq-eqb, eqb-true}
use native.Mathlib.Decide.{dec_lt, ℕ_discrete}
use Rattle.loops.proofs.TestLaws.{both, alike}
use Rattle.loops.specs.Loops.{turns}
use Rattle.grid.specs.Sides.{cell_of}
use Rattle.grid.specs.Directions.{shifted_of, neighbour_of, neighbour_at, Adjacent}
use Rattle.grid.proofs.SidesLaws.{cell_lt}
use Rattle.grid.proofs.NeighbourLaws.{step_x, step_y, Beside, neighbour_beside, outside_or_beside, neighbour_cell, step_of, close_step, shift_ahead, shift_behind}
use Rattle.grid.proofs.ReachLaws.{beside_adjacent}
use Rattle.lent_receivers.specs.Receivers.{good_receiver}

-- ---- a number among f 0 … f (n - 1)
abbrev found_among : ℕ → (ℕ → ℕ) → ℕ → Bool
found_among n f r = turns n (λ i found. found || eqb (f i) r) false

found_at : (n : ℕ) (f : ℕ → ℕ) (r i : ℕ) → i < n → f i ≡ r → found_among n f r ≡ true
unfolding turns
found_at zero f r i l e = absurd (omega arith)
found_at (suc n) f r i l e = go (found_among n f r) (ℕ_discrete i n) (λ k. found_at n f r i k e)
  where
    go : (b : Bool) → Dec (i ≡ n) → (i < n → b ≡ true) → (b || eqb (f n) r) ≡ true
    go true d h = refl
    go false (yes q) h = eq-eqb (f n) r (ap f (sym q) ∙ e)
    go false (no q) h = absurd (true≢false (sym (h (omega arith))))

found_where : (n : ℕ) (f : ℕ → ℕ) (r : ℕ) → found_among n f r ≡ true → (i : ℕ) × (i < n) × (f i ≡ r)
unfolding turns
found_where zero f r e = absurd (true≢false (sym e))
found_where (suc n) f r e = go (found_among n f r) e (found_where n f r)
  where
    go : (b : Bool) → (b || eqb (f n) r) ≡ true → (b ≡ true → (i : ℕ) × (i < n) × (f i ≡ r)) → (i : ℕ) × (i < suc n) × (f i ≡ r)
    go true e h = let t = h refl in (t.0, omega (arith, t.1), t.2)
    go false e h = (n, omega arith, eqb-true (f n) r e)

-- ---- the test, both ways
module _ (w h c r : ℕ) where
  pub good_own : r < w * h → r ≡ c → good_receiver w h c r ≡ true
  unfolding good_receiver
  good_own l e = rw (lt-ltb r (w * h) l, eq-eqb r c e)

  pub good_near : Adjacent w h c r → good_receiver w h c r ≡ true
  unfolding good_receiver
  good_near a = rw (lt-ltb r (w * h) a.inside) (go (eqb r c) (found_at 8 (λ i. neighbour_at w h c (suc i)) r (a.direction - 1) (omega (arith, a.first, a.last)) leads))
    where
      leads : neighbour_at w h c (suc (a.direction - 1)) ≡ r
      leads = let e : suc (a.direction - 1) ≡ a.direction = omega (arith, a.first) in ap (neighbour_at w h c) e ∙ a.leads

      go : (b : Bool) → found_among 8 (λ i. neighbour_at w h c (suc i)) r ≡ true → (b || found_among 8 (λ i. neighbour_at w h c (suc i)) r) ≡ true
      go true e = refl
      go false e = e

  pub good_cell : good_receiver w h c r ≡ true → r < w * h
  unfolding good_receiver
  good_cell e = ltb-true r (w * h) (both (ltb r (w * h)) _ e).0

  pub good_is : good_receiver w h c r ≡ true → (r ≡ c) ⊎ Adjacent w h c r
  unfolding good_receiver
  good_is e = go (ltb r (w * h)) refl (eqb r c) refl e
    where
      go : (b : Bool) → ltb r (w * h) ≡ b → (q : Bool) → eqb r c ≡ q → (b && (q || found_among 8 (λ i. neighbour_at w h c (suc i)) r)) ≡ true → (r ≡ c) ⊎ Adjacent w h c r
      go false l q s t = absurd (true≢false (sym t))
      go true l true s t = inl (eqb-true r c s)
      go true l false s t =
          let f = found_where 8 (λ i. neighbour_at w h c (suc i)) r t in
          inr (record { direction = suc f.0; first = omega arith; last = omega (arith, f.1); inside = ltb-true r (w * h) l; leads = f.2 })

  pub not_good : (good_receiver w h c r ≡ true → ⊥) → good_receiver w h c r ≡ false
  not_good n = go (good_receiver w h c r) refl
    where
      go : (b : Bool) → good_receiver w h c r ≡ b → b ≡ false
      go true e = absurd (n e)
      go false e = refl

-- one of three tests is met
met₁ : (a b c : Bool) → a ≡ true → (a || b || c) ≡ true
met₁ true b c e = refl
met₁ false b c e = absurd (true≢false (sym e))

met₂ : (a b c : Bool) → b ≡ true → (a || b || c) ≡ true
met₂ true b c e = refl
met₂ false true c e = refl
met₂ false false c e = absurd (true≢false (sym e))

met₃ : (a b c : Bool) → c ≡ true → (a || b || c) ≡ true
met₃ true b c e = refl
met₃ false true c e = refl
met₃ false false c e = e

-- ---- one step along a side
data Step (x side n : ℕ) : Type 0 where
  back : shifted_of x (negsuc 0) side ≡ n → Step x side n
  stay : shifted_of x (pos 0) side ≡ n → n ≡ x → Step x side n
  ahead : shifted_of x (pos 1) side ≡ n → Step x side n

-- n is x, or one less or more
record Close (x side n : ℕ) : Type 0 where
  inside : n < side
  least : x ≤ n + 1
  most : n ≤ x + 1

step_to : {x side n : ℕ} → x < side → Close x side n → Step x side n
step_to {x} {side} {n} l k = go (ℕ_discrete (n + 1) x) (ℕ_discrete n x)
  where
    go : Dec (n + 1 ≡ x) → Dec (n ≡ x) → Step x side n
    go (yes e) d = let q : x - 1 ≡ n = omega arith in back (shift_behind x 0 side (omega arith) ∙ q)
    go (no e) (yes d) = let q : x + 0 ≡ n = omega arith in stay (shift_ahead x 0 side (omega arith) ∙ q) d
    go (no e) (no d) = let q : x + 1 ≡ n = omega (arith, k.inside, k.least, k.most) in ahead (shift_ahead x 1 side (omega (arith, k.inside)) ∙ q)

step_from : (x : ℕ) (z : ℤ) (side n : ℕ) → nat_abs z ≤ 1 → shifted_of x z side ≡ n → n < side → Close x side n
step_from x z side n s e i = let k = close_step x z side n s e i in record { inside = i; least = k.0; most = k.1 }

module _ (w h x y : ℕ) (cx : x < w) (cy : y < h) where
  -- a close column and row are the cell's own, or a neighbour's
  reached : (nx ny : ℕ) → Close x w nx → Close y h ny → good_receiver w h (cell_of w x y) (cell_of w nx ny) ≡ true
  reached nx ny p q = go (step_to cx p) (step_to cy q)
    where
      inside : cell_of w nx ny < w * h
      inside = cell_lt w nx ny p.inside h q.inside

      at : (d : ℕ) → 1 ≤ d → d ≤ 8 → shifted_of x (step_x d) w ≡ nx → shifted_of y (step_y d) h ≡ ny → good_receiver w h (cell_of w x y) (cell_of w nx ny) ≡ true
      at d lo hi ex ey =
          good_near w h (cell_of w x y) (cell_of w nx ny)
          (beside_adjacent w h cx lo hi (record { column = ex; row = ey; columns = p.inside; rows = q.inside }))

      go : Step x w nx → Step y h ny → good_receiver w h (cell_of w x y) (cell_of w nx ny) ≡ true
      go (back a) (back b) = at 1 (lit≤ tt) (lit≤ tt) a b
      go (stay a e) (back b) = at 2 (lit≤ tt) (lit≤ tt) a b
      go (ahead a) (back b) = at 3 (lit≤ tt) (lit≤ tt) a b
      go (back a) (stay b f) = at 4 (lit≤ tt) (lit≤ tt) a b
      go (ahead a) (stay b f) = at 5 (lit≤ tt) (lit≤ tt) a b
      go (back a) (ahead b) = at 6 (lit≤ tt) (lit≤ tt) a b
      go (stay a e) (ahead b) = at 7 (lit≤ tt) (lit≤ tt) a b
      go (ahead a) (ahead b) = at 8 (lit≤ tt) (lit≤ tt) a b
      go (stay a e) (stay b f) =
          good_own w h _ _ inside (rw (e, f))

  -- the three bands: the row above, the cell's own and the one below, each from the column before x to the one after it
  pub data Band (r : ℕ) : Type 0 where
    above : x + y * w ≤ r + w + min x 1 → r + w ≤ x + y * w + min (w - 1 - x) 1 → Band r
    level : x + y * w ≤ r + min x 1 → r ≤ x + y * w + min (w - 1 - x) 1 → Band r
    below : x + y * w + w ≤ r + min x 1 → r ≤ x + y * w + w + min (w - 1 - x) 1 → Band r

  pub band_good : (r : ℕ) → r < w * h → Band r → good_receiver w h (cell_of w x y) r ≡ true
  band_good r l (above p q) = go y refl
    where
      go : (k : ℕ) → y ≡ k → good_receiver w h (cell_of w x y) r ≡ true
      go zero e = absurd (omega (arith, ap (λ (z : ℕ). z * w) e, zero-mul w))
      go (suc k) e =
          let m : y * w ≡ k * w + w = ap (λ (z : ℕ). z * w) e ∙ suc-mul k w in
          let at : cell_of w (r - k * w) k ≡ r = omega (arith, m) in
          subst (λ (z : ℕ). good_receiver w h (cell_of w x y) z ≡ true) at
          (reached (r - k * w) k (record { inside = omega (arith, m); least = omega (arith, m); most = omega (arith, m) }) (record { inside = omega arith; least = omega arith; most = omega arith }))
  band_good r l (level p q) =
      let at : cell_of w (r - y * w) y ≡ r = omega arith in
      subst (λ (z : ℕ). good_receiver w h (cell_of w x y) z ≡ true) at
      (reached (r - y * w) y (record { inside = omega arith; least = omega arith; most = omega arith }) (record { inside = cy; least = omega arith; most = omega arith }))
  band_good r l (below p q) =
      let m : suc y * w ≡ y * w + w = suc-mul y w in
      let at : cell_of w (r - suc y * w) (suc y) ≡ r = omega (arith, m) in
      let row : suc y < h = go m (dec_lt (suc y) h) in
      subst (λ (z : ℕ). good_receiver w h (cell_of w x y) z ≡ true) at
      (reached (r - suc y * w) (suc y) (record { inside = omega (arith, m); least = omega (arith, m); most = omega (arith, m) }) (record { inside = row; least = omega arith; most = omega arith }))
    where
      go : suc y * w ≡ y * w + w → Dec (suc y < h) → suc y < h
      go m (yes k) = k
      go m (no k) = let few : h ≤ suc y = omega arith in absurd (omega (arith, m, mul-le-mul_right w few, mul_comm h w))

  good_band : (r : ℕ) → good_receiver w h (cell_of w x y) r ≡ true → Band r
  good_band r e = go (good_is w h (cell_of w x y) r e)
    where
      rows : (nx ny : ℕ) → r ≡ cell_of w nx ny → Close x w nx → Close y h ny → Dec (ny + 1 ≡ y) → Dec (ny ≡ y) → Band r
      rows nx ny q a b (yes d) f =
          let m : y * w ≡ ny * w + w = ap (λ (z : ℕ). z * w) (sym d) ∙ omega arith in
          above (omega (arith, m, a.least)) (omega (arith, m, a.most, a.inside))
      rows nx ny q a b (no d) (yes f) =
          let m : y * w ≡ ny * w = ap (λ (z : ℕ). z * w) (sym f) in
          level (omega (arith, m, a.least)) (omega (arith, m, a.most, a.inside))
      rows nx ny q a b (no d) (no f) =
          let s : ny ≡ suc y = omega (arith, b.least, b.most) in
          let m : ny * w ≡ y * w + w = ap (λ (z : ℕ). z * w) s ∙ suc-mul y w in
          below (omega (arith, m, a.least)) (omega (arith, m, a.most, a.inside))

      near : (d : ℕ) → r < w * h → r ≡ neighbour_of w h x y d → {nx ny : ℕ} → (neighbour_of w h x y d ≡ w * h) ⊎ Beside w h x y d nx ny → Band r
      near d l q (inl o) = absurd (omega arith)
      near d l q {nx} {ny} (inr b) =
          let s = step_of d in
          rows nx ny (q ∙ neighbour_beside b) (step_from x (step_x d) w nx s.columns b.column b.columns) (step_from y (step_y d) h ny s.rows b.row b.rows)
          (ℕ_discrete (ny + 1) y) (ℕ_discrete ny y)

      go : (r ≡ cell_of w x y) ⊎ Adjacent w h (cell_of w x y) r → Band r
      go (inl q) = level (omega arith) (omega arith)
      go (inr a) =
          let d : ℕ = a.direction in
          near d a.inside (sym (neighbour_cell w h x y d cx ∙ a.leads)) (outside_or_beside w h x y d)

  -- by the first and the last cell of the band in the cell's own row, as the code finds them
  module _ (r from to : ℕ) (ef : from ≡ x + y * w - min x 1) (et : to ≡ x + y * w + min (w - 1 - x) 1) where
    module _ (l : r < w * h) where
      -- the code's test of the three bands
      abbrev band_test : Bool
      band_test = (leb from (r + w) && leb (r + w) to) || (leb from r && leb r to) || (leb (from + w) r && leb r (to + w))

      band_met : band_test ≡ true → Band r
      band_met e = go (leb from (r + w) && leb (r + w) to) refl (leb from r && leb r to) refl (leb (from + w) r && leb r (to + w)) refl e
        where
          go : (a : Bool) → (leb from (r + w) && leb (r + w) to) ≡ a → (b : Bool) → (leb from r && leb r to) ≡ b
              → (c : Bool) → (leb (from + w) r && leb r (to + w)) ≡ c → (a || b || c) ≡ true → Band r
          go true p b q c s e = let k = both (leb from (r + w)) (leb (r + w) to) p in above (omega (arith, leb-true from (r + w) k.0)) (omega (arith, leb-true (r + w) to k.1))
          go false p true q c s e = let k = both (leb from r) (leb r to) q in level (omega (arith, leb-true from r k.0)) (omega (arith, leb-true r to k.1))
          go false p false q true s e = let k = both (leb (from + w) r) (leb r (to + w)) s in below (omega (arith, leb-true (from + w) r k.0)) (omega (arith, leb-true r (to + w) k.1))
          go false p false q false s e = absurd (true≢false (sym e))

      met_band : Band r → band_test ≡ true
      met_band (above p q) = met₁ (leb from (r + w) && leb (r + w) to) (leb from r && leb r to) (leb (from + w) r && leb r (to + w)) (rw (le-leb from (r + w) (omega arith), le-leb (r + w) to (omega arith)))
      met_band (level p q) = met₂ (leb from (r + w) && leb (r + w) to) (leb from r && leb r to) (leb (from + w) r && leb r (to + w)) (rw (le-leb from r (omega arith), le-leb r to (omega arith)))
      met_band (below p q) = met₃ (leb from (r + w) && leb (r + w) to) (leb from r && leb r to) (leb (from + w) r && leb r (to + w)) (rw (le-leb (from + w) r (omega arith), le-leb r (to + w) (omega arith)))

      pub off_bands : not band_test ≡ not (good_receiver w h (cell_of w x y) r)
      off_bands = ap not (alike _ _ (λ e. band_good r l (band_met e)) (λ e. met_band (good_band r e)))

pub no_cell : (w h c r : ℕ) → w * h ≤ r → true ≡ not (good_receiver w h c r)
unfolding good_receiver
no_cell w h c r l = rw (le-ltb r (w * h) l)
