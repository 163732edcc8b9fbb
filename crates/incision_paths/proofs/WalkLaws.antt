-- A walk down from a cell and back up: how it starts, goes on, turns and ends.
use Prim.Native.Nat.{ℕ, ◌+◌, ◌-◌, ◌*◌, ◌≤◌, ◌<◌}
use native.Mathlib.Omega.{arith}
use native.Mathlib.Decide.{ℕ_discrete}
use mathlib.Core.Path.{◌≡◌, refl, sym, ap, ◌∙◌, subst}
use mathlib.Core.Bool.{Bool, true, false, not, cond}
use mathlib.Core.List.{List, [], ◌∷◌}
use lib.ListN.{length, get_or, set, length-set}
use lib.Seq.{get_or-set_same, get_or-set_other}
use lib.Dec.{T}
use lib.Ieee.{Float, nan, binary32, of_bits, to_bits, is_nan}
use borrow.Author.Tests.{eq-eqb, ne_eqb}
use Rattle.loops.proofs.TestLaws.{clash}
use Rattle.floats.proofs.BitsLaws.{plain_bits, bits_back}
use Rattle.loops.specs.Counts.{times}
use Rattle.loops.proofs.CountLaws.{one_same, one_other, one_eq}
use Rattle.drainage.proofs.WorkListLaws.{receiver_lt}
use Rattle.areas.specs.Words.{areas_in, receiver_in, SteppedNetwork, Worded}
use Rattle.areas.proofs.WordLaws.{network_still}
use Rattle.incision_cell.specs.Cut.{cut_by_word}
use Rattle.incision_cell.specs.declared.Incision.{Incision}
use Rattle.incision_paths.specs.Settled.{settled_height}
use Rattle.incision_paths.specs.Walk.{done_in, done_word, ends_at, Marked, Ordered, Ways, Held, Upto, Trail, starts, onward, Descent, Descended, Ascent, SettledWays}
use Rattle.incision_paths.proofs.PlaceLaws.{Falls, place_in, falls}
use Rattle.incision_paths.proofs.HeightLaws.{Settles, cut_on, settles, heights_all}
use Rattle.incision_paths.proofs.MarkLaws.{marked_none, none_made, marked_words, now_made, still_made, marked_more, areas_kept, free_cut}

-- ---- trails
trail_inside : {n : ℕ} {recv : List ℕ} {out : List Float} {i j : ℕ} {up : List ℕ} → Trail n recv out i j up → j < n
trail_inside (starts l) = l
trail_inside (onward l e d m t) = l

-- the cell above j, which j's place tells
record Above (n : ℕ) (recv : List ℕ) (out : List Float) (i j : ℕ) (up : List ℕ) : Type 0 where
  cell : ℕ
  rest : List ℕ
  is : up ≡ cell ∷ rest
  drains : get_or recv cell 0 ≡ j
  differs : j ≡ cell → ⊥
  mark : get_or out j nan ≡ of_bits binary32 cell
  trail : Trail n recv out i cell rest

above : {n : ℕ} {recv : List ℕ} {out : List Float} {i j : ℕ} {up : List ℕ} → Trail n recv out i j up → 0 < length up → Above n recv out i j up
above (starts l) h = absurd (omega arith)
above (onward l e d m t) h = record { cell = _; rest = _; is = refl; drains = e; differs = d; mark = m; trail = t }

-- no steps are left: the walk is back
back_at_start : {n : ℕ} {recv : List ℕ} {out : List Float} {i j : ℕ} {up : List ℕ} → Trail n recv out i j up → length up ≡ 0 → (j ≡ i) × (up ≡ [])
back_at_start (starts l) e = (refl, refl)
back_at_start (onward l e d m t) z = absurd (omega arith)

module _ {n : ℕ} {recv : List ℕ} {place : ℕ → ℕ} (down : Falls n recv place) where
  -- a cell has a lower place than the one that drains into it
  lower : {j : ℕ} (b : ℕ) → b < n → get_or recv b 0 ≡ j → (j ≡ b → ⊥) → place j < place b
  lower {j} b l e d = omega (arith, down.lower b l (λ q. d (sym e ∙ q)), ap place e)

  other : {x j : ℕ} → place x < place j → j ≡ x → ⊥
  other {x} {j} h q = let e : place j ≡ place x = ap place q in omega arith

  module _ {out : List Float} {i : ℕ} where
    -- as many steps as there are cells above
    trail_place : {j : ℕ} {up : List ℕ} → Trail n recv out i j up → place j + length up ≤ place i
    trail_place (starts l) = omega arith
    trail_place (onward l e d m t) = omega (arith, lower _ (trail_inside t) e d, trail_place t)

    -- a cell with a lower place is none of them
    trail_off : {j : ℕ} {up : List ℕ} → Trail n recv out i j up → (x : ℕ) → place x < place j → times x (j ∷ up) ≡ 0
    unfolding times
    trail_off (starts l) x h = omega (arith, one_other _ x (other h))
    trail_off (onward l e d m t) x h = omega (arith, one_other _ x (other h), trail_off t x (omega (arith, lower _ (trail_inside t) e d)))

    -- and may be written
    trail_kept : {j : ℕ} {up : List ℕ} → Trail n recv out i j up → (x : ℕ) (v : Float) → place x < place j → Trail n recv (set out x v) i j up
    trail_kept (starts l) x v h = starts l
    trail_kept (onward l e d m t) x v h =
        onward l e d (get_or-set_other out x _ v nan (other h) ∙ m) (trail_kept t x v (omega (arith, lower _ (trail_inside t) e d)))

-- ---- the walk down
pub descent_none : {recv : List ℕ} {words out : List Float} {i : ℕ} → i < length recv → done_in words i ≡ false → Descent recv words out i out i 0
unfolding times
descent_none {recv} {words} {out} {i} l f =
    record { up = []; trail = starts l; count = refl; long = refl; fresh = λ c h. subst (λ (c : ℕ). done_in words c ≡ false) (one_eq i c (omega arith)) f; same = λ c h. refl }

module _ {recv : List ℕ} {words old out : List Float} {i j steps : ℕ} (s : Descent recv words old i out j steps) where
  pub descent_at : j < length recv
  descent_at = trail_inside s.trail

  pub descent_fresh : done_in words j ≡ false
  unfolding times
  descent_fresh = s.fresh j (omega (arith, one_same j j refl))

module _ (words : List Float) (j r : ℕ) (e : ends_at words j r ≡ false) where
  -- a walk goes on from no cell that is its own receiver
  goes_on : r ≡ j → ⊥
  goes_on q = clash (ap (λ (b : Bool). cond b true (done_in words r)) (eq-eqb r j q)) e

  -- nor into one that is made
  goes_into : done_in words r ≡ false
  goes_into = sym (ap (λ (b : Bool). cond b true (done_in words r)) (ne_eqb r j goes_on)) ∙ e

module _ {w : ℕ} {recv : List ℕ} {areas : List Float} {made : ℕ → Float} {words out : List Float} {i j steps : ℕ} (s : Ascent w recv areas i made words out j steps) where
  pub ascent_at : j < length recv
  ascent_at = trail_inside s.trail

  pub ascent_fresh : done_in words j ≡ false
  unfolding times
  ascent_fresh = s.fresh j (omega (arith, one_same j j refl))

  -- the cell above, as the bits of what the cell holds tell
  module _ (few : length recv ≤ 4096 * 4096) (more : 0 < steps) where
    next_up : Above (length recv) recv out i j s.up
    next_up = above s.trail (omega (arith, s.count))

    small : next_up.cell < 4096 * 4096
    small = omega (arith, trail_inside next_up.trail)

    pub ascent_plain : T (not (is_nan (get_or out j nan)))
    ascent_plain = subst (λ (x : Float). T (not (is_nan x))) (sym next_up.mark) (plain_bits (omega (arith, small)))

    told : to_bits binary32 (get_or out j nan) ≡ next_up.cell
    told = ap (to_bits binary32) next_up.mark ∙ bits_back (omega (arith, small))

    pub ascent_small : to_bits binary32 (get_or out j nan) < 4096 * 4096
    ascent_small = omega (arith, told, small)

module _ {recv : List ℕ} (o : Ordered recv) where
  down : Falls (length recv) recv (place_in o.list)
  down = falls o.work

  module _ {words old out : List Float} {i j steps : ℕ} (s : Descent recv words old i out j steps) where
    -- fewer steps than cells
    pub descent_few : i < length recv → steps < length recv
    descent_few l = omega (arith, trail_place down s.trail, down.few i l, s.count)

    -- one step more, to the receiver r
    module _ {r : ℕ} (z : r ≡ get_or recv j 0) where
      pub next_inside : r < length recv
      next_inside = omega (arith, receiver_lt o.work j (descent_at s))

      pub descent_ends : ends_at words j r ≡ true → Descended recv words old i out j steps
      descent_ends e = record { walk = s; ends = ap (ends_at words j) (sym z) ∙ e }

      pub descent_more : ends_at words j r ≡ false → length old ≡ length recv → Descent recv words old i (set out r (of_bits binary32 j)) r (steps + 1)
      unfolding times
      descent_more e few =
          let d : r ≡ j → ⊥ = goes_on words j r e in
          record {
            up = j ∷ s.up;
            trail = onward next_inside (sym z) d (get_or-set_same out r (of_bits binary32 j) nan (omega (arith, s.long, next_inside))) (trail_kept down s.trail r (of_bits binary32 j) (lower down j (descent_at s) (sym z) d));
            count = omega (arith, s.count);
            long = length-set out r (of_bits binary32 j) ∙ s.long;
            fresh = λ c h. fresh c h (ℕ_discrete r c);
            same = λ c h. get_or-set_other out r c (of_bits binary32 j) nan (λ t. omega (arith, one_same r c (sym t))) ∙ s.same c (omega arith);
          }
        where
          fresh : (c : ℕ) → 0 < times c (r ∷ (j ∷ s.up)) → Dec (r ≡ c) → done_in words c ≡ false
          fresh c h (yes t) = subst (λ (c : ℕ). done_in words c ≡ false) t (goes_into words j r e)
          fresh c h (no d) = s.fresh c (omega (arith, one_other r c d))

  -- ---- the turn
  module _ {w : ℕ} {areas : List Float} {made : ℕ → Float} {words old out : List Float} {i j steps : ℕ} (u : Upto w recv areas i made words old) (s : Descended recv words old i out j steps) where
    off : (c : ℕ) → c < length recv → times c (j ∷ s.walk.up) ≡ 0 → Held i made words out c
    off c l h = record { earlier = (u.held c l).earlier; already = λ m. s.walk.same c h ∙ (u.held c l).already m }

    below : (get_or recv j 0 ≡ j → ⊥) → get_or out (get_or recv j 0) nan ≡ made (get_or recv j 0)
    below d =
        (off (get_or recv j 0) (receiver_lt o.work j (descent_at s.walk)) (trail_off down s.walk.trail (get_or recv j 0) (down.lower j (descent_at s.walk) d))).already
        (sym (ap (λ (b : Bool). cond b true (done_in words (get_or recv j 0))) (ne_eqb (get_or recv j 0) j d)) ∙ s.ends)

    pub turned : Ascent w recv areas i made words out j steps
    turned = record {
      up = s.walk.up;
      trail = s.walk.trail;
      count = s.walk.count;
      marks = u.marks;
      kept = u.kept;
      long = s.walk.long ∙ u.long;
      below = below;
      fresh = s.walk.fresh;
      held = off;
    }

  -- ---- the walk up
  module _ {w : ℕ} {areas : List Float} {make : ℕ → Float → Float} {made : ℕ → Float} (fits : Settles recv make made) {words out : List Float} {i j steps : ℕ} (s : Ascent w recv areas i made words out j steps) where
    -- the cell is made as it should be
    right : make j (get_or out (get_or recv j 0) nan) ≡ made j
    right = go (ℕ_discrete (get_or recv j 0) j) ∙ sym (fits.fits j (ascent_at s))
      where
        go : Dec (get_or recv j 0 ≡ j) → make j (get_or out (get_or recv j 0) nan) ≡ make j (made (get_or recv j 0))
        go (yes e) = fits.alone j _ _ e
        go (no d) = ap (make j) (s.below d)

    module _ {next : List Float} (q : next ≡ set out j (make j (get_or out (get_or recv j 0) nan))) {after : List Float} (p : after ≡ set words j (done_word (get_or words j nan))) where
      made_here : get_or next j nan ≡ made j
      made_here = ap (λ (o : List Float). get_or o j nan) q ∙ get_or-set_same out j _ nan (omega (arith, ascent_at s, s.long)) ∙ right

      made_long : length next ≡ length recv
      made_long = ap length q ∙ length-set out j _ ∙ s.long

      marks_after : Marked w recv after
      marks_after = marked_more s.marks (ascent_at s) p

      kept_after : areas_in after ≡ areas
      kept_after = areas_kept s.marks (ascent_at s) p ∙ s.kept

      -- every cell off the rest of the walk is as it should be
      rest_held : (c : ℕ) → c < length recv → times c s.up ≡ 0 → Held i made after next c
      unfolding times
      rest_held c l h = go (ℕ_discrete c j)
        where
          go : Dec (c ≡ j) → Held i made after next c
          go (yes e) = record {
            earlier = λ z. subst (λ (c : ℕ). done_in after c ≡ true) (sym e) (now_made s.marks (ascent_at s) p);
            already = λ z. subst (λ (c : ℕ). get_or next c nan ≡ made c) (sym e) made_here;
          }
          go (no d) =
              let e : get_or next c nan ≡ get_or out c nan = ap (λ (o : List Float). get_or o c nan) q ∙ get_or-set_other out j c _ nan d in
              let t : done_in after c ≡ done_in words c = still_made s.marks (ascent_at s) p c d in
              let k : Held i made words out c = s.held c l (omega (arith, one_other j c (λ t. d (sym t)))) in
              record { earlier = λ l. t ∙ k.earlier l; already = λ m. e ∙ k.already (sym t ∙ m) }

      ascent_done : steps ≡ 0 → Upto w recv areas (i + 1) made after next
      unfolding times
      ascent_done z = record { marks = marks_after; kept = kept_after; long = made_long; held = λ c l. go c (rest_held c l (ap (times c) e.1)) (ℕ_discrete c i) }
        where
          e : (j ≡ i) × (s.up ≡ [])
          e = back_at_start s.trail (s.count ∙ z)

          go : (c : ℕ) → Held i made after next c → Dec (c ≡ i) → Held (i + 1) made after next c
          go c k (yes q) = record { earlier = λ l. subst (λ (c : ℕ). done_in after c ≡ true) (e.0 ∙ sym q) (now_made s.marks (ascent_at s) p); already = k.already }
          go c k (no d) = record { earlier = λ l. k.earlier (omega arith); already = k.already }

      module _ (few : length recv ≤ 4096 * 4096) (more : 0 < steps) where
        ascent_more : Ascent w recv areas i made after next (to_bits binary32 (get_or out j nan)) (steps - 1)
        unfolding times
        ascent_more =
            subst (λ (b : ℕ). Ascent w recv areas i made after next b (steps - 1)) (sym (told s few more))
            (record {
              up = a.rest;
              trail = subst (λ (o : List Float). Trail (length recv) recv o i a.cell a.rest) (sym q) (trail_kept down a.trail j _ lower_here);
              count = omega (arith, s.count, ap length a.is);
              marks = marks_after;
              kept = kept_after;
              long = made_long;
              below = λ d. subst (λ (r : ℕ). get_or next r nan ≡ made r) (sym a.drains) made_here;
              fresh = λ c h.
                  still_made s.marks (ascent_at s) p c (λ t. omega (arith, trail_off down a.trail j lower_here, ap (λ (c : ℕ). times c (a.cell ∷ a.rest)) t))
                  ∙ s.fresh c (omega (arith, ap (times c) a.is));
              held = λ c l h. rest_held c l (ap (times c) a.is ∙ h);
            })
          where
            a : Above (length recv) recv out i j s.up
            a = next_up s few more

            lower_here : place_in o.list j < place_in o.list a.cell
            lower_here = lower down a.cell (trail_inside a.trail) a.drains a.differs

-- as `walk_up` does it, cell by cell
module _ (by : Incision) (hs : List Float) {l : ℕ} {recv : List ℕ} (ways : Ways by.width recv (length hs) l) {areas words out : List Float} {i j steps : ℕ}
    (s : Ascent by.width recv areas i (settled_height by hs areas recv) words out j steps) {next after : List Float}
    (q : next ≡ set out j (cut_by_word by words j (get_or hs j nan) (get_or out (receiver_in by.width j words) nan))) (p : after ≡ set words j (done_word (get_or words j nan))) where
  fit : Settles recv (cut_on by hs areas recv) (settled_height by hs areas recv)
  fit = settles by hs areas recv ways.ordered ways.heights

  cut_here : next ≡ set out j (cut_on by hs areas recv j (get_or out (get_or recv j 0) nan))
  cut_here = free_cut by s.marks ways.network s.kept (ascent_at s) (ascent_fresh s) (get_or hs j nan) out q

  pub settled_last : steps ≡ 0 → Upto by.width recv areas (i + 1) (settled_height by hs areas recv) after next
  settled_last = ascent_done ways.ordered fit s cut_here p

  pub settled_more : 0 < steps → Ascent by.width recv areas i (settled_height by hs areas recv) after next (to_bits binary32 (get_or out j nan)) (steps - 1)
  settled_more = ascent_more ways.ordered fit s cut_here p ways.network.steps.few

-- ---- the cells in number order
-- no cell is made at the start
pub upto_none : {w cells : ℕ} {recv : List ℕ} {made : ℕ → Float} {words out : List Float} → SteppedNetwork w recv cells → Worded w recv words → length out ≡ length recv → Upto w recv (areas_in words) 0 made words out
upto_none net d long =
    record {
      marks = marked_none net d;
      kept = refl;
      long = long;
      held = λ c l. record { earlier = λ z. absurd (omega arith); already = λ m. absurd (clash m (none_made net d c l)) };
    }

module _ {w i : ℕ} {recv : List ℕ} {areas : List Float} {made : ℕ → Float} {words out : List Float} (u : Upto w recv areas i made words out) where
  -- a cell that is made already
  pub upto_kept : done_in words i ≡ true → Upto w recv areas (i + 1) made words out
  upto_kept m = record { marks = u.marks; kept = u.kept; long = u.long; held = λ c l. go c (u.held c l) (ℕ_discrete c i) }
    where
      go : (c : ℕ) → Held i made words out c → Dec (c ≡ i) → Held (i + 1) made words out c
      go c k (yes q) = record { earlier = λ l. subst (λ (c : ℕ). done_in words c ≡ true) (sym q) m; already = k.already }
      go c k (no d) = record { earlier = λ l. k.earlier (omega arith); already = k.already }

-- all cells are done
pub upto_done : {w i : ℕ} (by : Incision) (hs : List Float) (recv : List ℕ) (old : List Float) {words out : List Float} → Upto w recv (areas_in old) i (settled_height by hs (areas_in old) recv) words out
    → length hs ≡ length recv → length recv ≤ i → SettledWays by hs recv old words out
upto_done by hs recv old u long all = record {
  heights =
      heights_all by hs (areas_in old) recv (u.long ∙ sym long)
      (λ c l. let m : c < length recv = omega arith in (u.held c m).already ((u.held c m).earlier (omega arith)));
  areas = u.kept;
  words = marked_words u.marks;
}

module _ {w n l : ℕ} {recv : List ℕ} (ways : Ways w recv n l) where
  -- the result slice has its length still
  pub ways_still : {k : ℕ} → k ≡ length recv → Ways w recv n k
  ways_still e = record { network = network_still ways.network (e ∙ sym ways.network.long); ordered = ways.ordered; heights = ways.heights }
