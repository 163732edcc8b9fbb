-- Words some of which are made: each still has its area, and leads to its receiver until it is made.
use Prim.Native.Nat.{ℕ, ◌+◌, ◌-◌, ◌*◌, ◌/◌, ◌%◌, ◌≤◌, ◌<◌}
use native.Mathlib.Omega.{arith}
use native.Mathlib.Decide.{ℕ_discrete}
use mathlib.Core.Path.{◌≡◌, refl, sym, ap, ap₂, ◌∙◌, subst}
use mathlib.Core.Bool.{true, false}
use mathlib.Core.List.{List}
use lib.ListN.{length, get_or, set, length-set}
use lib.Seq.{get_or-set_same, get_or-set_other}
use lib.Ieee.{Float, nan, binary32, of_bits, to_bits}
use borrow.Author.Tests.{eq-eqb, ne_eqb}
use Rattle.loops.specs.Loops.{tabulate}
use Rattle.loops.proofs.TestLaws.{clash}
use Rattle.loops.proofs.TableLaws.{tabulate_same}
use Rattle.floats.proofs.BitsLaws.{bits_back}
use Rattle.floats.specs.Stand.{whole}
use Rattle.grid_spacing.specs.declared.Distances.{Distances}
use Rattle.receiver_steps.specs.Distance.{apart}
use Rattle.receiver_steps.specs.Step.{step_of, stepped_to, step_distances}
use Rattle.receiver_steps.proofs.StepLaws.{Step, step_back, step_proper, step_distance}
use Rattle.areas.specs.Words.{area_word, area_in, areas_in, receiver_in, Word, Words, SteppedNetwork, Passing, Worded}
use Rattle.areas.proofs.WordLaws.{area_is}
use Rattle.incision_cell.specs.Cut.{incision_coef, drained_to, cut_of, cut_down, cut_by_word}
use Rattle.incision_cell.specs.declared.Incision.{Incision}
use Rattle.incision_paths.specs.Walk.{is_made, done_in, done_word, MarkFor, Marked}

-- ---- one word
module _ {w c r : ℕ} {x : Float} (m : MarkFor w c r x) where
  mark_word : Word x
  mark_word = record { number = area_word m.area m.step; same = m.same; small = omega (arith, m.few, m.small) }

  told : to_bits binary32 x ≡ area_word m.area m.step
  told = ap (to_bits binary32) m.same ∙ bits_back (omega (arith, m.few, m.small))

  free_step : is_made (to_bits binary32 x) ≡ false → to_bits binary32 x % 16 ≡ step_of w c r
  free_step e =
      let s : to_bits binary32 x % 16 ≡ m.step = omega (arith, told, m.small) in
      s ∙ m.free (λ q. clash (eq-eqb (to_bits binary32 x % 16) 15 (s ∙ q)) e)

  made_told : to_bits binary32 (done_word x) ≡ area_word m.area 15
  made_told = let n : to_bits binary32 x - to_bits binary32 x % 16 + 15 ≡ area_word m.area 15 = omega (arith, told, m.small) in bits_back (omega (arith, n, m.few)) ∙ n

  made_is : is_made (to_bits binary32 (done_word x)) ≡ true
  made_is = eq-eqb (to_bits binary32 (done_word x) % 16) 15 (omega (arith, made_told))

  made_area : area_in (done_word x) ≡ area_in x
  made_area = ap whole (omega (arith, made_told, told, m.small))

  made_mark : MarkFor w c r (done_word x)
  made_mark = record {
    area = m.area;
    step = 15;
    few = m.few;
    small = omega arith;
    same = ap (of_bits binary32) (omega (arith, told, m.small));
    free = λ d. absurd (d refl);
  }

-- ---- all words, where none is made
module _ {w cells : ℕ} {recv : List ℕ} (net : SteppedNetwork w recv cells) {words : List Float} (d : Worded w recv words) where
  proper : {c : ℕ} → c < length recv → step_of w c (get_or recv c 0) ≤ 10
  proper l = step_proper (net.steps.near _ l) net.columns

  pub marked_none : Marked w recv words
  marked_none = record {
    long = d.long;
    each = λ c l. record { area = (d.each c l).area; step = step_of w c (get_or recv c 0); few = (d.each c l).few; small = omega (arith, proper l); same = (d.each c l).same; free = λ q. refl };
  }

  pub none_made : (c : ℕ) → c < length recv → done_in words c ≡ false
  unfolding marked_none
  none_made c l = ne_eqb (to_bits binary32 (get_or words c nan) % 16) 15 (λ q. omega (arith, told (marked_none.each c l), proper l))

-- ---- all words, some of them made
module _ {w : ℕ} {recv : List ℕ} {words : List Float} (m : Marked w recv words) where
  pub marked_word : (c : ℕ) → c < length recv → Word (get_or words c nan)
  marked_word c l = mark_word (m.each c l)

  pub marked_words : Words words
  marked_words c l = marked_word c (omega (arith, m.long))

  -- one more is made
  module _ {j : ℕ} (inside : j < length recv) {next : List Float} (q : next ≡ set words j (done_word (get_or words j nan))) where
    at_made : get_or next j nan ≡ done_word (get_or words j nan)
    at_made = ap (λ (t : List Float). get_or t j nan) q ∙ get_or-set_same words j _ nan (omega (arith, m.long))

    at_other : (c : ℕ) → (c ≡ j → ⊥) → get_or next c nan ≡ get_or words c nan
    at_other c d = ap (λ (t : List Float). get_or t c nan) q ∙ get_or-set_other words j c _ nan d

    pub now_made : done_in next j ≡ true
    now_made = ap (λ (x : Float). is_made (to_bits binary32 x)) at_made ∙ made_is (m.each j inside)

    pub still_made : (c : ℕ) → (c ≡ j → ⊥) → done_in next c ≡ done_in words c
    still_made c d = ap (λ (x : Float). is_made (to_bits binary32 x)) (at_other c d)

    next_long : length next ≡ length words
    next_long = ap length q ∙ length-set words j _

    pub marked_more : Marked w recv next
    marked_more = record { long = next_long ∙ m.long; each = λ c l. go c l (ℕ_discrete c j) }
      where
        go : (c : ℕ) → c < length recv → Dec (c ≡ j) → MarkFor w c (get_or recv c 0) (get_or next c nan)
        go c l (yes e) = subst (λ (c : ℕ). MarkFor w c (get_or recv c 0) (get_or next c nan)) (sym e) (subst (MarkFor w j (get_or recv j 0)) (sym at_made) (made_mark (m.each j inside)))
        go c l (no d) = subst (MarkFor w c (get_or recv c 0)) (sym (at_other c d)) (m.each c l)

    pub areas_kept : areas_in next ≡ areas_in words
    unfolding areas_in
    areas_kept =
        ap (λ (n : ℕ). tabulate n (λ c. area_in (get_or next c nan))) next_long
        ∙ tabulate_same (λ c. area_in (get_or next c nan)) (λ c. area_in (get_or words c nan)) (length words) (λ c l. go c (ℕ_discrete c j))
      where
        go : (c : ℕ) → Dec (c ≡ j) → area_in (get_or next c nan) ≡ area_in (get_or words c nan)
        go c (yes e) = subst (λ (c : ℕ). area_in (get_or next c nan) ≡ area_in (get_or words c nan)) (sym e) (ap area_in at_made ∙ made_area (m.each j inside))
        go c (no d) = ap area_in (at_other c d)

  -- a cell that is not made
  module _ {cells : ℕ} (net : SteppedNetwork w recv cells) {c : ℕ} (l : c < length recv) (e : done_in words c ≡ false) where
    stepped : to_bits binary32 (get_or words c nan) % 16 ≡ step_of w c (get_or recv c 0)
    stepped = free_step (m.each c l) e

    step : Step w c (get_or recv c 0) (step_of w c (get_or recv c 0))
    step = step_back (net.steps.near c l) net.columns

    pub free_leads : receiver_in w c words ≡ get_or recv c 0
    free_leads = ap (stepped_to w c) stepped ∙ step.back

    pub free_passing : Passing w words c
    free_passing = record {
      wide = net.steps.wide;
      few = omega (arith, m.long, net.steps.few);
      cell = omega (arith, m.long);
      all = marked_words;
      past = subst (λ (t : ℕ). w + 1 ≤ c + t % 4 + t / 4 * w) (sym stepped) step.past;
      inside = omega (arith, free_leads, m.long, net.steps.inside c l);
    }

    -- what `ends_at` asks of its receiver
    pub free_receiver : {r : ℕ} → r ≡ receiver_in w c words → (r < length words) × Word (get_or words r nan)
    free_receiver q = let h = net.steps.inside c l in (omega (arith, q, free_leads, m.long, h), marked_word _ (omega (arith, q, free_leads, h)))

    distance_is : (ds : Distances) → get_or (step_distances ds) (to_bits binary32 (get_or words c nan) % 16) nan ≡ apart ds w c (get_or recv c 0)
    distance_is ds = ap (λ (s : ℕ). get_or (step_distances ds) s nan) stepped ∙ step_distance (net.steps.near c l) net.columns ds

-- a cell that is not made is cut by its word as by its area and its receiver
pub free_cut : (by : Incision) {cells : ℕ} {recv : List ℕ} {words areas : List Float} (m : Marked by.width recv words) (net : SteppedNetwork by.width recv cells) → areas_in words ≡ areas
    → {c : ℕ} → c < length recv → done_in words c ≡ false → (own : Float) (out : List Float) {next : List Float} → next ≡ set out c (cut_by_word by words c own (get_or out (receiver_in by.width c words) nan))
    → next ≡ set out c (cut_down by areas recv c own (get_or out (get_or recv c 0) nan))
free_cut by {cells} {recv} {words} {areas} m net kept {c} l e own out q =
    q ∙ ap (set out c)
    (ap₂ (cut_of own by.uplift by.water)
    (ap₂ (λ (a d : Float). incision_coef a by.cells by.k d) (area_is words c (omega (arith, m.long)) ∙ ap (λ (t : List Float). get_or t c nan) kept) (distance_is m net l e by.distances))
    (ap (λ (r : ℕ). drained_to c r (get_or out r nan) by.water) (free_leads m net l e)))
