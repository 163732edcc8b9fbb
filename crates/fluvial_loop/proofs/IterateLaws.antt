-- The loop over the iterations of a fluvial run: what holds at its test, what its parts ask, and what it leaves.
use Prim.Native.Nat.{ℕ, suc, ◌+◌, ◌*◌, ◌≤◌, ◌<◌}
use mathlib.Core.Path.{◌≡◌, refl, sym, ap, ◌∙◌, subst}
use mathlib.Core.Bool.{false}
use mathlib.Core.List.{List}
use native.Mathlib.Nat.{mul-le-mul_right}
use native.Mathlib.Omega.{arith}
use lib.ListN.{length}
use lib.Ieee.{Float}
use Rattle.loops.proofs.TurnLaws.{turns_more}
use Rattle.float_order.specs.Fit.{Fit}
use Rattle.grid.specs.Heights.{all_finite}
use Rattle.generators.specs.Marks.{report_of}
use Rattle.generators.specs.declared.Progress.{Progress}
use Rattle.grid.specs.Sides.{InRange}
use Rattle.grid.specs.Base.{all_open}
use Rattle.grid.specs.declared.OpenSides.{OpenSides}
use Rattle.drainage.specs.Ground.{grid_ground, no_base}
use Rattle.drainage.proofs.GroundLaws.{north_based}
use Rattle.flood.specs.Slices.{AcceptedGrid}
use Rattle.flow.specs.Route.{Enough}
use Rattle.flow.specs.declared.Lent.{Lent}
use Rattle.run_machine.specs.Machine.{Course, State, start}
use Rattle.run_machine.specs.Run.{ours}
use Rattle.run_machine.specs.Nested.{one_opening, one_iteration, iterated, nested, Due, Bounded}
use Rattle.run_machine.proofs.SoundLaws.{Sound}
use Rattle.run_machine.proofs.KeptLaws.{iterated_sound}
use Rattle.run_machine.proofs.CutLaws.{incision_sized}
use Rattle.run_machine.proofs.AskedLaws.{opening_asked, iterated_asked}
use Rattle.run_machine.proofs.IterationLaws.{due_iterated}
use Rattle.run_parts.specs.Reached.{Reach, Worked, seen, begun, after_made}
use Rattle.run_parts.proofs.ReachedLaws.{worked, opened_by, made_cases}
use Rattle.run_parts.proofs.LoopLaws.{Going, going_none, going_done, going_ended, going_asked, going_incisions, going_opening}
use Rattle.fluvial_carve.specs.Carve.{carved_of}
use Rattle.fluvial_opening.specs.Opening.{after_opening, Counts}
use Rattle.fluvial_opening.proofs.OpeningLaws.{carved_by}
use Rattle.fluvial_loop.specs.Loops.{course_by, slid_by, Slides}
use Rattle.fluvial_loop.specs.declared.FluvialPlan.{FluvialPlan}
use Rattle.fluvial_loop.proofs.SlideLaws.{slid_none, slid_ended, slid_seen}

-- the lengths of the slices one by one
pub lent_same : {hs hs' order order' recv recv' copy copy' area area' queue queue' status status' : ℕ}
    → hs ≡ hs' → order ≡ order' → recv ≡ recv' → copy ≡ copy' → area ≡ area' → queue ≡ queue' → status ≡ status'
    → ◌≡◌ {A = Lent} (record { heights = hs; order = order; receivers = recv; spill = copy; areas = area; queue = queue; status = status })
    (record { heights = hs'; order = order'; receivers = recv'; spill = copy'; areas = area'; queue = queue'; status = status' })
lent_same a b c d e f g i =
    record { heights = a i; order = b i; receivers = c i; spill = d i; areas = e i; queue = f i; status = g i }

-- iteration `it` is due, or the run has ended; every slice has kept its length
pub record Iterating (c : Course) (hs : List Float) (then : Lent) (it : ℕ) (map : List Float) (r : Reach) (now : Lent) : Type 0 where
  pub within : it ≤ c.iterations
  pub held : worked map r ≡ seen (iterated c it hs)
  pub lengths : now ≡ then

module _ (w h : ℕ) (plan : FluvialPlan) (stop : ℕ) (hs : List Float) (then : Lent) where
  abbrev course : Course
  course = course_by w h plan stop

  pub iterating_none : {r : Reach} → r ≡ begun → Iterating course hs then 0 hs r then
  iterating_none e = record { within = omega arith; held = ap (worked hs) e ∙ (going_none course hs).held; lengths = refl }

  module _ (it : ℕ) (map : List Float) (r : Reach) (now : Lent) (i : Iterating course hs then it map r now) where
    -- the loop is left
    pub iterating_done : course.iterations ≤ it → worked map r ≡ seen (nested course hs)
    iterating_done l = going_done course hs i.held i.within l

    pub iterating_ended : (r.number ≡ 0 → ⊥) → worked map r ≡ seen (nested course hs)
    iterating_ended z = going_ended course hs it i.held i.within z

    pub iterating_enough : Enough (w * h) then → Enough (w * h) now
    iterating_enough e = subst (Enough (w * h)) (sym i.lengths) e

    pub iterating_on : {e : Reach} → r ≡ e → Iterating course hs then it map e now
    iterating_on f = subst (λ (r : Reach). Iterating course hs then it map r now) f i

    -- the heights are those of a grid that may be routed
    pub iterating_accepted : AcceptedGrid w h hs → Fit hs → length map ≡ w * h → AcceptedGrid w h map
    iterating_accepted a fit e =
        let sound : Sound (w * h) (iterated course it hs) =
        iterated_sound (w * h) course (λ it hs. incision_sized (grid_ground w h plan.land) plan.cuts ours (w * h) it hs) hs
        (record { long = a.cells; fit = fit }) a.finites it in
        record { sides = a.sides; cells = e; finites = ap (λ (x : Worked). all_finite x.heights) i.held ∙ sound.finite }

    -- and some cell is base level, since every side is open
    pub iterating_based : InRange w h → plan.land.sides ≡ all_open → no_base (grid_ground w h plan.land map) ≡ false
    iterating_based s e = north_based w h plan.land map s (ap (λ (o : OpenSides). o.north) e)

    module _ (b : Bounded course) (l : it < course.iterations) (z : r.number ≡ 0) where
      going : Going course hs it map r
      going = record { held = i.held; on = z }

      pub iterating_counts : Counts r
      iterating_counts = record { questions = going_asked course hs it going b l; incisions = going_incisions course hs it going b l }

      module _ (opened : List Float) (o : Reach) (made : worked opened o ≡ after_opening w h plan.land plan.cuts (course.opening it) stop map r) where
        -- the opening is that of the state
        iterating_opened : worked opened o ≡ seen (one_opening course (iterated course it hs))
        iterating_opened = going_opening course hs it going b l refl (made ∙ cuts)
          where
            m : Progress
            m = report_of r.marks (course.opening it) stop

            cuts : after_opening w h plan.land plan.cuts (course.opening it) stop map r ≡ opened_by course it map r m
            cuts =
                ap (λ (new : List Float). after_made map r m new (record { marks = m; incisions = r.incisions + 1; passes = r.passes; number = 0 }))
                (carved_by w h plan.land plan.cuts it map)

        opened_passes : o.passes ≡ r.passes
        opened_passes =
            ap (λ (x : Worked). x.reached.passes) made
            ∙ made_cases (λ (x : Worked). x.reached.passes ≡ r.passes) map r (report_of r.marks (course.opening it) stop) (carved_of w h plan.land plan.cuts map) _ refl refl refl

        -- what the passes ask
        pub iterating_slides : {n k : ℕ} → n ≡ w * h → k ≡ n → Slides course it n k o
        iterating_slides e f =
            let s : State = iterated course it hs in
            let due : Due course it s = due_iterated course b.some hs it (ap (λ (x : Worked). x.reached.number) (sym i.held) ∙ z) in
            let asked : o.marks.asked ≡ (one_opening course s).marks.asked = ap (λ (x : Worked). x.reached.marks.asked) iterating_opened in
            let passes : o.passes ≡ it * course.passes = opened_passes ∙ ap (λ (x : Worked). x.reached.passes) i.held ∙ due.passes in
            record {
              bounded = b;
              due = l;
              heights = e;
              copied = f;
              questions = omega (arith, asked, opening_asked course s, iterated_asked course hs it, b.steps, mul-le-mul_right (suc (course.passes * h)) l);
              count = omega (arith, passes, b.passes, mul-le-mul_right course.passes l);
            }

        -- and after them the next iteration is due
        pub iterating_more : (new : List Float) (e : Reach) (later : Lent) → worked new e ≡ slid_by course it plan.passes (worked opened o) → later ≡ now
            → Iterating course hs then (it + 1) new e later
        iterating_more new e later f k =
            record {
              within = omega arith;
              held =
                  f ∙ ap (slid_by course it plan.passes) iterating_opened
                  ∙ sym (slid_seen course it (iterated course it hs) (due_iterated course b.some hs it) b.some)
                  ∙ ap seen (sym (turns_more (λ i. one_iteration course) it (start course hs)));
              lengths = k ∙ i.lengths;
            }

        -- a run that ended in the opening makes none of them
        pub iterating_opened_ended : (o.number ≡ 0 → ⊥) → worked opened o ≡ seen (nested course hs)
        iterating_opened_ended n =
            let stays : worked opened o ≡ slid_by course it plan.passes (worked opened o) =
            slid_ended course it (worked opened o) 0 opened o (length opened) (slid_none course it (worked opened o) refl) n in
            let more : Iterating course hs then (it + 1) opened o now = iterating_more opened o now stays refl in
            going_ended course hs (it + 1) more.held more.within n
