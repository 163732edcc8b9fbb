-- Demand 3, whole.
use Prim.Native.Nat.{ℕ, ◌*◌, ◌/◌, ◌%◌}
use mathlib.Core.Path.{◌≡◌, refl, sym, ap, ap₂, ◌∙◌, subst}
use mathlib.Core.Bool.{Bool, true, false, not, ◌&&◌, cond}
use mathlib.Core.List.{List}
use native.Mathlib.Omega.{arith}
use lib.ListN.{length}
use lib.Dec.{T, eqb}
use lib.Ieee.{Float, binary32, fits}
use lib.Ieee.Fits.{div-fits}
use borrow.Author.Tests.{eqb-true, not-false}
use Rattle.loops.proofs.TestLaws.{both, not_first, not_second}
use Rattle.float_order.specs.Fit.{Fit}
use Rattle.grid.specs.Sides.{InRange, bad_sides}
use Rattle.grid.specs.Heights.{all_finite}
use Rattle.grid.proofs.SidesLaws.{cells_bound}
use Rattle.drainage.specs.Ground.{no_base}
use Rattle.drainage.specs.Ways.{WorkList}
use Rattle.drainage.proofs.GroundLaws.{north_based}
use Rattle.fluvial_erosion.proofs.IndependenceLaws.{independence}
use Rattle.talus.proofs.TalusLaws.{row_length_lem, row_fit}
use Rattle.resample.specs.WorkSize.{work_size, Within}
use Rattle.resample.specs.Blocks.{average_of, downsampled}
use Rattle.resample.proofs.WorkLaws.{work_within}
use Rattle.upsample.specs.Samples.{as_source}
use Rattle.run_machine.specs.Plan.{land_of, fluvial_plan}
use Rattle.run_machine.specs.Machine.{State, after, steps, finished}
use Rattle.drainage.specs.Routing.{order_on, receivers_on}
use Rattle.run_machine.specs.Run.{Choice, ours, lent, incision_by, run_by, Ran, ran_as, added_back}
use Rattle.run_settings.specs.Refusals.{refusal_by, bad_fluvial}
use Rattle.run_machine.specs.Demand3.{Routes, ground_of, course_of, begins_with, RunRoutes, Alike, Demand3}
use Rattle.run_settings.specs.declared.FluvialSettings.{FluvialSettings}
use Rattle.run_machine.proofs.SameLaws.{after_same}
use Rattle.run_machine.proofs.SoundLaws.{Sized, sized_tabulate, Sound, after_sound}
use Rattle.run_machine.proofs.CutLaws.{incision_sized}
use Rattle.run_machine.proofs.DrainedLaws.{order_work_list, drained}

-- what 'accepted' says
pub record AcceptedMap (w h : ℕ) (map : List Float) : Type 0 where
  pub sides : bad_sides w h ≡ false
  pub long : length map ≡ w * h
  pub finite : all_finite map ≡ true

pub accepted : (w h : ℕ) (bad : Bool) (map : List Float) → refusal_by w h bad map ≡ 0 → AcceptedMap w h map
accepted w h bad map e =
    let a = not_first (bad_sides w h) 1 _ (λ n. omega (arith, n)) e in
    let b = not_first (not (eqb (length map) (w * h))) 3 _ (λ n. omega (arith, n)) a.1 in
    let c = not_first bad 4 _ (λ n. omega (arith, n)) b.1 in
    let d = not_second (all_finite map) 0 5 (λ n. omega (arith, n)) c.1 in
    record { sides = a.0; long = eqb-true (length map) (w * h) (not-false _ b.0); finite = d.0 }

average_fits : (src : List Float) (w h dw dh bx by : ℕ) → T (fits binary32 (average_of src w h dw dh bx by))
unfolding average_of
average_fits src w h dw dh bx by = div-fits binary32 _ _

module _ (w h : ℕ) (s : FluvialSettings) (stop : ℕ) (map : List Float) (fit : Fit map) (ok : AcceptedMap w h map) where
  abbrev dw : ℕ
  dw = (work_size w h s.work_res).w

  abbrev dh : ℕ
  dh = (work_size w h s.work_res).h

  within : Within w h dw dh
  within = work_within w h s.work_res ok.sides

  pub range : InRange dw dh
  range = omega (arith, within)

  -- the working sides are the map's own
  abbrev own : Bool
  own = eqb dw w && eqb dh h

  own_sides : own ≡ true → (dw ≡ w) × (dh ≡ h)
  own_sides e = (eqb-true dw w (both (eqb dw w) (eqb dh h) e).0, eqb-true dh h (both (eqb dw w) (eqb dh h) e).1)

  abbrev small : List Float
  small = downsampled map w h dw dh

  begins_sized : Sized (dw * dh) (begins_with w h s stop map)
  unfolding downsampled
  begins_sized = go own refl
    where
      go : (b : Bool) → own ≡ b → Sized (dw * dh) (cond b map (downsampled map w h dw dh))
      go true e = record { long = ok.long ∙ ap₂ (λ (x y : ℕ). x * y) (sym (own_sides e).0) (sym (own_sides e).1); fit = fit }
      go false e = sized_tabulate (dw * dh) (λ c. average_of map w h dw dh (c % dw) (c / dw)) (λ c. average_fits map w h dw dh (c % dw) (c / dw))

  -- the states of a run by any lists are sound
  states : (choose : Choice) → all_finite (begins_with w h s stop map) ≡ true → (k : ℕ) → Sound (dw * dh) (after (course_of w h s stop map choose) k (begins_with w h s stop map))
  states choose =
      after_sound (dw * dh) (course_of w h s stop map choose)
      (λ it hs z. incision_sized (ground_of w h s stop map) (fluvial_plan dw dh s).cuts choose (dw * dh) it hs z)
      (λ y hs copy z c. record { long = row_length_lem dw dh _ hs _ _ y copy ∙ c.long; fit = row_fit dw dh _ hs _ _ y copy c.fit })
      (begins_with w h s stop map) begins_sized

  -- the heights that an iteration routes
  pub routed_sound : (choose : Choice) (it : ℕ) (routed : List Float) → RunRoutes w h s stop map choose it routed → Sized (dw * dh) routed × (all_finite routed ≡ true)
  routed_sound choose it routed r =
      let z : Sound (dw * dh) (after (course_of w h s stop map choose) r.routes.done (begins_with w h s stop map)) = states choose r.started r.routes.done in
      (subst (Sized (dw * dh)) r.routes.heights z.heights, subst (λ l. all_finite l ≡ true) r.routes.heights z.finite)

  -- the land of a run is open to the north, so some cell is base level
  based : (routed : List Float) → no_base (ground_of w h s stop map routed) ≡ false
  based routed = north_based dw dh (land_of s) routed range refl

  module _ (lists : ℕ → List ℕ)
      (work : (it : ℕ) (routed : List Float) → RunRoutes w h s stop map (lent lists) it routed → WorkList (dw * dh) (receivers_on (ground_of w h s stop map) routed) (lists it)) where
    -- an iteration of the other run cuts as ours would
    cuts_same : all_finite (begins_with w h s stop map) ≡ true → (it : ℕ) (routed : List Float) → Routes (course_of w h s stop map (lent lists)) (begins_with w h s stop map) it routed
        → incision_by (ground_of w h s stop map) (fluvial_plan dw dh s).cuts ours it routed ≡ incision_by (ground_of w h s stop map) (fluvial_plan dw dh s).cuts (lent lists) it routed
    unfolding incision_by
    cuts_same fin it routed r =
        let here : RunRoutes w h s stop map (lent lists) it routed = record { started = fin; routes = r } in
        let z : Sized (dw * dh) routed × (all_finite routed ≡ true) = routed_sound (lent lists) it routed here in
        (independence (ground_of w h s stop map routed) (fluvial_plan dw dh s).cuts (receivers_on (ground_of w h s stop map) routed) (order_on (ground_of w h s stop map) routed) (lists it) routed
        (sym z.0.long) (cells_bound dw dh range.wide range.high) (order_work_list dw dh (land_of s) range routed z.0 z.1 (based routed)) (work it routed here)).heights

    states_same : all_finite (begins_with w h s stop map) ≡ true → (n : ℕ) → after (course_of w h s stop map ours) n (begins_with w h s stop map) ≡ after (course_of w h s stop map (lent lists)) n (begins_with w h s stop map)
    states_same fin = after_same (course_of w h s stop map (lent lists)) (incision_by (ground_of w h s stop map) (fluvial_plan dw dh s).cuts ours) (begins_with w h s stop map) (cuts_same fin)

    -- what a run ends with, from the states that it ends in on the map and on its averages
    abbrev ends : Bool → Bool → State → State → Ran
    ends o f full part =
        cond o (ran_as full.number full full.heights)
        (cond f (cond (eqb part.number 0) (added_back as_source w h dw dh map small part) (ran_as part.number part map))
        (record { number = 22; incisions = 0; passes = 0; questions = 0; map = map }))

    abbrev end : Choice → List Float → State
    end choose hs = finished (course_of w h s stop map choose) hs

    -- both choices end in the same state from where the run begins
    end_same : (hs : List Float) → begins_with w h s stop map ≡ hs → all_finite hs ≡ true → end ours hs ≡ end (lent lists) hs
    end_same hs at fin = subst (λ (hs : List Float). end ours hs ≡ end (lent lists) hs) at (states_same (ap all_finite at ∙ fin) (steps (course_of w h s stop map ours)))

    ends_same : (o f : Bool) → own ≡ o → all_finite small ≡ f → ends o f (end ours map) (end ours small) ≡ ends o f (end (lent lists) map) (end (lent lists) small)
    ends_same true f e g = ap (λ (t : State). ends true f t (end ours small)) (end_same map (ap (λ (b : Bool). cond b map small) e) ok.finite)
    ends_same false true e g = ap (λ (t : State). ends false true (end ours map) t) (end_same small (ap (λ (b : Bool). cond b map small) e) g)
    ends_same false false e g = refl

    runs_same : run_by w h s stop ours map ≡ run_by w h s stop (lent lists) map
    unfolding run_by
    runs_same = ends_same own (all_finite small) refl refl

    pub alike : Alike w h s stop map lists
    alike = record {
      same = runs_same;
      ours_drained = λ it routed r.
          let z : Sized (dw * dh) routed × (all_finite routed ≡ true) = routed_sound ours it routed r in
          drained dw dh (land_of s) range routed z.0 z.1 (based routed) (order_on (ground_of w h s stop map) routed) (order_work_list dw dh (land_of s) range routed z.0 z.1 (based routed));
      lent_drained = λ it routed r.
          let z : Sized (dw * dh) routed × (all_finite routed ≡ true) = routed_sound (lent lists) it routed r in
          drained dw dh (land_of s) range routed z.0 z.1 (based routed) (lists it) (work it routed r);
    }

pub demand3 : Demand3
demand3 w h s stop map lists fit e work = alike w h s stop map fit (accepted w h (bad_fluvial s) map e) lists work
