-- The example of specs/OtherLists.antt: its states, receivers and end by computation, and that its lists are work lists.
use Prim.Native.Nat.{ℕ, zero, suc, ◌+◌, ◌<◌}
use mathlib.Core.Path.{◌≡◌, refl, sym, ap, ◌∙◌, subst}
use mathlib.Core.Bool.{true, false, true≢false}
use mathlib.Core.List.{List, [], ◌∷◌, map}
use native.Mathlib.Omega.{arith}
use lib.ListN.{get_or}
use lib.Ieee.{Float, nan, binary32, of_bits, to_bits, of_int, round, neg, add, sub, mul, div, lt, le, to_unsigned}
use lib.Ieee.Fits.{nan-fits}
use Rattle.loops.specs.Loops.{turns, tabulate}
use Rattle.loops.specs.Counts.{times}
use Rattle.loops.specs.Firsts.{first_failing}
use Rattle.loops.proofs.TurnLaws.{turns_split, turns_kept}
use Rattle.floats.specs.Stand.{whole, whole_by, ceil_of}
use Rattle.float_order.specs.Fit.{Fit}
use Rattle.float_order.proofs.WholeLaws.{whole_fits}
use Rattle.grid.specs.Directions.{neighbour_of}
use Rattle.grid.specs.Heights.{first_not_finite, all_finite}
use Rattle.square_root.specs.Root.{root_of, nearest_root, whole_root, digits}
use Rattle.generators.specs.Marks.{report_of}
use Rattle.drainage.specs.Flood.{flood_start, flood_step, least_waiting, push_all, flood_after}
use Rattle.drainage.specs.Receivers.{receivers, receiver_of, steepest_of, direction_to}
use Rattle.drainage.specs.Ways.{WorkList, areas_along}
use Rattle.lent_list.specs.Entries.{good_entry}
use Rattle.lent_list.proofs.ListLaws.{list_test}
use Rattle.fluvial_erosion.specs.Incision.{incised_by, incise_along}
use Rattle.talus.specs.Talus.{shed_to, shed_step, shed_of, gain_to, gain_step, gains_of, slide_cell, slide_row}
use Rattle.resample.specs.WorkSize.{work_size, scaled_side}
use Rattle.resample.specs.Blocks.{downsampled, average_of}
use Rattle.upsample.specs.Samples.{as_source}
use Rattle.run_machine.specs.Machine as Machine
use Rattle.run_machine.specs.Machine.{Course, State, start, after}
use Rattle.run_machine.specs.Run.{ours, lent, incision_by, run_from, run_by}
use Rattle.run_settings.specs.Refusals.{fluvial_refusal}
use Rattle.run_machine.specs.Demand3.{course_of, RunRoutes}
use Rattle.run_machine.proofs.Demand3Laws.{demand3}
use Rattle.run_other_lists.specs.OtherLists.{settings, heights, lists, second, receivers_there, order_there, ended, OtherLists}

fits : (l : List ℕ) → Fit (map whole l)
fits [] i = nan-fits binary32
fits (n ∷ l) zero = whole_fits n
fits (n ∷ l) (suc i) = fits l i

abbrev course : Course
course = course_of 4 3 settings 0 heights (lent lists)

-- the state after n steps
abbrev at : ℕ → State
at n = after course n heights

abbrev first_receivers : List ℕ
first_receivers = 0 ∷ 1 ∷ 2 ∷ 3 ∷ 4 ∷ 6 ∷ 10 ∷ 7 ∷ 8 ∷ 9 ∷ 10 ∷ 11 ∷ []

abbrev second_receivers : List ℕ
second_receivers = 0 ∷ 1 ∷ 2 ∷ 3 ∷ 4 ∷ 9 ∷ 5 ∷ 7 ∷ 8 ∷ 9 ∷ 10 ∷ 11 ∷ []

-- the lists are work lists of these
first_work : WorkList 12 first_receivers (lists 0)
unfolding first_failing good_entry times
first_work = (list_test 12 first_receivers (lists 0) refl).sound refl

second_work : WorkList 12 second_receivers (lists 1)
unfolding first_failing good_entry times
second_work = (list_test 12 second_receivers (lists 1) refl).sound refl

-- the states after the first iteration and after the second, each an opening and three rows
abbrev middle : State
middle =
    record {
      heights = second;
      copy = second;
      row = 0;
      marks = record { last = of_bits binary32 0x3ed5_5556; asked = 4; stopped = false };
      incisions = 1;
      passes = 1;
      iteration = 1;
      pass = 0;
      opened = false;
      number = 0;
    }

abbrev last : State
last =
    record {
      heights = ended.map;
      copy = ended.map;
      row = 0;
      marks = record { last = of_bits binary32 0x3f6a_aaab; asked = 8; stopped = false };
      incisions = 2;
      passes = 2;
      iteration = 2;
      pass = 0;
      opened = false;
      number = 0;
    }

abbrev later : ℕ → State
later n = turns n (λ i. Machine.step course) middle

record Computed : Type 0 where
  opened_1 : (at 1).opened ≡ true
  opened_2 : (at 2).opened ≡ true
  opened_3 : (at 3).opened ≡ true
  middle_is : at 4 ≡ middle
  opened_5 : (later 1).opened ≡ true
  opened_6 : (later 2).opened ≡ true
  opened_7 : (later 3).opened ≡ true
  last_is : later 4 ≡ last
  first_receivers_lem : receivers_there heights ≡ first_receivers
  second_receivers_lem : receivers_there second ≡ second_receivers

computed : Computed
unfolding of_bits to_bits of_int round add sub mul div lt le to_unsigned turns tabulate ceil_of whole_by neighbour_of first_not_finite all_finite root_of nearest_root whole_root digits report_of flood_start flood_step least_waiting push_all flood_after receivers receiver_of steepest_of direction_to areas_along incised_by incise_along incision_by shed_to shed_step shed_of gain_to gain_step gains_of slide_cell slide_row work_size scaled_side downsampled average_of after Machine.step
computed = record {
  opened_1 = refl;
  opened_2 = refl;
  opened_3 = refl;
  middle_is = refl;
  opened_5 = refl;
  opened_6 = refl;
  opened_7 = refl;
  last_is = refl;
  first_receivers_lem = refl;
  second_receivers_lem = refl;
}

later_is : (n : ℕ) → at (n + 4) ≡ later n
unfolding after
later_is n = turns_split (Machine.step course) n 4 (start course heights) ∙ ap (turns n (λ i. Machine.step course)) computed.middle_is

-- a run with no iteration left stays
last_stays : Machine.step course last ≡ last
unfolding Machine.step
last_stays = refl

past : (k : ℕ) → at (k + 8) ≡ last
unfolding after
past k =
    turns_split (Machine.step course) k 8 (start course heights)
    ∙ ap (turns k (λ i. Machine.step course)) (later_is 4 ∙ computed.last_is)
    ∙ turns_kept (λ i. Machine.step course) last k (λ i. last_stays)

first_list : WorkList 12 (receivers_there heights) (lists 0)
first_list = subst (λ (r : List ℕ). WorkList 12 r (lists 0)) (sym computed.first_receivers_lem) first_work

second_list : WorkList 12 (receivers_there second) (lists 1)
second_list = subst (λ (r : List ℕ). WorkList 12 r (lists 1)) (sym computed.second_receivers_lem) second_work

-- only the states after no step and after four are about to open an iteration
routed_list : (n it : ℕ) (routed : List Float) → it < 2 → (at n).iteration ≡ it → (at n).opened ≡ false → (at n).heights ≡ routed
    → WorkList 12 (receivers_there routed) (lists it)
unfolding after turns
routed_list zero it routed l e o h = subst (λ (r : List Float). WorkList 12 (receivers_there r) (lists it)) h (subst (λ (i : ℕ). WorkList 12 (receivers_there heights) (lists i)) e first_list)
routed_list (suc zero) it routed l e o h = absurd (true≢false (sym computed.opened_1 ∙ o))
routed_list (suc (suc zero)) it routed l e o h = absurd (true≢false (sym computed.opened_2 ∙ o))
routed_list (suc (suc (suc zero))) it routed l e o h = absurd (true≢false (sym computed.opened_3 ∙ o))
routed_list (suc (suc (suc (suc zero)))) it routed l e o h =
    let m : at 4 ≡ middle = computed.middle_is in
    subst (λ (r : List Float). WorkList 12 (receivers_there r) (lists it)) (sym (ap (λ (s : State). s.heights) m) ∙ h)
    (subst (λ (i : ℕ). WorkList 12 (receivers_there second) (lists i)) (sym (ap (λ (s : State). s.iteration) m) ∙ e) second_list)
routed_list (suc (suc (suc (suc (suc zero))))) it routed l e o h = absurd (true≢false (sym (ap (λ (s : State). s.opened) (later_is 1) ∙ computed.opened_5) ∙ o))
routed_list (suc (suc (suc (suc (suc (suc zero)))))) it routed l e o h = absurd (true≢false (sym (ap (λ (s : State). s.opened) (later_is 2) ∙ computed.opened_6) ∙ o))
routed_list (suc (suc (suc (suc (suc (suc (suc zero))))))) it routed l e o h = absurd (true≢false (sym (ap (λ (s : State). s.opened) (later_is 3) ∙ computed.opened_7) ∙ o))
routed_list (suc (suc (suc (suc (suc (suc (suc (suc k)))))))) it routed l e o h =
    let n : suc (suc (suc (suc (suc (suc (suc (suc k))))))) ≡ k + 8 = omega arith in
    let two : 2 ≡ it = sym (ap (λ (m : ℕ). (at m).iteration) n ∙ ap (λ (s : State). s.iteration) (past k)) ∙ e in
    absurd (omega (arith, two))

premise : (it : ℕ) (routed : List Float) → RunRoutes 4 3 settings 0 heights (lent lists) it routed → WorkList 12 (receivers_there routed) (lists it)
unfolding work_size
premise it routed r = routed_list r.routes.done it routed r.routes.due r.routes.entered r.routes.unopened r.routes.heights

-- the run, by its last state
lent_ends : run_by 4 3 settings 0 (lent lists) heights ≡ ended
unfolding run_by work_size to_unsigned ceil_of mul of_int div of_bits
lent_ends = ap (λ (s : State). run_from as_source 4 3 course heights (Machine.finished course (downsampled heights 4 3 4 3)) s) (past 0)

accepted : fluvial_refusal 4 3 settings heights ≡ 0
unfolding of_bits of_int round neg lt le first_not_finite all_finite turns
accepted = refl

fit : Fit heights
fit = fits (5 ∷ 5 ∷ 8 ∷ 6 ∷ 3 ∷ 4 ∷ 1 ∷ 8 ∷ 6 ∷ 4 ∷ 2 ∷ 8 ∷ [])

ours_ends : run_by 4 3 settings 0 ours heights ≡ ended
unfolding work_size
ours_ends = (demand3 4 3 settings 0 heights lists fit accepted premise).same ∙ lent_ends

pub other_lists : OtherLists
unfolding of_bits to_bits of_int round add sub mul div lt le to_unsigned turns tabulate ceil_of whole_by neighbour_of first_not_finite all_finite root_of nearest_root whole_root digits report_of flood_start flood_step least_waiting push_all flood_after receivers receiver_of steepest_of direction_to areas_along incised_by incise_along incision_by shed_to shed_step shed_of gain_to gain_step gains_of slide_cell slide_row work_size scaled_side downsampled average_of after Machine.step
other_lists = record {
  fit = fit;
  accepted = accepted;
  premise = premise;
  first_routes = record { started = refl; routes = record { done = 0; goes_on = refl; due = omega arith; entered = refl; unopened = refl; unstopped = refl; heights = refl } };
  second_routes =
      let m : at 4 ≡ middle = computed.middle_is in
      record {
        started = refl;
        routes =
            record {
              done = 4;
              goes_on = ap (λ (s : State). s.number) m;
              due = omega arith;
              entered = ap (λ (s : State). s.iteration) m;
              unopened = ap (λ (s : State). s.opened) m;
              unstopped = ap (λ (s : State). (report_of s.marks (course.opening 1) 0).stopped) m;
              heights = ap (λ (s : State). s.heights) m;
            };
      };
  first_receivers_lem = computed.first_receivers_lem;
  second_receivers_lem = computed.second_receivers_lem;
  first_other = λ e. let z : ◌≡◌ {A = ℕ} (get_or (order_there heights) 0 0) 0 = ap (λ (l : List ℕ). get_or l 0 0) e in omega (arith, z);
  second_other = λ e. let z : ◌≡◌ {A = ℕ} (get_or (order_there second) 0 0) 11 = ap (λ (l : List ℕ). get_or l 0 0) e in omega (arith, z);
  first_change = λ e. let z : ◌≡◌ {A = ℕ} (to_bits binary32 (get_or second 0 nan)) (to_bits binary32 (get_or heights 0 nan)) = ap (λ (l : List Float). to_bits binary32 (get_or l 0 nan)) e in omega (arith, z);
  second_change = λ e. let z : ◌≡◌ {A = ℕ} (to_bits binary32 (get_or ended.map 0 nan)) (to_bits binary32 (get_or second 0 nan)) = ap (λ (l : List Float). to_bits binary32 (get_or l 0 nan)) e in omega (arith, z);
  lent_ends = lent_ends;
  ours_ends = ours_ends;
}
