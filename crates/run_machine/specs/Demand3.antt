-- Demand 3 as one claim about the whole run with all its lists, in the words of document 01, 'The other run of demand
-- 3'.
use Rattle.std.specs.Prelude.{ℕ, ◌<◌, ◌≡◌, true, false, ◌&&◌, cond, List, get_or, eqb, Float}
use Rattle.std.specs.Float.{nan}
use Rattle.floats.specs.Stand.{whole}
use Rattle.float_order.specs.Order.{rank}
use Rattle.float_order.specs.Fit.{Fit}
use Rattle.grid.specs.Heights.{all_finite}
use Rattle.generators.specs.Marks.{report_of}
use Rattle.drainage.specs.Ground.{Ground, grid_ground}
use Rattle.loops.specs.Counts.{sum_below}
use Rattle.drainage.specs.Ways.{WorkList, area_of, areas_along}
use Rattle.drainage.specs.Chains.{LeastCrest}
use Rattle.resample.specs.WorkSize.{work_size}
use Rattle.resample.specs.Blocks.{downsampled}
use Rattle.run_machine.specs.Plan.{land_of, fluvial_plan}
use Rattle.run_machine.specs.Machine.{Course, after}
use Rattle.drainage.specs.Routing.{order_on, spill_on, receivers_on}
use Rattle.run_machine.specs.Run.{Choice, ours, lent, fluvial_course, run_by}
use Rattle.run_settings.specs.Refusals.{fluvial_refusal}
use Rattle.run_settings.specs.declared.FluvialSettings.{FluvialSettings}

-- Iteration `it` of a course from the working heights hs routes the heights `routed`: after some steps the run has not
-- ended, that iteration is due and not opened yet, and its question does not stop it. An iteration that then ends in 22
-- routes too.
pub record Routes (c : Course) (hs : List Float) (it : ℕ) (routed : List Float) : Type 0 where
  pub done : ℕ
  pub goes_on : (after c done hs).number ≡ 0
  pub due : it < c.iterations
  pub entered : (after c done hs).iteration ≡ it
  pub unopened : (after c done hs).opened ≡ false
  pub unstopped : (report_of (after c done hs).marks (c.opening it) c.stop).stopped ≡ false
  pub heights : (after c done hs).heights ≡ routed

-- The network of heights hs with areas along a list: the list is a work list of the receivers; every spill height is
-- the least, over all chains to base level, of the greatest height on the chain, as numbers; a cell is its own receiver
-- exactly if it is base level; the float areas along the list are the numbers of cells whose way down passes through,
-- and base-level areas total the cells of the grid.
pub record Drained (ground_of : List Float → Ground) (hs : List Float) (list : List ℕ) : Type 0 where
  pub work_list : WorkList (ground_of hs).cells (receivers_on ground_of hs) list
  pub spill : (c : ℕ) → c < (ground_of hs).cells → LeastCrest (ground_of hs) (λ i. rank (get_or hs i nan)) c (rank (get_or (spill_on ground_of hs) c nan))
  pub base : (c : ℕ) → c < (ground_of hs).cells → eqb (get_or (receivers_on ground_of hs) c 0) c ≡ (ground_of hs).base c
  pub area : (c : ℕ) → c < (ground_of hs).cells → get_or (areas_along (ground_of hs).cells (receivers_on ground_of hs) list) c nan ≡ whole (area_of (ground_of hs).cells (receivers_on ground_of hs) c)
  pub total : sum_below (ground_of hs).cells (ground_of hs).base (area_of (ground_of hs).cells (receivers_on ground_of hs)) ≡ (ground_of hs).cells

-- the working grid of a run: its ground, its course by a choice of lists, and the heights that it begins with
module _ (w h : ℕ) (s : FluvialSettings) (stop : ℕ) (map : List Float) where
  abbrev pub ground_of : List Float → Ground
  ground_of = grid_ground (work_size w h s.work_res).w (work_size w h s.work_res).h (land_of s)

  abbrev pub course_of : Choice → Course
  course_of choose =
      fluvial_course (work_size w h s.work_res).w (work_size w h s.work_res).h
      (fluvial_plan (work_size w h s.work_res).w (work_size w h s.work_res).h s) stop choose

  abbrev pub begins_with : List Float
  begins_with =
      cond (eqb (work_size w h s.work_res).w w && eqb (work_size w h s.work_res).h h) map
      (downsampled map w h (work_size w h s.work_res).w (work_size w h s.work_res).h)

  -- iteration `it` of the whole run routes `routed`; a reduced run in which an average is not finite routes nothing
  pub record RunRoutes (choose : Choice) (it : ℕ) (routed : List Float) : Type 0 where
    pub started : all_finite begins_with ≡ true
    pub routes : Routes (course_of choose) begins_with it routed

  -- Our run and the run along `lists` end with the same outcome, counts and heights, bit for bit; and Drained is true
  -- of every iteration that routes, of either run, with the list that it goes along.
  pub record Alike (lists : ℕ → List ℕ) : Type 0 where
    pub same : run_by w h s stop ours map ≡ run_by w h s stop (lent lists) map
    pub ours_drained : (it : ℕ) (routed : List Float) → RunRoutes ours it routed → Drained ground_of routed (order_on ground_of routed)
    pub lent_drained : (it : ℕ) (routed : List Float) → RunRoutes (lent lists) it routed → Drained ground_of routed (lists it)

-- Demand 3: for every map, settings and stop number that the whole-run call accepts, and any lists of which each one
-- that an iteration of the other run goes along is a work list of that iteration's own routing.
abbrev pub Demand3 : Type 0
Demand3 =
    (w h : ℕ) (s : FluvialSettings) (stop : ℕ) (map : List Float) (lists : ℕ → List ℕ) → Fit map → fluvial_refusal w h s map ≡ 0
    → ((it : ℕ) (routed : List Float) → RunRoutes w h s stop map (lent lists) it routed
    → WorkList (ground_of w h s stop map routed).cells (receivers_on (ground_of w h s stop map) routed) (lists it))
    → Alike w h s stop map lists
