-- Whole runs of document 01 on a map: full-grid, or on a reduced grid with the difference added back. `run_by` takes the
-- work list of each iteration as an argument; ours is `run_by` with the flood's own order.
use Rattle.std.specs.Prelude.{ℕ, ◌+◌, true, false, ◌&&◌, cond, List, get_or, length, eqb, Float}
use Rattle.std.specs.Float.{nan, binary32}
use Rattle.std.specs.Float.Ieee.{of_bits, add, sub, mul, div}
use Rattle.floats.specs.Stand.{whole}
use Rattle.loops.specs.Loops.{tabulate}
use Rattle.grid.specs.Heights.{all_finite}
use Rattle.grid_spacing.specs.Distances.{square_distances}
use Rattle.drainage.specs.Ground.{Ground, grid_ground}
use Rattle.drainage.specs.Routing.{order_on, receivers_on}
use Rattle.fluvial_erosion.specs.Incision.{incised_by}
use Rattle.fluvial_erosion.specs.declared.FluvialParams.{FluvialParams}
use Rattle.talus.specs.Talus.{thresholds_of}
use Rattle.thermal_erosion.specs.declared.ThermalParams.{ThermalParams}
use Rattle.resample.specs.WorkSize.{work_size}
use Rattle.resample.specs.Blocks.{downsampled}
use Rattle.upsample.specs.Samples.{FarEdge, as_source, added_of}
use Rattle.run_machine.specs.Plan.{Plan, fluvial_plan, thermal_passes, thermal_params}
use Rattle.run_machine.specs.Machine.{Course, State, finished}
use Rattle.run_settings.specs.declared.FluvialSettings.{FluvialSettings}
use Rattle.run_settings.specs.declared.ThermalSettings.{ThermalSettings}

-- which list an iteration goes along, by its number and the order that its routing gave
abbrev pub Choice : Type 0
Choice = ℕ → List ℕ → List ℕ

-- our run goes along the flood's own order
abbrev pub ours : Choice
ours it order = order

-- the other run goes along the lists lent to it
abbrev pub lent : (ℕ → List ℕ) → Choice
lent lists it order = lists it

-- the heights hs routed, then incised along the chosen list, with the areas along that list
unfoldable pub incision_by : (List Float → Ground) → FluvialParams → Choice → ℕ → List Float → List Float
unfolding incised_by
incision_by ground_of p choose it hs = incised_by (ground_of hs) p (receivers_on ground_of hs) (choose it (order_on ground_of hs)) hs

-- the fraction p at which a pass of a fluvial iteration begins: (it + 0.5 + 0.5 × pass / passes) / iterations
abbrev pub fluvial_begins : ℕ → ℕ → ℕ → ℕ → Float
fluvial_begins iterations passes it pass =
    let half = of_bits binary32 0x3f00_0000 in
    div binary32
    (add binary32 (add binary32 (whole it) half) (div binary32 (mul binary32 half (whole pass)) (whole passes)))
    (whole iterations)

-- the course of a fluvial run: a plan on its w × h working grid, with the ground of its land and a choice of work lists
abbrev pub fluvial_course : ℕ → ℕ → Plan → ℕ → Choice → Course
fluvial_course w h plan stop choose =
    record {
      w = w;
      h = h;
      iterations = plan.iterations;
      passes = plan.passes;
      cutting = true;
      incision = incision_by (grid_ground w h plan.land) plan.cuts choose;
      opening = λ it. div binary32 (whole it) (whole plan.iterations);
      begins = fluvial_begins plan.iterations plan.passes;
      thresholds = thresholds_of plan.slides.threshold plan.land.distances;
      strength = plan.slides.strength;
      water = plan.slides.water_level;
      stop = stop;
    }

-- the course of `passes` talus passes by their parameters: each iteration is one pass, and no question, routing and
-- incision open it
abbrev pub slide_course : ℕ → ℕ → ThermalParams → ℕ → ℕ → Course
slide_course w h params passes stop =
    record {
      w = w;
      h = h;
      iterations = passes;
      passes = 1;
      cutting = false;
      incision = λ it hs. hs;
      opening = λ it. of_bits binary32 0;
      begins = λ it pass. div binary32 (whole (it + pass)) (whole passes);
      thresholds = thresholds_of params.threshold square_distances;
      strength = params.strength;
      water = params.water_level;
      stop = stop;
    }

-- a thermal run
abbrev pub thermal_course : ℕ → ℕ → ThermalSettings → ℕ → Course
thermal_course w h s stop = slide_course w h (thermal_params w h s) (thermal_passes w h s) stop

-- What a whole run ends with: 0 or the number that ended it, the counts, and the map.
pub record Ran : Type 0 where
  pub number : ℕ
  pub incisions : ℕ
  pub passes : ℕ
  pub questions : ℕ
  pub map : List Float

abbrev pub ran_as : ℕ → State → List Float → Ran
ran_as number s map =
    record { number = number; incisions = s.incisions; passes = s.passes; questions = s.marks.asked; map = map }

-- the difference of the reduced grids
unfoldable pub difference_of : List Float → List Float → List Float
unfolding tabulate
difference_of eroded small = tabulate (length small) (λ i. sub binary32 (get_or eroded i nan) (get_or small i nan))

-- the end of a reduced run that neither 21 nor 22 has ended: its difference is added to the map, or 22 leaves the map
-- as it came
abbrev pub added_back : FarEdge → ℕ → ℕ → ℕ → ℕ → List Float → List Float → State → Ran
added_back kind w h dw dh map small s =
    let delta = difference_of s.heights small in
    let sum = added_of kind map w h delta dw dh in
    cond (all_finite delta && all_finite sum) (ran_as 0 s sum) (ran_as 22 s map)

-- What a course on the w × h map ends with: where the working sides are the map's, by `full`, its last state on the map
-- itself, else by s, its last state on the map's block averages.
abbrev pub run_from : FarEdge → ℕ → ℕ → Course → List Float → State → State → Ran
run_from kind w h c map s full =
    let small = downsampled map w h c.w c.h in
    cond (eqb c.w w && eqb c.h h) (ran_as full.number full full.heights)
    (cond (all_finite small)
    (cond (eqb s.number 0) (added_back kind w h c.w c.h map small s) (ran_as s.number s map))
    (record { number = 22; incisions = 0; passes = 0; questions = 0; map = map }))

abbrev pub run_on : FarEdge → ℕ → ℕ → Course → List Float → Ran
run_on kind w h c map = run_from kind w h c map (finished c (downsampled map w h c.w c.h)) (finished c map)

-- a whole fluvial run by the work lists that `choose` gives
unfoldable pub run_by : ℕ → ℕ → FluvialSettings → ℕ → Choice → List Float → Ran
unfolding work_size
run_by w h s stop choose map =
    let work = work_size w h s.work_res in
    run_on as_source w h (fluvial_course work.w work.h (fluvial_plan work.w work.h s) stop choose) map

-- a whole thermal run
unfoldable pub thermal_run : ℕ → ℕ → ThermalSettings → ℕ → List Float → Ran
unfolding work_size
thermal_run w h s stop map =
    let work = work_size w h s.work_res in
    run_on as_source w h (thermal_course work.w work.h s stop) map
