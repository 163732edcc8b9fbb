-- The refusals of `incise`: each end of its tests, what an accepted input is, and that answer and slices follow from one choice.
use Rattle.std.specs.declared.result.Result.TheVariants.{Ok, Err}
use Rattle.answers.specs.Outcome.{Answer}
use Prim.Native.Nat.{ℕ, ◌+◌, ◌*◌, ◌≤◌, ◌<◌}
use native.Mathlib.Nat.{mul-le-mul}
use native.Mathlib.Omega.{arith}
use mathlib.Core.Path.{◌≡◌, refl, sym, ap, ◌∙◌}
use mathlib.Core.Bool.{Bool, true, false, not, cond}
use mathlib.Core.List.{List, ◌++◌}
use lib.ListN.{length, get_or, drop}
use lib.Dec.{eqb, ltb}
use lib.Ieee.{Float}
use borrow.Author.Tests.{ltb-false, eqb-true, not-false}
use Rattle.loops.proofs.TestLaws.{neither, through}
use Rattle.answers.specs.Outcome.{Outcome, gives, refused, refused_at, answer_of}
use Rattle.grid_spacing.specs.Distances.{square_distances}
use Rattle.grid_spacing.specs.declared.Distances.{Distances}
use Rattle.drainage.specs.Ground.{ground_by}
use Rattle.answers.specs.declared.Refusal.{Refusal}
use Rattle.grid.specs.Sides.{bad_sides, InRange}
use Rattle.grid.specs.Heights.{first_not_finite, all_finite}
use Rattle.answers.proofs.OutcomeLaws.{refused_given, not_refused, by_outcome, refused_whole, refused_kept, accepted_then}
use Rattle.grid.proofs.SidesLaws.{good_sides, cells_bound, cell_back}
use Rattle.grid.proofs.HeightsLaws.{all_finite_lem, not_all_finite}
use Rattle.lent_receivers.specs.Receivers.{first_bad_receiver, receiver_test}
use Rattle.lent_list.specs.Entries.{first_bad_entry, good_entry}
use Rattle.lent_list.specs.Walks.{ListLengths, WithinOverlap}
use Rattle.loops.proofs.FirstLaws.{first_of_lem, all_first}
use Rattle.lent_list.proofs.ListLaws.{good_at_lem, good_work}
use Rattle.lent_receivers.proofs.ReceiverLaws.{good_cell, good_is}
use Rattle.receiver_steps.proofs.PlaceLaws.{near_of}
use Rattle.fluvial_erosion.specs.Incision.{incised_by}
use Rattle.fluvial_erosion.specs.Incise.{bad_incise_lengths, bad_incision, incise_refusal, incised, InciseMade}
use Rattle.fluvial_erosion.specs.Along.{Drains, Carved}
use Rattle.fluvial_erosion.specs.declared.FluvialParams.{FluvialParams}

-- ---- what one test says that let pass
pub record Sized (n heights recv list result scratch : ℕ) : Type 0 where
  pub map : heights ≡ n
  pub receivers : recv ≡ n
  pub entries : list ≡ n
  pub out : result ≡ n
  pub areas : n ≤ scratch

pub sized : (n heights recv list result scratch : ℕ) → bad_incise_lengths n heights recv list result scratch ≡ false → Sized n heights recv list result scratch
sized n heights recv list result scratch e =
    let a = neither (not (eqb heights n)) _ e in
    let b = neither (not (eqb recv n)) _ a.1 in
    let c = neither (not (eqb list n)) _ b.1 in
    let d = neither (not (eqb result n)) _ c.1 in
    record {
      map = same heights a.0;
      receivers = same recv b.0;
      entries = same list c.0;
      out = same result d.0;
      areas = ltb-false scratch n d.1;
    }
  where
    same : (m : ℕ) → not (eqb m n) ≡ false → m ≡ n
    same m e = eqb-true m n (not-false (eqb m n) e)

-- the search of the code, against n
pub height_found : (hs : List Float) {c n : ℕ} → length hs ≡ n → c ≡ first_not_finite hs → (c ≡ n → ⊥) → not (all_finite hs) ≡ true
height_found hs {c} l e h = ap not (not_all_finite hs c e (λ q. h (q ∙ l)))

pub height_none : (hs : List Float) {c n : ℕ} → length hs ≡ n → c ≡ first_not_finite hs → c ≡ n → not (all_finite hs) ≡ false
height_none hs {c} l e h = ap not (all_finite_lem hs c e (h ∙ sym l))

-- every receiver is good where none is the first that is not, and likewise every entry
pub receivers_good : (w h : ℕ) (recv : List ℕ) → ltb (first_bad_receiver w h recv) (w * h) ≡ false → (c : ℕ) → c < w * h → receiver_test w h recv c ≡ true
receivers_good w h recv e =
    let none : first_bad_receiver w h recv ≡ w * h = omega (arith, ltb-false (first_bad_receiver w h recv) (w * h) e, (first_of_lem (w * h) (receiver_test w h recv)).bound) in
    all_first (w * h) (receiver_test w h recv) none

entries_good : (n : ℕ) (recv list : List ℕ) → ltb (first_bad_entry n recv list) n ≡ false → (i : ℕ) → i < n → good_entry n recv list i ≡ true
entries_good n recv list e =
    let none : first_bad_entry n recv list ≡ n = omega (arith, ltb-false (first_bad_entry n recv list) n e, (first_of_lem n (good_entry n recv list)).bound) in
    all_first n (good_entry n recv list) none

pub network_of : (w h : ℕ) (recv list : List ℕ) → length recv ≡ w * h → length list ≡ w * h → ltb (first_bad_receiver w h recv) (w * h) ≡ false → ListLengths (w * h) recv list
network_of w h recv list a b e = record { receivers = a; entries = b; inside = λ c l. good_cell w h c (get_or recv c 0) (receivers_good w h recv e c l) }

-- cells of which one is the other or a neighbour of it: their numbers differ by at most a row and one
not_far : (w x y u v : ℕ) → x ≤ u + 1 → y ≤ v + 1 → x + y * w ≤ u + v * w + (w + 1)
not_far w x y u v a b = let wide : w ≤ w = omega arith in omega (arith, mul-le-mul b wide)

pub near_network : (w h : ℕ) (recv : List ℕ) → InRange w h → ltb (first_bad_receiver w h recv) (w * h) ≡ false → WithinOverlap (w * h) recv
near_network w h recv i e =
    record {
      few = cells_bound w h i.wide i.high;
      up = λ c l. let k = step c l in omega (arith, i.wide, cell_back w c, cell_back w (get_or recv c 0), not_far w _ _ _ _ k.east k.south);
      down = λ c l. let k = step c l in omega (arith, i.wide, cell_back w c, cell_back w (get_or recv c 0), not_far w _ _ _ _ k.west k.north);
    }
  where
    step : (c : ℕ) → c < w * h → Rattle.receiver_steps.specs.Step.Near w c (get_or recv c 0)
    step c l = near_of (omega (arith, i.columns)) i.wide (good_is w h c (get_or recv c 0) (receivers_good w h recv e c l))

module _ (w h : ℕ) (hs : List Float) (p : FluvialParams) (recv list : List ℕ) (result scratch : ℕ) where
  abbrev pub decided : Outcome (Unit {0})
  decided = incise_refusal w h hs p recv list result scratch refused refused_at (gives tt)

  -- the tests, whatever they choose
  abbrev tests : (A : Type 0) → (ℕ → A) → (ℕ → ℕ → A) → A → A
  tests A = incise_refusal w h hs p recv list result scratch

  alike : (A : Type 0) (number : ℕ → A) (at : ℕ → ℕ → A) (then : A) → by_outcome number at then decided ≡ tests A number at then
  alike A number at then = simp (through (by_outcome number at then))

  -- each end of the tests
  pub ends_side : {t : Bool} → t ≡ bad_sides w h → t ≡ true → refused 1 ≡ decided
  ends_side a e = rw (sym a ∙ e)

  -- what the tests let pass
  pub record AcceptedIncision : Type 0 where
    pub sides : bad_sides w h ≡ false
    pub lengths : bad_incise_lengths (w * h) (length hs) (length recv) (length list) result scratch ≡ false
    pub setting : bad_incision p ≡ false
    pub heights : not (all_finite hs) ≡ false
    pub receivers : ltb (first_bad_receiver w h recv) (w * h) ≡ false
    pub entries : ltb (first_bad_entry (w * h) recv list) (w * h) ≡ false

  pub ends_done : AcceptedIncision → gives tt ≡ decided
  ends_done a = rw (a.sides, a.lengths, a.setting, a.heights, a.receivers, a.entries)

  module _ (sides : bad_sides w h ≡ false) where
    pub ends_length : {t : Bool} → t ≡ bad_incise_lengths (w * h) (length hs) (length recv) (length list) result scratch → t ≡ true → refused 3 ≡ decided
    ends_length a e = rw (sides, sym a ∙ e)

    module _ (lengths : bad_incise_lengths (w * h) (length hs) (length recv) (length list) result scratch ≡ false) where
      pub ends_setting : {t : Bool} → t ≡ bad_incision p → t ≡ true → refused 4 ≡ decided
      ends_setting a e = rw (sides, lengths, sym a ∙ e)

      module _ (setting : bad_incision p ≡ false) where
        pub ends_height : not (all_finite hs) ≡ true → {c : ℕ} → c ≡ first_not_finite hs → refused_at 5 c ≡ decided
        ends_height e q = rw (sides, lengths, setting, e) (ap (refused_at 5) q)

        module _ (heights : not (all_finite hs) ≡ false) where
          pub ends_receiver : ltb (first_bad_receiver w h recv) (w * h) ≡ true → {c : ℕ} → c ≡ first_bad_receiver w h recv → refused_at 6 c ≡ decided
          ends_receiver e q = rw (sides, lengths, setting, heights, e) (ap (refused_at 6) q)

          pub ends_entry : ltb (first_bad_receiver w h recv) (w * h) ≡ false → ltb (first_bad_entry (w * h) recv list) (w * h) ≡ true → {c : ℕ} → c ≡ first_bad_entry (w * h) recv list → refused_at 7 c ≡ decided
          ends_entry r e q = rw (sides, lengths, setting, heights, r, e) (ap (refused_at 7) q)

  -- an accepted input, from its outcome
  pub accepted : gives tt ≡ decided → AcceptedIncision
  accepted e =
      let a = not_refused (bad_sides w h) (refused 1) _ tt refl (sym e) in
      let b = not_refused (bad_incise_lengths (w * h) (length hs) (length recv) (length list) result scratch) (refused 3) _ tt refl a.1 in
      let c = not_refused (bad_incision p) (refused 4) _ tt refl b.1 in
      let d = not_refused (not (all_finite hs)) (refused_at 5 (first_not_finite hs)) _ tt refl c.1 in
      let f = not_refused (ltb (first_bad_receiver w h recv) (w * h)) (refused_at 6 (first_bad_receiver w h recv)) _ tt refl d.1 in
      let g = not_refused (ltb (first_bad_entry (w * h) recv list) (w * h)) (refused_at 7 (first_bad_entry (w * h) recv list)) _ tt refl f.1 in
      record { sides = a.0; lengths = b.0; setting = c.0; heights = d.0; receivers = f.0; entries = g.0 }

  module _ (a : AcceptedIncision) where
    pub accepted_sizes : Sized (w * h) (length hs) (length recv) (length list) result scratch
    accepted_sizes = sized (w * h) (length hs) (length recv) (length list) result scratch a.lengths

    pub accepted_drains : Drains w h recv list
    accepted_drains =
        let z = accepted_sizes in
        let n = network_of w h recv list z.receivers z.entries a.receivers in
        record {
          sides = good_sides w h a.sides;
          along =
              record {
                receivers = z.receivers;
                inside = n.inside;
                entries = λ i l. (good_at_lem (w * h) recv list i (entries_good (w * h) recv list a.entries i (omega (arith, z.entries)))).cell;
              };
          near = receivers_good w h recv a.receivers;
          work = good_work (w * h) recv list z.entries (λ i l. good_at_lem (w * h) recv list i (entries_good (w * h) recv list a.entries i l));
        }

module _ (w h : ℕ) (hs : List Float) (p : FluvialParams) (recv list : List ℕ) (old scratch : List Float) where
  abbrev own : (A : Type 0) → (ℕ → A) → (ℕ → ℕ → A) → A → A
  own = tests w h hs p recv list (length old) (length scratch)

  same : (A : Type 0) (number : ℕ → A) (at : ℕ → ℕ → A) (then : A) → by_outcome number at then (own (Outcome (Unit {0})) refused refused_at (gives tt)) ≡ own A number at then
  same = alike w h hs p recv list (length old) (length scratch)

  -- a refusal of the input leaves both slices as they were
  pub made_refused : (r : Answer) (q : Refusal) → answer_of r ≡ decided w h hs p recv list (length old) (length scratch) → r ≡ Err q
      → InciseMade w h hs p recv list (record { out = old; area = scratch }) r (record { out = old; area = scratch })
  made_refused r q d e =
      let none = refused_given e in
      record { answer = refused_whole own same (answer_of r) d none _; result = refused_kept own same (answer_of r) d none old _; areas = refused_kept own same (answer_of r) d none scratch _ }

  -- an accepted input is incised
  module _ (e : gives tt ≡ decided w h hs p recv list (length old) (length scratch)) where
    pub made_incised : {r : Answer} {ds : Distances} {out front area : List Float} → answer_of r ≡ cond (all_finite out) (gives tt) (refused 22) → ds ≡ square_distances
        → Carved w h hs p ds recv list (record { out = out; area = front }) → area ≡ front ++ drop (w * h) scratch
        → InciseMade w h hs p recv list (record { out = old; area = scratch }) r (record { out = out; area = area })
    made_incised {r} {ds} {out} {front} {area} b s c d =
        let cut : out ≡ incised w h hs p recv list = c.heights (λ c. false) ∙ ap (λ (ds : Distances). incised_by (ground_by w h ds (λ c. false)) p recv list hs) s in
        record {
          answer = b ∙ ap (λ (l : List Float). cond (all_finite l) (gives tt) (refused 22)) cut ∙ accepted_then own same e refused refused_at _;
          result = cut ∙ accepted_then own same e (λ _. old) (λ _ _. old) _;
          areas = d ∙ ap (λ (l : List Float). l ++ drop (w * h) scratch) c.areas ∙ accepted_then own same e (λ _. scratch) (λ _ _. scratch) _;
        }

-- the answer once the list is done
pub answer_done : {all : Bool} (out : List Float) → all ≡ all_finite out → all ≡ true → answer_of {A = Unit {0}} (Ok tt) ≡ cond (all_finite out) (gives tt) (refused 22)
answer_done out a e = rw (sym a ∙ e)

pub answer_off : {all : Bool} (out : List Float) → all ≡ all_finite out → all ≡ false → answer_of {A = Unit {0}} (Err Refusal.RunOff) ≡ cond (all_finite out) (gives tt) (refused 22)
answer_off out a e = rw (sym a ∙ e)
