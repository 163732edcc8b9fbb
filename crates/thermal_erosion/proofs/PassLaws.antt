-- A pass, row by row: how it begins, one row more, an end by a stop; and what it keeps.
use Prim.Native.Nat.{ℕ, zero, suc, ◌+◌, ◌-◌, ◌≤◌, ◌<◌}
use mathlib.Core.Path.{◌≡◌, refl, sym, ap, ap₂, ◌∙◌, subst}
use mathlib.Core.Bool.{Bool, true, false, cond}
use mathlib.Core.List.{List}
use native.Mathlib.Omega.{arith}
use lib.ListN.{length}
use lib.Ieee.{Float}
use Rattle.loops.specs.Loops.{turns}
use Rattle.loops.proofs.TestLaws.{either}
use Rattle.loops.proofs.TurnLaws.{turns_none, turns_more, turns_stay, turns_keep}
use Rattle.loops.proofs.LoopLaws.{at_end}
use Rattle.float_order.specs.Fit.{Fit}
use Rattle.generators.specs.Marks.{report_of}
use Rattle.generators.specs.declared.Progress.{Progress}
use Rattle.generators.proofs.MarksLaws.{report_asked_most}
use Rattle.talus.specs.Talus.{slide_row}
use Rattle.talus.proofs.TalusLaws.{row_length_lem, row_fit}
use Rattle.thermal_erosion.specs.SlidePass.{Pass, fraction_of, pass_row, rows_of}

abbrev reached : List Float → Progress → Pass
reached out m = record { out = out; marks = m }

module _ (w h : ℕ) (ts : List Float) (strength water : Float) (hs : List Float) (from to : Float) (stop : ℕ) (m : Progress) where
  pub rows_none : (out : List Float) → out ≡ hs → record { out = out; marks = m } ≡ rows_of w h ts strength water hs from to stop 0 m
  unfolding rows_of
  rows_none out e =
      ap (λ (l : List Float). reached l m) e
      ∙ sym (turns_none (pass_row w h ts strength water hs from to stop) (record { out = hs; marks = m }))

  -- the rows below n + 1 are those below n and then row n
  pub rows_step : (n : ℕ) → rows_of w h ts strength water hs from to stop (n + 1) m ≡ pass_row w h ts strength water hs from to stop n (rows_of w h ts strength water hs from to stop n m)
  unfolding rows_of
  rows_step n = turns_more (pass_row w h ts strength water hs from to stop) n (record { out = hs; marks = m })

  module _ (y : ℕ) (s : Pass) (e : s ≡ rows_of w h ts strength water hs from to stop y m) where
    pub rows_more : (r : List Float) (q : Progress)
        → s.marks.stopped ≡ false
        → r ≡ slide_row w h ts hs strength water y s.out
        → q ≡ report_of s.marks (fraction_of from to h y) stop
        → record { out = r; marks = q } ≡ rows_of w h ts strength water hs from to stop (y + 1) m
    rows_more r q on f g =
        ap₂ reached f g ∙ sym (ap (λ (b : Bool). cond b s (reached (slide_row w h ts hs strength water y s.out) (report_of s.marks (fraction_of from to h y) stop))) on)
        ∙ ap (pass_row w h ts strength water hs from to stop y) e
        ∙ sym (rows_step y)

    -- a stopped pass goes no further
    pub rows_stopped : (n : ℕ) → s.marks.stopped ≡ true → y ≤ n → s ≡ rows_of w h ts strength water hs from to stop n m
    unfolding rows_of
    rows_stopped n off l =
        let k : y + (n - y) ≡ n = omega arith in
        e ∙ sym (turns_stay f start y (n - y) (λ j. subst (λ (p : Pass). f j p ≡ p) e (still j))) ∙ ap (λ (i : ℕ). turns i f start) k
      where
        f : ℕ → Pass → Pass
        f = pass_row w h ts strength water hs from to stop

        start : Pass
        start = record { out = hs; marks = m }

        still : (j : ℕ) → f j s ≡ s
        still j = rw off

  pub rows_length_lem : (n : ℕ) → length (rows_of w h ts strength water hs from to stop n m).out ≡ length hs
  unfolding rows_of
  rows_length_lem n =
      turns_keep (pass_row w h ts strength water hs from to stop) (λ s. length s.out ≡ length hs) (record { out = hs; marks = m }) n refl
      (λ i s l e. either (λ (s : Pass). length s.out ≡ length hs) s.marks.stopped _ _ e (row_length_lem w h ts hs strength water i s.out ∙ e))

  pub rows_fit : (n : ℕ) → Fit hs → Fit (rows_of w h ts strength water hs from to stop n m).out
  unfolding rows_of
  rows_fit n fit =
      turns_keep (pass_row w h ts strength water hs from to stop) (λ s. Fit s.out) (record { out = hs; marks = m }) n fit
      (λ i s l e. either (λ (s : Pass). Fit s.out) s.marks.stopped _ _ e (row_fit w h ts hs strength water i s.out e))

  -- each row asks at most one question
  pub rows_asked : (n : ℕ) → (rows_of w h ts strength water hs from to stop n m).marks.asked ≤ m.asked + n
  unfolding rows_of turns
  rows_asked zero = omega arith
  rows_asked (suc n) =
      let s : Pass = rows_of w h ts strength water hs from to stop n m in
      let most : s.marks.asked ≤ m.asked + n = rows_asked n in
      either (λ (s : Pass). s.marks.asked ≤ m.asked + suc n) s.marks.stopped _ _ (omega arith) (omega (arith, report_asked_most s.marks (fraction_of from to h n) stop))

-- the loop over the rows: out and marks are those of the rows below y
pub record Rowed (w h : ℕ) (ts : List Float) (strength water : Float) (hs : List Float) (from to : Float) (stop : ℕ) (m : Progress) (y : ℕ) (out : List Float) (marks : Progress) : Type 0 where
  pub within : y ≤ h
  pub state : reached out marks ≡ rows_of w h ts strength water hs from to stop y m

module _ {w h : ℕ} {ts : List Float} {strength water : Float} {hs : List Float} {from to : Float} {stop : ℕ} {m : Progress} where
  pub rowed_none : {out : List Float} → out ≡ hs → Rowed w h ts strength water hs from to stop m 0 out m
  rowed_none {out} e = record { within = omega arith; state = rows_none w h ts strength water hs from to stop m out e }

  module _ {y : ℕ} {out : List Float} {marks : Progress} (a : Rowed w h ts strength water hs from to stop m y out marks) where
    pub rowed_length : length out ≡ length hs
    rowed_length = ap (λ (s : Pass). length s.out) a.state ∙ rows_length_lem w h ts strength water hs from to stop m y

    pub rowed_asked : marks.asked ≤ m.asked + y
    rowed_asked = subst (λ (s : Pass). s.marks.asked ≤ m.asked + y) (sym a.state) (rows_asked w h ts strength water hs from to stop m y)

    pub rowed_more : (r : List Float) (q : Progress)
        → y < h
        → marks.stopped ≡ false
        → r ≡ slide_row w h ts hs strength water y out
        → q ≡ report_of marks (fraction_of from to h y) stop
        → Rowed w h ts strength water hs from to stop m (y + 1) r q
    rowed_more r q l on f g =
        record { within = omega arith; state = rows_more w h ts strength water hs from to stop m y (reached out marks) a.state r q on f g }

    pub rowed_stopped : marks.stopped ≡ true → reached out marks ≡ rows_of w h ts strength water hs from to stop h m
    rowed_stopped off = rows_stopped w h ts strength water hs from to stop m y (reached out marks) a.state h off a.within

    pub rowed_done : h ≤ y → reached out marks ≡ rows_of w h ts strength water hs from to stop h m
    rowed_done l = at_end (λ (n : ℕ). rows_of w h ts strength water hs from to stop n m) a.state a.within l

-- the same pass by equal thresholds
pub rows_with : (w h : ℕ) {ts us : List Float} → ts ≡ us → (strength water : Float) (hs : List Float) (from to : Float) (stop n : ℕ) (m : Progress)
    → rows_of w h ts strength water hs from to stop n m ≡ rows_of w h us strength water hs from to stop n m
rows_with w h e strength water hs from to stop n m = ap (λ (l : List Float). rows_of w h l strength water hs from to stop n m) e
