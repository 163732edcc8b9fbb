-- In every state of a run the heights are those of the grid: as many as its cells, all binary32 values, all finite.
use Prim.Native.Nat.{ℕ, zero, suc, ◌≤◌}
use native.Mathlib.Decide.{dec_le}
use native.Mathlib.Nat.{lt_of_not-le}
use mathlib.Core.Path.{◌≡◌, refl, sym, ap, subst, ◌∙◌}
use mathlib.Core.Bool.{Bool, true, not, ◌||◌, cond}
use mathlib.Core.List.{List}
use lib.ListN.{length, get_or, get_or-eq_default}
use lib.Dec.{T, eqb, leb, ltb}
use lib.Ieee.{Float, nan, binary32, fits}
use lib.Ieee.Fits.{nan-fits}
use Rattle.loops.specs.Loops.{tabulate}
use Rattle.loops.proofs.TestLaws.{by_test, either}
use Rattle.loops.proofs.TableLaws.{length_tabulate, get_d_tabulate}
use Rattle.float_order.specs.Fit.{Fit}
use Rattle.grid.specs.Heights.{all_finite}
use Rattle.generators.specs.Marks.{report_of}
use Rattle.generators.specs.declared.Progress.{Progress}
use Rattle.talus.specs.Talus.{slide_row}
use Rattle.thermal_erosion.specs.SlidePass.{fraction_of}
use Rattle.run_machine.specs.Machine.{Course, State, ended_by, cut, slid, closed, open_step, row_step, step, after}
use Rattle.run_machine.proofs.SameLaws.{after_none, after_more}

-- n binary32 values
pub record Sized (n : ℕ) (hs : List Float) : Type 0 where
  pub long : length hs ≡ n
  pub fit : Fit hs

-- a list made by its indexes
pub sized_tabulate : (n : ℕ) (f : ℕ → Float) → ((i : ℕ) → T (fits binary32 (f i))) → Sized n (tabulate n f)
sized_tabulate n f fit = record { long = length_tabulate f n; fit = go }
  where
    go : (i : ℕ) → T (fits binary32 (get_or (tabulate n f) i nan))
    go i = elim (dec_le n i) [
      | no above ↦ subst (λ (x : Float). T (fits binary32 x)) (sym (get_d_tabulate f n i nan (lt_of_not-le above))) (fit i)
      | yes g ↦ subst (λ (x : Float). T (fits binary32 x)) (sym (get_or-eq_default (tabulate n f) nan (subst (λ (k : ℕ). k ≤ i) (sym (length_tabulate f n)) g))) (nan-fits binary32)
    ]

pub record Sound (n : ℕ) (s : State) : Type 0 where
  pub heights : Sized n s.heights
  pub finite : all_finite s.heights ≡ true
  pub copy : Sized n s.copy

-- what an incision or a pass that made new heights leads to: what has not ended the run is finite; a number that ended it leaves the heights
module _ (n : ℕ) (c : Course) (s : State) (p : Sound n s) where
  ended_sound : (number : ℕ) (m : Progress) → Sound n (ended_by c number m s)
  ended_sound number m = record { heights = p.heights; finite = p.finite; copy = p.heights }

  module _ (t : State) (new : List Float) (m : Progress) (z : Sized n new) (h : t.heights ≡ new) (k : t.copy ≡ new) where
    finite_sound : Sound n (cond (all_finite new) t (ended_by c 22 m s))
    finite_sound =
        by_test (Sound n) (all_finite new) t (ended_by c 22 m s) (λ e. record { heights = subst (Sized n) (sym h) z; finite = ap all_finite h ∙ e; copy = subst (Sized n) (sym k) z })
        (λ _. ended_sound 22 m)

    pub made_sound : (a : Bool) → Sound n (cond a (ended_by c 21 m s) (cond (all_finite new) t (ended_by c 22 m s)))
    made_sound a = either (Sound n) a (ended_by c 21 m s) _ (ended_sound 21 m) finite_sound

module _ (n : ℕ) (c : Course) (cuts : (it : ℕ) (hs : List Float) → Sized n hs → Sized n (c.incision it hs)) where
  pub open_sound : (s : State) → Sound n s → Sound n (open_step c s)
  open_sound s p =
      let m : Progress = report_of s.marks (c.opening s.iteration) c.stop in
      let new : List Float = c.incision s.iteration s.heights in
      made_sound n c s p (cut c new m s) new m (cuts s.iteration s.heights p.heights) refl refl m.stopped

module _ (n : ℕ) (c : Course)
    (cuts : (it : ℕ) (hs : List Float) → Sized n hs → Sized n (c.incision it hs))
    (slides : (y : ℕ) (hs copy : List Float) → Sized n hs → Sized n copy → Sized n (slide_row c.w c.h c.thresholds hs c.strength c.water y copy)) where
  row_sound : (s : State) → Sound n s → Sound n (row_step c s)
  row_sound s p =
      either (Sound n) m.stopped (ended_by c 21 m s) _ (ended_sound n c s p 21 m)
      (either (Sound n) (ltb (suc s.row) c.h) (slid c new m s) _ (record { heights = p.heights; finite = p.finite; copy = made }) (finite_sound n c s p (closed c new m s) new m made refl refl))
    where
      m : Progress
      m = report_of s.marks (fraction_of (c.begins s.iteration s.pass) (c.begins s.iteration (suc s.pass)) c.h s.row) c.stop

      new : List Float
      new = slide_row c.w c.h c.thresholds s.heights c.strength c.water s.row s.copy

      made : Sized n new
      made = slides s.row s.heights s.copy p.heights p.copy

  step_sound : (s : State) → Sound n s → Sound n (step c s)
  unfolding step
  step_sound s p =
      either (Sound n) (not (eqb s.number 0) || leb c.iterations s.iteration) s _ p (either (Sound n) s.opened (row_step c s) (open_step c s) (row_sound s p) (open_sound n c cuts s p))

  pub after_sound : (hs : List Float) → Sized n hs → all_finite hs ≡ true → (k : ℕ) → Sound n (after c k hs)
  after_sound hs long fin zero = subst (Sound n) (sym (after_none hs c)) (record { heights = long; finite = fin; copy = long })
  after_sound hs long fin (suc k) = subst (Sound n) (sym (after_more hs c k)) (step_sound (after c k hs) (after_sound hs long fin k))
