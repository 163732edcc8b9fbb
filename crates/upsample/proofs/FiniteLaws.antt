-- Values f 0, f 1, … that are all finite, as a loop finds them so, and `all_finite` of their list.
use Prim.Native.Nat.{ℕ, ◌+◌, ◌*◌, ◌≤◌, ◌<◌}
use mathlib.Core.Path.{◌≡◌, refl, sym, ap, ◌∙◌, subst}
use mathlib.Core.Bool.{Bool, true, false}
use native.Mathlib.Nat.{add_comm}
use native.Mathlib.Omega.{arith}
use lib.Ieee.{Float, nan}
use lib.Ieee.Scale.{finite}
use Rattle.loops.specs.Loops.{tabulate}
use Rattle.loops.proofs.TestLaws.{clash}
use Rattle.loops.proofs.TableLaws.{length_tabulate, get_d_tabulate}
use Rattle.loops.proofs.FirstLaws.{first_end, rows_more, rows_end}
use Rattle.grid.specs.Heights.{all_finite}
use Rattle.grid.proofs.SidesLaws.{row_end}
use Rattle.grid.proofs.HeightsLaws.{below_all, all_at}

pub record Finites (f : ℕ → Float) (n : ℕ) : Type 0 where
  pub each : (k : ℕ) → k < n → finite (f k) ≡ true

pub finites_start : {f : ℕ → Float} (w : ℕ) → Finites f (0 * w)
finites_start w = record { each = λ k l. absurd (omega arith) }

module _ (f : ℕ → Float) (n : ℕ) where
  pub finites_all : Finites f n → all_finite (tabulate n f) ≡ true
  finites_all p =
      below_all (record {
        each = λ i l.
            let h : i < n = subst (λ (k : ℕ). i < k) (length_tabulate f n) l in ap finite (get_d_tabulate f n i nan h) ∙ p.each i h;
      })

  pub finites_back : all_finite (tabulate n f) ≡ true → Finites f n
  finites_back e = record {
    each = λ k l.
        ap finite (sym (get_d_tabulate f n k nan l)) ∙ all_at (tabulate n f) e k (subst (λ (m : ℕ). k < m) (sym (length_tabulate f n)) l);
  }

-- row by row, w values each
module _ (f : ℕ → Float) (w h y : ℕ) (l : y < h) where
  pub row_more : Finites f (y * w) → all_finite (tabulate w (λ x. f (y * w + x))) ≡ true → Finites f ((y + 1) * w)
  row_more p e = record { each = rows_more (λ k. finite (f k)) w y p.each (first_end row) (omega arith) }
    where
      row : (x : ℕ) → x < w → finite (f (x + y * w)) ≡ true
      row x q = ap (λ (k : ℕ). finite (f k)) (add_comm x (y * w)) ∙ (finites_back (λ x. f (y * w + x)) w e).each x q

  pub row_not : all_finite (tabulate w (λ x. f (y * w + x))) ≡ false → all_finite (tabulate (w * h) f) ≡ false
  row_not e = go (all_finite (tabulate (w * h) f)) refl
    where
      go : (b : Bool) → all_finite (tabulate (w * h) f) ≡ b → b ≡ false
      go true q =
          absurd (clash (finites_all (λ x. f (y * w + x)) w
          (record { each = λ k m. (finites_back f (w * h) q).each (y * w + k) (omega (arith, row_end w h y l)) })) e)
      go false q = refl

pub rows_all : (f : ℕ → Float) (w h y : ℕ) → Finites f (y * w) → y ≤ h → h ≤ y → all_finite (tabulate (w * h) f) ≡ true
rows_all f w h y p l m = finites_all f (w * h) (record { each = (rows_end (λ k. finite (f k)) w h y p.each l m).earlier })
