-- A map filled row by row.
use Prim.Native.Nat.{ℕ, zero, suc, ◌+◌, ◌-◌, ◌*◌, ◌/◌, ◌%◌, ◌≤◌}
use mathlib.Core.Path.{◌≡◌, sym, ap, ap₂, ◌∙◌, subst}
use mathlib.Core.List.{List, [], ◌∷◌, ◌++◌, append_assoc, append-nil}
use native.Mathlib.Omega.{arith}
use lib.ListN.{length, take, drop}
use lib.Seq.{take_at, drop_at, drop-drop}
use lib.Arith.{digits_div, digits_mod}
use lib.Ieee.{Float}
use borrow.Rule.Slice.PartMut.{put_mid, Post-is}
use Rattle.loops.specs.Loops.{tabulate}
use Rattle.loops.proofs.TableLaws.{length_tabulate, tabulate_same}
use Rattle.loops.proofs.FillLaws.{Filling}

-- f 0 … f (a + b - 1) in two parts
tabulate_add : {A : Type 0} (f : ℕ → A) (a b : ℕ) → tabulate (a + b) f ≡ tabulate a f ++ tabulate b (λ x. f (a + x))
unfolding tabulate
tabulate_add f a zero = let e : a + 0 ≡ a = omega arith in ap (λ (n : ℕ). tabulate n f) e ∙ sym (append-nil (tabulate a f))
tabulate_add f a (suc b) =
    let e : a + suc b ≡ suc (a + b) = omega arith in
    ap (λ (n : ℕ). tabulate n f) e ∙ ap (λ l. l ++ (f (a + b) ∷ [])) (tabulate_add f a b) ∙ append_assoc (tabulate a f) (tabulate b (λ x. f (a + x))) (f (a + b) ∷ [])

-- what a loop has not reached is as it was
pub filling_drop : {f : ℕ → Float} {i : ℕ} {old now : List Float} → Filling f i old now → drop i now ≡ drop i old
filling_drop {f} {i} {old} p = ap (drop i) p.held ∙ drop_at (tabulate i f) (drop i old) i (length_tabulate f i)

-- a row of values put in the place of row y
pub stored_row : {f : ℕ → Float} {old now : List Float} (w y : ℕ) → Filling f (y * w) old now → y * w + w ≤ length old → (row : List Float)
    → row ≡ tabulate w (λ x. f (y * w + x)) → Filling f ((y + 1) * w) old (put_mid (y * w) (y * w + w - y * w) now row)
stored_row {f} {old} {now} w y p inside row e =
    let a = y * w in
    let n : a + w ≡ (y + 1) * w = omega arith in
    subst (λ (i : ℕ). Filling f i old (put_mid a (a + w - a) now row)) n
    (record {
      held =
          ap₂ ◌++◌ (ap (take a) p.held ∙ take_at (tabulate a f) (drop a old) a (length_tabulate f a))
          (ap₂ ◌++◌ e (Post-is a (a + w) now (omega arith) ∙ sym (drop-drop w a now) ∙ ap (drop w) (filling_drop p) ∙ drop-drop w a old))
          ∙ sym (append_assoc (tabulate a f) (tabulate w (λ x. f (a + x))) (drop (a + w) old))
          ∙ ap (λ (l : List Float). l ++ drop (a + w) old) (sym (tabulate_add f a w));
      within = inside;
    })

-- the same, of values by column and row
pub stored_row_at : (g : ℕ → ℕ → Float) (w y : ℕ) {old now row : List Float} → Filling (λ c. g (c % w) (c / w)) (y * w) old now → y * w + w ≤ length old
    → row ≡ tabulate w (λ x. g x y) → Filling (λ c. g (c % w) (c / w)) ((y + 1) * w) old (put_mid (y * w) (y * w + w - y * w) now row)
stored_row_at g w y {old} {now} {row} p inside e =
    stored_row w y p inside row
    (e ∙ tabulate_same (λ x. g x y) (λ x. g ((y * w + x) % w) ((y * w + x) / w)) w (λ x l. ap₂ g (sym (digits_mod y l)) (sym (digits_div y l))))
