-- Laws of the pass over a map that stores a function of each value.
use Prim.Native.Nat.{ℕ, ◌≤◌}
use mathlib.Core.Path.{◌≡◌, refl, sym, ap, ◌∙◌}
use mathlib.Core.List.{List, map}
use lib.ListN.{length, get_or, length-map, get_or-map}
use lib.Ieee.{Float, nan}
use Rattle.loops.specs.Loops.{tabulate}
use Rattle.loops.proofs.TableLaws.{tabulate_same, tabulate_get_d}
use Rattle.loops.proofs.FillLaws.{Filling, filling_next, filling_done}

-- a list of values of g is g's map
tabulate_map : (g : Float → Float) (l : List Float) → tabulate (length l) (λ i. g (get_or l i nan)) ≡ map g l
tabulate_map g l =
    tabulate_same (λ i. g (get_or l i nan)) (λ i. get_or (map g l) i (g nan)) (length l) (λ i _. sym (get_or-map g l i nan))
    ∙ ap (λ (n : ℕ). tabulate n (λ i. get_or (map g l) i (g nan))) (sym (length-map l g))
    ∙ tabulate_get_d (map g l) (g nan)

-- the pass that stores g of each value
pub stored_next : (g : Float → Float) {i : ℕ} {old new : List Float} {x : Float} → Filling (λ k. g (get_or old k nan)) i old new → x ≡ g (get_or new i nan) → x ≡ g (get_or old i nan)
stored_next g p e = e ∙ ap g (filling_next p nan)

pub stored_done : (g : Float → Float) {i : ℕ} {old new : List Float} → Filling (λ k. g (get_or old k nan)) i old new → length old ≤ i → new ≡ map g old
stored_done g {i} {old} p l = filling_done p (length old) refl l ∙ tabulate_map g old
