-- The settled heights: each fits to its receiver's, and along any work list the incision leaves them.
use Prim.Native.Nat.{ℕ, ◌<◌}
use native.Mathlib.Omega.{arith}
use mathlib.Core.Path.{◌≡◌, sym, ◌∙◌}
use mathlib.Core.List.{List}
use lib.ListN.{length, get_or}
use lib.Seq.{ext_get_or}
use lib.Ieee.{Float, nan}
use borrow.Author.Tests.{eq-eqb}
use Rattle.loops.proofs.TableLaws.{length_tabulate, get_d_tabulate}
use Rattle.drainage.specs.Ways.{WorkList}
use Rattle.drainage.proofs.WorkListLaws.{list_length}
use Rattle.incision_cell.specs.Cut.{cut_down}
use Rattle.incision_cell.specs.declared.Incision.{Incision}
use Rattle.incision_paths.specs.Settled.{made_along, settled_height, settled_heights}
use Rattle.incision_paths.specs.Walk.{Ordered}
use Rattle.incision_paths.proofs.SettleLaws.{along_settled, along_long, settled_down}

-- heights `made` of the cells of recv, each made of that of its receiver
pub record Settles (recv : List ℕ) (make : ℕ → Float → Float) (made : ℕ → Float) : Type 0 where
  pub fits : (c : ℕ) → c < length recv → made c ≡ make c (made (get_or recv c 0))
  pub alone : (c : ℕ) (y z : Float) → get_or recv c 0 ≡ c → make c y ≡ make c z

module _ (by : Incision) (hs areas : List Float) (recv : List ℕ) where
  -- the new height of a cell of the map
  abbrev pub cut_on : ℕ → Float → Float
  cut_on c = cut_down by areas recv c (get_or hs c nan)

  pub cut_alone : (c : ℕ) (y z : Float) → get_or recv c 0 ≡ c → cut_on c y ≡ cut_on c z
  cut_alone c y z e = rw (eq-eqb (get_or recv c 0) c e)

  module _ (list : List ℕ) (w : WorkList (length recv) recv list) (long : length hs ≡ length recv) where
    fits : (c : ℕ) → c < length recv → settled_height by hs areas recv c ≡ cut_on c (settled_height by hs areas recv (get_or recv c 0))
    unfolding settled_height
    fits c l = rw long (settled_down nan recv (cut_down by areas recv) hs (λ c y z h. cut_alone c y z) list (length recv) long w c l)

    pub heights_along : settled_heights by hs areas recv ≡ made_along nan recv (cut_down by areas recv) list hs
    unfolding settled_heights settled_height
    heights_along =
        let size : length (settled_heights by hs areas recv) ≡ length hs = length_tabulate (settled_height by hs areas recv) (length hs) in
        ext_get_or nan _ _ (size ∙ long ∙ sym (along_long nan recv (cut_down by areas recv) hs (λ c y z h. cut_alone c y z) list (length recv) long w))
        (λ c h.
        let l : c < length hs = omega arith in
        get_d_tabulate (settled_height by hs areas recv) (length hs) c nan l
        ∙ sym (along_settled nan recv (cut_down by areas recv) hs (λ c y z h. cut_alone c y z) list (length recv) long w c (omega arith) (length hs) (omega (arith, list_length w))))

  pub settles : Ordered recv → length hs ≡ length recv → Settles recv cut_on (settled_height by hs areas recv)
  settles o long = record { fits = fits o.list o.work long; alone = cut_alone }

  -- a list that holds the height of each cell
  pub heights_all : {out : List Float} → length out ≡ length hs → ((c : ℕ) → c < length hs → get_or out c nan ≡ settled_height by hs areas recv c) → out ≡ settled_heights by hs areas recv
  unfolding settled_heights
  heights_all e h =
      ext_get_or nan _ _ (e ∙ sym (length_tabulate (settled_height by hs areas recv) (length hs)))
      (λ c t. let l : c < length hs = omega arith in h c l ∙ sym (get_d_tabulate (settled_height by hs areas recv) (length hs) c nan l))
