-- What code that computes the flood needs to know of it: which cell leaves next (LeastLaws), what a step is, and what holds after i steps.
use Prim.Native.Nat.{ℕ, zero, suc, ◌+◌, ◌≤◌, ◌<◌}
use mathlib.Core.Path.{◌≡◌, ap, ◌∙◌}
use mathlib.Core.Bool.{true, false, cond}
use mathlib.Core.Logic.{inl, inr}
use mathlib.Core.List.{List}
use native.Mathlib.Nat.{eq-or-lt_of_le, add-zero, add-suc}
use native.Mathlib.Omega.{arith}
use lib.Dec.{eqb, ltb}
use lib.ListN.{length, get_or}
use borrow.Author.Tests.{eqb-true, ne_eqb, lt-ltb, le-ltb}
use Rattle.drainage.specs.Ground.{Ground, Kind}
use Rattle.drainage.specs.Flood.{Flood, push_all, leave, waits, least_waiting, flood_step, flood_after, flooded}
use Rattle.loops.specs.Counts.{one_if, times, count_below}
use Rattle.drainage.specs.Theorems.{Joined, Numbers}
use Rattle.loops.proofs.CountLaws.{count_apart}
use Rattle.drainage.proofs.StateLaws.{Stands, flood_after_stands, some_waits, flooded_left}
pub use Rattle.drainage.proofs.LeastLaws.{Least, least_waiting_found, least_waiting_is, least_waiting_nobody}
pub use Rattle.drainage.proofs.KeptLaws.{Sized, Later, flood_after_none, flood_after_more, flood_after_sized, flood_after_later}

module _ {H : Type 0} (k : Kind H) (g : Ground) (hs : List H) where
  -- a step once the next leaver is known
  pub step_leaves : (s : Flood H) (c : ℕ) → least_waiting k g hs s ≡ c → c < g.cells → flood_step k g hs s ≡ push_all k g hs c (leave k g hs c s)
  unfolding flood_step
  step_leaves s c e l =
      ap (λ c. cond (ltb c g.cells) (push_all k g hs c (leave k g hs c s)) s) e
      ∙ ap (λ b. cond b (push_all k g hs c (leave k g hs c s)) s) (lt-ltb c g.cells l)

  -- where nobody waits nothing happens
  pub step_stays : (s : Flood H) → least_waiting k g hs s ≡ g.cells → flood_step k g hs s ≡ s
  unfolding flood_step
  step_stays s e = ap (λ b. cond b (push_all k g hs c (leave k g hs c s)) s) (le-ltb c g.cells (omega arith))
    where
      c : ℕ
      c = least_waiting k g hs s

  -- the state after i steps: i cells have left and stand in the order, once each; no more wait than have not left; while one has not left, one waits
  pub record Stage (Good : H → Type 0) (i : ℕ) (s : Flood H) : Type 0 where
    pub sized : Sized g.cells s
    pub good : (c : ℕ) → c < g.cells → Good (get_or s.spill c k.absent)
    pub known : (c : ℕ) → c < g.cells → get_or s.status c 0 ≤ 2
    pub left : length s.order ≡ i
    pub once : (c : ℕ) → c < g.cells → times c s.order ≡ one_if (get_or s.status c 0) 2
    pub only : (c : ℕ) → g.cells ≤ c → times c s.order ≡ 0
    pub waiting : count_below g.cells (waits k g hs s) + i ≤ g.cells
    pub next : i < g.cells → least_waiting k g hs s < g.cells

  module _ (Good : H → Type 0) (number : H → ℕ) (joined : Joined g) (numbers : Numbers k Good number) (many : length hs ≡ g.cells)
      (fine : (c : ℕ) → c < g.cells → Good (get_or hs c k.absent)) where
    pub flood_after_stage : (i : ℕ) → i ≤ g.cells → Stage Good i (flood_after k g hs i)
    flood_after_stage i l = of (flood_after_stands k g hs Good number joined numbers many fine i l)
      where
        s : Flood H
        s = flood_after k g hs i

        not_both : (c : ℕ) → c < g.cells → waits k g hs s c ≡ true → eqb (get_or s.status c 0) 2 ≡ false
        not_both c l w = ne_eqb (get_or s.status c 0) 2 (λ e. omega (arith, eqb-true (get_or s.status c 0) 1 w))

        of : Stands k g hs Good number i s → Stage Good i s
        of h = record {
          sized = h.holds.sized;
          good = h.holds.good;
          known = h.holds.flooding.known;
          left = h.left;
          once = h.holds.flooding.once;
          only = h.holds.flooding.only;
          waiting =
              omega (
                arith,
                count_apart (waits k g hs s) (λ c. eqb (get_or s.status c 0) 2) g.cells not_both,
                h.holds.flooding.count,
                h.left,
              );
          next = λ l. elim (eq-or-lt_of_le (least_waiting_found k g hs s).bound) [
            | inl e ↦ absurd (some_waits k g hs Good number joined numbers many fine s h.leaver h.holds (omega (arith, h.left)) e)
            | inr m ↦ m
          ];
        }

    -- in the end nobody waits, and further steps do nothing
    pub flooded_nobody : least_waiting k g hs (flooded k g hs) ≡ g.cells
    flooded_nobody =
        least_waiting_nobody k g hs (flooded k g hs)
        (λ c l w. omega (arith, eqb-true (get_or (flooded k g hs).status c 0) 1 w, flooded_left k g hs Good number joined numbers many fine c l))

    pub flood_after_ends : (j : ℕ) → flood_after k g hs (g.cells + j) ≡ flooded k g hs
    flood_after_ends zero = ap (flood_after k g hs) (add-zero g.cells)
    flood_after_ends (suc j) =
        ap (flood_after k g hs) (add-suc g.cells j)
        ∙ flood_after_more k g hs (g.cells + j)
        ∙ ap (flood_step k g hs) (flood_after_ends j)
        ∙ step_stays (flooded k g hs) flooded_nobody
