-- Every routing is a network: its order is a work list of its receivers, own receivers are base level, and spill heights are least crests.
use Prim.Native.Nat.{ℕ, suc, ◌≤◌, ◌<◌, max}
use mathlib.Core.Path.{◌≡◌, refl, sym, ap, ◌∙◌, subst}
use mathlib.Core.Bool.{Bool, true, false, ◌&&◌, cond}
use mathlib.Core.Logic.{◌⊎◌, inl, inr}
use mathlib.Core.List.{List, ◌∷◌, ◌++◌}
use native.Mathlib.Omega.{arith}
use lib.Dec.{ltb}
use lib.Ieee.{lt}
use lib.ListN.{length, get_or}
use borrow.Author.Tests.{ltb-true, eq-eqb, ne_eqb}
use Rattle.loops.proofs.TurnLaws.{turns_keep}
use Rattle.loops.proofs.TableLaws.{get_d_tabulate}
use Rattle.drainage.specs.Ground.{Ground, Kind}
use Rattle.drainage.specs.Flood.{flooded}
use Rattle.drainage.specs.Receivers.{Steepest, compared, steepest_of, receiver_of, receivers}
use Rattle.loops.specs.Counts.{times}
use Rattle.drainage.specs.Chains.{Neighbours, Chain, ends, onward, crest}
use Rattle.drainage.specs.Theorems.{Joined, Numbers, Network, Networks}
use Rattle.drainage.specs.Routing.{receivers_of}
use Rattle.loops.proofs.CountLaws.{one_same}
use Rattle.drainage.proofs.InvariantLaws.{View, Found, Reached, After, Flooding, in_order}
use Rattle.drainage.proofs.StateLaws.{height_of, view_of, Stands, flood_after_stands, flooded_left}

-- r is a neighbour of c that found it or lies lower
pub record Drains (g : Ground) (s : View) (c r : ℕ) : Type 0 where
  pub near : Neighbours g c r
  pub why : (r ≡ s.discoverer c) ⊎ (s.number r < s.number c)

-- along any chain from c no crest is below the number of c, once all cells have left
module _ (g : Ground) (height : ℕ → ℕ) (joined : Joined g) (s : View) (leaver : ℕ) (f : Flooding g height s leaver 8)
    (left : (c : ℕ) → c < g.cells → s.status c ≡ 2) where
  step_number : (c m : ℕ) → c < g.cells → Neighbours g c m → s.number c ≤ max (height c) (s.number m)
  step_number c m l n = subst (λ x. s.number x ≤ max (height x) (s.number m)) back.leads reached.level
    where
      back : Neighbours g m c
      back = joined.both_ways c m l n

      inside : g.near m back.direction < g.cells
      inside = subst (λ x. x < g.cells) (sym back.leads) l

      reached : Reached g height s m (g.near m back.direction)
      reached = f.reached m back.direction n.inside (left m n.inside) back.first back.last inside (λ _. back.last)

  least_crest : {c : ℕ} (other : Chain g c) → c < g.cells → s.number c ≤ crest height other
  unfolding crest
  least_crest (ends c b) l = omega (arith, f.base_number c l b)
  least_crest (onward c {m} n rest) l = omega (arith, step_number c m l n, least_crest rest n.inside)

module _ {H : Type 0} (k : Kind H) (g : Ground) (hs : List H) (Good : H → Type 0) (number : H → ℕ) (joined : Joined g)
    (numbers : Numbers k Good number) (many : length hs ≡ g.cells) (fine : (c : ℕ) → c < g.cells → Good (get_or hs c k.absent)) where
  end : Stands k g hs Good number g.cells (flooded k g hs)
  end = flood_after_stands k g hs Good number joined numbers many fine g.cells (omega arith)

  abbrev view : View
  view = view_of k g hs Good number (flooded k g hs)

  abbrev spill : List H
  spill = (flooded k g hs).spill

  flooding : Flooding g (height_of k g hs Good number) view end.leaver 8
  flooding = end.holds.flooding

  abbrev left : (c : ℕ) → c < g.cells → view.status c ≡ 2
  left = flooded_left k g hs Good number joined numbers many fine

  compared_drains :
      (c d : ℕ) → c < g.cells → 1 ≤ d → d ≤ 8 → (best : Steepest) → Drains g view c best.cell
      → Drains g view c (compared k g spill c d (g.near c d) best).cell
  compared_drains c d l lo hi best h =
      go (ltb m g.cells) (k.lower (at m) (at c)) (lt best.slope (k.slope (at c) (at m) (g.distance d))) refl refl
    where
      m : ℕ
      m = g.near c d

      at : ℕ → H
      at i = get_or spill i k.absent

      good : (i : ℕ) → i < g.cells → Good (at i)
      good = end.holds.good

      lower : m < g.cells → k.lower (at m) (at c) ≡ true → number (at m) < number (at c)
      lower i e = ltb-true (number (at m)) (number (at c)) (sym (numbers.lower_number (at m) (at c) (good m i) (good c l)) ∙ e)

      here : m < g.cells → k.lower (at m) (at c) ≡ true → Drains g view c m
      here i e = record { near = record { direction = d; first = lo; last = hi; inside = i; leads = refl }; why = inr (lower i e) }

      go :
          (x y z : Bool) → ltb m g.cells ≡ x → k.lower (at m) (at c) ≡ y
          → Drains g view c (cond (x && (y && z)) (record { cell = m; slope = k.slope (at c) (at m) (g.distance d) }) best).cell
      go true true true i e = here (ltb-true m g.cells i) e
      go true true false i e = h
      go true false z i e = h
      go false y z i e = h

  steepest_drains : (c r : ℕ) → c < g.cells → Drains g view c r → Drains g view c (steepest_of k g spill c r).cell
  unfolding steepest_of
  steepest_drains c r l h =
      turns_keep (λ i. compared k g spill c (suc i) (g.near c (suc i))) (λ best. Drains g view c best.cell) _ 8 h
      (λ i best w p. compared_drains c (suc i) l (omega arith) w best p)

  recv_is : (c : ℕ) → c < g.cells → get_or (receivers_of k g hs) c 0 ≡ receiver_of k g spill c (view.discoverer c)
  unfolding receivers
  recv_is c l = get_d_tabulate (λ c. receiver_of k g spill c (view.discoverer c)) g.cells c 0 l

  recv_base : (c : ℕ) → c < g.cells → g.base c ≡ true → get_or (receivers_of k g hs) c 0 ≡ c
  unfolding receiver_of
  recv_base c l b = recv_is c l ∙ ap (λ t. cond t c (steepest_of k g spill c (view.discoverer c)).cell) (eq-eqb (view.discoverer c) c (flooding.base_discoverer c l b))

  found : (c : ℕ) → c < g.cells → g.base c ≡ false → Found g (height_of k g hs Good number) view c (view.discoverer c)
  found c l b = flooding.found c l (omega (arith, left c l)) b

  discoverer_other : (c : ℕ) → c < g.cells → g.base c ≡ false → view.discoverer c ≡ c → ⊥
  discoverer_other c l b e = joined.other c (view.discoverer c) l (found c l b).near (sym e)

  recv_drains : (c : ℕ) → c < g.cells → g.base c ≡ false → Drains g view c (get_or (receivers_of k g hs) c 0)
  unfolding receiver_of
  recv_drains c l b = subst (Drains g view c) (sym is) (steepest_drains c (view.discoverer c) l (record { near = (found c l b).near; why = inl refl }))
    where
      is : get_or (receivers_of k g hs) c 0 ≡ (steepest_of k g spill c (view.discoverer c)).cell
      is =
          recv_is c l
          ∙ ap (λ t. cond t c (steepest_of k g spill c (view.discoverer c)).cell) (ne_eqb (view.discoverer c) c (discoverer_other c l b))

  recv_other : (c : ℕ) → c < g.cells → g.base c ≡ false → get_or (receivers_of k g hs) c 0 ≡ c → ⊥
  recv_other c l b e = joined.other c (get_or (receivers_of k g hs) c 0) l (recv_drains c l b).near (sym e)

  -- a cell that drains into another is not base level
  not_base : (c : ℕ) → c < g.cells → (get_or (receivers_of k g hs) c 0 ≡ c → ⊥) → g.base c ≡ false
  not_base c l d = go (g.base c) refl
    where
      go : (b : Bool) → g.base c ≡ b → g.base c ≡ false
      go true b = absurd (d (recv_base c l b))
      go false b = b

  own_base : (c : ℕ) → c < g.cells → get_or (receivers_of k g hs) c 0 ≡ c → g.base c ≡ true
  own_base c l e = go (g.base c) refl
    where
      go : (b : Bool) → g.base c ≡ b → g.base c ≡ true
      go true b = b
      go false b = absurd (recv_other c l b e)

  drains_after : (before : List ℕ) (c r : ℕ) → c < g.cells → g.base c ≡ false → Drains g view c r → After g (height_of k g hs Good number) view before c → 0 < times r before
  drains_after before c r l b d a = elim d.why [
    | inl e ↦ subst (λ r. 0 < times r before) (sym e) (a.discoverer (discoverer_other c l b))
    | inr h ↦ a.lower r d.near.inside (omega (arith, left r d.near.inside)) h
  ]

  after :
      (before : List ℕ) (c : ℕ) (rest : List ℕ) → (flooded k g hs).order ≡ before ++ (c ∷ rest)
      → (get_or (receivers_of k g hs) c 0 ≡ c → ⊥) → 0 < times (get_or (receivers_of k g hs) c 0) before
  after before c rest e d =
      let l : c < g.cells = (in_order g (height_of k g hs Good number) view end.leaver 8 flooding before c rest e).0 in
      drains_after before c (get_or (receivers_of k g hs) c 0) l (not_base c l d) (recv_drains c l (not_base c l d)) (flooding.after before c rest e)

  network_of : Network k g hs number
  network_of = record {
    work_list = record {
      once = λ c l. flooding.once c l ∙ one_same (view.status c) 2 (left c l);
      only = flooding.only;
      after = after;
    };
    base_own = recv_base;
    own_base = own_base;
    adjacent = λ c l d. (recv_drains c l (not_base c l d)).near;
    least = λ c l. record {
      chain = (flooding.way c l (omega (arith, left c l))).chain;
      attained = (flooding.way c l (omega (arith, left c l))).level;
      least = λ other. least_crest g (height_of k g hs Good number) joined view end.leaver flooding left other l;
    };
  }

pub networks : Networks
networks H k g hs Good number joined numbers many fine = network_of k g hs Good number joined numbers many fine
