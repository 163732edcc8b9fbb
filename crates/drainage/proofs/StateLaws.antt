-- The invariants hold of every state of the flood, and after i steps i cells have left.
use Prim.Native.Nat.{ℕ, zero, suc, ◌^◌, ◌≤◌, ◌<◌}
use mathlib.Core.Path.{◌≡◌, refl, sym, ap, ◌∙◌, subst}
use mathlib.Core.Bool.{true}
use mathlib.Core.Logic.{inl, inr}
use mathlib.Core.List.{List, [], ◌∷◌}
use native.Mathlib.Omega.{arith}
use lib.Dec.{eqb}
use lib.ListN.{length, get_or, length-append}
use lib.Seq.{get_or-set_same, get_or-set_other}
use borrow.Author.Tests.{eq-eqb, eqb-true}
use Rattle.loops.specs.Loops.{turns}
use Rattle.loops.proofs.TableLaws.{get_d_tabulate}
use Rattle.drainage.specs.Ground.{Ground, Kind}
use Rattle.drainage.specs.Flood.{Flood, flood_start, pushed, push, leave, place, least_waiting, flood_step, flood_after, flooded}
use Rattle.drainage.specs.Chains.{Neighbours}
use Rattle.drainage.specs.Theorems.{Joined, Numbers}
use Rattle.loops.proofs.TestLaws.{same_or_not, lower_or_not}
use Rattle.loops.proofs.LoopLaws.{up_to}
use Rattle.loops.proofs.CountLaws.{count_all, count_full}
use Rattle.drainage.proofs.LeastLaws.{least_waiting_found, place_key}
use Rattle.drainage.proofs.InvariantLaws.{View, Flooding, one_of, begins}
use Rattle.drainage.proofs.LeaveLaws.{leaves}
use Rattle.drainage.proofs.PushLaws.{passes_by, pushes}
use Rattle.drainage.proofs.KeptLaws.{Sized, push_cases, push_sized, pushed_to, pushed_to_later, pushed_to_order, leave_sized, next_waits, step_cases, start_sized, flood_after_none, flood_after_more}

module _ {H : Type 0} (k : Kind H) (g : Ground) (hs : List H) (Good : H → Type 0) (number : H → ℕ) where
  -- the number of a cell's height
  abbrev pub height_of : ℕ → ℕ
  height_of c = number (get_or hs c k.absent)

  abbrev pub view_of : Flood H → View
  view_of s = record {
    status = λ c. get_or s.status c 0;
    number = λ c. number (get_or s.spill c k.absent);
    discoverer = λ c. get_or s.discoverer c 0;
    order = s.order;
  }

  pub record Holds (s : Flood H) (leaver handled : ℕ) : Type 0 where
    pub sized : Sized g.cells s
    pub good : (c : ℕ) → c < g.cells → Good (get_or s.spill c k.absent)
    pub flooding : Flooding g height_of (view_of s) leaver handled

  -- the state once i cells have left
  pub record Stands (i : ℕ) (s : Flood H) : Type 0 where
    pub leaver : ℕ
    pub holds : Holds s leaver 8
    pub left : length s.order ≡ i

  module _ (joined : Joined g) (numbers : Numbers k Good number) (many : length hs ≡ g.cells)
      (fine : (c : ℕ) → c < g.cells → Good (get_or hs c k.absent)) where
    -- a place that is not above has a number that is not above
    place_number : (s : Flood H) (leaver handled a b : ℕ) → Holds s leaver handled → a < g.cells → b < g.cells → place k g hs s a ≤ place k g hs s b → (view_of s).number a ≤ (view_of s).number b
    place_number s leaver handled a b h l m p = elim (lower_or_not ((view_of s).number b) ((view_of s).number a)) [
      | inl lo ↦ let z : ⊥ = clash lo in absurd z
      | inr hi ↦ hi
    ]
      where
        narrow : (b : ℕ) → b < g.cells → b < 2 ^ 32
        narrow b m = omega (arith, joined.few)

        clash : (view_of s).number b < (view_of s).number a → ⊥
        clash lo =
            let low : k.key (get_or s.spill b k.absent) < k.key (get_or s.spill a k.absent) = numbers.key_follows _ _ (h.good b m) (h.good a l) lo in
            let high : k.key (get_or s.spill a k.absent) ≤ k.key (get_or s.spill b k.absent) = place_key _ _ a b (narrow b m) p in
            omega arith

    leave_holds : (s : Flood H) (last c : ℕ) → Holds s last 8 → least_waiting k g hs s ≡ c → c < g.cells → Holds (leave k g hs c s) c 0
    leave_holds s last c h e l = record {
      sized = leave_sized k g hs c s h.sized;
      good = h.good;
      flooding =
          leaves g height_of (view_of s) (view_of (leave k g hs c s)) last c h.flooding l (next_waits k g hs s c e l) least (record {
            here = get_or-set_same s.status c 2 0 (omega (arith, h.sized.status));
            elsewhere = λ j n. get_or-set_other s.status c j 2 0 n;
            same_number = λ j. refl;
            same_discoverer = λ j. refl;
            more = refl;
          });
    }
      where
        least : (b : ℕ) → b < g.cells → get_or s.status b 0 ≡ 1 → (view_of s).number c ≤ (view_of s).number b
        least b m w =
            place_number s last 8 c b h l m
            (subst (λ c. c < g.cells → place k g hs s c ≤ place k g hs s b) e (λ l. (least_waiting_found k g hs s).least l b m (eq-eqb (get_or s.status b 0) 1 w)) l)

    -- c pushes m
    new_holds :
        (s : Flood H) (c d : ℕ) → d < 8 → Holds s c d → c < g.cells → 2 ≤ get_or s.status c 0 → g.near c (suc d) < g.cells
        → get_or s.status (g.near c (suc d)) 0 ≡ 0 → Sized g.cells (pushed k g hs c (g.near c (suc d)) s)
        → Holds (pushed k g hs c (g.near c (suc d)) s) c (suc d)
    new_holds s c d w h l left inn new z = record {
      sized = z;
      good = λ j i. elim (same_or_not j m) [
        | inl e ↦ subst Good (sym (ap at e ∙ here)) (numbers.raised_good _ _ (fine m inn) (h.good c l))
        | inr n ↦ subst Good (sym (get_or-set_other s.spill m j _ k.absent n)) (h.good j i)
      ];
      flooding =
          pushes g height_of joined (view_of s) (view_of (pushed k g hs c m s)) c d h.flooding w l (omega (arith, h.flooding.known c l)) inn new (record {
            here = get_or-set_same s.status m 1 0 (omega (arith, h.sized.status));
            here_number = ap number here ∙ numbers.raised_number _ _ (fine m inn) (h.good c l);
            here_discoverer = get_or-set_same s.discoverer m c 0 (omega (arith, h.sized.discoverer));
            elsewhere = λ j n. get_or-set_other s.status m j 1 0 n;
            else_number = λ j n. ap number (get_or-set_other s.spill m j _ k.absent n);
            else_discoverer = λ j n. get_or-set_other s.discoverer m j _ 0 n;
            same_order = refl;
          });
    }
      where
        m : ℕ
        m = g.near c (suc d)

        at : ℕ → H
        at j = get_or (pushed k g hs c m s).spill j k.absent

        here : at m ≡ k.raised (get_or hs m k.absent) (get_or s.spill c k.absent)
        here = get_or-set_same s.spill m _ k.absent (omega (arith, h.sized.spill))

    push_holds :
        (s : Flood H) (c d : ℕ) → d < 8 → Holds s c d → c < g.cells → 2 ≤ get_or s.status c 0
        → Holds (push k g hs c (g.near c (suc d)) s) c (suc d)
    push_holds s c d w h l left = push_cases k g hs (λ t. Sized g.cells t → Holds t c (suc d)) c (g.near c (suc d)) s h.sized
        (λ inn new z. new_holds s c d w h l left inn new z)
        (λ p z. record { sized = z; good = h.good; flooding = passes_by g height_of (view_of s) c d h.flooding p })
        (push_sized k g hs c (g.near c (suc d)) s h.sized)

    pushed_to_holds : (s : Flood H) (c d : ℕ) → d ≤ 8 → Holds s c 0 → c < g.cells → 2 ≤ get_or s.status c 0 → Holds (pushed_to k g hs c d s) c d
    unfolding turns
    pushed_to_holds s c zero w h l left = h
    pushed_to_holds s c (suc d) w h l left =
        push_holds (pushed_to k g hs c d s) c d w (pushed_to_holds s c d (omega arith) h l left) l
        (omega (arith, (pushed_to_later k g hs c d s h.sized).status c))

    -- a cell leaves
    left_holds : (s : Flood H) (last c : ℕ) → Holds s last 8 → least_waiting k g hs s ≡ c → c < g.cells → Holds (pushed_to k g hs c 8 (leave k g hs c s)) c 8
    left_holds s last c h e l =
        pushed_to_holds (leave k g hs c s) c 8 (omega arith) (leave_holds s last c h e l) l
        (omega (arith, get_or-set_same s.status c 2 0 (omega (arith, h.sized.status))))

    start_holds : Holds (flood_start k g hs) 0 8
    unfolding flood_start
    start_holds = record {
      sized = start_sized k g hs many;
      good = fine;
      flooding = begins g height_of (view_of (flood_start k g hs)) (record {
        status = λ c l. get_d_tabulate (λ c. one_of (g.base c)) g.cells c 0 l;
        number = λ c. refl;
        discoverer = λ c l. get_d_tabulate (λ c. c) g.cells c 0 l;
        order = refl;
      });
    }

    -- where nobody waits, every cell has left
    all_left :
        (s : Flood H) (last : ℕ) → Holds s last 8 → ((c : ℕ) → c < g.cells → get_or s.status c 0 ≡ 1 → ⊥) → (c : ℕ) → c < g.cells
        → get_or s.status c 0 ≡ 2
    all_left s last h none =
        joined.joins (λ c. get_or s.status c 0 ≡ 2)
        (λ c m l n p. gone m n.inside (subst (λ m. m < g.cells → 1 ≤ get_or s.status m 0) n.leads (reach c n l p) n.inside))
        joined.outlet
        joined.outlet_inside
        (gone joined.outlet joined.outlet_inside (h.flooding.base_pushed joined.outlet joined.outlet_inside joined.outlet_base))
      where
        gone : (c : ℕ) → c < g.cells → 1 ≤ get_or s.status c 0 → get_or s.status c 0 ≡ 2
        gone c l p = elim (same_or_not (get_or s.status c 0) 1) [
          | inl e ↦ absurd (none c l e)
          | inr d ↦ omega (arith, h.flooding.known c l)
        ]

        reach :
            (c : ℕ) {m : ℕ} (n : Neighbours g c m) → c < g.cells → get_or s.status c 0 ≡ 2 → g.near c n.direction < g.cells
            → 1 ≤ get_or s.status (g.near c n.direction) 0
        reach c n l p i = (h.flooding.reached c n.direction l p n.first n.last i (λ _. n.last)).pushed

    -- while some cell has not left, one waits
    pub some_waits : (s : Flood H) (last : ℕ) → Holds s last 8 → length s.order < g.cells → least_waiting k g hs s ≡ g.cells → ⊥
    some_waits s last h few e = omega (arith, count_full (λ c. eqb (get_or s.status c 0) 2) g.cells left, h.flooding.count)
      where
        none : (c : ℕ) → c < g.cells → get_or s.status c 0 ≡ 1 → ⊥
        none c l w = (least_waiting_found k g hs s).nobody (omega arith) c l (eq-eqb (get_or s.status c 0) 1 w)

        left : (c : ℕ) → c < g.cells → eqb (get_or s.status c 0) 2 ≡ true
        left c l = eq-eqb (get_or s.status c 0) 2 (all_left s last h none c l)

    step_stands : (i : ℕ) (s : Flood H) → i < g.cells → Stands i s → Stands (suc i) (flood_step k g hs s)
    step_stands i s l h =
        step_cases k g hs (Stands (suc i)) s
        (λ c e m. record {
          leaver = c;
          holds = left_holds s h.leaver c h.holds e m;
          left =
              ap length (pushed_to_order k g hs c 8 (leave k g hs c s) (leave_sized k g hs c s h.holds.sized))
              ∙ omega (arith, length-append s.order (c ∷ []), h.left);
        })
        (λ e. absurd (some_waits s h.leaver h.holds (omega (arith, h.left)) e))

    start_stands : Stands 0 (flood_start k g hs)
    start_stands = record { leaver = 0; holds = start_holds; left = unfold flood_start in refl }

    pub flood_after_stands : (i : ℕ) → i ≤ g.cells → Stands i (flood_after k g hs i)
    flood_after_stands =
        up_to (λ i. Stands i (flood_after k g hs i)) g.cells (subst (Stands 0) (sym (flood_after_none k g hs)) start_stands)
        (λ i l h. subst (Stands (suc i)) (sym (flood_after_more k g hs i)) (step_stands i (flood_after k g hs i) l h))

    -- in the end every cell has left
    pub flooded_left : (c : ℕ) → c < g.cells → get_or (flooded k g hs).status c 0 ≡ 2
    flooded_left c l =
        eqb-true (get_or (flooded k g hs).status c 0) 2
        (count_all (λ c. eqb (get_or (flooded k g hs).status c 0) 2) g.cells (end.holds.flooding.count ∙ end.left) c l)
      where
        end : Stands g.cells (flooded k g hs)
        end = flood_after_stands g.cells (omega arith)
