-- The grids that document 01 accepts meet the theorems' premises if some cell is base level, and so every such routing
-- is a network.
use Prim.Native.Nat.{ℕ, zero, suc, ◌*◌, ◌^◌, ◌≤◌, ◌<◌}
use mathlib.Core.Path.{◌≡◌, refl, sym, ap, ◌∙◌, subst}
use mathlib.Core.Bool.{Bool, true, false, not, ◌||◌, false≢true}
use mathlib.Core.List.{List}
use native.Mathlib.Nat.{mul-le-mul}
use native.Mathlib.Omega.{arith}
use lib.Dec.{T}
use borrow.Author.Tests.{not-false}
use lib.ListN.{length, get_or}
use lib.Ieee.{Float, nan}
use Rattle.float_order.specs.Order.{Number, rank}
use Rattle.float_order.specs.Fit.{Fit}
use Rattle.float_order.proofs.OrderLaws.{lt_is}
use Rattle.float_order.proofs.RankLaws.{finite_number, max_keeps, max_rank}
use Rattle.floats.proofs.BitsLaws.{key_narrow}
use Rattle.float_order.proofs.KeyLaws.{key_lt}
use Rattle.grid.specs.Sides.{InRange}
use Rattle.grid.specs.Directions.{Adjacent}
use Rattle.grid.specs.Heights.{all_finite}
use Rattle.grid.proofs.SidesLaws.{cells_bound}
use Rattle.grid.proofs.NeighbourLaws.{adjacent_back, adjacent_apart}
use Rattle.grid.proofs.ReachLaws.{spreads}
use Rattle.grid.proofs.HeightsLaws.{all_at}
use Rattle.grid.proofs.BaseLaws.{base_first}
use Rattle.drainage.specs.Ground.{Ground, floats, ground_by, grid_ground, some_below, no_base}
use Rattle.grid_spacing.specs.declared.Distances.{Distances}
use Rattle.drainage.specs.declared.Land.{Land}
use Rattle.drainage.specs.Flood.{flood_after, flooded}
use Rattle.drainage.specs.Chains.{Neighbours}
use Rattle.drainage.specs.Theorems.{Joined, Numbers}
use Rattle.drainage.specs.Grids.{Height, NorthBased, GridNetworks}
use Rattle.drainage.proofs.StateLaws.{Stands, flood_after_stands, flooded_left}
use Rattle.drainage.proofs.FloodLaws.{Stage, flood_after_stage}
use Rattle.drainage.proofs.NetworkLaws.{networks}

-- a grid of at most 2^32 cells, with whatever base cells and distances, is joined if some cell is base
module _ (w h : ℕ) (distances : Distances) (base : ℕ → Bool) where
  abbrev pub on_grid : Ground
  on_grid = ground_by w h distances base

  pub to_adjacent : {c m : ℕ} → Neighbours on_grid c m → Adjacent w h c m
  to_adjacent n = record { direction = n.direction; first = n.first; last = n.last; inside = n.inside; leads = n.leads }

  to_near : {c m : ℕ} → Adjacent w h c m → Neighbours on_grid c m
  to_near n = record { direction = n.direction; first = n.first; last = n.last; inside = n.inside; leads = n.leads }

  pub cells_joined : w * h ≤ 2 ^ 32 → (outlet : ℕ) → outlet < w * h → base outlet ≡ true → Joined on_grid
  cells_joined few outlet inside is_base = record {
    few = few;
    other = λ c m l n. adjacent_apart w h c m l (to_adjacent n);
    both_ways = λ c m l n. to_near (adjacent_back w h c m l (to_adjacent n));
    joins = λ P f. spreads w h P (λ a b l n. f a b l (to_near n));
    outlet = outlet;
    outlet_inside = inside;
    outlet_base = is_base;
  }

  pub grid_joined : InRange w h → (outlet : ℕ) → outlet < w * h → base outlet ≡ true → Joined on_grid
  grid_joined r = cells_joined (omega (arith, cells_bound w h r.wide r.high))

-- a cell that a test holds of, where some cell below n is one
pub some_found : (n : ℕ) (p : ℕ → Bool) → some_below n p ≡ true → (c : ℕ) × (c < n) × (p c ≡ true)
unfolding some_below
some_found zero p e = absurd (false≢true e)
some_found (suc n) p e = go (p n) refl e (some_found n p)
  where
    go : (b : Bool) → p n ≡ b → (b || some_below n p) ≡ true → (some_below n p ≡ true → (c : ℕ) × (c < n) × (p c ≡ true)) → (c : ℕ) × (c < suc n) × (p c ≡ true)
    go true t h rest = (n, omega arith, t)
    go false t h rest = let r = rest h in (r.0, omega (arith, r.1), r.2)

-- a cell that the test holds of makes it hold of some
pub some_at : (n : ℕ) (p : ℕ → Bool) (c : ℕ) → c < n → p c ≡ true → some_below n p ≡ true
unfolding some_below
some_at zero p c l e = absurd (omega arith)
some_at (suc n) p c l e = go (p n) refl (λ k. some_at n p c k e)
  where
    go : (b : Bool) → p n ≡ b → (c < n → some_below n p ≡ true) → (b || some_below n p) ≡ true
    go true t rest = refl
    go false t rest = rest (below (λ q. false≢true (sym t ∙ ap p (sym q) ∙ e)))
      where
        below : (c ≡ n → ⊥) → c < n
        below d = omega (arith, d)

pub some_base : (g : Ground) → no_base g ≡ false → (c : ℕ) × (c < g.cells) × (g.base c ≡ true)
some_base g e = some_found g.cells g.base (not-false (some_below g.cells g.base) e)

pub north_based : NorthBased
north_based w h land hs r e = ap not (some_at (w * h) _ 0 (mul-le-mul r.columns r.rows) (base_first w h land.sides land.water_level hs e))

pub grid_ground_joined : (w h : ℕ) (land : Land) (hs : List Float) → InRange w h → no_base (grid_ground w h land hs) ≡ false → Joined (grid_ground w h land hs)
grid_ground_joined w h land hs r some = let o = some_base (grid_ground w h land hs) some in grid_joined w h land.distances _ r o.0 o.1 o.2

-- heights that are numbers compare as their ranks
pub numbers_of :
    (Good : Float → Type 0) → ((x : Float) → Good x → Number x) → Numbers floats Good rank
numbers_of Good number = record {
  raised_good = max_keeps Good;
  raised_number = λ a b p q. max_rank a b (number a p) (number b q);
  lower_number = λ a b p q. lt_is a b (number a p) (number b q);
  key_follows = λ a b p q. key_lt a b (number a p) (number b q);
  key_narrow = λ a p. key_narrow a;
}

pub finite_numbers : Numbers floats Height rank
finite_numbers = numbers_of Height (λ x p. finite_number x p.fit p.real)

pub grid_heights : (n : ℕ) (hs : List Float) → length hs ≡ n → Fit hs → all_finite hs ≡ true → (c : ℕ) → c < n → Height (get_or hs c nan)
grid_heights n hs e fit all c l = record { fit = fit c; real = subst T (sym (all_at hs all c (omega arith))) tt }

pub grid_networks : GridNetworks
grid_networks w h land hs r e fit all some =
    networks Float floats (grid_ground w h land hs) hs Height rank (grid_ground_joined w h land hs r some) finite_numbers e (grid_heights (w * h) hs e fit all)

-- every state of an accepted routing, and the last
module _ (w h : ℕ) (land : Land) (hs : List Float) (r : InRange w h) (e : length hs ≡ w * h) (fit : Fit hs) (all : all_finite hs ≡ true) (some : no_base (grid_ground w h land hs) ≡ false) where
  pub grid_stands : (i : ℕ) → i ≤ w * h → Stands floats (grid_ground w h land hs) hs Height rank i (flood_after floats (grid_ground w h land hs) hs i)
  grid_stands =
      flood_after_stands floats (grid_ground w h land hs) hs Height rank (grid_ground_joined w h land hs r some) finite_numbers e
      (grid_heights (w * h) hs e fit all)

  pub grid_stage : (i : ℕ) → i ≤ w * h → Stage floats (grid_ground w h land hs) hs Height i (flood_after floats (grid_ground w h land hs) hs i)
  grid_stage =
      flood_after_stage floats (grid_ground w h land hs) hs Height rank (grid_ground_joined w h land hs r some) finite_numbers e
      (grid_heights (w * h) hs e fit all)

  pub grid_left : (c : ℕ) → c < w * h → get_or (flooded floats (grid_ground w h land hs) hs).status c 0 ≡ 2
  grid_left =
      flooded_left floats (grid_ground w h land hs) hs Height rank (grid_ground_joined w h land hs r some) finite_numbers e
      (grid_heights (w * h) hs e fit all)
