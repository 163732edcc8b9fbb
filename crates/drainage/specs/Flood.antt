-- The flood of document 01, 'Network'. Base cells are pushed with their own height and are their own receiver. The
-- lowest key leaves first, ties by lower cell number. A cell leaving gives each neighbour not yet pushed the spill
-- height max(its height, spill of the leaver) and becomes its receiver; that first receiver is called its discoverer
-- here.
use Rattle.std.specs.Prelude.{ℕ, suc, ◌+◌, ◌*◌, ◌^◌, Bool, not, ◌&&◌, ◌||◌, get_or, set, eqb}
use Rattle.std.proofs.Math.Bool.{cond}
use mathlib.Core.List.{List, [], ◌∷◌, ◌++◌}
use Rattle.std.proofs.Math.Dec.{ltb}
use Rattle.loops.specs.Loops.{turns, tabulate}
use Rattle.drainage.specs.Ground.{Ground, Kind}

-- status: 0 not pushed yet, 1 waiting, 2 left. order: the cells that left, the first one first.
pub record Flood (H : Type 0) : Type 0 where
  pub status : List ℕ
  pub spill : List H
  pub discoverer : List ℕ
  pub order : List ℕ

module _ {H : Type 0} (k : Kind H) (g : Ground) (hs : List H) where
  unfoldable pub flood_start : Flood H
  unfolding tabulate
  flood_start = record { status = tabulate g.cells (λ c. cond (g.base c) 1 0); spill = hs; discoverer = tabulate g.cells (λ c. c); order = [] }

  -- the place of a cell in the queue: the key of its spill height, then its number
  abbrev pub place : Flood H → ℕ → ℕ
  place s c = k.key (get_or s.spill c k.absent) * 2 ^ 32 + c

  abbrev pub waits : Flood H → ℕ → Bool
  waits s c = eqb (get_or s.status c 0) 1

  -- the waiting cell with the least place; `cells` where none waits
  unfoldable pub least_waiting : Flood H → ℕ
  unfolding turns
  least_waiting s =
      turns g.cells (λ c best. cond (waits s c && (not (ltb best g.cells) || ltb (place s c) (place s best))) c best) g.cells

  -- cell c pushes cell m, which waits from now on
  abbrev pub pushed : ℕ → ℕ → Flood H → Flood H
  pushed c m s =
      record {
        status = set s.status m 1;
        spill = set s.spill m (k.raised (get_or hs m k.absent) (get_or s.spill c k.absent));
        discoverer = set s.discoverer m c;
        order = s.order;
      }

  -- cell c reaches cell m: it pushes a cell that was not pushed yet
  abbrev pub push : ℕ → ℕ → Flood H → Flood H
  push c m s = cond (eqb (get_or s.status m 1) 0) (pushed c m s) s

  -- the neighbours of c are pushed in scan order, directions 1 to 8
  unfoldable pub push_all : ℕ → Flood H → Flood H
  unfolding turns
  push_all c s = turns 8 (λ i. push c (g.near c (suc i))) s

  abbrev pub leave : ℕ → Flood H → Flood H
  leave c s = record { status = set s.status c 2; spill = s.spill; discoverer = s.discoverer; order = s.order ++ (c ∷ []) }

  -- the least waiting cell leaves and reaches its neighbours; nothing changes where no cell waits
  unfoldable pub flood_step : Flood H → Flood H
  unfolding least_waiting push_all
  flood_step s = let c = least_waiting s in cond (ltb c g.cells) (push_all c (leave c s)) s

  -- the flood once n cells have left (or none waits any more)
  unfoldable pub flood_after : ℕ → Flood H
  unfolding turns flood_step flood_start
  flood_after n = turns n (λ i. flood_step) flood_start

  -- the whole flood
  abbrev pub flooded : Flood H
  flooded = flood_after g.cells
