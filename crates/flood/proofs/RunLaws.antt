-- Laws of the whole flood: once some cells have left the slices hold the flood after as many steps, and the scan and its heap the waiting cells.
use Prim.Native.Nat.{ℕ, ◌+◌, ◌*◌, ◌^◌, ◌≤◌, ◌<◌}
use mathlib.Core.Path.{◌≡◌, sym, ap, ◌∙◌, subst}
use mathlib.Core.Bool.{false}
use mathlib.Core.List.{List, [], ◌∷◌, ◌++◌}
use native.Mathlib.Numerals.{add-one}
use native.Mathlib.Omega.{arith}
use lib.ListN.{length, get_or, set, take}
use lib.Seq.{get_or-set_same, get_or-set_other, take-suc-set, take_all}
use lib.Dec.{eqb}
use Rattle.std.specs.Prelude.{Option, Some, None}
use lib.Ieee.{Float, nan}
use borrow.Author.Tests.{eq-eqb, ne_eqb, eqb-true}
use Rattle.float_order.specs.Fit.{Fit}
use Rattle.loops.proofs.LoopLaws.{at_end}
use Rattle.grid.proofs.SidesLaws.{cells_bound}
use Rattle.drainage.specs.Ground.{floats, grid_ground, no_base}
use Rattle.drainage.specs.Grids.{Height}
use Rattle.drainage.specs.Flood.{Flood, least_waiting, flood_step, flood_after, flooded}
use Rattle.loops.specs.Counts.{count_below}
use Rattle.drainage.specs.declared.Land.{Land}
use Rattle.loops.proofs.CountLaws.{count_more, count_apart}
use Rattle.drainage.proofs.FloodLaws.{step_leaves, least_waiting_is, least_waiting_found, flood_after_none, flood_after_more}
use Rattle.drainage.proofs.GroundLaws.{grid_stage, grid_stands, grid_heights}
use Rattle.flood_queue.specs.declared.Scan.{Scan}
use Rattle.flood_start.specs.Slices.{state_of, slices_of, Started}
use Rattle.flood.specs.Slices.{AcceptedGrid, Flooded}
use Rattle.flood_queue.specs.Scans.{at_limit, Level, ScanBegun, ScanReady, Waits, Turned, Leaves}
use Rattle.flood_reach.specs.Reaches.{ReachedAll}
use Rattle.flood.specs.Steps.{NextLeaver}
use Rattle.flood_queue.proofs.ListedLaws.{under_limit, listed_set}
use Rattle.flood_queue.proofs.ScanLaws.{leaver_level}

pub record Running (w h : ℕ) (land : Land) (hs : List Float) (i : ℕ) (s : Scan) (status : List ℕ) (spill : List Float) (recv order queue : List ℕ) : Type 0 where
  pub state : state_of status spill recv (take i order) ≡ flood_after floats (grid_ground w h land hs) hs i
  pub begun : ScanBegun hs order status spill s queue

-- Cell c has just left, it raises no cell at the limit or above it, and the order has an entry i.
pub record Leaver (hs : List Float) (limit c i : ℕ) (status : List ℕ) (spill : List Float) (order : List ℕ) : Type 0 where
  pub inside : c < length hs
  pub left : get_or status c 0 ≡ 2
  pub level : Level hs limit (get_or spill c nan)
  pub room : i < length order

-- turns until a cell leaves
module _ (hs : List Float) (list status : List ℕ) (spill : List Float) (s : Scan) (queue : List ℕ) (ready : ScanReady hs list status spill s queue) (t : Scan) (left : Option ℕ) (status' queue' : List ℕ)
    (turned : Turned hs list s.head status spill t left status' queue') where
  -- the turn in which it leaves
  pub leaver_next : (c : ℕ) → left ≡ Some c → NextLeaver hs list status spill t c status' queue'
  leaver_next c e = record { listed = turned.listed; queued = turned.queued; leaves = turned.leaves c e }

  -- one in which none does
  pub still_ready : left ≡ None → ScanReady hs list status' spill t queue'
  still_ready e = record {
    few = ready.few;
    statuses = ap length (turned.same e) ∙ ready.statuses;
    spills = ready.spills;
    begun = record { listed = turned.listed; queued = turned.queued };
  }

-- the scan after a cell has reached its neighbours
abbrev pub after : Scan → ℕ → Scan
after s len = record { head = s.head; limit = s.limit; len = len }

module _ (w h : ℕ) (land : Land) (hs : List Float) where
  pub running_none :
      (s : Scan) (status : List ℕ) (spill : List Float) (recv order queue : List ℕ) → Started w h land hs status spill recv
      → ScanBegun hs order status spill s queue → Running w h land hs 0 s status spill recv order queue
  running_none s status spill recv order queue t b = record { state = t.state ∙ sym (flood_after_none floats (grid_ground w h land hs) hs); begun = b }

  module _ (i : ℕ) (s : Scan) (status : List ℕ) (spill : List Float) (recv order queue : List ℕ) (r : Running w h land hs i s status spill recv order queue)
      (a : AcceptedGrid w h hs) where
    abbrev now_state : Flood Float
    now_state = state_of status spill recv (take i order)

    pub few : length hs ≤ 2 ^ 24
    few = omega (arith, a.cells, cells_bound w h a.sides.wide a.sides.high)

    -- while some cell has not left, one waits
    pub some_waits : no_base (grid_ground w h land hs) ≡ false → Fit hs → i < w * h → Waits status
    some_waits some fit l = record { cell = next; waits = eqb-true (get_or status next 0) 1 ((least_waiting_found floats (grid_ground w h land hs) hs now_state).one_waits inside) }
      where
        next : ℕ
        next = least_waiting floats (grid_ground w h land hs) hs now_state

        inside : next < w * h
        inside =
            subst (λ s. least_waiting floats (grid_ground w h land hs) hs s < w * h) (sym r.state)
            ((grid_stage w h land hs a.sides a.cells fit a.finites some i (omega arith)).next l)

    -- as many cells have left as stand in the order
    left_count : no_base (grid_ground w h land hs) ≡ false → Fit hs → i ≤ w * h → count_below (w * h) (λ c. eqb (get_or status c 0) 2) ≡ i
    left_count some fit l =
        let stands = grid_stands w h land hs a.sides a.cells fit a.finites some i l in
        ap (λ (t : Flood Float). count_below (w * h) (λ c. eqb (get_or t.status c 0) 2)) r.state ∙ stands.holds.flooding.count ∙ stands.left

    module _ (some : no_base (grid_ground w h land hs) ≡ false) (fit : Fit hs) (l : i < w * h) (t : Scan) (c : ℕ) (status' queue' : List ℕ)
        (turned : NextLeaver hs order status spill t c status' queue') (sized : length status ≡ w * h) where
      v : Leaves hs t.limit c status spill status'
      v = turned.leaves

      inside : c < w * h
      inside = omega (arith, v.inside, a.cells)

      left_now : get_or status' c 0 ≡ 2
      left_now = ap (λ z. get_or z c 0) v.marked ∙ get_or-set_same status c 2 0 (omega (arith, inside, sized))

      other : (b : ℕ) → (b ≡ c → ⊥) → get_or status' b 0 ≡ get_or status b 0
      other b d = ap (λ z. get_or z b 0) v.marked ∙ get_or-set_other status c b 2 0 d

      -- the order has room before the scan's place: the cells that left and those the scan has not passed are different ones
      pub leaver_room : i < t.head
      leaver_room =
          omega (
            arith,
            left_count some fit (omega arith),
            count_more (λ b. eqb (get_or status b 0) 2) (λ b. eqb (get_or status' b 0) 2) (w * h) c inside
                (ne_eqb (get_or status c 0) 2 (λ z. omega (arith, v.waited))) (eq-eqb (get_or status' c 0) 2 left_now) (λ b d. ap (λ z. eqb z 2) (sym (other b d))),
            count_apart (λ b. eqb (get_or status' b 0) 2) (at_limit hs t.limit) (w * h)
                (λ b k e. under_limit hs t.limit b (turned.queued.gone b (eqb-true (get_or status' b 0) 2 e))),
            ap (λ n. t.head + count_below n (at_limit hs t.limit)) (sym a.cells),
            turned.listed.many,
            a.cells,
          )

      pub leaver : length order ≡ w * h → Leaver hs t.limit c i status' spill order
      leaver n = record {
        inside = v.inside;
        left = left_now;
        level = leaver_level hs spill t.limit c few (λ b k. grid_heights (w * h) hs a.cells fit a.finites b (omega (arith, a.cells))) good v.low;
        room = omega arith;
      }
        where
          good : Height (get_or spill c nan)
          good =
              subst (λ (z : Flood Float). Height (get_or z.spill c nan)) (sym r.state)
              ((grid_stage w h land hs a.sides a.cells fit a.finites some i (omega arith)).good c inside)

      leaves_next : least_waiting floats (grid_ground w h land hs) hs now_state ≡ c
      leaves_next =
          least_waiting_is floats (grid_ground w h land hs) hs now_state (omega (arith, few, a.cells)) c inside (eq-eqb (get_or status c 0) 1 v.waited)
          (λ b k e. v.least b (eqb-true (get_or status b 0) 1 e))

      pub running_more :
          (len' : ℕ) (status'' : List ℕ) (spill'' : List Float) (recv'' order'' queue'' : List ℕ) → length order ≡ w * h → order'' ≡ set order i c
          → ReachedAll w h hs t.limit c (slices_of (state_of status' spill recv order)) len' (slices_of (state_of status'' spill'' recv'' order'')) queue''
          → Running w h land hs (i + 1) (after t len') status'' spill'' recv'' order'' queue''
      running_more len' status'' spill'' recv'' order'' queue'' n e x = record {
        state =
            ap (state_of status'' spill'' recv'') (ap (take (i + 1)) e ∙ ap (λ n. take n (set order i c)) (add-one i) ∙ take-suc-set order i c (omega arith))
            ∙ x.state land.distances _ (take i order ++ (c ∷ []))
            ∙ ap (λ z. Rattle.drainage.specs.Flood.push_all floats (grid_ground w h land hs) hs c (state_of z spill recv (take i order ++ (c ∷ [])))) v.marked
            ∙ sym (step_leaves floats (grid_ground w h land hs) hs now_state c leaves_next inside)
            ∙ ap (flood_step floats (grid_ground w h land hs) hs) r.state
            ∙ sym (flood_after_more floats (grid_ground w h land hs) hs i)
            ∙ ap (flood_after floats (grid_ground w h land hs) hs) (sym (add-one i));
        begun = record { listed = listed_set hs t.head t.limit order order'' turned.listed i c leaver_room e; queued = x.queued };
      }

    pub running_done : i ≤ w * h → w * h ≤ i → length order ≡ w * h → Flooded w h land hs order recv spill
    running_done lo hi n = record {
      left = sym (take_all i order (omega arith)) ∙ ap (λ (s : Flood Float). s.order) whole;
      found = ap (λ (s : Flood Float). s.discoverer) whole;
      raised = ap (λ (s : Flood Float). s.spill) whole;
    }
      where
        whole : now_state ≡ flooded floats (grid_ground w h land hs) hs
        whole = at_end (flood_after floats (grid_ground w h land hs) hs) r.state lo hi
