-- Laws of the scan and its heap: the least waiting cell, and what a turn does.
use Prim.Native.Nat.{ℕ, zero, suc, ◌+◌, ◌-◌, ◌*◌, ◌^◌, ◌≤◌, ◌<◌}
use mathlib.Core.Path.{◌≡◌, refl, sym, ap, ◌∙◌, subst}
use mathlib.Core.Bool.{Bool, true, false, ◌&&◌, cond, true≢false}
use mathlib.Core.Logic.{inl, inr}
use mathlib.Core.List.{List}
use native.Mathlib.Decide.{dec_lt}
use native.Mathlib.Omega.{arith}
use lib.ListN.{length, get_or, set, length-set}
use lib.Seq.{get_or-set_same, get_or-set_other}
use lib.Dec.{ltb}
use Rattle.std.specs.Prelude.{Some, None}
use lib.Ieee.{Float, nan}
use borrow.Author.Tests.{lt-ltb, le-ltb, ltb-true, ltb-false}
use Rattle.floats.specs.Key.{key_of}
use Rattle.float_order.specs.Fit.{Fit}
use Rattle.float_order.specs.Order.{Number}
use Rattle.float_order.proofs.KeyLaws.{key_le}
use Rattle.float_order.proofs.RankLaws.{finite_number, rank_le}
use Rattle.loops.specs.Counts.{one_if, times}
use Rattle.drainage.specs.Grids.{Height}
use Rattle.loops.proofs.TestLaws.{same_or_not}
use Rattle.loops.proofs.CountLaws.{one_same, one_other, one_eq}
use Rattle.drainage.proofs.LeastLaws.{place_key}
use Rattle.flood_heap.specs.Queue.{queue_place, within, Popped}
use Rattle.flood_heap.proofs.HeapLaws.{root_least}
use Rattle.flood_heap.proofs.RoomLaws.{times_at}
use Rattle.flood_queue.specs.declared.Scan.{Scan}
use Rattle.flood_queue.specs.Scans.{limit_of, Remaining, Queued, Level, Leaves, Turned, ScanReady, Waits}
use Rattle.flood_queue.proofs.ListedLaws.{below_endless, first_inside, first_place, limit_end, limit_own, limit_rises, listed_next, queued_past, waits_inside}

-- ---- the heap
-- whether the heap's first cell, of place q, comes before the limit
pub first_none : (len q limit : ℕ) → len ≡ 0 → false ≡ (ltb 0 len && ltb q limit)
first_none len q limit e = sym (ap (λ b. b && ltb q limit) (le-ltb 0 len (omega arith)))

pub first_some : (len p q limit : ℕ) → (len ≡ 0 → ⊥) → p ≡ q → ltb p limit ≡ (ltb 0 len && ltb q limit)
first_some len p q limit d e = ap (λ x. ltb x limit) e ∙ sym (ap (λ b. b && ltb q limit) (lt-ltb 0 len (omega arith)))

none_within : (x : ℕ) (l : List ℕ) (m : ℕ) → m ≤ 0 → 0 < within x m l → ⊥
unfolding times
none_within x l zero h k = omega arith
none_within x l (suc m) h k = omega arith

-- a cell that has left is not one that was never pushed
pub unlike_zero : {v : ℕ} → v ≡ 2 → v ≡ 0 → ⊥
unlike_zero z y = omega arith

module _ (hs : List Float) (limit : ℕ) (status : List ℕ) (spill : List Float) (len : ℕ) (queue : List ℕ) (q : Queued hs limit status spill len queue) where
  -- a waiting cell is no lower than the limit and every cell of the heap
  pub least_waiting_lem :
      (x : ℕ) → x ≤ limit → ((b : ℕ) → 0 < within b len queue → x ≤ queue_place spill b) → (b : ℕ) → get_or status b 0 ≡ 1 → x ≤ queue_place spill b
  least_waiting_lem x top low b w = elim (dec_lt (queue_place hs b) limit) [
    | yes h ↦ low b (omega (arith, q.below b h, one_same (get_or status b 0) 1 w))
    | no h ↦ omega (arith, ap (λ y. key_of y * 2 ^ 32 + b) (q.own b (omega arith)))
  ]

  -- the heap's first cell leaves
  module _ (c : ℕ) (queue' : List ℕ) (p : Popped (queue_place spill) (length spill) len queue c queue') where
    in_heap : 0 < within c len queue
    in_heap = omega (arith, p.cells c, one_same c c refl)

    passed : queue_place hs c < limit
    passed = elim (dec_lt (queue_place hs c) limit) [
      | yes h ↦ h
      | no h ↦ let z : ⊥ = omega (arith, q.above c (omega arith), in_heap) in absurd z
    ]

    pub waited : get_or status c 0 ≡ 1
    waited = one_eq (get_or status c 0) 1 (omega (arith, q.below c passed, in_heap))

    pub queued_popped : c < length status → Queued hs limit (set status c 2) spill (len - 1) queue'
    queued_popped l = record {
      heap = p.heap;
      below = λ b h. elim (same_or_not c b) [
        | inl z ↦
            omega (
              arith,
              q.below b h,
              p.cells b,
              one_same c b z,
              one_same (get_or status b 0) 1 (ap (λ i. get_or status i 0) (sym z) ∙ waited),
              one_other (get_or (set status c 2) b 0) 1 (λ y. omega (arith, ap (λ i. get_or (set status c 2) i 0) (sym z) ∙ get_or-set_same status c 2 0 l)),
            )
        | inr z ↦ omega (arith, q.below b h, p.cells b, one_other c b z, ap (λ v. one_if v 1) (other b (λ y. z (sym y))))
      ];
      above = λ b h. omega (arith, q.above b h, p.cells b);
      own = q.own;
      unraised = λ b w. elim (same_or_not b c) [
        | inl z ↦ absurd (unlike_zero (ap (λ i. get_or (set status c 2) i 0) z ∙ get_or-set_same status c 2 0 l) w)
        | inr z ↦ q.unraised b (sym (other b z) ∙ w)
      ];
      gone = λ b w. elim (same_or_not b c) [
        | inl z ↦ subst (λ i. queue_place hs i < limit) (sym z) passed
        | inr z ↦ q.gone b (sym (other b z) ∙ w)
      ];
    }
      where
        other : (b : ℕ) → (b ≡ c → ⊥) → get_or (set status c 2) b 0 ≡ get_or status b 0
        other b z = get_or-set_other status c b 2 0 z

  -- where the heap's first cell does not come before the limit, none of its cells does
  pub heap_behind :
      (b : Bool) → b ≡ (ltb 0 len && ltb (queue_place spill (get_or queue 0 0)) limit) → b ≡ false → (x : ℕ) → 0 < within x len queue → limit ≤ queue_place spill x
  heap_behind b e f x p = go (ltb 0 len) (ltb (queue_place spill (get_or queue 0 0)) limit) refl refl (sym e ∙ f)
    where
      go : (s t : Bool) → ltb 0 len ≡ s → ltb (queue_place spill (get_or queue 0 0)) limit ≡ t → (s && t) ≡ false → limit ≤ queue_place spill x
      go true true u v w = absurd (true≢false w)
      go true false u v w = omega (arith, ltb-false (queue_place spill (get_or queue 0 0)) limit v, root_least (queue_place spill) (length spill) len queue q.heap x p)
      go false t u v w = absurd (none_within x queue len (ltb-false 0 len u) p)

  -- and where it does, any least cell of the heap does
  pub heap_before :
      (b : Bool) → b ≡ (ltb 0 len && ltb (queue_place spill (get_or queue 0 0)) limit) → b ≡ true
      → (0 < len) × ((c : ℕ) → ((x : ℕ) → 0 < within x len queue → queue_place spill c ≤ queue_place spill x) → queue_place spill c < limit)
  heap_before b e f = go (ltb 0 len) (ltb (queue_place spill (get_or queue 0 0)) limit) refl refl (sym e ∙ f)
    where
      go :
          (s t : Bool) → ltb 0 len ≡ s → ltb (queue_place spill (get_or queue 0 0)) limit ≡ t → (s && t) ≡ true
          → (0 < len) × ((c : ℕ) → ((x : ℕ) → 0 < within x len queue → queue_place spill c ≤ queue_place spill x) → queue_place spill c < limit)
      go true true u v w =
          (ltb-true 0 len u, λ c low. omega (arith, low (get_or queue 0 0) (times_at queue len 0 (ltb-true 0 len u) q.heap.room), ltb-true (queue_place spill (get_or queue 0 0)) limit v))
      go true false u v w = absurd (true≢false (sym w))
      go false t u v w = absurd (true≢false (sym w))

-- ---- turns
module _ (hs : List Float) (list status : List ℕ) (spill : List Float) (s : Scan) (queue : List ℕ) (r : ScanReady hs list status spill s queue) where
  -- while a cell waits and the heap's first cell does not come before the limit, the list has a cell
  pub head_inside :
      Fit hs → Fit spill → Waits status → ((x : ℕ) → 0 < within x s.len queue → s.limit ≤ queue_place spill x) → s.head < length list
  head_inside fit fits w low = elim (dec_lt s.head (length list)) [
    | yes l ↦ l
    | no l ↦
        let inside : w.cell < 2 ^ 24 = omega (arith, waits_inside status w.cell w.waits, r.statuses, r.few) in
        let z : ⊥ = omega (
          arith,
          least_waiting_lem hs s.limit status spill s.len queue r.begun.queued s.limit (omega arith) low w.cell w.waits,
          r.begun.listed.limit_is,
          limit_end hs list s.head (omega arith),
          below_endless spill fits w.cell inside,
        ) in
        absurd z
  ]

  -- the heap's first cell leaves
  pub turned_heap :
      (b : Bool) → b ≡ (ltb 0 s.len && ltb (queue_place spill (get_or queue 0 0)) s.limit) → b ≡ true → (c : ℕ) (queue' : List ℕ)
      → Popped (queue_place spill) (length spill) s.len queue c queue'
      → Turned hs list s.head status spill (record { head = s.head; limit = s.limit; len = s.len - 1 }) (Some c) (set status c 2) queue'
  turned_heap b e f c queue' p = record {
    listed = r.begun.listed;
    queued = queued_popped hs s.limit status spill s.len queue r.begun.queued c queue' p (omega (arith, inside, r.statuses));
    onward = omega arith;
    leaves = λ b z. let same : c ≡ b = cc in subst (λ b. Leaves hs s.limit b status spill (set status c 2)) same (record {
      inside = inside;
      waited = waited hs s.limit status spill s.len queue r.begun.queued c queue' p;
      least = least_waiting_lem hs s.limit status spill s.len queue r.begun.queued (queue_place spill c) (omega (arith, low)) p.least;
      marked = refl;
      low = low;
    });
    passes = λ z. let no : ⊥ = cc in absurd no;
    same = λ z. let no : ⊥ = cc in absurd no;
  }
    where
      inside : c < length hs
      inside = omega (arith, p.inside, r.spills)

      low : queue_place spill c < s.limit
      low = (heap_before hs s.limit status spill s.len queue r.begun.queued b e f).1 c p.least

  -- the scan goes past the list's first cell
  module _ (fit : Fit hs) (l : s.head < length list) (limit' : ℕ) (f : limit' ≡ limit_of spill list (s.head + 1)) where
    e : limit' ≡ limit_of hs list (s.head + 1)
    e = f ∙ limit_own hs list s.head s.limit r.begun.listed l status spill s.len queue r.begun.queued

    abbrev cell : ℕ
    cell = get_or list s.head 0

    -- which does not wait
    pub turned_past :
        (get_or status cell 0 ≡ 1 → ⊥)
        → Turned hs list s.head status spill (record { head = s.head + 1; limit = limit'; len = s.len }) None status queue
    turned_past d = record {
      listed = listed_next hs list s.head s.limit r.begun.listed l fit r.few limit' e;
      queued =
          queued_past hs list s.head s.limit r.begun.listed l fit r.few limit' e status status spill s.len queue r.begun.queued r.statuses
          (λ c _. refl) d (λ z. z);
      onward = omega arith;
      leaves = λ b z. let no : ⊥ = cc in absurd no;
      passes = λ _. omega arith;
      same = λ _. refl;
    }

    -- which leaves
    pub turned_leaves :
        get_or status cell 0 ≡ 1 → ((x : ℕ) → 0 < within x s.len queue → s.limit ≤ queue_place spill x)
        → Turned hs list s.head status spill (record { head = s.head + 1; limit = limit'; len = s.len }) (Some cell) (set status cell 2) queue
    turned_leaves w low = record {
      listed = listed_next hs list s.head s.limit ls l fit r.few limit' e;
      queued =
          queued_past hs list s.head s.limit ls l fit r.few limit' e status (set status cell 2) spill s.len queue r.begun.queued
          (length-set status cell 2 ∙ r.statuses) (λ c d. get_or-set_other status cell c 2 0 d) unlike (λ z. absurd (unlike_zero two z));
      onward = omega arith;
      leaves = λ b z. let same : cell ≡ b = cc in subst (λ b. Leaves hs limit' b status spill (set status cell 2)) same (record {
        inside = inside;
        waited = w;
        least = λ b v. omega (arith, place, least_waiting_lem hs s.limit status spill s.len queue r.begun.queued s.limit (omega arith) low b v);
        marked = refl;
        low = omega (arith, place, limit_rises hs list s.head s.limit ls l fit r.few limit' e);
      });
      passes = λ z. let no : ⊥ = cc in absurd no;
      same = λ z. let no : ⊥ = cc in absurd no;
    }
      where
        ls : Remaining hs s.head s.limit list
        ls = r.begun.listed

        inside : cell < length hs
        inside = first_inside hs list s.head s.limit ls l fit r.few limit' e

        at : queue_place hs cell ≡ s.limit
        at = first_place hs list s.head s.limit ls l fit r.few limit' e

        place : queue_place spill cell ≡ s.limit
        place = ap (λ y. key_of y * 2 ^ 32 + cell) (r.begun.queued.own cell (omega (arith, at))) ∙ at

        two : get_or (set status cell 2) cell 0 ≡ 2
        two = get_or-set_same status cell 2 0 (omega (arith, inside, r.statuses))

        unlike : get_or (set status cell 2) cell 0 ≡ 1 → ⊥
        unlike z = omega (arith, two)

-- a cell that leaves below the limit raises no cell at the limit or above it
pub leaver_level :
    (hs spill : List Float) (limit c : ℕ) → length hs ≤ 2 ^ 24 → ((m : ℕ) → m < length hs → Height (get_or hs m nan)) → Height (get_or spill c nan)
    → queue_place spill c < limit → Level hs limit (get_or spill c nan)
leaver_level hs spill limit c few fine good low = record {
  keeps = λ m l h.
      ap (λ b. cond b (get_or hs m nan) (get_or spill c nan))
      (rank_le (get_or spill c nan) (get_or hs m nan) (number good) (number (fine m l))
      (key_le (get_or spill c nan) (get_or hs m nan) (number good) (number (fine m l))
      (place_key (key_of (get_or spill c nan)) (key_of (get_or hs m nan)) c m (omega arith) (omega arith))));
}
  where
    number : {x : Float} → Height x → Number x
    number {x} h = finite_number x h.fit h.real
