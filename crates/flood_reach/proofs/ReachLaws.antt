-- Laws of a step: a push, the pushes of a leaver, and a cell's leaving.
use Prim.Native.Nat.{ℕ, ◌+◌, ◌*◌, ◌^◌, ◌≤◌, ◌<◌}
use mathlib.Core.Path.{◌≡◌, refl, sym, ap, ◌∙◌, subst}
use mathlib.Core.Bool.{cond}
use mathlib.Core.Logic.{inl, inr}
use mathlib.Core.List.{List}
use native.Mathlib.Decide.{dec_lt}
use native.Mathlib.Omega.{arith}
use lib.ListN.{length, get_or, set, length-set, get_or-eq_default}
use lib.Seq.{get_or-set_same, get_or-set_other}
use lib.Ieee.{Float, nan}
use borrow.Author.Tests.{eq-eqb, ne_eqb}
use Rattle.floats.specs.Key.{key_of}
use Rattle.floats.specs.Stand.{max_of}
use Rattle.drainage.specs.Ground.{floats}
use Rattle.loops.specs.Counts.{one_if}
use Rattle.loops.proofs.TestLaws.{same_or_not}
use Rattle.loops.proofs.CountLaws.{one_same, one_other, one_bound}
use Rattle.drainage.proofs.KeptLaws.{get_d_inside}
use Rattle.flood_heap.specs.Queue.{queue_place, within, Heap, Pushed}
use Rattle.flood_heap.proofs.RoomLaws.{heap_same, heap_room}
use Rattle.flood_start.specs.Slices.{state_of, FloodSlices, Sizes}
use Rattle.flood_queue.specs.Scans.{Queued, Level}
use Rattle.flood_queue.proofs.ScanLaws.{unlike_zero}
use Rattle.flood_reach.specs.Reaches.{pushed_by, ReachedOne}

-- lists of the same lengths
pub sizes_kept :
    {n : ℕ} {hs : List Float} {status status' : List ℕ} {spill spill' : List Float} {recv recv' queue queue' : List ℕ}
    → Sizes n hs status spill recv queue → length status' ≡ length status → length spill' ≡ length spill → length recv' ≡ length recv
    → length queue' ≡ length queue → Sizes n hs status' spill' recv' queue'
sizes_kept s a b c d = record {
  few = s.few;
  heights = s.heights;
  statuses = a ∙ s.statuses;
  spills = b ∙ s.spills;
  discoverers = c ∙ s.discoverers;
  room = omega (arith, s.room);
}

pub sizes_whole : {n : ℕ} {hs : List Float} {status : List ℕ} {spill : List Float} {recv queue : List ℕ} → Sizes n hs status spill recv queue → Sizes (length hs) hs status spill recv queue
sizes_whole {hs} {status} {spill} {recv} {queue} s = subst (λ n. Sizes n hs status spill recv queue) (sym s.heights) s

module _ (hs : List Float) (limit : ℕ) (status : List ℕ) (spill : List Float) (len : ℕ) (queue : List ℕ) (q : Queued hs limit status spill len queue) where
  counted : (c : ℕ) → within c len queue ≤ one_if (get_or status c 0) 1
  counted c = elim (dec_lt (queue_place hs c) limit) [ yes h ↦ omega (arith, q.below c h) | no h ↦ omega (arith, q.above c (omega arith)) ]

  module _ (m : ℕ) (e : get_or status m 0 ≡ 0) where
    none : within m len queue ≡ 0
    none = omega (arith, counted m, one_other (get_or status m 0) 1 (λ z. unlike z))
      where
        unlike : get_or status m 0 ≡ 1 → ⊥
        unlike z = omega arith

    -- a cell that does not wait has room in the heap, and its spill height is not looked at there
    pub has_room : m < length spill → len < length spill
    has_room l = heap_room (queue_place spill) (length spill) len queue q.heap (λ c. omega (arith, counted c, one_bound (get_or status c 0) 1)) m l none

    pub respilled : (spill' : List Float) (x : Float) → spill' ≡ set spill m x → Heap (queue_place spill') (length spill') len queue
    respilled spill' x f =
        subst (λ n. Heap (queue_place spill') n len queue) (sym (ap length f ∙ length-set spill m x))
        (heap_same (queue_place spill) (queue_place spill') (length spill) len queue q.heap same)
      where
        same : (c : ℕ) → 0 < within c len queue → queue_place spill c ≡ queue_place spill' c
        same c p = elim (same_or_not c m) [
          | inl z ↦ let no : ⊥ = omega (arith, ap (λ c. within c len queue) z, none) in absurd no
          | inr z ↦ ap (λ (y : Float). key_of y * 2 ^ 32 + c) (sym (ap (λ t. get_or t c nan) f ∙ get_or-set_other spill m c x nan z))
        ]

module _ (hs : List Float) (limit c m : ℕ) (status : List ℕ) (spill : List Float) (recv : List ℕ) (len : ℕ) (queue : List ℕ)
    (q : Queued hs limit status spill len queue) (left : get_or status c 0 ≡ 2) where
  abbrev lent : FloodSlices
  lent = record { status = status; spill = spill; recv = recv }

  stays : (get_or status m 1 ≡ 0 → ⊥) → ReachedOne hs limit c m lent len lent queue
  unfolding pushed_by
  stays d = record {
    left = left;
    level = refl;
    state = λ g order.
        sym (ap (λ b. cond b (Rattle.drainage.specs.Flood.pushed floats g hs c m (state_of status spill recv order)) (state_of status spill recv order)) (ne_eqb (get_or status m 1) 0 d));
    queued = q;
  }

  -- outside the grid, or pushed already
  pub reached_none : length status ≤ m → ReachedOne hs limit c m lent len lent queue
  reached_none l = stays unlike
    where
      unlike : get_or status m 1 ≡ 0 → ⊥
      unlike z = omega (arith, get_or-eq_default status 1 {n = m} l)

  pub reached_old : m < length status → (get_or status m 0 ≡ 0 → ⊥) → ReachedOne hs limit c m lent len lent queue
  reached_old l d = stays (λ z. d (get_d_inside status m 0 1 l ∙ z))

  -- a cell not pushed yet: t and y are the statuses and the spill heights after it
  module _ (l : m < length status) (e : get_or status m 0 ≡ 0) (status' : List ℕ) (spill' : List Float) (recv' : List ℕ) (a : status' ≡ set status m 1)
      (x : Float) (top : x ≡ max_of (get_or spill m nan) (get_or spill c nan)) (s : spill' ≡ set spill m x) (f : recv' ≡ set recv m c) where
    abbrev lent' : FloodSlices
    lent' = record { status = status'; spill = spill'; recv = recv' }

    -- its spill height so far is its own height
    r : x ≡ max_of (get_or hs m nan) (get_or spill c nan)
    r = top ∙ ap (λ y. max_of y (get_or spill c nan)) (q.unraised m e)

    own_place : queue_place spill m ≡ queue_place hs m
    own_place = ap (λ (y : Float). key_of y * 2 ^ 32 + m) (q.unraised m e)

    here : get_or status' m 0 ≡ 1
    here = ap (λ t. get_or t m 0) a ∙ get_or-set_same status m 1 0 l

    other : (j : ℕ) → (j ≡ m → ⊥) → get_or status' j 0 ≡ get_or status j 0
    other j d = ap (λ t. get_or t j 0) a ∙ get_or-set_other status m j 1 0 d

    other_spill : (j : ℕ) → (j ≡ m → ⊥) → get_or spill' j nan ≡ get_or spill j nan
    other_spill j d = ap (λ t. get_or t j nan) s ∙ get_or-set_other spill m j x nan d

    apart : c ≡ m → ⊥
    apart z = unlike_zero left (ap (λ i. get_or status i 0) z ∙ e)

    gone : (j : ℕ) → get_or status' j 0 ≡ 2 → queue_place hs j < limit
    gone j w = elim (same_or_not j m) [
      | inl z ↦ let no : ⊥ = omega (arith, here, ap (λ i. get_or status' i 0) z) in absurd no
      | inr z ↦ q.gone j (sym (other j z) ∙ w)
    ]

    unraised : (j : ℕ) → get_or status' j 0 ≡ 0 → get_or spill' j nan ≡ get_or hs j nan
    unraised j w = elim (same_or_not j m) [
      | inl z ↦ let no : ⊥ = omega (arith, here, ap (λ i. get_or status' i 0) z) in absurd no
      | inr z ↦ other_spill j z ∙ q.unraised j (sym (other j z) ∙ w)
    ]

    reached : (len' : ℕ) (queue' : List ℕ) → Queued hs limit status' spill' len' queue' → ReachedOne hs limit c m lent len' lent' queue'
    unfolding pushed_by
    reached len' queue' q' = record {
      left = other c apart ∙ left;
      level = other_spill c apart;
      state = λ g order.
          (λ i. state_of (a i) ((s ∙ ap (set spill m) r) i) (f i) order)
          ∙ sym (ap (λ t. cond t (Rattle.drainage.specs.Flood.pushed floats g hs c m (state_of status spill recv order)) (state_of status spill recv order)) (eq-eqb (get_or status m 1) 0 (get_d_inside status m 1 0 l ∙ e)));
      queued = q';
    }

    -- one that the scan has not passed waits in the list
    pub reached_listed :
        m < length spill → m < length hs → Level hs limit (get_or spill c nan) → limit ≤ queue_place spill m
        → ReachedOne hs limit c m lent len lent' queue
    reached_listed b i v o = reached len queue (record {
      heap = respilled hs limit status spill len queue q m e spill' x s;
      below = λ j k. q.below j k ∙ ap (λ t. one_if t 1) (sym (other j (under j k)));
      above = q.above;
      own = λ j k. elim (same_or_not j m) [
        | inl z ↦
            ap (λ j. get_or spill' j nan) z ∙ ap (λ t. get_or t m nan) s ∙ get_or-set_same spill m x nan b ∙ r ∙ v.keeps m i h
            ∙ ap (λ j. get_or hs j nan) (sym z)
        | inr z ↦ other_spill j z ∙ q.own j k
      ];
      unraised = unraised;
      gone = gone;
    })
      where
        h : limit ≤ queue_place hs m
        h = omega (arith, own_place)

        under : (j : ℕ) → queue_place hs j < limit → j ≡ m → ⊥
        under j k z = omega (arith, ap (queue_place hs) z, h)

    -- another joins the heap
    pub reached_heaped :
        (queue' : List ℕ) → queue_place spill m < limit → Pushed (queue_place spill') (length spill') len queue m queue'
        → ReachedOne hs limit c m lent (len + 1) lent' queue'
    reached_heaped queue' h p = reached (len + 1) queue' (record {
      heap = p.heap;
      below = λ j k. p.cells j ∙ elim (same_or_not m j) [
        | inl z ↦
            omega (
              arith,
              q.below j k,
              one_same m j z,
              one_other (get_or status j 0) 1 (λ y. omega (arith, ap (λ i. get_or status i 0) (sym z) ∙ e)),
              one_same (get_or status' j 0) 1 (ap (λ i. get_or status' i 0) (sym z) ∙ here),
            )
        | inr z ↦ omega (arith, q.below j k, one_other m j z, ap (λ v. one_if v 1) (other j (λ y. z (sym y))))
      ];
      above = λ j k. p.cells j ∙ omega (arith, q.above j k, one_other m j (λ z. over j k (sym z)));
      own = λ j k. other_spill j (over j k) ∙ q.own j k;
      unraised = unraised;
      gone = gone;
    })
      where
        over : (j : ℕ) → limit ≤ queue_place hs j → j ≡ m → ⊥
        over j k z = omega (arith, ap (queue_place hs) z, own_place)
