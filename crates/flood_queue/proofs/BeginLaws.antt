-- Laws of the scan's beginning: before a sorted list, or behind a list that is not sorted with every waiting cell in the heap.
use Prim.Native.Nat.{ℕ, ◌+◌, ◌<◌}
use mathlib.Core.Path.{◌≡◌, refl, sym, ap, ◌∙◌, subst}
use mathlib.Core.Bool.{true}
use mathlib.Core.Logic.{inl, inr}
use mathlib.Core.List.{List}
use native.Mathlib.Decide.{dec_lt}
use native.Mathlib.Omega.{arith}
use lib.ListN.{length, get_or}
use lib.Ieee.{Float, nan}
use Rattle.float_order.specs.Fit.{Fit}
use Rattle.loops.specs.Counts.{times}
use Rattle.loops.proofs.TestLaws.{same_or_not}
use Rattle.loops.proofs.CountLaws.{one_same, one_other}
use Rattle.flood_heap.specs.Queue.{queue_place, within, Heap, Pushed}
use Rattle.flood_sort.specs.Sorted.{is_sorted}
use Rattle.flood_sort.proofs.SortedLaws.{sorted}
use Rattle.flood_queue.specs.Scans.{endless, limit_of, Remaining, Gathered, Begins, ScanBegun}
use Rattle.flood_queue.proofs.ListedLaws.{below_endless, waits_inside, first_least, listed_start, listed_end}

-- a heap of nothing
heap_none : (v : ℕ → ℕ) (n : ℕ) (queue : List ℕ) → Heap v n 0 queue
heap_none v n queue = record { room = omega arith; cells = λ k l. absurd (omega arith); ordered = λ k p l. absurd (omega arith) }

-- ---- the waiting cells join the heap
module _ (status : List ℕ) (spill : List Float) where
  pub gathered_none : (queue : List ℕ) → Gathered status spill 0 0 queue
  unfolding times
  gathered_none queue = record {
    heap = heap_none (queue_place spill) (length spill) queue;
    below = λ c l. let z : ⊥ = omega arith in absurd z;
    above = λ c l. refl;
    few = omega arith;
  }

  module _ (c len : ℕ) (queue queue' : List ℕ) (g : Gathered status spill c len queue) where
    -- a waiting cell joins
    pub gathered_more : get_or status c 0 ≡ 1 → Pushed (queue_place spill) (length spill) len queue c queue' → Gathered status spill (c + 1) (len + 1) queue'
    gathered_more e p = record {
      heap = p.heap;
      below = λ b l. p.cells b ∙ elim (same_or_not c b) [
        | inl z ↦ omega (arith, g.above b (omega arith), one_same c b z, one_same (get_or status b 0) 1 (ap (λ i. get_or status i 0) (sym z) ∙ e))
        | inr z ↦ omega (arith, g.below b (omega arith), one_other c b z)
      ];
      above = λ b l. p.cells b ∙ omega (arith, g.above b (omega arith), one_other c b (omega arith));
      few = omega (arith, g.few);
    }

    -- another does not
    pub gathered_less : (get_or status c 0 ≡ 1 → ⊥) → Gathered status spill (c + 1) len queue
    gathered_less d = record {
      heap = g.heap;
      below = λ b l. elim (same_or_not b c) [
        | inl z ↦ g.above b (omega arith) ∙ sym (one_other (get_or status b 0) 1 (λ e. d (ap (λ i. get_or status i 0) (sym z) ∙ e)))
        | inr z ↦ g.below b (omega arith)
      ];
      above = λ b l. g.above b (omega arith);
      few = omega (arith, g.few);
    }

-- ---- the scan begins
within_none : (c : ℕ) (l : List ℕ) → within c 0 l ≡ 0
unfolding times
within_none c l = refl

module _ (hs : List Float) (list status : List ℕ) (spill : List Float) (queue : List ℕ) (b : Begins hs list status spill queue) where
  waiting_cell : (c : ℕ) → get_or status c 0 ≡ 1 → c < length hs
  waiting_cell c w = omega (arith, waits_inside status c w, b.statuses)

  pub begun_sorted :
      is_sorted hs list ≡ true → (limit : ℕ) → limit ≡ limit_of hs list 0 → ScanBegun hs list status spill (record { head = 0; limit = limit; len = 0 }) queue
  begun_sorted e limit f = record {
    listed = listed_start hs list (sorted hs list e) limit f;
    queued = record {
      heap = heap_none (queue_place spill) (length spill) queue;
      below = λ c h. within_none c queue ∙ sym (one_other (get_or status c 0) 1 (none c h));
      above = λ c h. within_none c queue;
      own = λ c h. ap (λ t. get_or t c nan) b.spills;
      unraised = λ c w. ap (λ t. get_or t c nan) b.spills;
      gone = λ c w. absurd (b.fresh c w);
    };
  }
    where
      none : (c : ℕ) → queue_place hs c < limit → get_or status c 0 ≡ 1 → ⊥
      none c h w = omega (arith, first_least hs list (sorted hs list e) c (waiting_cell c w))

  pub begun_gathered :
      Fit hs → (len n : ℕ) (queue' : List ℕ) → n ≡ length hs → Gathered status spill (length status) len queue'
      → ScanBegun hs list status spill (record { head = n; limit = endless; len = len }) queue'
  begun_gathered fit len n queue' e g = record {
    listed = subst (λ n. Remaining hs n endless list) (sym e) (listed_end hs list fit b.few b.lists);
    queued = record {
      heap = g.heap;
      below = λ c h. elim (dec_lt c (length status)) [
        | yes l ↦ g.below c l
        | no l ↦ g.above c (omega arith) ∙ sym (one_other (get_or status c 0) 1 (λ w. l (waits_inside status c w)))
      ];
      above = λ c h. elim (dec_lt c (length status)) [
        | yes l ↦ let z : ⊥ = omega (arith, below_endless hs fit c (omega (arith, b.statuses, b.few))) in absurd z
        | no l ↦ g.above c (omega arith)
      ];
      own = λ c h. ap (λ t. get_or t c nan) b.spills;
      unraised = λ c w. ap (λ t. get_or t c nan) b.spills;
      gone = λ c w. absurd (b.fresh c w);
    };
  }
