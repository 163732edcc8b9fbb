-- Laws of the list that a scan goes through, and of its limit.
use Prim.Native.Nat.{ℕ, zero, suc, ◌+◌, ◌*◌, ◌^◌, ◌≤◌, ◌<◌}
use mathlib.Core.Path.{◌≡◌, sym, ap, ap₂, ◌∙◌, subst}
use mathlib.Core.Bool.{true, false, ◌&&◌, cond, and-false}
use mathlib.Core.Logic.{inl, inr}
use mathlib.Core.List.{List}
use native.Mathlib.Decide.{dec_lt}
use native.Mathlib.Omega.{arith}
use lib.ListN.{length, get_or, set, length-set, get_or-eq_default}
use lib.Seq.{get_or-set_other}
use lib.Dec.{ltb, leb}
use lib.Ieee.{Float, nan}
use borrow.Author.Tests.{lt-ltb, le-ltb, le-leb, lt-leb}
use Rattle.floats.specs.Key.{key_of}
use Rattle.float_order.specs.Fit.{Fit}
use Rattle.floats.proofs.BitsLaws.{key_narrow}
use Rattle.loops.specs.Counts.{one_if}
use Rattle.loops.proofs.TestLaws.{same_or_not}
use Rattle.loops.proofs.CountLaws.{one_other, count_more, count_full, count_none}
use Rattle.flood_heap.specs.Queue.{queue_place}
use Rattle.flood_sort.specs.Sorted.{Sorted}
use Rattle.flood_queue.specs.Scans.{endless, limit_of, at_limit, StandsIn, Remaining, Queued}

-- places of 32-bit keys and cells
narrow_place : (k c : ℕ) → k < 2 ^ 32 → c < 2 ^ 24 → k * 2 ^ 32 + c < endless
narrow_place k c h l = omega arith

pub below_endless : (hs : List Float) → Fit hs → (c : ℕ) → c < 2 ^ 24 → queue_place hs c < endless
below_endless hs fit c l = narrow_place (key_of (get_or hs c nan)) c (key_narrow (get_or hs c nan)) l

-- a cell that waits is a cell
pub waits_inside : (status : List ℕ) (c : ℕ) → get_or status c 0 ≡ 1 → c < length status
waits_inside status c e = elim (dec_lt c (length status)) [
  | yes l ↦ l
  | no l ↦ let z : ⊥ = omega (arith, get_or-eq_default status 0 {n = c} (omega arith)) in absurd z
]

module _ (hs : List Float) (list : List ℕ) (head : ℕ) where
  pub limit_inside : head < length list → limit_of hs list head ≡ queue_place hs (get_or list head 0)
  limit_inside l = ap (λ b. cond b (queue_place hs (get_or list head 0)) endless) (lt-ltb head (length list) l)

  pub limit_end : length list ≤ head → limit_of hs list head ≡ endless
  limit_end l = ap (λ b. cond b (queue_place hs (get_or list head 0)) endless) (le-ltb head (length list) l)

module _ (hs : List Float) (limit c : ℕ) where
  pub at_limit_lem : c < length hs → limit ≤ queue_place hs c → at_limit hs limit c ≡ true
  at_limit_lem l h = ap₂ (λ a b. a && b) (lt-ltb c (length hs) l) (le-leb limit (queue_place hs c) h)

  pub under_limit : queue_place hs c < limit → at_limit hs limit c ≡ false
  under_limit h = ap (λ t. ltb c (length hs) && t) (lt-leb limit (queue_place hs c) h) ∙ and-false (ltb c (length hs))

  pub outside_limit : length hs ≤ c → at_limit hs limit c ≡ false
  outside_limit l = ap (λ b. b && leb limit (queue_place hs c)) (le-ltb c (length hs) l)

-- ---- the list
-- a sorted list, before its first cell
module _ (hs : List Float) (list : List ℕ) (s : Sorted hs list) where
  abbrev first : ℕ
  first = limit_of hs list 0

  pub first_least : (c : ℕ) → c < length hs → first ≤ queue_place hs c
  first_least c l = go (s.every c l).0 (s.every c l).1 (s.every c l).2
    where
      go : (k : ℕ) → k < length list → get_or list k 0 ≡ c → first ≤ queue_place hs c
      go zero h e = omega (arith, limit_inside hs list 0 h, ap (queue_place hs) e)
      go (suc k) h e = omega (arith, limit_inside hs list 0 (omega arith), ap (queue_place hs) e, s.rising 0 (suc k) (omega arith) h)

  pub listed_start : (limit : ℕ) → limit ≡ limit_of hs list 0 → Remaining hs 0 limit list
  listed_start limit e = record {
    long = s.long;
    few = omega arith;
    limit_is = e;
    cells = λ k _ l. s.cells k l;
    rising = λ j k _ l m. s.rising j k l m;
    all = λ c l _. record { at = (s.every c l).0; from = omega arith; inside = (s.every c l).1; is = (s.every c l).2 };
    many = omega (arith, count_full (at_limit hs limit) (length hs) (λ c l. at_limit_lem hs limit c l (omega (arith, first_least c l))));
  }

-- behind the last cell of a list that is not looked at
pub listed_end : (hs : List Float) (list : List ℕ) → Fit hs → length hs ≤ 2 ^ 24 → length list ≡ length hs → Remaining hs (length hs) endless list
listed_end hs list fit few long = record {
  long = long;
  few = omega arith;
  limit_is = sym (limit_end hs list (length hs) (omega arith));
  cells = λ k h l. let z : ⊥ = omega arith in absurd z;
  rising = λ j k h l m. let z : ⊥ = omega arith in absurd z;
  all = λ c l h. let z : ⊥ = omega (arith, below_endless hs fit c (omega arith)) in absurd z;
  many = omega (arith, count_none (length hs) (at_limit hs endless) (λ c l. under_limit hs endless c (below_endless hs fit c (omega arith))));
}

-- the next limit by the spill heights, which those of the cells at the limit or above it are
pub limit_own :
    (hs : List Float) (list : List ℕ) (head limit : ℕ) → Remaining hs head limit list → head < length list
    → (status : List ℕ) (spill : List Float) (len : ℕ) (queue : List ℕ) → Queued hs limit status spill len queue
    → limit_of spill list (head + 1) ≡ limit_of hs list (head + 1)
limit_own hs list head limit ls l status spill len queue q = elim (dec_lt (head + 1) (length list)) [
  | yes m ↦
      limit_inside spill list (head + 1) m
      ∙ ap (λ x. key_of x * 2 ^ 32 + get_or list (head + 1) 0) (q.own (get_or list (head + 1) 0) (high m))
      ∙ sym (limit_inside hs list (head + 1) m)
  | no m ↦ limit_end spill list (head + 1) (omega arith) ∙ sym (limit_end hs list (head + 1) (omega arith))
]
  where
    high : head + 1 < length list → limit ≤ queue_place hs (get_or list (head + 1) 0)
    high m = omega (arith, ls.limit_is, limit_inside hs list head l, ls.rising head (head + 1) (omega arith) (omega arith) m)

-- the scan goes past the list's first cell
module _ (hs : List Float) (list : List ℕ) (head limit : ℕ) (ls : Remaining hs head limit list) (l : head < length list) (fit : Fit hs)
    (small : length hs ≤ 2 ^ 24) (limit' : ℕ) (e : limit' ≡ limit_of hs list (head + 1)) where
  abbrev here : ℕ
  here = get_or list head 0

  pub first_inside : here < length hs
  first_inside = ls.cells head (omega arith) l

  pub first_place : queue_place hs here ≡ limit
  first_place = sym (ls.limit_is ∙ limit_inside hs list head l)

  pub limit_rises : limit < limit'
  limit_rises = elim (dec_lt (head + 1) (length list)) [
    | yes m ↦ omega (arith, first_place, e, limit_inside hs list (head + 1) m, ls.rising head (head + 1) (omega arith) (omega arith) m)
    | no m ↦ omega (arith, first_place, e, limit_end hs list (head + 1) (omega arith), below_endless hs fit here (omega (arith, first_inside)))
  ]

  -- entries behind the first one lie at the new limit or above it
  behind : (k : ℕ) → head + 1 ≤ k → k < length list → limit' ≤ queue_place hs (get_or list k 0)
  behind k h m = elim (same_or_not (head + 1) k) [
    | inl z ↦ omega (arith, e, limit_inside hs list (head + 1) (omega arith), ap (λ j. queue_place hs (get_or list j 0)) z)
    | inr z ↦ omega (arith, e, limit_inside hs list (head + 1) (omega arith), ls.rising (head + 1) k (omega arith) (omega arith) m)
  ]

  -- no other cell lies between the limits
  pub between : (c : ℕ) → c < length hs → limit ≤ queue_place hs c → queue_place hs c < limit' → c ≡ here
  between c m lo hi = go (ls.all c m lo)
    where
      go : StandsIn list head c → c ≡ here
      go t = elim (same_or_not t.at head) [
        | inl z ↦ sym (ap (λ j. get_or list j 0) (sym z) ∙ t.is)
        | inr z ↦
            let no : ⊥ = omega (arith, behind t.at (omega (arith, t.from)) t.inside, ap (queue_place hs) t.is) in
            absurd no
      ]

  pub listed_next : Remaining hs (head + 1) limit' list
  listed_next = record {
    long = ls.long;
    few = omega arith;
    limit_is = e;
    cells = λ k h m. ls.cells k (omega arith) m;
    rising = λ j k h m n. ls.rising j k (omega arith) m n;
    all = λ c m h. go c h (ls.all c m (omega (arith, limit_rises)));
    many = omega (arith, ls.many, count_more (at_limit hs limit') (at_limit hs limit) (length hs) here first_inside gone_here was_here same);
  }
    where
      go : (c : ℕ) → limit' ≤ queue_place hs c → StandsIn list head c → StandsIn list (head + 1) c
      go c h t = elim (same_or_not t.at head) [
        | inl z ↦
            let no : ⊥ = omega (arith, first_place, limit_rises, ap (queue_place hs) (sym (ap (λ j. get_or list j 0) (sym z) ∙ t.is))) in
            absurd no
        | inr z ↦ record { at = t.at; from = omega (arith, t.from); inside = t.inside; is = t.is }
      ]

      gone_here : at_limit hs limit' here ≡ false
      gone_here = under_limit hs limit' here (omega (arith, first_place, limit_rises))

      was_here : at_limit hs limit here ≡ true
      was_here = at_limit_lem hs limit here first_inside (omega (arith, first_place))

      same : (c : ℕ) → (c ≡ here → ⊥) → at_limit hs limit' c ≡ at_limit hs limit c
      same c d = elim (dec_lt c (length hs)) [
        | yes m ↦ elim (dec_lt (queue_place hs c) limit) [
          | yes h ↦ under_limit hs limit' c (omega (arith, limit_rises)) ∙ sym (under_limit hs limit c h)
          | no h ↦ elim (dec_lt (queue_place hs c) limit') [
            | yes k ↦ absurd (d (between c m (omega arith) k))
            | no k ↦ at_limit_lem hs limit' c m (omega arith) ∙ sym (at_limit_lem hs limit c m (omega arith))
          ]
        ]
        | no m ↦ outside_limit hs limit' c (omega arith) ∙ sym (outside_limit hs limit c (omega arith))
      ]

  -- the heap as the scan goes past a cell that does not wait any more
  pub queued_past :
      (status status' : List ℕ) (spill : List Float) (len : ℕ) (queue : List ℕ) → Queued hs limit status spill len queue
      → length status' ≡ length hs → ((c : ℕ) → (c ≡ here → ⊥) → get_or status' c 0 ≡ get_or status c 0) → (get_or status' here 0 ≡ 1 → ⊥)
      → (get_or status' here 0 ≡ 0 → get_or status here 0 ≡ 0) → Queued hs limit' status' spill len queue
  queued_past status status' spill len queue q n same left was = record {
    heap = q.heap;
    below = λ c h. elim (dec_lt (queue_place hs c) limit) [
      | yes k ↦ q.below c k ∙ ap (λ v. one_if v 1) (sym (same c (under c k)))
      | no k ↦ q.above c (omega arith) ∙ sym (one_other (get_or status' c 0) 1 (λ w. left (subst (λ b. get_or status' b 0 ≡ 1) (at c h k w) w)))
    ];
    above = λ c h. q.above c (omega (arith, limit_rises));
    own = λ c h. q.own c (omega (arith, limit_rises));
    unraised = λ c w. elim (same_or_not c here) [
      | inl z ↦ q.unraised c (ap (λ b. get_or status b 0) z ∙ was (ap (λ b. get_or status' b 0) (sym z) ∙ w))
      | inr z ↦ q.unraised c (sym (same c z) ∙ w)
    ];
    gone = λ c w. elim (same_or_not c here) [
      | inl z ↦ omega (arith, ap (queue_place hs) z, first_place, limit_rises)
      | inr z ↦ omega (arith, q.gone c (sym (same c z) ∙ w), limit_rises)
    ];
  }
    where
      under : (c : ℕ) → queue_place hs c < limit → c ≡ here → ⊥
      under c k z = omega (arith, ap (queue_place hs) z, first_place)

      at : (c : ℕ) → queue_place hs c < limit' → (queue_place hs c < limit → ⊥) → get_or status' c 0 ≡ 1 → c ≡ here
      at c h k w = between c (omega (arith, waits_inside status' c w)) (omega (arith, k)) h

-- a list changed before the scan's place
pub listed_set :
    (hs : List Float) (head limit : ℕ) (list list' : List ℕ) → Remaining hs head limit list → (i c : ℕ) → i < head → list' ≡ set list i c
    → Remaining hs head limit list'
listed_set hs head limit list list' ls i c h e = record {
  long = size ∙ ls.long;
  few = omega (arith, size, ls.few);
  limit_is = ls.limit_is ∙ (elim (dec_lt head (length list)) [
    | yes l ↦ limit_inside hs list head l ∙ ap (queue_place hs) (sym (same head (omega arith))) ∙ sym (limit_inside hs list' head (omega (arith, size)))
    | no l ↦ limit_end hs list head (omega arith) ∙ sym (limit_end hs list' head (omega (arith, size)))
  ]);
  cells = λ k l m. subst (λ b. b < length hs) (sym (same k l)) (ls.cells k l (omega (arith, size)));
  rising = λ j k l m n. omega (arith, ap (queue_place hs) (same j l), ap (queue_place hs) (same k (omega arith)), ls.rising j k l m (omega (arith, size)));
  all = λ b l m. go b (ls.all b l m);
  many = ls.many;
}
  where
    size : length list' ≡ length list
    size = ap length e ∙ length-set list i c

    same : (k : ℕ) → head ≤ k → get_or list' k 0 ≡ get_or list k 0
    same k l = ap (λ t. get_or t k 0) e ∙ get_or-set_other list i k c 0 apart
      where
        apart : k ≡ i → ⊥
        apart z = omega arith

    go : (b : ℕ) → StandsIn list head b → StandsIn list' head b
    go b t = record { at = t.at; from = t.from; inside = omega (arith, size, t.inside); is = same t.at t.from ∙ t.is }
