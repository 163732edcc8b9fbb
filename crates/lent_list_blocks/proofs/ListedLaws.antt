-- The positions of a block whose cells lie in a segment, found one after the other.
use Rattle.std.proofs.Common.{◌≡◌, ℕ, zero, suc, ◌+◌, ◌-◌, ◌<◌, ◌≤◌, Bool, true, false, cond, eqb, List, length, get_or, set, refl, sym, ap, ◌∙◌, add-one, arith, true≢false, eq-eqb, ne_eqb, get_or-set_other, get_or-set_same}
use Rattle.std.specs.Int.{from_bool}
use native.Mathlib.Decide.{dec_lt}
use Rattle.lent_list_marks.specs.Seen.{span, in_segment}
use Rattle.lent_list_blocks.specs.Blocks.{CellsBefore, CellsAt, taken_at, following, NoneWithin, Picked, Taken}

-- the positions with v as the k-th
abbrev put : (ℕ → ℕ) → ℕ → ℕ → ℕ → ℕ
put position k v i = cond (eqb i k) v (position i)

put_same : (position : ℕ → ℕ) (k v : ℕ) → put position k v k ≡ v
put_same position k v = rw (eq-eqb k k refl)

put_other : (position : ℕ → ℕ) (k v i : ℕ) → i < k → put position k v i ≡ position i
put_other position k v i l = rw (ne_eqb i k (λ e. omega arith))

following_first : (from : ℕ) (position : ℕ → ℕ) → following from position 0 ≡ from
unfolding following
following_first from position = refl

-- what stands behind the first k positions does not count
following_same : (from : ℕ) {position other : ℕ → ℕ} {k : ℕ} → ((i : ℕ) → i < k → other i ≡ position i) → (i : ℕ) → i ≤ k → following from other i ≡ following from position i
unfolding following
following_same from e zero l = refl
following_same from e (suc i) l = ap suc (e i (omega arith))

following_kept : (from : ℕ) (position : ℕ → ℕ) (k v i : ℕ) → i ≤ k → following from (put position k v) i ≡ following from position i
following_kept from position k v i l = following_same from (put_other position k v) i l

pub following_last : (from : ℕ) (position : ℕ → ℕ) (k : ℕ) → following from position (suc k) ≡ position k + 1
unfolding following
following_last from position k = omega arith

module _ {list : List ℕ} {lo from to : ℕ} (position : ℕ → ℕ) {k : ℕ} (p : Picked list lo from to position k) where
  apart_more : in_segment span lo (get_or list to 0) ≡ false → NoneWithin list lo (following from position k) (to + 1)
  apart_more e = record { order = omega (arith, p.rest.order); each = λ q a b. go q a b (dec_lt q to) }
    where
      go : (q : ℕ) → following from position k ≤ q → q < to + 1 → Dec (q < to) → in_segment span lo (get_or list q 0) ≡ false
      go q a b (yes l) = p.rest.each q a l
      go q a b (no l) =
          let same : q ≡ to = omega arith in
          rw same e

  -- a position outside the segment is passed
  picked_past : in_segment span lo (get_or list to 0) ≡ false → Picked list lo from (to + 1) position k
  picked_past e =
      record {
        few = omega (arith, p.few);
        below = λ i l. omega (arith, p.below i l);
        inside = p.inside;
        between = p.between;
        rest = apart_more e;
      }

  -- one inside it is picked
  picked_more : in_segment span lo (get_or list to 0) ≡ true → Picked list lo from (to + 1) (put position k to) (k + 1)
  picked_more e = rw (add-one k)
      (record {
        few = omega (arith, p.few);
        below = λ i l. below i l (dec_lt i k);
        inside = λ i l. within i l (dec_lt i k);
        between = λ i l. between i l (dec_lt i k);
        rest = rest;
      })
    where
      here : put position k to k ≡ to
      here = put_same position k to

      below : (i : ℕ) → i < suc k → Dec (i < k) → put position k to i < to + 1
      below i l (yes m) = omega (arith, put_other position k to i m, p.below i m)
      below i l (no m) =
          let same : i ≡ k = omega arith in
          omega (arith, ap (put position k to) same, here)

      within : (i : ℕ) → i < suc k → Dec (i < k) → in_segment span lo (get_or list (put position k to i) 0) ≡ true
      within i l (yes m) = ap (λ (q : ℕ). in_segment span lo (get_or list q 0)) (put_other position k to i m) ∙ p.inside i m
      within i l (no m) =
          let same : i ≡ k = omega arith in
          ap (λ (q : ℕ). in_segment span lo (get_or list q 0)) (ap (put position k to) same ∙ here) ∙ e

      apart : (i q : ℕ) → put position k to i ≡ q → NoneWithin list lo (following from position i) q → i ≤ k → NoneWithin list lo (following from (put position k to) i) (put position k to i)
      apart i q f n l = rw (f, following_kept from position k to i l) n

      between : (i : ℕ) → i < suc k → Dec (i < k) → NoneWithin list lo (following from (put position k to) i) (put position k to i)
      between i l (yes m) = apart i (position i) (put_other position k to i m) (p.between i m) (omega arith)
      between i l (no m) =
          let same : i ≡ k = omega arith in
          rw same (apart k to here p.rest (omega arith))

      rest : NoneWithin list lo (following from (put position k to) (suc k)) (to + 1)
      rest =
          let last = following_last from (put position k to) k in
          record { order = omega (arith, here, last); each = λ q a b. absurd (omega (arith, here, last)) }

pub picked_none : {list : List ℕ} {lo from : ℕ} {position : ℕ → ℕ} → Picked list lo from from position 0
unfolding following
picked_none =
    record {
      few = omega arith;
      below = λ i l. absurd (omega arith);
      inside = λ i l. absurd (omega arith);
      between = λ i l. absurd (omega arith);
      rest = record { order = omega arith; each = λ q a b. absurd (omega arith) };
    }

-- only the first k positions count
picked_same : {list : List ℕ} {lo from to : ℕ} {position other : ℕ → ℕ} {k : ℕ} → ((i : ℕ) → i < k → other i ≡ position i) → Picked list lo from to position k → Picked list lo from to other k
picked_same {list} {lo} {from} {to} {position} {other} {k} e p =
    record {
      few = p.few;
      below = λ i l. omega (arith, e i l, p.below i l);
      inside = λ i l. rw (e i l) (p.inside i l);
      between = λ i l. rw (e i l, following_same from e i (omega arith)) (p.between i l);
      rest = rw (following_same from e k (omega arith)) p.rest;
    }

-- the positions written
module _ {list : List ℕ} {lo from to : ℕ} (places : List ℕ) {k : ℕ} (p : Picked list lo from to (taken_at false places from) k) (room : k < length places) where
  kept_place : (i : ℕ) → i < k → get_or (set places k to) i 0 ≡ get_or places i 0
  kept_place i l = get_or-set_other places k i to 0 (λ e. omega arith)

  put_place : (i : ℕ) → i < k + 1 → get_or (set places k to) i 0 ≡ put (taken_at false places from) k to i
  put_place i l = go (dec_lt i k)
    where
      go : Dec (i < k) → get_or (set places k to) i 0 ≡ put (taken_at false places from) k to i
      go (yes m) = kept_place i m ∙ sym (put_other (taken_at false places from) k to i m)
      go (no m) =
          let same : i ≡ k = omega arith in
          rw same (get_or-set_same places k to 0 room ∙ sym (put_same (taken_at false places from) k to))

  pub listed_next : {c : ℕ} → c ≡ from_bool (in_segment span lo (get_or list to 0)) → Picked list lo from (to + 1) (taken_at false (set places k to) from) (k + c)
  listed_next {c} e = go (in_segment span lo (get_or list to 0)) refl e
    where
      go : (b : Bool) → in_segment span lo (get_or list to 0) ≡ b → c ≡ from_bool b → Picked list lo from (to + 1) (taken_at false (set places k to) from) (k + c)
      go true h q = rw q (picked_same put_place (picked_more (taken_at false places from) p h))
      go false h q =
          let none : k + c ≡ k = omega arith in
          rw none (picked_same kept_place (picked_past (taken_at false places from) p h))

-- the cells at the positions of a block
pub block_cells : {n : ℕ} {list : List ℕ} {lo from to : ℕ} {position : ℕ → ℕ} {k : ℕ} → CellsBefore n list to → to ≤ length list → Picked list lo from to position k → CellsAt n list position k
block_cells cells long listed = record { place = λ i l. omega (arith, listed.below i l); cell = λ i l. cells.cell _ (listed.below i l) }

-- the cells written
pub taken_none : {list : List ℕ} {lo from : ℕ} {cells : List ℕ} → Taken list lo from from cells 0
taken_none = record { position = λ i. 0; picked = picked_none; entries = λ i l. absurd (omega arith) }

module _ {list : List ℕ} {lo from to : ℕ} {cells : List ℕ} {k : ℕ} (t : Taken list lo from to cells k) (room : k < length cells) where
  kept : (i v : ℕ) → i < k → get_or (set cells k v) i 0 ≡ get_or cells i 0
  kept i v l = get_or-set_other cells k i v 0 (λ e. omega arith)

  pub taken_next : {c : ℕ} → c ≡ from_bool (in_segment span lo (get_or list to 0)) → Taken list lo from (to + 1) (set cells k (get_or list to 0)) (k + c)
  taken_next {c} e = go (in_segment span lo (get_or list to 0)) refl e
    where
      go : (b : Bool) → in_segment span lo (get_or list to 0) ≡ b → c ≡ from_bool b → Taken list lo from (to + 1) (set cells k (get_or list to 0)) (k + c)
      go true h q =
          rw q (record {
            position = put t.position k to;
            picked = picked_more t.position t.picked h;
            entries = λ i l. here i l (dec_lt i k);
          })
        where
          here : (i : ℕ) → i < k + 1 → Dec (i < k) → get_or (set cells k (get_or list to 0)) i 0 ≡ get_or list (put t.position k to i) 0
          here i l (yes m) = kept i (get_or list to 0) m ∙ t.entries i m ∙ ap (λ (p : ℕ). get_or list p 0) (sym (put_other t.position k to i m))
          here i l (no m) =
              let same : i ≡ k = omega arith in
              rw same (get_or-set_same cells k (get_or list to 0) 0 room ∙ ap (λ (p : ℕ). get_or list p 0) (sym (put_same t.position k to)))
      go false h q =
          let none : k + c ≡ k = omega arith in
          rw none (record { position = t.position; picked = picked_past t.position t.picked h; entries = λ i l. kept i (get_or list to 0) l ∙ t.entries i l })

-- the search for the i-th position has come to p, with `left` of them to pass
pub record Nearing (list : List ℕ) (lo from to i left p : ℕ) : Type 0 where
  pub some : left ≤ i
  pub order : p ≤ to
  pub near : (position : ℕ → ℕ) (k : ℕ) → Picked list lo from to position k → i < k → (following from position (i - left) ≤ p) × (p ≤ position (i - left))

pub nearing_none : {list : List ℕ} {lo from to i : ℕ} → from ≤ to → Nearing list lo from to i i from
nearing_none {list} {lo} {from} {to} {i} l =
    record {
      some = omega arith;
      order = l;
      near = λ position k p m. near position p.between (omega arith) m;
    }
  where
    near : (position : ℕ → ℕ) {k : ℕ} → ((j : ℕ) → j < k → NoneWithin list lo (following from position j) (position j)) → i - i ≡ 0 → i < k → (following from position (i - i) ≤ from) × (from ≤ position (i - i))
    near position between e m = rw e (omega (arith, following_first from position), omega (arith, following_first from position, (between 0 (omega arith)).order))

module _ {list : List ℕ} {lo from to i left p : ℕ} (n : Nearing list lo from to i left p) (l : p < to) where
  module _ (position : ℕ → ℕ) (k : ℕ) (picked : Picked list lo from to position k) (m : i < k) where
    -- a position inside the segment is the next
    next_inside : in_segment span lo (get_or list p 0) ≡ true → p ≡ position (i - left)
    next_inside e = go (dec_lt p (position (i - left)))
      where
        go : Dec (p < position (i - left)) → p ≡ position (i - left)
        go (yes h) = absurd (true≢false (sym e ∙ (picked.between (i - left) (omega arith)).each p (n.near position k picked m).0 h))
        go (no h) = omega (arith, n.near position k picked m)

    -- and one outside it is not
    next_outside : in_segment span lo (get_or list p 0) ≡ false → p < position (i - left)
    next_outside e = go (dec_lt p (position (i - left)))
      where
        go : Dec (p < position (i - left)) → p < position (i - left)
        go (yes h) = h
        go (no h) =
            let same : position (i - left) ≡ p = omega (arith, n.near position k picked m) in
            absurd (true≢false (sym (picked.inside (i - left) (omega arith)) ∙ ap (λ (q : ℕ). in_segment span lo (get_or list q 0)) same ∙ e))

  pub nearing_found : in_segment span lo (get_or list p 0) ≡ true → left ≡ 0 → (position : ℕ → ℕ) (k : ℕ) → Picked list lo from to position k → i < k → p ≡ position i
  nearing_found e f position k picked m =
      let all : i - left ≡ i = omega arith in
      next_inside position k picked m e ∙ ap position all

  pub nearing_less : in_segment span lo (get_or list p 0) ≡ true → 0 < left → Nearing list lo from to i (left - 1) (p + 1)
  nearing_less e f =
      record {
        some = omega (arith, n.some);
        order = omega arith;
        near = λ position k picked m. near position k picked m (omega (arith, n.some));
      }
    where
      near : (position : ℕ → ℕ) (k : ℕ) → Picked list lo from to position k → i < k → i - (left - 1) ≡ suc (i - left)
          → (following from position (i - (left - 1)) ≤ p + 1) × (p + 1 ≤ position (i - (left - 1)))
      near position k picked m q =
          let here = next_inside position k picked m e in
          let last = following_last from position (i - left) in
          let next = (picked.between (suc (i - left)) (omega (arith, n.some))).order in
          rw q (omega (arith, here, last), omega (arith, here, last, next))

  pub nearing_past : in_segment span lo (get_or list p 0) ≡ false → Nearing list lo from to i left (p + 1)
  nearing_past e =
      record {
        some = n.some;
        order = omega arith;
        near = λ position k picked m. (omega (arith, n.near position k picked m), omega (arith, next_outside position k picked m e));
      }

-- the end is not reached
pub nearing_end : {list : List ℕ} {lo from to i left p : ℕ} → Nearing list lo from to i left p → to ≤ p → (position : ℕ → ℕ) (k : ℕ) → Picked list lo from to position k → i < k → to ≡ position i
nearing_end {i = i} {left = left} n l position k picked m = absurd (omega (arith, n.near position k picked m, picked.below (i - left) (omega arith)))

-- where the cells of all positions lie in the segment, all are taken
pub picked_whole : {list : List ℕ} {lo from to : ℕ} → from ≤ to → ((i : ℕ) → i < to → in_segment span lo (get_or list i 0) ≡ true) → Picked list lo from to (λ i. from + i) (to - from)
picked_whole {list} {lo} {from} {to} l within =
    record {
      few = omega arith;
      below = λ i k. omega arith;
      inside = λ i k. within (from + i) (omega arith);
      between = λ i k. none i;
      rest = rw ends at (none (to - from));
    }
  where
    ends : from + (to - from) ≡ to
    ends = omega arith

    here : (i : ℕ) → following from (λ i. from + i) i ≡ from + i
    here zero = following_first from _ ∙ omega arith
    here (suc i) = following_last from _ i ∙ omega arith

    none : (i : ℕ) → NoneWithin list lo (following from (λ i. from + i) i) (from + i)
    none i = record { order = omega (arith, here i); each = λ q a b. absurd (omega (arith, here i)) }

-- as `taken` returns them
pub listed_whole : {list : List ℕ} {lo from to : ℕ} (places : List ℕ) → from ≤ to → ((i : ℕ) → i < to → in_segment span lo (get_or list i 0) ≡ true) → Picked list lo from to (taken_at true places from) (to - from)
listed_whole places l within = picked_whole l within

-- fewer entries, of more cells
pub cells_before : {n m : ℕ} {list : List ℕ} {limit to : ℕ} → n ≤ m → to ≤ limit → CellsBefore n list limit → CellsBefore m list to
cells_before l end cells = record { cell = λ i k. omega (arith, cells.cell i (omega arith)) }
