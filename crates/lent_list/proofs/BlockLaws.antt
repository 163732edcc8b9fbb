-- The walk along a block of the list, along the positions taken: those whose cells lie in the segment, or all where all do.
use Prim.Native.Nat.{ℕ, zero, suc, ◌+◌, ◌-◌, ◌*◌, ◌≤◌, ◌<◌}
use native.Mathlib.Omega.{arith}
use mathlib.Core.Path.{◌≡◌, refl, sym, ap, ◌∙◌, subst}
use mathlib.Core.Bool.{Bool, true, false, not, ◌&&◌, ◌||◌, true≢false}
use mathlib.Core.List.{List}
use lib.ListN.{length, get_or, length-set, take, drop, length-drop}
use lib.Seq.{get_or-take, get_or-drop, length-take-le}
use Rattle.std.proofs.Common.{Option, Some, None}
use Rattle.loops.specs.Loops.{Searched}
use Rattle.loops.proofs.PlaceLaws.{searched_at, searched_none, searched_some, searched_past}
use Rattle.loops.proofs.TurnLaws.{turns_none, turns_more}
use borrow.Author.Tests.{lt-ltb, not-true, not-false}
use Rattle.loops.specs.Loops.{turns}
use Rattle.loops.specs.Firsts.{First}
use Rattle.lent_list_marks.specs.Seen.{span, is_marked, marking, in_segment, missing_in}
use Rattle.lent_list_marks.proofs.SeenLaws.{Put, put_word, inside, outside, segment_from}
use Rattle.lent_list_blocks.specs.Blocks.{CellsBefore, CellsIn, following, NoneWithin, Picked, Taken, receiver_at}
use Rattle.lent_list_blocks.proofs.ListedLaws.{following_last, picked_whole}
use Rattle.lent_list.specs.Walks.{ListLengths, Walk, WalkEnded, Scanned, ReceiversIn, good_by_marks, marked_by}
use Rattle.lent_list.proofs.SegmentLaws.{walk_twice, walk_early, walk_more, walk_past, walk_done}

-- the walk passes entries outside the segment
module _ {n : ℕ} {recv list : List ℕ} {lo to : ℕ} {m : ℕ → Bool} (cells : CellsBefore n list to) (long : to ≤ length list) where
  walk_apart : {p q : ℕ} → Walk span n recv list lo to p m → NoneWithin list lo p q → q ≤ to → Walk span n recv list lo to q m
  walk_apart {p} {q} w a l = subst (λ (k : ℕ). Walk span n recv list lo to k m) whole (go (q - p) (omega arith))
    where
      whole : p + (q - p) ≡ q
      whole = omega (arith, a.order)

      go : (d : ℕ) → p + d ≤ q → Walk span n recv list lo to (p + d) m
      go zero h =
          let e : p + zero ≡ p = omega arith in
          rw e w
      go (suc d) h =
          let e : p + suc d ≡ p + d + 1 = omega arith in
          rw e (walk_past (go d (omega arith)) (omega arith) long (cells.cell (p + d) (omega arith)) (outside span lo (get_or list (p + d) 0) (a.each (p + d) (omega arith) (omega arith))))

-- what is learnt at an entry of the segment
module _ {n : ℕ} {recv list : List ℕ} {lo to p : ℕ} (seen : List ℕ) {next : List ℕ} {bad : Bool} (w : Walk span n recv list lo to p (is_marked seen))
    (room : span ≤ length seen * 64) (within : in_segment span lo (get_or list p 0) ≡ true) (put : next ≡ marking seen (get_or list p 0 - lo))
    (verdict : bad ≡ (is_marked seen (get_or list p 0 - lo) || missing_in next lo (get_or recv (get_or list p 0) 0))) where
  abbrev c : ℕ
  c = get_or list p 0

  abbrev r : ℕ
  r = get_or recv c 0

  from : lo ≤ c
  from = (inside span lo c within).0

  before : c < lo + span
  before = (inside span lo c within).1

  marked : Put (is_marked seen) (c - lo) (is_marked next)
  marked = put_word seen (c - lo) (omega (arith, from, before)) put

  -- the walk ends at an entry that is bad by the marks
  taken_bad : bad ≡ true → Scanned n recv list lo (lo + span) to p
  taken_bad e = go (is_marked seen (c - lo)) refl (in_segment span lo r) refl (is_marked next (r - lo)) refl (sym verdict ∙ e)
    where
      go : (s : Bool) → is_marked seen (c - lo) ≡ s → (j : Bool) → in_segment span lo r ≡ j → (k : Bool) → is_marked next (r - lo) ≡ k → (s || (j && not k)) ≡ true
          → Scanned n recv list lo (lo + span) to p
      go true b j f k g v = walk_twice w from before b
      go false b false f k g v = absurd (true≢false (sym v))
      go false b true f true g v = absurd (true≢false (sym v))
      go false b true f false g v = let u = inside span lo r f in walk_early w marked from before u.0 u.1 g

  -- and goes on from any other
  taken_good : bad ≡ false → p < to → to ≤ length list → c < n → Walk span n recv list lo to (p + 1) (is_marked next)
  taken_good e l k cell = go (is_marked seen (c - lo)) refl (in_segment span lo r) refl (is_marked next (r - lo)) refl (sym verdict ∙ e)
    where
      go : (s : Bool) → is_marked seen (c - lo) ≡ s → (j : Bool) → in_segment span lo r ≡ j → (q : Bool) → is_marked next (r - lo) ≡ q → (s || (j && not q)) ≡ false
          → Walk span n recv list lo to (p + 1) (is_marked next)
      go true b j f q g v = absurd (true≢false v)
      go false b false f q g v = walk_more w marked from before l k cell b (λ u z. absurd (outside span lo r f u z))
      go false b true f false g v = absurd (true≢false v)
      go false b true f true g v = walk_more w marked from before l k cell b (λ u z. g)

-- the walk along the positions taken: i of them are done
record Taking (n : ℕ) (recv list : List ℕ) (lo from to : ℕ) (position : ℕ → ℕ) (i : ℕ) (seen : List ℕ) : Type 0 where
  room : span ≤ length seen * 64
  walk : Walk span n recv list lo to (following from position i) (is_marked seen)

marking_length : (seen : List ℕ) (i : ℕ) → length (marking seen i) ≡ length seen
unfolding marking
marking_length seen i = length-set {A = ℕ} seen _ _

-- the cells taken of a block, their positions in the list
pub record Block (n : ℕ) (recv list : List ℕ) (lo from to : ℕ) (position : ℕ → ℕ) (cells : List ℕ) : Type 0 where
  pub before : CellsBefore n list to
  pub long : to ≤ length list
  pub picked : Picked list lo from to position (length cells)
  pub entries : (i : ℕ) → i < length cells → get_or cells i 0 ≡ get_or list (position i) 0

module _ {n : ℕ} {recv list : List ℕ} {lo from to : ℕ} {position : ℕ → ℕ} {cells : List ℕ} (b : Block n recv list lo from to position cells) where
  module _ (seen : List ℕ) (room : span ≤ length seen * 64) (start : Walk span n recv list lo to from (is_marked seen)) where
    abbrev good : ℕ → Bool
    good = good_by_marks lo recv cells seen

    abbrev marks : ℕ → List ℕ
    marks = marked_by lo cells seen

    module _ {i : ℕ} (l : i < length cells) (t : Taking n recv list lo from to position i (marks i)) where
      abbrev cell : ℕ
      cell = get_or list (position i) 0

      bad : Bool
      bad = is_marked (marks i) (cell - lo) || missing_in (marking (marks i) (cell - lo)) lo (get_or recv cell 0)

      arrived : Walk span n recv list lo to (position i) (is_marked (marks i))
      arrived = walk_apart b.before b.long t.walk (b.picked.between i l) (omega (arith, b.picked.below i l))

      verdict : {v : Bool} → good i ≡ v → not (is_marked (marks i) (cell - lo) || missing_in (marking (marks i) (cell - lo)) lo (get_or recv cell 0)) ≡ v
      verdict e = ap (λ (c : ℕ). not (is_marked (marks i) (c - lo) || missing_in (marking (marks i) (c - lo)) lo (get_or recv c 0))) (sym (b.entries i l)) ∙ e

      step_bad : good i ≡ false → Scanned n recv list lo (lo + span) to (position i)
      step_bad e = taken_bad (marks i) arrived t.room (b.picked.inside i l) refl refl (not-false _ (verdict e))

      step_good : good i ≡ true → Walk span n recv list lo to (position i + 1) (is_marked (marking (marks i) (cell - lo)))
      step_good e = taken_good (marks i) arrived t.room (b.picked.inside i l) refl refl (not-true _ (verdict e)) (b.picked.below i l) b.long (b.before.cell (position i) (b.picked.below i l))

    taking : (i : ℕ) → i ≤ length cells → ((j : ℕ) → j < i → good j ≡ true) → Taking n recv list lo from to position i (marks i)
    unfolding turns following
    taking zero l h = record { room = room; walk = start }
    taking (suc i) l h =
        let t = taking i (omega arith) (λ j k. h j (omega arith)) in
        let inside : i < length cells = omega arith in
        let next : marks (suc i) ≡ marking (marks i) (get_or list (position i) 0 - lo) = ap (λ (c : ℕ). marking (marks i) (c - lo)) (b.entries i inside) in
        let last : following from position (suc i) ≡ position i + 1 = following_last from position i in
        record {
          room = omega (arith, t.room, marking_length (marks i) (get_or cells i 0 - lo));
          walk = rw (next, last) (step_good inside t (h i (omega arith)));
        }

    -- the walk ends at the first cell that is bad by the marks
    pub block_bad : {i : ℕ} → First (length cells) good i → i < length cells → (next : List ℕ) → WalkEnded n recv list lo to next (position i)
    block_bad {i} f l next =
        record { found = step_bad l (taking i (omega arith) f.earlier) (f.fails l); marks = λ q. absurd (omega (arith, b.picked.below i l)) }

    -- and passes a block without one
    pub block_good : {i : ℕ} → First (length cells) good i → length cells ≤ i → {next : List ℕ} → next ≡ marks (length cells) → WalkEnded n recv list lo to next to
    block_good {i} f l {next} e =
        let t = taking (length cells) (omega arith) (λ j k. f.earlier j (omega arith)) in
        let w = walk_apart b.before b.long t.walk b.picked.rest (omega arith) in
        record { found = walk_done w (omega arith); marks = λ q. rw e w.marks }

    -- as the search along the cells answers
    module _ {answer : Option ℕ} (s : Searched (length cells) (First (length cells) good) answer) {next : List ℕ} where
      pub block_some : {i p : ℕ} → answer ≡ Some i → p ≡ position i → Searched to (WalkEnded n recv list lo to next) (Some p)
      block_some {i} e q =
          let f = searched_some s e in
          rw q (searched_at (block_bad f.0 f.1 next) (b.picked.below i f.1))

      pub block_none : answer ≡ None → (answer ≡ None → next ≡ marks (length cells)) → Searched to (WalkEnded n recv list lo to next) None
      block_none e m = searched_none (block_good s.fact (searched_past s e) (m e)) (omega arith)

-- one cell more is looked at, with the marks s before it and next after it
module _ (lo : ℕ) (cells seen : List ℕ) (i : ℕ) {s : List ℕ} (e : s ≡ marked_by lo cells seen i) {next : List ℕ} (put : next ≡ marking s (get_or cells i 0 - lo)) where
  pub marked_more : next ≡ marked_by lo cells seen (i + 1)
  marked_more = put ∙ ap (λ (m : List ℕ). marking m (get_or cells i 0 - lo)) e ∙ sym (turns_more (λ j m. marking m (get_or cells j 0 - lo)) i seen)

  pub good_is : (recv : List ℕ) {r : ℕ} {bad : Bool} → r ≡ receiver_at recv cells i → bad ≡ (is_marked s (get_or cells i 0 - lo) || missing_in next lo r) → good_by_marks lo recv cells seen i ≡ not bad
  good_is recv q v = rw (v, put, q, e)

pub marked_none : (lo : ℕ) (cells seen : List ℕ) → seen ≡ marked_by lo cells seen 0
marked_none lo cells seen = sym (turns_none (λ j m. marking m (get_or cells j 0 - lo)) seen)

-- where all receivers lie in the segment, that of a cell does
pub receiver_within : {lo n : ℕ} {recv cells : List ℕ} {i r : ℕ} → ReceiversIn lo n recv → CellsIn n cells → i < length cells → r ≡ receiver_at recv cells i → in_segment span lo r ≡ true
receiver_within {lo} {i = i} all cells l e = ap (in_segment span lo) e ∙ all.each _ (cells.cell i l)

-- the segment from 0 where it holds every cell: all positions are taken
within_first : (c : ℕ) → c < span → in_segment span 0 c ≡ true
within_first c l = segment_from span 0 c (omega arith) ∙ lt-ltb (c - 0) span (omega arith)

pub whole_receivers : {n : ℕ} {recv list : List ℕ} → n ≤ span → ListLengths n recv list → ReceiversIn 0 n recv
whole_receivers {recv = recv} few g = record { each = λ c l. within_first (get_or recv c 0) (omega (arith, g.inside c l)) }

pub whole_block : {n : ℕ} {recv list : List ℕ} {from to : ℕ} → n ≤ span → from ≤ to → CellsBefore n list to → to ≤ length list
    → Block n recv list 0 from to (λ i. from + i) (take (to - from) (drop from list))
whole_block {n} {recv} {list} {from} {to} few l before long =
    record {
      before = before;
      long = long;
      picked = rw size (picked_whole l (λ i k. within_first (get_or list i 0) (omega (arith, before.cell i k))));
      entries = λ i k. get_or-take (to - from) (drop from list) i 0 (omega (arith, size)) ∙ get_or-drop from list i 0;
    }
  where
    size : length (take (to - from) (drop from list)) ≡ to - from
    size = length-take-le (to - from) (drop from list) (omega (arith, length-drop from list))

-- the cells of a segment taken
pub taken_block : {n : ℕ} {recv list : List ℕ} {lo from to : ℕ} {cells : List ℕ} {k : ℕ} → CellsBefore n list to → to ≤ length list
    → (t : Taken list lo from to cells k) → k ≤ length cells → Block n recv list lo from to t.position (take k cells)
taken_block {cells = cells} {k = k} before long t l =
    record {
      before = before;
      long = long;
      picked = rw size t.picked;
      entries = λ i m. get_or-take k cells i 0 (omega (arith, size)) ∙ t.entries i (omega (arith, size));
    }
  where
    size : length (take k cells) ≡ k
    size = length-take-le k cells l
