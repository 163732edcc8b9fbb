-- One walk along the list for a segment of cells, and the walks for all segments.
use Prim.Native.Nat.{ℕ, suc, ◌+◌, ◌-◌, ◌≤◌, ◌<◌}
use native.Mathlib.Numerals.{add-one}
use native.Mathlib.Omega.{arith}
use native.Mathlib.Decide.{dec_lt, ℕ_discrete}
use mathlib.Core.Path.{◌≡◌, refl, sym, ap, ◌∙◌, subst}
use mathlib.Core.Bool.{Bool, true, false, true≢false}
use mathlib.Core.List.{List}
use lib.ListN.{length, get_or, take}
use lib.Dec.{ltb, leb}
use Rattle.std.proofs.Common.{Option, Some, None, position}
use Rattle.std.specs.Option.{unwrap_or, option_or}
use Rattle.std.proofs.lemmas.List.Sums.{position_or_len_is}
use Rattle.loops.specs.Loops.{Searched}
use Rattle.loops.proofs.PlaceLaws.{searched_at, searched_none, searched_some, searched_past, searched_or}
use borrow.Author.Count.{below_more}
use borrow.Author.Tests.{lt-ltb, ltb-true, ltb-false, le-leb, lt-leb}
use Rattle.loops.proofs.CountLaws.{one_same, one_other, times_more}
use Rattle.loops.specs.Counts.{one_if, times}
use Rattle.lent_list.specs.Entries.{every_cell, good_entry, first_bad_entry, GoodAt}
use Rattle.lent_list_marks.specs.Seen.{segment, span}
use Rattle.lent_list.specs.Walks.{GoodWithin, Scanned, Stood, Walk, ListLengths, WithinOverlap}
use Rattle.lent_list_marks.proofs.SeenLaws.{Put}
use Rattle.lent_list_blocks.specs.Blocks.{CellsBefore}
use Rattle.loops.specs.Firsts.{First, first_failing}
use Rattle.loops.proofs.FirstLaws.{first_is, first_end, first_of_lem}
use Rattle.loops.proofs.LoopLaws.{all_pass}
use Rattle.lent_list.proofs.ListLaws.{good_at_lem, at_good}

-- an entry with a fault is not good
not_good : (n : ℕ) (recv list : List ℕ) (p : ℕ) → (GoodAt n recv list p → ⊥) → good_entry n recv list p ≡ false
not_good n recv list p h = go (good_entry n recv list p) refl
  where
    go : (b : Bool) → good_entry n recv list p ≡ b → b ≡ false
    go true e = absurd (h (good_at_lem n recv list p e))
    go false e = refl

pub walk_none : {long n : ℕ} {recv list : List ℕ} {lo limit : ℕ} {m : ℕ → Bool} → ((i : ℕ) → i < long → m i ≡ false) → Walk long n recv list lo limit 0 m
unfolding times
walk_none none = record { place = omega arith; marks = none; earlier = λ i l. absurd (omega arith) }

module _ {long n : ℕ} {recv list : List ℕ} {lo limit p : ℕ} {m : ℕ → Bool} (w : Walk long n recv list lo limit p m) where
  abbrev entry : ℕ
  entry = get_or list p 0

  abbrev below : ℕ
  below = get_or recv entry 0

  mark_at_lem : (c : ℕ) → lo ≤ c → c < lo + long → m (c - lo) ≡ ltb 0 (times c (take p list))
  mark_at_lem c h l =
      let back : lo + (c - lo) ≡ c = omega arith in
      w.marks (c - lo) (omega arith) ∙ ap (λ (x : ℕ). ltb 0 (times x (take p list))) back

  pub walk_done : limit ≤ p → Scanned n recv list lo (lo + long) limit limit
  walk_done h = record { bound = omega arith; earlier = λ i l. w.earlier i (omega arith); fails = λ l. absurd (omega arith) }

  -- the walk ends at a bad entry
  walk_ends : (GoodAt n recv list p → ⊥) → Scanned n recv list lo (lo + long) limit p
  walk_ends h = record { bound = w.place; earlier = w.earlier; fails = λ l. not_good n recv list p h }

  pub walk_outside : n ≤ entry → Scanned n recv list lo (lo + long) limit p
  walk_outside h = walk_ends (λ g. omega (arith, g.cell))

  -- a cell that stood already
  pub walk_twice : lo ≤ entry → entry < lo + long → m (entry - lo) ≡ true → Scanned n recv list lo (lo + long) limit p
  walk_twice h l e = walk_ends (λ g. omega (arith, g.fresh, ltb-true 0 (times entry (take p list)) (sym (mark_at_lem entry h l) ∙ e)))

  -- with the mark of the entry put in
  module _ {next : ℕ → Bool} (put : Put m (entry - lo) next) (h : lo ≤ entry) (l : entry < lo + long) where
    -- a receiver that has not stood
    pub walk_early : lo ≤ below → below < lo + long → next (below - lo) ≡ false → Scanned n recv list lo (lo + long) limit p
    walk_early a b e = walk_ends (λ g. go (ℕ_discrete (below - lo) (entry - lo)) g)
      where
        go : Dec (below - lo ≡ entry - lo) → GoodAt n recv list p → ⊥
        go (yes q) g = true≢false (sym put.same ∙ ap next (sym q) ∙ e)
        go (no q) g =
            let none = ltb-false 0 (times below (take p list)) (sym (mark_at_lem below a b) ∙ sym (put.other (below - lo) q) ∙ e) in
            omega (arith, none, g.after (λ s. q (ap (λ (x : ℕ). x - lo) s)))

    -- one entry more, of the segment
    seen_more : p < length list → Stood long list lo (p + 1) next
    seen_more inside i k = rw (add-one p) (at (ℕ_discrete i (entry - lo)))
      where
        at : Dec (i ≡ entry - lo) → next i ≡ ltb 0 (times (lo + i) (take (suc p) list))
        at (yes e) =
            let same : lo + i ≡ entry = omega arith in
            let now : 0 < times (lo + i) (take (suc p) list) = omega (arith, times_more (lo + i) p list inside, ap (one_if entry) same, one_same entry entry refl) in
            ap next e ∙ put.same ∙ sym (lt-ltb 0 _ now)
        at (no d) =
            let still : times (lo + i) (take (suc p) list) ≡ times (lo + i) (take p list) = omega (arith, times_more (lo + i) p list inside, one_other entry (lo + i) (λ e. d (omega arith))) in
            put.other i d ∙ w.marks i k ∙ ap (ltb 0) (sym still)

    pub walk_more : p < limit → limit ≤ length list → entry < n → m (entry - lo) ≡ false → (lo ≤ below → below < lo + long → next (below - lo) ≡ true)
        → Walk long n recv list lo limit (p + 1) next
    walk_more a b inside fresh after = record { place = omega arith; marks = seen_more (omega arith); earlier = below_more (GoodWithin n recv list lo (lo + long)) p w.earlier here }
      where
        here : GoodWithin n recv list lo (lo + long) p
        here =
            record {
              cell = inside;
              fresh = λ x y. omega (arith, ltb-false 0 (times entry (take p list)) (sym (mark_at_lem entry h l) ∙ fresh));
              after = λ d x y u v. ltb-true 0 _ (sym (mark_at_lem below u v) ∙ sym (put.other (below - lo) (λ e. d (omega arith))) ∙ after u v);
            }

  -- one entry more, outside the segment
  pub walk_past : p < limit → limit ≤ length list → entry < n → (lo ≤ entry → entry < lo + long → ⊥) → Walk long n recv list lo limit (p + 1) m
  walk_past a b inside out =
      record { place = omega arith; marks = λ i k. rw (add-one p) (still i k); earlier = below_more (GoodWithin n recv list lo (lo + long)) p w.earlier here }
    where
      still : (i : ℕ) → i < long → m i ≡ ltb 0 (times (lo + i) (take (suc p) list))
      still i k =
          let same : times (lo + i) (take (suc p) list) ≡ times (lo + i) (take p list) = omega (arith, times_more (lo + i) p list (omega arith), one_other entry (lo + i) (λ e. out (omega arith) (omega arith))) in
          w.marks i k ∙ ap (ltb 0) (sym same)

      here : GoodWithin n recv list lo (lo + long) p
      here = record { cell = inside; fresh = λ x y. absurd (out x y); after = λ d x y u v. absurd (out x y) }

pub from_start : (c : ℕ) → c - 0 ≡ c
from_start c = omega arith

-- a walk in which every cell has a mark
module _ {n : ℕ} {recv list : List ℕ} {p : ℕ} {m : ℕ → Bool} (w : Walk n n recv list 0 n p m) (inside : get_or list p 0 < n) where
  put_from : {next : ℕ → Bool} → Put m (get_or list p 0) next → Put m (get_or list p 0 - 0) next
  put_from {next} = subst (λ (i : ℕ). Put m i next) (sym (from_start (get_or list p 0)))

  pub whole_twice : m (get_or list p 0) ≡ true → Scanned n recv list 0 (0 + n) n p
  whole_twice e = walk_twice w (omega arith) (omega arith) (ap m (from_start (get_or list p 0)) ∙ e)

  pub whole_early : {next : ℕ → Bool} → Put m (get_or list p 0) next → get_or recv (get_or list p 0) 0 < n → next (get_or recv (get_or list p 0) 0) ≡ false → Scanned n recv list 0 (0 + n) n p
  whole_early {next} put l e = walk_early w (put_from put) (omega arith) (omega arith) (omega arith) (omega arith) (ap next (from_start (get_or recv (get_or list p 0) 0)) ∙ e)

  pub whole_more : {next : ℕ → Bool} → Put m (get_or list p 0) next → p < n → length list ≡ n → m (get_or list p 0) ≡ false → next (get_or recv (get_or list p 0) 0) ≡ true
      → Walk n n recv list 0 n (p + 1) next
  whole_more {next} put l k e f =
      walk_more w (put_from put) (omega arith) (omega arith) l (omega arith) inside (ap m (from_start (get_or list p 0)) ∙ e) (λ x y. ap next (from_start (get_or recv (get_or list p 0) 0)) ∙ f)

-- all cells have a mark: the first bad entry is found
pub scanned_all : {n : ℕ} {recv list : List ℕ} {f : ℕ} → ListLengths n recv list → Scanned n recv list 0 (0 + n) n f → f ≡ first_bad_entry n recv list
scanned_all {n} {recv} {list} {f} g s =
    first_is (record { bound = s.bound; earlier = λ i l. at_good n recv list i (good i (s.earlier i l)); fails = s.fails })
  where
    good : (i : ℕ) → GoodWithin n recv list 0 (0 + n) i → GoodAt n recv list i
    good i u =
        let below : get_or recv (get_or list i 0) 0 < n = g.inside (get_or list i 0) u.cell in
        record {
          cell = u.cell;
          fresh = u.fresh (omega arith) (omega (arith, u.cell));
          after = λ d. u.after d (omega arith) (omega (arith, u.cell)) (omega arith) (omega arith);
        }

-- the entry at a position is good as far as those pairs of a cell and its receiver tell of which one lies below lo
record GoodBelow (n : ℕ) (recv list : List ℕ) (lo position : ℕ) : Type 0 where
  cell : get_or list position 0 < n
  fresh : get_or list position 0 < lo → times (get_or list position 0) (take position list) ≡ 0
  leaves : (get_or recv (get_or list position 0) 0 ≡ get_or list position 0 → ⊥) → get_or list position 0 < lo → 0 < times (get_or recv (get_or list position 0) 0) (take position list)
  enters : (get_or recv (get_or list position 0) 0 ≡ get_or list position 0 → ⊥) → get_or recv (get_or list position 0) 0 < lo → 0 < times (get_or recv (get_or list position 0) 0) (take position list)

-- the segments that start below lo are done: f is the first position that they show to be bad, or n
pub record Segments (n : ℕ) (recv list : List ℕ) (lo f : ℕ) : Type 0 where
  pub bound : f ≤ n
  earlier : (i : ℕ) → i < f → GoodBelow n recv list lo i
  fails : f < n → good_entry n recv list f ≡ false

-- where every entry is a cell, none is the first that is no cell
pub every_first : {n : ℕ} (list : List ℕ) → every_cell n list ≡ true → length list ≡ n → First n (λ p. ltb (get_or list p 0) n) n
unfolding every_cell
every_first {n} list e k = first_end (λ i l. all_pass (length list) (λ p. ltb (get_or list p 0) n) e i (omega arith))

-- and the search along the list finds the first that is none
pub search_first : {n : ℕ} (list : List ℕ) → length list ≡ n → {o : Option ℕ} → o ≡ position (leb n) list → Searched n (First n (λ p. ltb (get_or list p 0) n)) o
search_first {n} list k e =
    let s = first_of_lem n (λ p. ltb (get_or list p 0) n) in
    let f : ℕ = first_failing n (λ p. ltb (get_or list p 0) n) in
    let at = position_or_len_is (leb n) list f 0 (omega (arith, s.bound))
    (λ i l. lt-leb n (get_or list i 0) (ltb-true _ n (s.earlier i l)))
    (λ l. le-leb n (get_or list f 0) (ltb-false _ n (s.fails (omega arith)))) in
    record { place = f; fact = s; is = e ∙ rw (at, k) }

pub segments_none : {n : ℕ} {recv list : List ℕ} {f : ℕ} → First n (λ p. ltb (get_or list p 0) n) f → Segments n recv list 0 f
segments_none {n} {recv} {list} {f} s =
    record {
      bound = s.bound;
      earlier = λ i l. record { cell = ltb-true _ n (s.earlier i l); fresh = λ h. absurd (omega arith); leaves = λ d h. absurd (omega arith); enters = λ d h. absurd (omega arith) };
      fails = λ l. not_good n recv list f (λ g. omega (arith, g.cell, ltb-false (get_or list f 0) n (s.fails l)));
    }

-- every entry before the first bad one is a cell
pub segments_cells : {n : ℕ} {recv list : List ℕ} {lo f : ℕ} → Segments n recv list lo f → CellsBefore n list f
segments_cells s = record { cell = λ i l. (s.earlier i l).cell }

pub segments_more : {n : ℕ} {recv list : List ℕ} {lo b f : ℕ} → WithinOverlap n recv → Segments n recv list lo b → Scanned n recv list lo (lo + span) b f → Segments n recv list (lo + segment) f
segments_more {n} {recv} {list} {lo} {b} {f} near s t = record { bound = omega (arith, s.bound, t.bound); earlier = joined; fails = λ l. go (dec_lt f b) l }
  where
    joined : (i : ℕ) → i < f → GoodBelow n recv list (lo + segment) i
    joined i l = record { cell = v.cell; fresh = λ h. fresh (dec_lt c lo) h; leaves = λ d h. after (dec_lt c lo) (dec_lt r lo) d (omega arith) (omega (arith, near.up c v.cell)); enters = λ d h. after (dec_lt c lo) (dec_lt r lo) d (omega (arith, near.down c v.cell)) (omega arith) }
      where
        c : ℕ
        c = get_or list i 0

        r : ℕ
        r = get_or recv c 0

        u : GoodBelow n recv list lo i
        u = s.earlier i (omega (arith, t.bound))

        v : GoodWithin n recv list lo (lo + span) i
        v = t.earlier i l

        fresh : Dec (c < lo) → c < lo + segment → times c (take i list) ≡ 0
        fresh (yes k) h = u.fresh k
        fresh (no k) h = v.fresh (omega arith) (omega arith)

        after : Dec (c < lo) → Dec (r < lo) → (r ≡ c → ⊥) → c < lo + span → r < lo + span → 0 < times r (take i list)
        after (yes k) q d x y = u.leaves d k
        after (no k) (yes q) d x y = u.enters d q
        after (no k) (no q) d x y = v.after d (omega arith) x (omega arith) y

    go : Dec (f < b) → f < n → good_entry n recv list f ≡ false
    go (yes k) l = t.fails k
    go (no k) l =
        let same : f ≡ b = omega (arith, t.bound) in
        rw same (s.fails (omega arith))

pub segments_done : {n : ℕ} {recv list : List ℕ} {lo f : ℕ} → Segments n recv list lo f → n ≤ lo → f ≡ first_bad_entry n recv list
segments_done {n} {recv} {list} {lo} {f} s h =
    first_is (record { bound = s.bound; earlier = λ i l. at_good n recv list i (good i (omega (arith, s.bound)) (s.earlier i l)); fails = s.fails })
  where
    good : (i : ℕ) → i < n → GoodBelow n recv list lo i → GoodAt n recv list i
    good i k u =
        let inside : get_or list i 0 < n = u.cell in
        record { cell = inside; fresh = u.fresh (omega arith); after = λ d. u.leaves d (omega arith) }

-- the search for a segment below the place found so far
module _ {n : ℕ} {recv list : List ℕ} {lo : ℕ} {bad : Option ℕ} (s : Searched n (Segments n recv list lo) bad) where
  pub segments_at : {limit : ℕ} → limit ≡ unwrap_or bad n → Segments n recv list lo limit
  segments_at e = rw e (searched_or (λ f t. t.bound) s)

  pub segments_next : WithinOverlap n recv → {limit : ℕ} → limit ≡ unwrap_or bad n → {found next : Option ℕ} → Searched limit (Scanned n recv list lo (lo + span) limit) found
      → next ≡ option_or found bad → Searched n (Segments n recv list (lo + segment)) next
  segments_next near {limit} e {found} {next} t q = rw q (go found refl)
    where
      before : Segments n recv list lo limit
      before = segments_at e

      still : limit ≤ t.place → (b : Option ℕ) → limit ≡ unwrap_or b n → Searched n (Segments n recv list lo) b → Searched n (Segments n recv list (lo + segment)) b
      still l (Some k) f r =
          let same : t.place ≡ k = omega (arith, f, t.fact.bound) in
          searched_at (rw same at (segments_more near before t.fact)) (searched_some r refl).1
      still l None f r = searched_none (segments_more near before t.fact) (omega (arith, f))

      go : (o : Option ℕ) → found ≡ o → Searched n (Segments n recv list (lo + segment)) (option_or o bad)
      go (Some k) f = let u = searched_some t f in searched_at (segments_more near before u.0) (omega (arith, u.1, before.bound))
      go None f = still (searched_past t f) bad e s
