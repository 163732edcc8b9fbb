-- Words as the bits of floats, and what they hold once a part of the list is passed on: the areas of the definition.
use Prim.Native.Nat.{ℕ, suc, ◌+◌, ◌-◌, ◌*◌, ◌/◌, ◌%◌, ◌^◌, ◌≤◌, ◌<◌}
use native.Mathlib.Omega.{arith}
use native.Mathlib.Decide.{ℕ_discrete}
use mathlib.Core.Path.{◌≡◌, refl, sym, ap, ◌∙◌, subst}
use mathlib.Core.Bool.{Bool, true, false, not, cond}
use mathlib.Core.List.{List, [], ◌∷◌, ◌++◌}
use lib.ListN.{length, get_or, set, take, drop, length-set, length-replicate, get_or-replicate}
use lib.Seq.{get_or-set_same, get_or-set_other, split_at, drop-cons, drop-length, ext_get_or}
use lib.Dec.{T, eqb, le→leb}
use lib.IntN.{pos}
use lib.Ieee.{Float, nan, binary32, of_bits, to_bits, is_nan, in_float, in_unsigned, to_unsigned}
use lib.Ieee.Back.{unsigned_back}
use Rattle.std.proofs.Common.{length-append, length-drop, get_or-drop}
use Rattle.std.proofs.Math.ListN.{get_or-append}
use Rattle.std.proofs.lemmas.List.{get_or-append-add}
use borrow.Author.Tests.{eqb-true, eqb-false}
use Rattle.loops.specs.Loops.{tabulate}
use Rattle.loops.proofs.LoopLaws.{at_end}
use Rattle.loops.proofs.TableLaws.{tabulate_same, tabulate_get_d, length_tabulate, get_d_tabulate}
use Rattle.floats.proofs.BitsLaws.{plain_bits, bits_back}
use Rattle.floats.proofs.WholeLaws.{float_in}
use Rattle.floats.specs.Stand.{whole}
use Rattle.float_order.proofs.WholeLaws.{whole_inj}
use Rattle.loops.specs.Counts.{times}
use Rattle.drainage.specs.Ways.{passes, area_of, WorkList, areas_along}
use Rattle.loops.proofs.CountLaws.{count_le, count_one}
use Rattle.drainage.proofs.TrailLaws.{trail}
use Rattle.drainage.proofs.WorkListLaws.{entry_lt, downstream}
use Rattle.drainage.proofs.AreaLaws.{been, been_receiver, been_other, been_own, work_areas, length_areas, areas}
use Rattle.areas.specs.Sums.{Along}
use Rattle.receiver_steps.specs.Step.{step_of, stepped_to, Near, NearReceivers}
use Rattle.receiver_steps.proofs.StepLaws.{Step, step_back}
use Rattle.areas.specs.Words.{area_word, area_in, areas_in, receiver_in, passed_on, passed_back, Word, Words, SteppedNetwork, Passing, WordFor, Worded, AreaWords, WholeArea, WholeAreas, start_area, start_areas, Ahead}

module _ {x : Float} (w : Word x) where
  pub word_plain : T (not (is_nan x))
  word_plain = subst (λ (y : Float). T (not (is_nan y))) (sym w.same) (plain_bits (omega (arith, w.small)))

  word_is : to_bits binary32 x ≡ w.number
  word_is = ap (to_bits binary32) w.same ∙ bits_back (omega (arith, w.small))

  pub word_small : to_bits binary32 x < 2 ^ 28 + 16
  word_small = omega (arith, word_is, w.small)

  -- its area is a whole number that binary32 has
  pub word_float : T (in_float binary32 (pos (to_bits binary32 x / 16)))
  word_float = float_in (to_bits binary32 x / 16) (omega (arith, word_small))

-- the area in a word is that of its place among all
pub area_is : (words : List Float) (c : ℕ) → c < length words → area_in (get_or words c nan) ≡ get_or (areas_in words) c nan
unfolding areas_in
area_is words c l = sym (get_d_tabulate (λ c. area_in (get_or words c nan)) (length words) c nan l)

module _ {w cells : ℕ} {recv : List ℕ} (net : SteppedNetwork w recv cells) where
  step : {c : ℕ} → c < length recv → Step w c (get_or recv c 0) (step_of w c (get_or recv c 0))
  step l = step_back (net.steps.near _ l) net.columns

  pub step_small : {c : ℕ} → c < length recv → step_of w c (get_or recv c 0) < 16
  step_small l = (step l).small

  few : length recv ≤ 2 ^ 24
  few = omega (arith, net.steps.few)

  -- what the word of a cell asks
  pub given_word : {c area : ℕ} → c < length recv → area ≤ 2 ^ 24 → Near w c (get_or recv c 0) × (3 ≤ w) × ((c < 4096 * 4096) × (get_or recv c 0 < 4096 * 4096)) × (area ≤ 2 ^ 24)
  given_word l a = (net.steps.near _ l, net.columns, (omega (arith, net.steps.few), omega (arith, net.steps.inside _ l, net.steps.few)), a)

-- ---- words for receivers
module _ {w cells : ℕ} {recv : List ℕ} (net : SteppedNetwork w recv cells) {words : List Float} (d : Worded w recv words) where
  bounded : {c : ℕ} (l : c < length recv) → area_word (d.each c l).area (step_of w c (get_or recv c 0)) < 2 ^ 28 + 16
  bounded {c} l = omega (arith, (d.each c l).few, step_small net l)

  pub worded_words : Words words
  worded_words c l =
      let m : c < length recv = omega (arith, d.long) in
      record { number = area_word (d.each c m).area (step_of w c (get_or recv c 0)); same = (d.each c m).same; small = bounded m }

  told : (c : ℕ) (l : c < length recv) → to_bits binary32 (get_or words c nan) ≡ area_word (d.each c l).area (step_of w c (get_or recv c 0))
  told c l = ap (to_bits binary32) (d.each c l).same ∙ bits_back (omega (arith, bounded l))

  pub stepped : (c : ℕ) → c < length recv → to_bits binary32 (get_or words c nan) % 16 ≡ step_of w c (get_or recv c 0)
  stepped c l = omega (arith, told c l, step_small net l)

  pub counted : (c : ℕ) (l : c < length recv) → to_bits binary32 (get_or words c nan) / 16 ≡ (d.each c l).area
  counted c l = omega (arith, told c l, step_small net l)

  pub leads : (c : ℕ) → c < length recv → receiver_in w c words ≡ get_or recv c 0
  leads c l = ap (stepped_to w c) (stepped c l) ∙ (step net l).back

  pub worded_passing : (c : ℕ) → c < length recv → Passing w words c
  worded_passing c l = record {
    wide = net.steps.wide;
    few = omega (arith, d.long, net.steps.few);
    cell = omega (arith, d.long);
    all = worded_words;
    past = subst (λ (t : ℕ). w + 1 ≤ c + t % 4 + t / 4 * w) (sym (stepped c l)) (step net l).past;
    inside = omega (arith, leads c l, d.long, net.steps.inside c l);
  }

-- the words once the entries from position k on are passed on
pub record Summing (w : ℕ) (recv list : List ℕ) (k : ℕ) (words : List Float) : Type 0 where
  pub place : k ≤ length list
  pub long : length words ≡ length recv
  held : (c : ℕ) → c < length recv → get_or words c nan ≡ of_bits binary32 (area_word (been (length recv) recv (drop k list) c) (step_of w c (get_or recv c 0)))

module _ {w cells : ℕ} {recv list : List ℕ} (net : SteppedNetwork w recv cells) where
  pub summing_none : (old : List Float) {words : List Float} → length old ≡ length recv → AreaWords w recv (start_areas false old) words → Summing w recv list (length list) words
  unfolding trail
  summing_none old {words} long a = record {
    place = omega arith;
    long = a.worded.long;
    held = λ c l. (a.worded.each c l).same ∙ ap (λ (n : ℕ). of_bits binary32 (area_word n (step_of w c (get_or recv c 0)))) (one c l ∙ sym (count_one (length recv) c l) ∙ ap (λ (s : List ℕ). been (length recv) recv s c) (sym (drop-length list)));
  }
    where
      one : (c : ℕ) (l : c < length recv) → (a.worded.each c l).area ≡ 1
      one c l = whole_inj _ 1 (a.worded.each c l).few (omega arith)
          (ap whole (sym (counted net a.worded c l))
          ∙ area_is words c (omega (arith, a.worded.long))
          ∙ ap (λ (t : List Float). get_or t c nan) a.areas
          ∙ get_or-replicate (length old) c (whole 1) nan (omega arith))

  module _ {k : ℕ} {words : List Float} (s : Summing w recv list k words) where
    few_been : (c : ℕ) → been (length recv) recv (drop k list) c ≤ 2 ^ 24
    few_been c = omega (arith, count_le (length recv) (λ j. trail (λ c. get_or recv c 0) (drop k list) j c), few net)

    pub summing_worded : Worded w recv words
    summing_worded = record { long = s.long; each = λ c l. record { area = been (length recv) recv (drop k list) c; few = few_been c; same = s.held c l } }

    -- all of the list is passed on: the words hold the areas along it
    pub summing_done : WorkList (length recv) recv list → k ≤ 0 → AreaWords w recv (areas_along (length recv) recv list) words
    unfolding areas_in summing_worded
    summing_done work z = record {
      worded = summing_worded;
      areas =
          ap (λ (n : ℕ). tabulate n (λ c. area_in (get_or words c nan))) s.long
          ∙ tabulate_same (λ c. area_in (get_or words c nan)) (λ c. get_or (areas_along (length recv) recv list) c nan) (length recv) area
          ∙ ap (λ (n : ℕ). tabulate n (λ c. get_or (areas_along (length recv) recv list) c nan)) (sym (length_areas (length recv) (few net) recv list))
          ∙ tabulate_get_d (areas_along (length recv) recv list) nan;
    }
      where
        area : (c : ℕ) → c < length recv → area_in (get_or words c nan) ≡ get_or (areas_along (length recv) recv list) c nan
        area c l =
            ap whole (at_end (λ (j : ℕ). been (length recv) recv (drop j list) c) (counted net summing_worded c l) z (omega arith))
            ∙ sym (work_areas (few net) work c l)

    -- one entry more
    module _ (work : WorkList (length recv) recv list) (more : 0 < k) where
      abbrev c : ℕ
      c = get_or list (k - 1) 0

      abbrev r : ℕ
      r = get_or recv (get_or list (k - 1) 0) 0

      next : suc (k - 1) ≡ k
      next = omega arith

      parts : list ≡ take (k - 1) list ++ (c ∷ drop k list)
      parts = split_at list (k - 1) 0 (omega (arith, s.place)) ∙ ap (λ (j : ℕ). take (k - 1) list ++ (c ∷ drop j list)) next

      pub entry : get_or list (k - 1) 0 < length recv
      entry = entry_lt work (take (k - 1) list) c (drop k list) parts

      once : times c (drop k list) ≡ 0
      once = (downstream work).once (take (k - 1) list) c (drop k list) parts

      behind : times r (drop k list) ≡ 0
      behind = (downstream work).behind (take (k - 1) list) c (drop k list) parts

      front : drop (k - 1) list ≡ c ∷ drop k list
      front = drop-cons list (k - 1) 0 (omega (arith, s.place)) ∙ ap (λ (j : ℕ). c ∷ drop j list) next

      -- the word of cell y after it
      abbrev word_after : ℕ → Float
      word_after y = of_bits binary32 (area_word (been (length recv) recv (c ∷ drop k list) y) (step_of w y (get_or recv y 0)))

      after : (R : ℕ) → R ≡ r → (b : Bool) → eqb R c ≡ b → (y : ℕ) → y < length recv
          → get_or (cond b words (set words R (of_bits binary32 (to_bits binary32 (get_or words R nan) + (to_bits binary32 (get_or words c nan) - to_bits binary32 (get_or words c nan) % 16))))) y nan ≡ word_after y
      unfolding summing_worded
      after R e true t y l =
          s.held y l ∙ ap (λ (a : ℕ). of_bits binary32 (area_word a (step_of w y (get_or recv y 0)))) (sym (been_own (length recv) (few net) recv c y (drop k list) once (sym e ∙ eqb-true R c t)))
      after R e false t y l = go (ℕ_discrete y R)
        where
          other : r ≡ c → ⊥
          other q = eqb-false R c t (e ∙ q)

          sum : to_bits binary32 (get_or words R nan) + (to_bits binary32 (get_or words c nan) - to_bits binary32 (get_or words c nan) % 16) ≡ area_word (been (length recv) recv (c ∷ drop k list) r) (step_of w r (get_or recv r 0))
          sum =
              let at : to_bits binary32 (get_or words R nan) ≡ area_word (been (length recv) recv (drop k list) r) (step_of w r (get_or recv r 0)) = ap (λ (i : ℕ). to_bits binary32 (get_or words i nan)) e ∙ told net summing_worded r (net.steps.inside c entry) in
              omega (arith, at, told net summing_worded c entry, stepped net summing_worded c entry, been_receiver (length recv) (few net) recv c (drop k list) once behind other)

          go : Dec (y ≡ R) → get_or (set words R (of_bits binary32 (to_bits binary32 (get_or words R nan) + (to_bits binary32 (get_or words c nan) - to_bits binary32 (get_or words c nan) % 16)))) y nan ≡ word_after y
          go (yes q) =
              ap (λ (i : ℕ). get_or (set words R (of_bits binary32 (to_bits binary32 (get_or words R nan) + (to_bits binary32 (get_or words c nan) - to_bits binary32 (get_or words c nan) % 16)))) i nan) q
              ∙ get_or-set_same words R _ nan (omega (arith, s.long))
              ∙ ap (of_bits binary32) sum
              ∙ ap word_after (sym e ∙ sym q)
          go (no q) =
              get_or-set_other words R y _ nan q
              ∙ s.held y l
              ∙ ap (λ (a : ℕ). of_bits binary32 (area_word a (step_of w y (get_or recv y 0)))) (sym (been_other (length recv) (few net) recv c y (drop k list) (λ z. q (sym z ∙ sym e))))

      pub summing_more : {below : ℕ} {new : List Float} → below ≡ get_or recv (get_or list (k - 1) 0) 0 → new ≡ passed_on (get_or list (k - 1) 0) below words → length new ≡ length words
          → Summing w recv list (k - 1) new
      summing_more {below} {new} q e long = record {
        place = omega (arith, s.place);
        long = long ∙ s.long;
        held = λ y l.
            ap (λ (t : List Float). get_or t y nan) e ∙ after below q (eqb below c) refl y l
            ∙ ap (λ (t : List ℕ). of_bits binary32 (area_word (been (length recv) recv t y) (step_of w y (get_or recv y 0)))) (sym front);
      }

-- ---- a block of the list
length_passed : (c r : ℕ) (words : List Float) → length (passed_on c r words) ≡ length words
length_passed c r words = go (eqb r c)
  where
    go : (b : Bool) → length (cond b words (set words r (of_bits binary32 (to_bits binary32 (get_or words r nan) + (to_bits binary32 (get_or words c nan) - to_bits binary32 (get_or words c nan) % 16))))) ≡ length words
    go true = refl
    go false = length-set words r _

module _ {w cells : ℕ} {recv list : List ℕ} (net : SteppedNetwork w recv cells) (work : WorkList (length recv) recv list) {k : ℕ} {words : List Float} (s : Summing w recv list k words) where
  -- the entries of a block that ends at position k are passed on
  pub summing_back : (block : List ℕ) (m : ℕ) → m + length block ≡ k → ((i : ℕ) → i < length block → get_or block i 0 ≡ get_or list (m + i) 0) → Summing w recv list m (passed_back recv block words)
  unfolding passed_back
  summing_back [] m e at = subst (λ (j : ℕ). Summing w recv list j words) (omega (arith, e)) s
  summing_back (c ∷ block) m e at =
      let rest : Summing w recv list (suc m) (passed_back recv block words) = summing_back block (suc m) (omega (arith, e)) (λ i l. at (suc i) (omega (arith, l)) ∙ ap (λ (j : ℕ). get_or list j 0) (omega arith)) in
      let here : c ≡ get_or list (suc m - 1) 0 = at 0 (omega arith) ∙ ap (λ (j : ℕ). get_or list j 0) (omega arith) in
      subst (λ (j : ℕ). Summing w recv list j (passed_on c (get_or recv c 0) (passed_back recv block words))) (omega arith)
      (summing_more net rest work (omega arith) (ap (λ (x : ℕ). get_or recv x 0) here) (ap (λ (x : ℕ). passed_on x (get_or recv c 0) (passed_back recv block words)) here) (length_passed c (get_or recv c 0) _))

  pub words_back : (block : List ℕ) (m : ℕ) → m + length block ≡ k → ((i : ℕ) → i < length block → get_or block i 0 ≡ get_or list (m + i) 0)
      → (j : ℕ) → j ≤ length block → Words (passed_back recv (drop j block) words)
  words_back block m e at j l =
      worded_words net (summing_worded net (summing_back (drop j block) (m + j) (omega (arith, e, length-drop j block))
      (λ i h. get_or-drop j block i 0 ∙ at (j + i) (omega (arith, h, length-drop j block)) ∙ ap (λ (x : ℕ). get_or list x 0) (omega arith))))

-- ---- words of areas that cells start with
module _ {area : Float} (a : WholeArea area) where
  area_back : T (in_unsigned binary32 32 (whole a.number)) × (to_unsigned 32 (whole a.number) ≡ a.number)
  unfolding in_float
  area_back = unsigned_back binary32 32 a.number (le→leb _ _ a.small) (omega (arith, a.small))

  pub area_cast : T (in_unsigned binary32 32 area)
  area_cast = subst (λ (x : Float). T (in_unsigned binary32 32 x)) (sym a.same) area_back.0

  area_number : to_unsigned 32 area ≡ a.number
  area_number = ap (to_unsigned 32) a.same ∙ area_back.1

  pub area_few : to_unsigned 32 area ≤ 2 ^ 24
  area_few = omega (arith, area_number, a.small)

  area_again : whole (to_unsigned 32 area) ≡ area
  area_again = ap whole area_number ∙ sym a.same

-- an area of 1 is a whole number
one_area : WholeArea (whole 1)
one_area = record { number = 1; same = refl; small = omega arith }

pub one_number : to_unsigned 32 (whole 1) ≡ 1
unfolding one_area
one_number = area_number one_area

pub start_length : (given : Bool) (areas : List Float) → length (start_areas given areas) ≡ length areas
start_length true _ = refl
start_length false areas = length-replicate (length areas) (whole 1)

-- a cell starts with the area of its place among all
module _ (given : Bool) (areas : List Float) {c : ℕ} {x : Float} (e : x ≡ get_or areas c nan) (l : c < length areas) where
  pub start_is : start_area given x ≡ get_or (start_areas given areas) c nan
  start_is = ap (start_area given) e ∙ go given
    where
      go : (b : Bool) → start_area b (get_or areas c nan) ≡ get_or (start_areas b areas) c nan
      go true = refl
      go false = sym (get_or-replicate (length areas) c (whole 1) nan l)

  pub start_whole : WholeAreas (start_areas given areas) → WholeArea (start_area given x)
  start_whole wholes = subst WholeArea (sym start_is) (wholes c (omega (arith, start_length given areas)))

-- the word of cell c with the area that stands in its place
abbrev pub word_with : ℕ → List ℕ → List Float → ℕ → Float
word_with w recv areas c = of_bits binary32 (area_word (to_unsigned 32 (get_or areas c nan)) (step_of w c (get_or recv c 0)))

module _ {w cells : ℕ} {recv : List ℕ} (areas : List Float) {words : List Float} (net : SteppedNetwork w recv cells) (wholes : WholeAreas areas) (long : length areas ≡ length recv)
    (e : words ≡ tabulate (length recv) (word_with w recv areas)) where
  with_word : (c : ℕ) → c < length recv → WordFor w c (get_or recv c 0) (get_or words c nan)
  with_word c l = record {
    area = to_unsigned 32 (get_or areas c nan);
    few = area_few (wholes c (omega arith));
    same = ap (λ (t : List Float). get_or t c nan) e ∙ get_d_tabulate (word_with w recv areas) (length recv) c nan l;
  }

  with_words : Worded w recv words
  with_words = record { long = ap length e ∙ length_tabulate (word_with w recv areas) (length recv); each = with_word }

  pub with_areas : AreaWords w recv areas words
  unfolding areas_in with_words with_word
  with_areas = record { worded = with_words; areas = ext_get_or nan _ _ (length_tabulate _ (length words) ∙ with_words.long ∙ sym long) at }
    where
      at : (c : ℕ) → c < length (areas_in words) → get_or (areas_in words) c nan ≡ get_or areas c nan
      at c h =
          let k : c < length words = omega (arith, length_tabulate (λ c. area_in (get_or words c nan)) (length words)) in
          let l : c < length recv = omega (arith, with_words.long) in
          sym (area_is words c k)
          ∙ ap whole (counted net with_words c l)
          ∙ area_again (wholes c (omega arith))

-- the areas along a work list are whole numbers
pub whole_areas : {n : ℕ} {recv list : List ℕ} {area : List Float} → n ≤ 2 ^ 24 → WorkList n recv list → area ≡ areas_along n recv list → WholeAreas area
unfolding area_of
whole_areas {n} {recv} {list} {area} few work along c l =
    let long : length area ≡ n = ap length along ∙ length_areas n few recv list in
    record {
      number = area_of n recv c;
      same = ap (λ (t : List Float). get_or t c nan) along ∙ (areas n few recv list work).area c (omega arith);
      small = omega (arith, count_le n (λ j. passes recv n j c));
    }

-- what the words ask
pub network_of : {w n : ℕ} {recv list : List ℕ} → 3 ≤ w → NearReceivers w n recv → WorkList n recv list → SteppedNetwork w recv n × WorkList (length recv) recv list
network_of {w} {n} {recv} {list} columns steps work =
    let long : n ≡ length recv = sym steps.receivers in
    (record { columns = columns; steps = subst (λ (k : ℕ). NearReceivers w k recv) long steps; long = long }, subst (λ (k : ℕ). WorkList k recv list) long work)

pub network_still : {w a b : ℕ} {recv : List ℕ} → SteppedNetwork w recv a → b ≡ a → SteppedNetwork w recv b
network_still net e = record { columns = net.columns; steps = net.steps; long = e ∙ net.long }

-- ---- receivers read ahead
-- an entry of the list among the words
pub record Entry (w : ℕ) (recv : List ℕ) (words : List Float) (c : ℕ) : Type 0 where
  pub passing : Passing w words c
  pub leads_to : receiver_in w c words ≡ get_or recv c 0

pub entry_at : {w : ℕ} {recv list : List ℕ} {words : List Float} → SteppedNetwork w recv (length words) → Worded w recv words → Along (length words) recv list → (j : ℕ) → j < length list → Entry w recv words (get_or list j 0)
entry_at {recv = recv} {list = list} net d along j l =
    let m : get_or list j 0 < length recv = omega (arith, along.entries j l, d.long) in
    record { passing = worded_passing net d (get_or list j 0) m; leads_to = leads net d (get_or list j 0) m }

module _ {recv list : List ℕ} where
  pub ahead_at : {k : ℕ} {below : List ℕ} → Ahead recv list 0 k below → (j : ℕ) → j < k → get_or below j 0 ≡ get_or recv (get_or list j 0) 0
  ahead_at {below = below} a j l = ap (λ (i : ℕ). get_or below i 0) (omega arith) ∙ a.each j (omega arith) l

  -- while they are read
  pub ahead_more : {j : ℕ} {below : List ℕ} {r : ℕ} → Ahead recv list 0 j below → r ≡ get_or recv (get_or list j 0) 0 → j < length below → Ahead recv list 0 (j + 1) (set below j r)
  ahead_more {j} {below} {r} a e l = record { order = omega arith; few = omega (arith, length-set below j r); each = each }
    where
      each : (i : ℕ) → 0 ≤ i → i < j + 1 → get_or (set below j r) (i - 0) 0 ≡ get_or recv (get_or list i 0) 0
      each i m n = ap (λ (k : ℕ). get_or (set below j r) k 0) (omega arith) ∙ go (ℕ_discrete i j)
        where
          go : Dec (i ≡ j) → get_or (set below j r) i 0 ≡ get_or recv (get_or list i 0) 0
          go (yes q) = rw q (get_or-set_same below j r 0 l ∙ e)
          go (no q) = get_or-set_other below j i r 0 q ∙ ahead_at a i (omega arith)

-- ---- a list whose first entries `rest` are taken apart before a block of them
module _ (rest list before block : List ℕ) (held : (i : ℕ) → i < length rest → get_or rest i 0 ≡ get_or list i 0) (e : rest ≡ before ++ block) where
  pub block_long : length before + length block ≡ length rest
  block_long = sym (ap length e ∙ length-append before block)

  pub before_at : (i : ℕ) → i < length before → get_or before i 0 ≡ get_or list i 0
  before_at i l = sym (get_or-append before block 0 i l) ∙ ap (λ (t : List ℕ). get_or t i 0) (sym e) ∙ held i (omega (arith, block_long))

  pub block_at : (i : ℕ) → i < length block → get_or block i 0 ≡ get_or list (length before + i) 0
  block_at i l = sym (get_or-append-add before block i 0) ∙ ap (λ (t : List ℕ). get_or t (length before + i) 0) (sym e) ∙ held (length before + i) (omega (arith, block_long))

  pub block_along : {n : ℕ} {recv : List ℕ} → length rest ≤ length list → Along n recv list → Along n recv block
  block_along within along = record { receivers = along.receivers; inside = along.inside; entries = λ i l. omega (arith, block_at i l, along.entries (length before + i) (omega (arith, block_long))) }
