-- The header of a whole stream, and the order in which a stream is refused.
use Prim.Native.Nat.{ℕ, ◌+◌, ◌-◌, ◌*◌, ◌≤◌}
use mathlib.Core.Path.{◌≡◌, refl, sym, ap, subst, ◌∙◌}
use mathlib.Core.Bool.{Bool, true, false, not, ◌&&◌, ◌||◌, cond}
use mathlib.Core.List.{List}
use native.Mathlib.Omega.{arith}
use borrow.Author.Tests.{ltb-false, eqb-true, eqb-false, ne_eqb, eq-eqb, not-false}
use lib.Ieee.{Float}
use Rattle.std.specs.declared.option.Option.{Option}
use Rattle.std.specs.declared.option.Option.TheVariants.{Some, None}
use Rattle.loops.specs.Loops.{place_among}
use Rattle.loops.proofs.PlaceLaws.{place_some, place_none}
use Rattle.grid.proofs.HeightsLaws.{first_le}
use lib.Dec.{eqb, ltb}
use lib.ListN.{length}
use Rattle.loops.proofs.TestLaws.{neither}
use Rattle.answers.specs.Outcome.{Outcome, gives, refused, refused_at}
use Rattle.grid.specs.Sides.{bad_sides, InRange}
use Rattle.grid.specs.Heights.{first_not_finite, all_finite}
use Rattle.grid.specs.declared.Sides.{Sides}
use Rattle.grid.proofs.SidesLaws.{good_sides}
use Rattle.stream_bytes.specs.Bytes.{number4, fluvial_mark, thermal_mark, same, mark_at, marked}
use Rattle.stream_rows.specs.Rows.{row_at, rows_marked, heights_at, Framed}
use Rattle.stream.specs.Stream.{Parsed, sides_at, settings_length, rows_at, settings_at, Recorded, header_at, parsed_of, bad_grid, bad_rest, bad_settings, values_of, read_stream, Whole}
use Rattle.stream.specs.declared.Settings.{Settings}
use Rattle.stream.specs.declared.Header.{Header}
use Rattle.stream.proofs.RecordLaws.{settings_few}
use Rattle.stream_rows.proofs.CellLaws.{heights_length}

module _ {s : List ℕ} {w h : ℕ} (whole : Whole s w h) where
  opened : (eqb (settings_length (mark_at s 6)) 0 || (not (eqb (length s) (row_at (rows_at s) w h)) || not (rows_marked s (rows_at s) w h))) ≡ false
  unfolding bad_rest
  opened = whole.rest

  some_settings : settings_length (mark_at s 6) ≡ 0 → ⊥
  some_settings = eqb-false (settings_length (mark_at s 6)) 0 (neither _ _ opened).0

  filled_up : length s ≡ row_at (rows_at s) w h
  filled_up = eqb-true (length s) (row_at (rows_at s) w h) (not-false _ (neither _ _ (neither (eqb (settings_length (mark_at s 6)) 0) _ opened).1).0)

  -- the settings record has a mark, and stands before the rows
  pub whole_recorded : Recorded s
  whole_recorded = record { some = go (same (mark_at s 6) fluvial_mark) (same (mark_at s 6) thermal_mark) some_settings; room = omega (arith, filled_up) }
    where
      go : (f t : Bool) → (◌≡◌ {A = ℕ} (cond f 28 (cond t 24 0)) 0 → ⊥) → 32 ≤ 8 + cond f 28 (cond t 24 0)
      go true t d = omega arith
      go false true d = omega arith
      go false false d = absurd (d refl)

  whole_framed : Framed s (rows_at s) w h
  whole_framed = record { begins = omega (arith, settings_few s (settings_length (mark_at s 6)) refl); sides = whole.sides; whole = filled_up }

-- a settings record of 46 4C
pub room_fluvial : (s : List ℕ) {b : Bool} → Recorded s → b ≡ marked s 6 fluvial_mark → b ≡ true → 36 ≤ length s
room_fluvial s r e t = let rows : rows_at s ≡ 36 = rw (sym e ∙ t) in omega (arith, r.room)

pub header_is : (s : List ℕ) {n stop : ℕ} {size : Sides} {f : Settings} → size ≡ sides_at s → n ≡ settings_length (mark_at s 6) → f ≡ settings_at s → stop ≡ number4 s (8 + n - 4)
    → ◌≡◌ {A = Header} (record { size = size; settings = f; stop = stop; rows = 8 + n }) (header_at s)
unfolding header_at
header_is s a e c d = λ i. record { size = a i; settings = c i; stop = (d ∙ ap (λ (k : ℕ). number4 s (8 + k - 4)) e) i; rows = 8 + e i }

pub header_size : (s : List ℕ) → (header_at s).size ≡ sides_at s
unfolding header_at
header_size s = refl

header_rows : (s : List ℕ) → (header_at s).rows ≡ rows_at s
unfolding header_at
header_rows s = refl

-- 5, or the stream is accepted
module _ (s : List ℕ) (head : Header) where
  abbrev cells : ℕ
  cells = head.size.w * head.size.h

  abbrev heights : List Float
  heights = heights_at s head.rows head.size.w head.size.h

  module _ {b : Bool} (e : b ≡ bad_settings head.settings) (t : b ≡ false) {found : Option ℕ} (f : found ≡ place_among cells (first_not_finite heights)) where
    full : length heights ≡ cells
    full = heights_length s head.rows head.size.w head.size.h

    pub values_height : {cell : ℕ} → found ≡ Some cell → ◌≡◌ {A = Outcome Parsed} (refused_at 5 cell) (values_of (parsed_of s head))
    unfolding all_finite
    values_height q =
        let p = place_some {n = cells} {c = first_not_finite heights} (sym f ∙ q) in
        let other : first_not_finite heights ≡ length heights → ⊥ = λ g. omega (arith, p.1, g, full) in
        ap (refused_at 5) p.0 ∙ sym (rw (sym e ∙ t, ne_eqb _ _ other))

    pub values_given : found ≡ None → ◌≡◌ {A = Outcome Parsed} (gives (parsed_of s head)) (values_of (parsed_of s head))
    unfolding all_finite
    values_given q =
        let p = place_none {n = cells} {c = first_not_finite heights} (sym f ∙ q) in
        let all : first_not_finite heights ≡ length heights = omega (arith, p, first_le heights, full) in
        sym (rw (sym e ∙ t, eq-eqb _ _ all))

-- the tests of a stream in their order
module _ (limited : Bool) (s : List ℕ) where
  pub read_grid : {b : Bool} → b ≡ bad_grid s → b ≡ true → ◌≡◌ {A = Outcome Parsed} (refused 8) (read_stream limited s)
  unfolding read_stream
  read_grid e t = sym (rw (sym e ∙ t))

  module _ {g : Bool} (eg : g ≡ bad_grid s) (fg : g ≡ false) where
    pub read_buffer : 6 ≤ length s
    unfolding bad_grid
    read_buffer = ltb-false (length s) 6 (neither _ _ (sym eg ∙ fg)).0

    module _ {size : Sides} (e : size ≡ sides_at s) where
      pub read_sides : {b : Bool} → b ≡ bad_sides size.w size.h → b ≡ true → ◌≡◌ {A = Outcome Parsed} (refused 1) (read_stream limited s)
      unfolding read_stream
      read_sides f t = sym (rw (sym eg ∙ fg, ap (λ (g : Sides). bad_sides g.w g.h) (sym e) ∙ sym f ∙ t))

      module _ {a : Bool} (ea : a ≡ bad_sides size.w size.h) (fa : a ≡ false) where
        pub read_range : InRange size.w size.h
        read_range = good_sides size.w size.h (sym ea ∙ fa)

        pub read_cells : {b : Bool} → b ≡ (limited && ltb 4096 (size.w * size.h)) → b ≡ true → ◌≡◌ {A = Outcome Parsed} (refused 9) (read_stream limited s)
        unfolding read_stream
        read_cells f t =
            sym (rw (sym eg ∙ fg, ap (λ (g : Sides). bad_sides g.w g.h) (sym e) ∙ sym ea ∙ fa, ap (λ (g : Sides). limited && ltb 4096 (g.w * g.h)) (sym e) ∙ sym f ∙ t))

        module _ {n : Bool} (en : n ≡ (limited && ltb 4096 (size.w * size.h))) (fn : n ≡ false) where
          rest_left : read_stream limited s ≡ cond (bad_rest s size.w size.h) (refused 8) (values_of (parsed_of s (header_at s)))
          unfolding read_stream
          rest_left =
              rw (sym eg ∙ fg, ap (λ (g : Sides). bad_sides g.w g.h) (sym e) ∙ sym ea ∙ fa, ap (λ (g : Sides). limited && ltb 4096 (g.w * g.h)) (sym e) ∙ sym en ∙ fn)
              (ap (λ (g : Sides). cond (bad_rest s g.w g.h) (refused 8) (values_of (parsed_of s (header_at s)))) (sym e))

          pub read_rest : {b : Bool} → b ≡ bad_rest s size.w size.h → b ≡ true → ◌≡◌ {A = Outcome Parsed} (refused 8) (read_stream limited s)
          read_rest f t = sym (rest_left ∙ rw (sym f ∙ t))

          module _ {r : Bool} (er : r ≡ bad_rest s size.w size.h) (fr : r ≡ false) where
            pub read_whole : Whole s size.w size.h
            read_whole = record { sides = read_range; rest = sym er ∙ fr }

            pub read_framed : {head : Header} → head ≡ header_at s → Framed s head.rows head.size.w head.size.h
            read_framed {head} f =
                subst (λ (p : Header). Framed s p.rows p.size.w p.size.h) (sym f)
                (subst (λ (n : ℕ). Framed s n (header_at s).size.w (header_at s).size.h) (sym (header_rows s))
                (subst (λ (g : Sides). Framed s (rows_at s) g.w g.h) (e ∙ sym (header_size s)) (whole_framed read_whole)))

            pub read_values : {head : Header} → head ≡ header_at s → {o : Outcome Parsed} → o ≡ values_of (parsed_of s head) → o ≡ read_stream limited s
            read_values f g = g ∙ ap (λ (p : Header). values_of (parsed_of s p)) f ∙ sym (rest_left ∙ rw (sym er ∙ fr))
