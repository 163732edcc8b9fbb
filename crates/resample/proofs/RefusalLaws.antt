-- Refusals in number order: what is known where a test has failed or held, and what a refusal says of the whole answer.
use Rattle.std.specs.declared.result.Result.TheVariants.{Ok, Err}
use Rattle.answers.specs.Outcome.{Answer}
use Prim.Native.Nat.{ℕ, ◌*◌, ◌≤◌}
use mathlib.Core.Path.{◌≡◌, refl, sym, ap, ◌∙◌}
use mathlib.Core.Bool.{true, false, not, ◌||◌}
use mathlib.Core.List.{List}
use native.Mathlib.Omega.{arith}
use lib.ListN.{length}
use lib.Dec.{eqb, ltb}
use lib.Ieee.{Float}
use borrow.Author.Tests.{eqb-true, eqb-false, ltb-false, not-false}
use Rattle.loops.proofs.TestLaws.{neither, through}
use Rattle.answers.specs.Outcome.{Outcome, gives, refused, refused_at, answer_of}
use Rattle.answers.specs.declared.Refusal.{Refusal}
use Rattle.grid.specs.Sides.{bad_sides}
use Rattle.grid.specs.Heights.{first_not_finite, all_finite}
use Rattle.answers.proofs.OutcomeLaws.{refused_given, not_refused, not_refused_unless, by_outcome, refused_whole, refused_kept}
use Rattle.grid.proofs.SidesLaws.{good_sides}
use Rattle.resample.specs.WorkSize.{Within}
use Rattle.resample.specs.Blocks.{bad_reduced, map_refusal}

reduced_good : (r s : ℕ) → bad_reduced r s ≡ false → (1 ≤ r) × (r ≤ s)
reduced_good r s e =
    let p = neither (eqb r 0) (ltb s r) e in
    let n : r ≡ 0 → ⊥ = eqb-false r 0 p.0 in
    omega (arith, ltb-false s r p.1)

pub sides_good : (w h : ℕ) → bad_sides w h ≡ false → (w ≤ 4096) × (h ≤ 4096)
sides_good w h e = let r = good_sides w h e in (r.wide, r.high)

-- sides and reduced sides in range
pub within_good : (w h dw dh : ℕ) → bad_sides w h ≡ false → (bad_reduced dw w || bad_reduced dh h) ≡ false → Within w h dw dh
within_good w h dw dh e f =
    let p = neither (bad_reduced dw w) (bad_reduced dh h) f in
    omega (arith, sides_good w h e, reduced_good dw w p.0, reduced_good dh h p.1)

pub reduced_small : (w h dw dh : ℕ) → bad_sides w h ≡ false → (bad_reduced dw w || bad_reduced dh h) ≡ false → (dw ≤ 4096) × (dh ≤ 4096)
reduced_small w h dw dh e f = omega (arith, within_good w h dw dh e f)

-- an answer that refuses is the whole answer, and what is kept is kept
module _ (map : List Float) (w h dlen dw dh : ℕ) where
  abbrev tests : (A : Type 0) → (ℕ → A) → (ℕ → ℕ → A) → A → A
  tests A number at then = map_refusal map w h dlen dw dh number at then

  alike : (A : Type 0) (number : ℕ → A) (at : ℕ → ℕ → A) (then : A) → by_outcome number at then (map_refusal map w h dlen dw dh refused refused_at (gives tt)) ≡ tests A number at then
  alike A number at then = simp (through (by_outcome number at then))

  pub map_refused : (a : Answer) (r : Refusal) → answer_of a ≡ map_refusal map w h dlen dw dh refused refused_at (gives tt) → a ≡ Err r
      → ((x : Outcome (Unit {0})) → answer_of a ≡ map_refusal map w h dlen dw dh refused refused_at x) × ((d x : List Float) → d ≡ map_refusal map w h dlen dw dh (λ n. d) (λ n c. d) x)
  map_refused a r e f =
      let none = refused_given f in
      (refused_whole tests alike (answer_of a) e none, refused_kept tests alike (answer_of a) e none)

-- an accepted map: no test holds, the reduced grid lies within the full one, and both slices are their grid's
pub record AcceptedMaps (map : List Float) (w h dlen dw dh : ℕ) : Type 0 where
  pub sides : bad_sides w h ≡ false
  pub reduced : (bad_reduced dw w || bad_reduced dh h) ≡ false
  pub lengths : (not (eqb (length map) (w * h)) || not (eqb dlen (dw * dh))) ≡ false
  pub finite : all_finite map ≡ true
  pub in_grid : Within w h dw dh
  pub full : length map ≡ w * h
  pub small : dlen ≡ dw * dh

pub map_good : (map : List Float) (w h dlen dw dh : ℕ) (a : Answer) → answer_of a ≡ map_refusal map w h dlen dw dh refused refused_at (gives tt) → a ≡ Ok tt
    → AcceptedMaps map w h dlen dw dh
map_good map w h dlen dw dh r e f =
    let a = not_refused (bad_sides w h) (refused 1) _ tt refl (sym e ∙ ap answer_of f) in
    let b = not_refused (bad_reduced dw w || bad_reduced dh h) (refused 2) _ tt refl a.1 in
    let c = not_refused (not (eqb (length map) (w * h)) || not (eqb dlen (dw * dh))) (refused 3) _ tt refl b.1 in
    let d = not_refused_unless (all_finite map) tt (refused_at 5 (first_not_finite map)) tt refl c.1 in
    let q = neither (not (eqb (length map) (w * h))) (not (eqb dlen (dw * dh))) c.0 in
    record {
      sides = a.0;
      reduced = b.0;
      lengths = c.0;
      finite = d.0;
      in_grid = within_good w h dw dh a.0 b.0;
      full = eqb-true (length map) (w * h) (not-false (eqb (length map) (w * h)) q.0);
      small = eqb-true dlen (dw * dh) (not-false (eqb dlen (dw * dh)) q.1);
    }

-- past an accepted map: what the rest says is what the whole says
pub past_map : {map : List Float} {w h dlen dw dh : ℕ} → AcceptedMaps map w h dlen dw dh → {A : Type 0} (number : ℕ → A) (at : ℕ → ℕ → A) {x then : A} → x ≡ then
    → x ≡ map_refusal map w h dlen dw dh number at then
past_map s number at e = rw (s.sides, s.reduced, s.lengths, s.finite) e
