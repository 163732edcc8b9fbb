-- Laws of the public call: which answer the tests give, what is accepted, and what the slices hold then.
use Rattle.std.specs.declared.result.Result.TheVariants.{Ok}
use Rattle.answers.specs.Outcome.{Answer}
use Prim.Native.Nat.{ℕ, ◌*◌}
use mathlib.Core.Path.{◌≡◌, refl, sym, ap, ◌∙◌, subst}
use mathlib.Core.Bool.{Bool, true, false, not, ◌&&◌, cond}
use mathlib.Core.List.{List}
use lib.ListN.{length}
use lib.Ieee.{Float}
use lib.Ieee.Scale.{finite}
use borrow.Author.Tests.{eqb-true, ltb-false, not-true, not-false}
use Rattle.loops.proofs.TestLaws.{neither, both, clash}
use Rattle.answers.specs.Outcome.{Outcome, gives, refused, refused_at, answer_of, given}
use Rattle.grid.specs.Sides.{bad_sides}
use Rattle.grid.specs.Heights.{first_not_finite, all_finite}
use Rattle.grid.proofs.SidesLaws.{good_sides}
use Rattle.drainage.specs.Ground.{square_land}
use Rattle.drainage.specs.declared.Land.{Land}
use Rattle.flood.specs.Slices.{AcceptedGrid}
use Rattle.flow.specs.declared.Lent.{Lent}
use Rattle.flow.specs.Route.{lent_by, bad_net_lengths, route_answer, accepted, Enough, Holding, NetSlices, Routed}

abbrev by_tests : Bool → Bool → Bool → Bool → ℕ → Outcome (Unit {0})
by_tests s l f a k = cond s (refused 1) (cond l (refused 3) (cond f (cond a (gives tt) (refused_at 5 k)) (refused 4)))

given_is : (s l f a : Bool) (k : ℕ) → given (by_tests s l f a k) ≡ (not s && (not l && (f && a)))
given_is true l f a k = refl
given_is false true f a k = refl
given_is false false true true k = refl
given_is false false true false k = refl
given_is false false false a k = refl

pub enough : (w h : ℕ) (l : Lent) → bad_net_lengths (w * h) l ≡ false → Enough (w * h) l
enough w h l e =
    let a = neither _ _ e in
    let b = neither _ _ a.1 in
    let c = neither _ _ b.1 in
    let d = neither _ _ c.1 in
    let f = neither _ _ d.1 in
    let g = neither _ _ f.1 in
    record {
      heights = eqb-true l.heights (w * h) (not-false _ a.0);
      order = eqb-true l.order (w * h) (not-false _ b.0);
      receivers = eqb-true l.receivers (w * h) (not-false _ c.0);
      spill = eqb-true l.spill (w * h) (not-false _ d.0);
      areas = eqb-true l.areas (w * h) (not-false _ f.0);
      queue = ltb-false l.queue (w * h) g.0;
      status = ltb-false l.status (w * h) g.1;
    }

module _ (w h : ℕ) (hs : List Float) (water : Float) (l : Lent) where
  -- the answer, once the tests are known
  module _ (s b f a : Bool) (p : bad_sides w h ≡ s) (q : bad_net_lengths (w * h) l ≡ b) (r : finite water ≡ f) (t : all_finite hs ≡ a) where
    pub answer_is : by_tests s b f a (first_not_finite hs) ≡ route_answer w h hs water l
    answer_is = λ i. by_tests (sym p i) (sym q i) (sym r i) (sym t i) (first_not_finite hs)

  module _ (r : Answer) (e : answer_of r ≡ route_answer w h hs water l) where
    pub answered : accepted w h hs water l ≡ given (answer_of r)
    answered = ap given (sym e)

-- what is accepted
module _ (w h : ℕ) (hs : List Float) (water : Float) (l : Lent) (e : accepted w h hs water l ≡ true) where
  tests : (not (bad_sides w h) && (not (bad_net_lengths (w * h) l) && (finite water && all_finite hs))) ≡ true
  tests = sym (given_is (bad_sides w h) (bad_net_lengths (w * h) l) (finite water) (all_finite hs) (first_not_finite hs)) ∙ e

  past_sides : (not (bad_sides w h) ≡ true) × ((not (bad_net_lengths (w * h) l) && (finite water && all_finite hs)) ≡ true)
  past_sides = both (not (bad_sides w h)) (not (bad_net_lengths (w * h) l) && (finite water && all_finite hs)) tests

  past_lengths : (not (bad_net_lengths (w * h) l) ≡ true) × ((finite water && all_finite hs) ≡ true)
  past_lengths = both (not (bad_net_lengths (w * h) l)) (finite water && all_finite hs) past_sides.1

  pub accepted_enough : Enough (w * h) l
  accepted_enough = enough w h l (not-true (bad_net_lengths (w * h) l) past_lengths.0)

  pub accepted_grid : l.heights ≡ length hs → AcceptedGrid w h hs
  accepted_grid n = record {
    sides = good_sides w h (not-true (bad_sides w h) past_sides.0);
    cells = sym n ∙ accepted_enough.heights;
    finites = (both (finite water) (all_finite hs) past_lengths.1).1;
  }

module _ (w h : ℕ) (hs : List Float) (water : Float) (old : NetSlices) where
  pub routed_refused : (r : Answer) → answer_of r ≡ route_answer w h hs water (lent_by hs old) → given (answer_of r) ≡ false → Routed w h hs water old r old
  routed_refused r e f =
      record { answer = e; routed = λ y. absurd (clash y (answered w h hs water (lent_by hs old) r e ∙ f)); kept = λ _. refl }

  pub routed_done : answer_of {A = Unit {0}} (Ok tt) ≡ route_answer w h hs water (lent_by hs old) → (new : NetSlices) {land : Land} → land ≡ square_land water
      → Holding w h hs land new.order new.recv new.spill new.area → Routed w h hs water old (Ok tt) new
  routed_done e new g s =
      record {
        answer = e;
        routed = λ _. subst (λ (l : Land). Holding w h hs l new.order new.recv new.spill new.area) g s;
        kept = λ f. absurd (clash (answered w h hs water (lent_by hs old) (Ok tt) e) f);
      }
