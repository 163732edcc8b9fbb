use Rattle.floats.specs.contracts.whole_above.{NEAREST-type}
use denote.Param.{number}
use Prim.Native.Nat.{ℕ}
use mathlib.Core.Path.{◌≡◌}
use mathlib.Core.Bool.{true, false, not}
use borrow.Author.Tests.{eq-eqb, ne_eqb}
use Rattle.std.proofs.Common.{Bool, sym, ap, ◌∙◌, arith}
use lib.Ieee.{of_bits}
use Rattle.floats.specs.Stand.{whole_by, rule_of}
use Rattle.floats.proofs.ValueLaws.{holds}
use Rattle.floats.proofs.WholeLaws.{whole_big, trunc_of_cut, round_of_cut}
use Rattle.floats.proofs.whole_above.Goals as goal

-- what the test of the const parameter says
chosen : (n : ℕ) → (n ≡ 0 → ⊥) → NEAREST-type (number n) ≡ true
chosen n h = ap not (ne_eqb n 0 h)

left : (n : ℕ) → n ≡ 0 → NEAREST-type (number n) ≡ false
left n e = ap not (eq-eqb n 0 e)

pub returns-then-x : goal.returns-then-x
unfolding of_bits
returns-then-x g c = whole_big _ _ c.requires (holds c.well_formed.0.1) c.if-x.true

pub overflow_add-result : goal.overflow_add-result
unfolding of_bits
overflow_add-result g c = omega (arith, (round_of_cut _ c.requires (holds c.well_formed.0.1) c.if-x.false _ c.saturating_f32_to_u64.ensures).0)

pub int_to_float-result : goal.int_to_float-result
unfolding of_bits
int_to_float-result g c = (round_of_cut _ c.requires (holds c.well_formed.0.1) c.if-x.false _ c.saturating_f32_to_u64.ensures).1

pub returns-then-this-ne0 : goal.returns-then-this-ne0
unfolding of_bits
returns-then-this-ne0 g c = (round_of_cut _ c.requires (holds c.well_formed.0.1) c.if-x.false _ c.saturating_f32_to_u64.ensures).2
    ∙ ap (λ (b : Bool). whole_by (rule_of b) c.args.x) (sym (chosen _ c.if-this-ne0.true))

pub int_to_float-result-2 : goal.int_to_float-result-2
unfolding of_bits
int_to_float-result-2 g c = (trunc_of_cut _ c.requires c.if-x.false _ c.saturating_f32_to_u64-2.ensures).0

pub returns : goal.returns
unfolding of_bits
returns g c = (trunc_of_cut _ c.requires c.if-x.false _ c.saturating_f32_to_u64-2.ensures).1
    ∙ ap (λ (b : Bool). whole_by (rule_of b) c.args.x) (sym (left _ c.if-this-ne0.false))
