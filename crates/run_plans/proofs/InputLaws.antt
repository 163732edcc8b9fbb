-- What a whole run knows of the working sides of an input that it accepts.
use Prim.Native.Nat.{ℕ, ◌*◌, ◌≤◌}
use mathlib.Core.Path.{◌≡◌, sym, ap₂, ◌∙◌, subst}
use mathlib.Core.Bool.{Bool, true, ◌&&◌}
use mathlib.Core.List.{List}
use native.Mathlib.Nat.{mul-le-mul}
use native.Mathlib.Omega.{arith}
use borrow.Author.Tests.{eqb-true}
use lib.Dec.{eqb}
use lib.Ieee.{Float}
use Rattle.loops.proofs.TestLaws.{both}
use Rattle.grid.specs.Sides.{InRange}
use Rattle.grid.specs.declared.Sides.{Sides}
use Rattle.grid.proofs.SidesLaws.{in_range}
use Rattle.resample.specs.WorkSize.{Within, work_size}
use Rattle.resample.proofs.WorkLaws.{work_within}
use Rattle.run_settings.specs.Accepted.{AcceptedRun}

module _ {w h dw dh : ℕ} (n : Within w h dw dh) where
  -- the working sides are a grid's
  pub within_range : InRange dw dh
  within_range = record { columns = n.dw_low; rows = n.dh_low; wide = omega (arith, n.dw_high, n.wide); high = omega (arith, n.dh_high, n.high) }

  -- with no more cells than the map
  pub within_cells : dw * dh ≤ w * h
  within_cells = mul-le-mul n.dw_high n.dh_high

  -- and with as many where its sides are the map's
  pub own_cells : {k : ℕ} {t : Bool} → t ≡ (eqb dw w && eqb dh h) → t ≡ true → k ≡ w * h → k ≡ dw * dh
  own_cells f t e =
      let s = both (eqb dw w) (eqb dh h) (sym f ∙ t) in
      e ∙ ap₂ (λ (a b : ℕ). a * b) (sym (eqb-true dw w s.0)) (sym (eqb-true dh h s.1))

pub accepted_within : {w h : ℕ} {bad : Bool} {map : List Float} {scratch : ℕ} → AcceptedRun w h bad map scratch → (res : ℕ) {work : Sides} → work ≡ work_size w h res
    → Within w h work.w work.h
accepted_within {w} {h} a res e = subst (λ (g : Sides). Within w h g.w g.h) (sym e) (work_within w h res (in_range a.sides))
