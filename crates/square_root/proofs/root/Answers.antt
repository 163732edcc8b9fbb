use mathlib.Core.Path.{sym, ap, ◌∙◌, subst}
use mathlib.Core.Bool.{Bool, false, ◌&&◌}
use lib.Dec.{T}
use lib.IntN.{pos}
use lib.Ieee.{fin, of_bits, le}
use Rattle.square_root.proofs.FloatLaws.{given, refuses}
use Rattle.square_root.proofs.root.Goals as goal
use Rattle.square_root.proofs.root.Goals.{else-is_finite-via-then-is_finite+else-x, else-is_finite-via-else-is_finite}

pub returns-then-x : goal.returns-then-x
unfolding of_bits
returns-then-x c = given c.args.x c.root_of.result (subst T (sym c.well_formed.0.1) tt) (sym c.is_finite.ensures ∙ c.if-is_finite.true) c.if-x.true c.root_of.ensures

pub returns-else-is_finite : goal.returns-else-is_finite
unfolding of_bits
returns-else-is_finite c =
    elim c.else-is_finite.branch [
      | else-is_finite-via-then-is_finite+else-x w ↦
          refuses c.args.x (ap (λ (s : Bool). s && le (fin false 0 (pos 0)) c.args.x) (sym c.is_finite.ensures ∙ w.if-is_finite.true) ∙ w.if-x.false)
      | else-is_finite-via-else-is_finite w ↦
          refuses c.args.x (ap (λ (s : Bool). s && le (fin false 0 (pos 0)) c.args.x) (sym c.is_finite.ensures ∙ w.if-is_finite.false))
    ]
