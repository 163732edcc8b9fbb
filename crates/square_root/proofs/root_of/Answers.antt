use mathlib.Core.Path.{sym, ap, ◌∙◌, subst}
use lib.Dec.{T}
use lib.Ieee.{binary32, nan_bits, of_bits, div, fits}
use lib.Ieee.Bits.{of_bits-to_bits}
use Rattle.square_root.specs.Root.{root_of}
use Rattle.square_root.proofs.FloatLaws.{no_nan_above, positive_bits, at_infinity, at_zero, at_none}
use Rattle.square_root.proofs.root_of.Goals as goal
use Rattle.square_root.proofs.root_of.Goals.{Start}

-- x is a binary32
held : (c : Start) → T (fits binary32 c.args.x)
held c = subst T (sym c.well_formed.0.1) tt

pub float_from_bits-t-3 : goal.float_from_bits-t-3
unfolding nan_bits
float_from_bits-t-3 c = tt

pub float_to_bits-x : goal.float_to_bits-x
unfolding of_bits
float_to_bits-x c = no_nan_above c.args.x c.if-x.true

pub positive_root-requires : goal.positive_root-requires
unfolding of_bits
positive_root-requires c = positive_bits c.args.x (held (goal.at.positive_root-requires c).Start) c.if-x.true c.if-x-2.true

pub returns-then-x-2 : goal.returns-then-x-2
returns-then-x-2 c = c.positive_root.ensures ∙ ap root_of (of_bits-to_bits binary32 c.args.x (held (goal.at.returns-then-x-2 c).Start))

pub returns-then-x : goal.returns-then-x
unfolding of_bits
returns-then-x c = at_infinity c.args.x c.if-x.true c.if-x-2.false

pub returns-then-x-3 : goal.returns-then-x-3
unfolding of_bits
returns-then-x-3 c = at_zero c.args.x c.if-x-3.true

pub returns : goal.returns
unfolding of_bits div
returns c = at_none c.args.x c.if-x.false c.if-x-3.false
