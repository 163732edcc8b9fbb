use Rattle.stream_run.proofs.ReliefLaws.{relief_inside}
use lib.Seq.{length-take-le}
use mathlib.Core.Path.{sym}
use native.Mathlib.Omega.{arith}
use Rattle.relief.proofs.main.Goals as goal

pub slice_bounds-out-end : goal.slice_bounds-out-end
slice_bounds-out-end c = omega (arith, relief_inside _ c.output_buffer-out.result c.in-Ok.k c.relief-written.ensures c.in-Ok.is, c.relief-written.auto.out)

pub slice_bounds-write_stdout-end : goal.slice_bounds-write_stdout-end
slice_bounds-write_stdout-end c = sym (length-take-le _ c.relief-written.new.out (omega (arith, relief_inside _ c.output_buffer-out.result c.in-Ok.k c.relief-written.ensures c.in-Ok.is, c.relief-written.auto.out)))
