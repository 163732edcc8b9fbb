use Rattle.stream_run.proofs.ReadLaws.{accepted_stream}
use Rattle.stream_run.proofs.ReliefLaws.{part_length, part_again, part_relief}
use lib.ListN.{replicate}
use lib.Seq.{length-take-le}
use lib.Ieee.{binary32, of_bits}
use mathlib.Core.Path.{refl, sym}
use native.Mathlib.Omega.{arith}
use Rattle.stream_run.proofs.write_run.Goals as goal

pub overflow_mul-n : goal.overflow_mul-n
overflow_mul-n c = omega (arith, (accepted_stream _ _ c.requires).few)

pub slice_bounds-map-end : goal.slice_bounds-map-end
slice_bounds-map-end c = omega (arith, (accepted_stream _ _ c.requires).few)

pub slice_bounds-run_stream-end : goal.slice_bounds-run_stream-end
slice_bounds-run_stream-end c = omega (arith, part_length _ _ c.requires (replicate 4096 (of_bits binary32 0)) refl)

pub run_stream-run-requires : goal.run_stream-run-requires
run_stream-run-requires c = record { accepted_stream = accepted_stream _ _ c.requires; map_len = part_length _ _ c.requires _ refl }

pub slice_bounds-map-end-2 : goal.slice_bounds-map-end-2
slice_bounds-map-end-2 c = part_again _ _ c.requires _ refl c.run_stream-run.new.map c.run_stream-run.auto.map

pub slice_bounds-write_output-end : goal.slice_bounds-write_output-end
slice_bounds-write_output-end c = sym (length-take-le _ _ (part_again _ _ c.requires _ refl c.run_stream-run.new.map c.run_stream-run.auto.map))

pub returns : goal.returns
returns c = part_relief _ _ c.requires _ refl c.run_stream-run.new.map c.run_stream-run.auto.map c.run_stream-run.result c.run_stream-run.ensures c.write_output.ensures
