-- The map of an accepted stream is one that a run does not refuse, with scratch for 4,096 cells.
use Prim.Native.Nat.{ℕ}
use mathlib.Core.Path.{◌≡◌, ap, ◌∙◌}
use mathlib.Core.List.{List}
use lib.ListN.{length}
use lib.Ieee.{Float}
use Rattle.grid.specs.Heights.{all_finite}
use Rattle.run_settings.specs.Accepted.{AcceptedRun}
use Rattle.stream_rows.specs.Rows.{heights_at}
use Rattle.stream.specs.Stream.{bad_settings}
use Rattle.stream.specs.declared.Header.{Header}
use Rattle.stream_rows.proofs.CellLaws.{heights_length}
use Rattle.stream_run.specs.StreamRun.{AcceptedStream}

-- the map of an accepted stream
module _ (s : List ℕ) (head : Header) (a : AcceptedStream s head) where
  pub loaded_accepted : {map : List Float} → map ≡ heights_at s head.rows head.size.w head.size.h → AcceptedRun head.size.w head.size.h (bad_settings head.settings) map 4096
  loaded_accepted {map} e = record {
    sides = a.framed.sides;
    cells = ap length e ∙ heights_length s head.rows head.size.w head.size.h;
    room = a.few;
    settings = a.settings;
    finites = ap all_finite e ∙ a.finites;
  }
