use Rattle.std.proofs.Common.{◌≡◌, ℕ, ◌<◌, ◌≤◌, true}
use Rattle.grid.specs.Sides.{cell_of}
use Rattle.lent_receivers.specs.Receivers.{receiver_test}
use Rattle.lent_receivers.proofs.Receivers.first_in_row.Given as goal

abbrev pub invariant-loop-x : goal.invariant-loop-x
invariant-loop-x l = (l.x ≤ l.self.size.w) × ((i : ℕ) → i < l.x → receiver_test l.self.size.w l.self.size.h l.self.recv.now (cell_of l.self.size.w i l.y) ≡ true)
