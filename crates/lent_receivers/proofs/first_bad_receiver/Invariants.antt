use Rattle.std.proofs.Common.{◌≡◌, ℕ, ◌*◌, ◌<◌, ◌≤◌, true}
use Rattle.lent_receivers.specs.Receivers.{receiver_test}
use Rattle.lent_receivers.proofs.first_bad_receiver.Given as goal

abbrev pub invariant-loop-y : goal.invariant-loop-y
invariant-loop-y l = (l.y ≤ l.size.h) × ((c : ℕ) → c < l.y * l.size.w → receiver_test l.size.w l.size.h l.recv c ≡ true)
