-- What adding areas along a list requires of the receivers and of the list.
use Rattle.std.specs.Prelude.{ℕ, ◌<◌, ◌≡◌, List, length, get_or}

-- there are n receivers, and every receiver and every entry of the list is one of the n cells
pub record Along (n : ℕ) (recv list : List ℕ) : Type 0 where
  pub receivers : length recv ≡ n
  pub inside : (c : ℕ) → c < n → get_or recv c 0 < n
  pub entries : (i : ℕ) → i < length list → get_or list i 0 < n
