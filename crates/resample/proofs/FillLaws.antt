-- The averages are binary32 values, as every table of such values is.
use Prim.Native.Nat.{ℕ, zero, suc, ◌*◌, ◌%◌, ◌/◌}
use mathlib.Core.List.{List, [], ◌∷◌}
use lib.Dec.{T}
use lib.Ieee.{Float, binary32, fits}
use lib.Ieee.Fits.{div-fits}
use Rattle.float_order.specs.Fit.{Fit}
use Rattle.float_order.proofs.FitLaws.{fit_nil, fit_cons, fit_append}
use Rattle.loops.specs.Loops.{tabulate}
use Rattle.loops.proofs.TableLaws.{length_tabulate}
use Rattle.resample.specs.Blocks.{average_of, downsampled, Values}

-- the average that reduced cell c gets
abbrev pub average_at : List Float → ℕ → ℕ → ℕ → ℕ → ℕ → Float
average_at src w h dw dh c = average_of src w h dw dh (c % dw) (c / dw)

-- a table of binary32 values
fit_table : (f : ℕ → Float) → ((i : ℕ) → T (fits binary32 (f i))) → (n : ℕ) → Fit (tabulate n f)
unfolding tabulate
fit_table f p zero = fit_nil
fit_table f p (suc n) = fit_append (tabulate n f) (f n ∷ []) (fit_table f p n) (fit_cons (f n) [] (p n) fit_nil)

pub table_values : (f : ℕ → Float) → ((i : ℕ) → T (fits binary32 (f i))) → (n : ℕ) → Values n (tabulate n f)
table_values f p n = record { count = length_tabulate f n; fit = fit_table f p n }

-- the averages are one value for each reduced cell
pub averages_values : (src : List Float) (w h dw dh : ℕ) → Values (dw * dh) (downsampled src w h dw dh)
unfolding downsampled average_of
averages_values src w h dw dh = table_values (average_at src w h dw dh) (λ c. div-fits binary32 _ _) (dw * dh)
