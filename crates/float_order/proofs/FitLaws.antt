-- Lists whose elements fit. Single results fit by lib.Ieee.Fits and lib.Ieee.Bits: add-fits, sub-fits, mul-fits, div-fits, neg-fits, of_int-fits and
-- of_bits-fits; `search fitting` finds these and the laws below.
use Prim.Native.Nat.{ℕ, zero, suc}
use mathlib.Core.List.{List, [], ◌∷◌, ◌++◌, map}
use lib.Dec.{T}
use lib.ListN.{set, take, drop, replicate}
use lib.Ieee.{Float, binary32, fits}
use lib.Ieee.Bits.{of_bits-fits}
use lib.Ieee.Fits.{nan-fits, add-fits, sub-fits, mul-fits, div-fits, neg-fits, of_int-fits}
use Rattle.floats.proofs.FiniteLaws.{max_of_fits}
use Rattle.float_order.specs.Fit.{Fit}

pub fit_nil : Fit []
fit_nil i = nan-fits binary32

pub fit_cons : (x : Float) (xs : List Float) → T (fits binary32 x) → Fit xs → Fit (x ∷ xs)
fit_cons x xs p q zero = p
fit_cons x xs p q (suc i) = q i

pub fit_set : (hs : List Float) (j : ℕ) (v : Float) → Fit hs → T (fits binary32 v) → Fit (set hs j v)
fit_set [] j v p q = p
fit_set (x ∷ xs) zero v p q = fit_cons v xs q (λ i. p (suc i))
fit_set (x ∷ xs) (suc j) v p q = fit_cons x (set xs j v) (p zero) (fit_set xs j v (λ i. p (suc i)) q)

pub fit_replicate : (n : ℕ) (v : Float) → T (fits binary32 v) → Fit (replicate n v)
fit_replicate zero v p = fit_nil
fit_replicate (suc n) v p = fit_cons v (replicate n v) p (fit_replicate n v p)

pub fit_map : {A : Type 0} (f : A → Float) (l : List A) → ((a : A) → T (fits binary32 (f a))) → Fit (map f l)
fit_map f [] p = fit_nil
fit_map f (a ∷ l) p = fit_cons (f a) (map f l) (p a) (fit_map f l p)

pub fit_take : (n : ℕ) (hs : List Float) → Fit hs → Fit (take n hs)
fit_take zero hs p = fit_nil
fit_take (suc n) [] p = p
fit_take (suc n) (x ∷ xs) p = fit_cons x (take n xs) (p zero) (fit_take n xs (λ i. p (suc i)))

pub fit_drop : (n : ℕ) (hs : List Float) → Fit hs → Fit (drop n hs)
fit_drop zero hs p = p
fit_drop (suc n) [] p = p
fit_drop (suc n) (x ∷ xs) p = fit_drop n xs (λ i. p (suc i))

pub fit_append : (hs ks : List Float) → Fit hs → Fit ks → Fit (hs ++ ks)
fit_append [] ks p q = q
fit_append (x ∷ xs) ks p q = fit_cons x (xs ++ ks) (p zero) (fit_append xs ks (λ i. p (suc i)) q)

pub ruleset fitting = (fit_set, fit_replicate, fit_take, fit_drop, fit_append, max_of_fits, add-fits, sub-fits, mul-fits, div-fits, neg-fits, of_int-fits, of_bits-fits, nan-fits)
