-- What a host may read from a word, and what the stream check leaves out.
use Prim.Native.Nat.{ℕ, zero, suc, ◌*◌, ◌^◌, ◌<◌}
use native.Mathlib.Omega.{arith}
use mathlib.Core.Path.{◌≡◌, refl, sym, ap, subst}
use mathlib.Core.Bool.{Bool, true, false, ◌&&◌, cond}
use mathlib.Core.List.{List}
use lib.Arith.{digits_div, digits_mod}
use lib.Dec.{T, ltb}
use lib.Ieee.{Float, nan, inf, fin, binary32, fits, to_bits, le}
use lib.Ieee.Scale.{finite}
use lib.Ieee.Bits.{to_bits-lt}
use lib.Ieee.Fits.{round-fits}
use lib.IntN.{pos}
use Rattle.loops.proofs.TestLaws.{by_test, either, behind}
use Rattle.answers.specs.Outcome.{Outcome, gives, refused, refused_at}
use Rattle.answers.proofs.OutcomeLaws.{not_refused_unless}
use Rattle.grid.specs.Sides.{bad_sides}
use Rattle.grid.specs.Heights.{all_finite}
use Rattle.square_root.specs.Root.{root_of, root_answer}
use Rattle.resample.specs.WorkSize.{work_answer}
use Rattle.stream_bytes.specs.Bytes.{number2}
use Rattle.stream.specs.Stream.{Parsed, header_at, parsed_of, bad_grid, bad_rest, bad_settings, read_stream}
use Rattle.layout_calls.specs.Word.{number_from, sides_value, Unpacks, WordsUnpack, NineLeftOut}
use Rattle.layout_calls.proofs.WordLaws.{sides_small}

-- a word is taken apart where every value is below 2^32
unpacks : {A : Type 0} (value : A → ℕ) (answer : Outcome A) → ((a : A) → gives a ≡ answer → value a < 2 ^ 32) → Unpacks value answer
unpacks value (gives a) small = record { number = digits_div 0 (small a refl); rest = digits_mod 0 (small a refl) }
unpacks value (refused n) small = record { number = digits_div n {r = 0} (omega arith); rest = digits_mod n {r = 0} (omega arith) }
unpacks value (refused_at n p) small = record { number = digits_div n {r = 0} (omega arith); rest = digits_mod n {r = 0} (omega arith) }

-- the root of a binary32 value is one
root_fits : (x : Float) → T (fits binary32 x) → T (fits binary32 (root_of x))
unfolding root_of fits
root_fits nan f = tt
root_fits (inf true) f = tt
root_fits (inf false) f = tt
root_fits (fin s zero e) f = f
root_fits (fin true (suc m) e) f = tt
root_fits (fin false (suc m) e) f = round-fits binary32 false _ _

root_small : (x : Float) → T (fits binary32 x) → (v : Float) → gives v ≡ root_answer x → to_bits binary32 v < 2 ^ 32
unfolding root_answer
root_small x f v e =
    let a = not_refused_unless (finite x && le (fin false 0 (pos 0)) x) (root_of x) (refused 4) v refl (sym e) in
    subst (λ (r : Float). to_bits binary32 r < 2 ^ 32) a.1 (to_bits-lt binary32 (root_of x) (root_fits x f))

pub words_unpack : WordsUnpack
words_unpack =
    record {
      root = λ x f. unpacks (to_bits binary32) (root_answer x) (root_small x f);
      sides = λ w h res. unpacks sides_value (work_answer w h res) (λ g e. let s = sides_small w h res g e in omega (arith, s.0, s.1));
      check = λ s. unpacks (λ _. 0) (read_stream false s) (λ p e. omega arith);
    }

pub nine_left_out : (s : List ℕ) → NineLeftOut s
unfolding read_stream
nine_left_out s =
    record {
      alike = alike (bad_grid s) (bad_sides (number2 s 2) (number2 s 4)) (ltb 4096 (number2 s 2 * number2 s 4)) _;
      never = λ e. never (bad_grid s) (bad_sides (number2 s 2) (number2 s 4)) (bad_rest s (number2 s 2) (number2 s 4)) (bad_settings (header_at s).settings) (all_finite (parsed_of s (header_at s)).heights) _ _ (ap number_from e);
    }
  where
    alike :
        (a b c : Bool) (rest : Outcome Parsed)
        → (cond a (refused 8) (cond b (refused 1) (cond (true && c) (refused 9) rest)) ≡ refused 9 → ⊥)
        → cond a (refused 8) (cond b (refused 1) (cond (true && c) (refused 9) rest)) ≡ cond a (refused 8) (cond b (refused 1) (cond (false && c) (refused 9) rest))
    alike a b c rest n =
        behind a (refused 8) (λ ea. behind b (refused 1) (λ eb. by_test (λ o. o ≡ rest) c (refused 9) rest (λ ec. absurd (n (rw (ea, eb, ec)))) (λ ec. refl)))

    other : (b : Bool) (x y : Outcome Parsed) → (number_from x ≡ 9 → ⊥) → (number_from y ≡ 9 → ⊥) → number_from (cond b x y) ≡ 9 → ⊥
    other = either (λ o. number_from o ≡ 9 → ⊥)

    never :
        (a b c d e : Bool) (p : Parsed) (k : ℕ)
        → number_from (cond a (refused 8) (cond b (refused 1) (cond c (refused 8) (cond d (refused 4) (cond e (gives p) (refused_at 5 k)))))) ≡ 9 → ⊥
    never a b c d e p k =
        other a _ _ (λ q. omega (arith, q)) (other b _ _ (λ q. omega (arith, q)) (other c _ _ (λ q. omega (arith, q)) (other d _ _ (λ q. omega (arith, q)) (other e _ _ (λ q. omega (arith, q)) (λ q. omega (arith, q))))))
