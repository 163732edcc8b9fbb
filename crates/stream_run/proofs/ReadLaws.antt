-- What is known of a stream that is accepted.
use Prim.Native.Nat.{ℕ, ◌*◌, ◌≤◌}
use mathlib.Core.Path.{◌≡◌, refl, sym, ap, subst, ◌∙◌}
use mathlib.Core.Bool.{Bool, true, cond}
use mathlib.Core.List.{List}
use borrow.Author.Tests.{ltb-false}
use lib.Dec.{ltb}
use Rattle.loops.proofs.TestLaws.{either}
use Rattle.answers.specs.Outcome.{Outcome, gives, refused, refused_at, refusal_of, number_of}
use Rattle.answers.specs.declared.Refusal.{Refusal}
use Rattle.answers.proofs.OutcomeLaws.{refusal_by_lem, not_refused, not_refused_unless}
use Rattle.grid.specs.Sides.{bad_sides}
use Rattle.grid.specs.Heights.{first_not_finite, all_finite}
use Rattle.grid.specs.declared.Sides.{Sides}
use Rattle.stream_bytes.specs.Bytes.{number2}
use Rattle.stream.specs.Stream.{Parsed, header_at, parsed_of, bad_grid, bad_rest, bad_settings, read_stream}
use Rattle.stream.specs.declared.Header.{Header}
use Rattle.stream.proofs.ReaderLaws.{read_framed, header_size}
use Rattle.stream_output.specs.Output.{for_input}
use Rattle.stream_run.specs.StreamRun.{AcceptedStream}

-- what an accepted stream gives is what stands in it
read_accepted : (s : List ℕ) (p : Parsed) → gives p ≡ read_stream true s → (parsed_of s (header_at s) ≡ p) × AcceptedStream s (header_at s)
unfolding read_stream
read_accepted s p e =
    let w = number2 s 2 in
    let h = number2 s 4 in
    let a = not_refused (bad_grid s) (refused 8) _ _ refl (sym e) in
    let b = not_refused (bad_sides w h) (refused 1) _ _ refl a.1 in
    let c = not_refused (ltb 4096 (w * h)) (refused 9) _ _ refl b.1 in
    let d = not_refused (bad_rest s w h) (refused 8) _ _ refl c.1 in
    let f = not_refused (bad_settings (header_at s).settings) (refused 4) _ _ refl d.1 in
    let g = not_refused_unless (all_finite (parsed_of s (header_at s)).heights) _ (refused_at 5 (first_not_finite (parsed_of s (header_at s)).heights)) _ refl f.1 in (
      g.1,
      record {
        framed = read_framed true s refl a.0 refl refl b.0 refl c.0 refl d.0 refl;
        few = subst (λ (g : Sides). g.w * g.h ≤ 4096) (sym (header_size s)) (ltb-false 4096 (w * h) c.0);
        settings = f.0;
        finites = g.0;
      },
    )

pub accepted_stream : (s : List ℕ) (head : Header) → gives (parsed_of s head) ≡ read_stream true s → AcceptedStream s head
accepted_stream s head e =
    let r = read_accepted s (parsed_of s head) e in
    subst (AcceptedStream s) (ap (λ (p : Parsed). p.header) r.0) r.1

-- a stream is refused by 1 to 9 only
abbrev input_only : Outcome Parsed → Bool
input_only (gives p) = true
input_only (refused number) = for_input number
input_only (refused_at number place) = for_input number

refused_input : (s : List ℕ) → input_only (read_stream true s) ≡ true
unfolding read_stream
refused_input s =
    allowed (bad_grid s) _ _ refl (allowed (bad_sides (number2 s 2) (number2 s 4)) _ _ refl (allowed (ltb 4096 (number2 s 2 * number2 s 4)) _ _ refl
    (allowed (bad_rest s (number2 s 2) (number2 s 4)) _ _ refl (allowed (bad_settings (header_at s).settings) _ _ refl (allowed (all_finite (parsed_of s (header_at s)).heights) _ _ refl refl)))))
  where
    allowed : (b : Bool) (x y : Outcome Parsed) → input_only x ≡ true → input_only y ≡ true → input_only (cond b x y) ≡ true
    allowed = either (λ o. input_only o ≡ true)

pub refused_number : (s : List ℕ) (why : Refusal) → read_stream true s ≡ refusal_of why → for_input (number_of why) ≡ true
refused_number s why e =
    sym (refusal_by_lem (λ o n p. input_only (o Parsed) ≡ for_input n) (λ n l. refl) (λ n p l. refl) why) ∙ ap input_only (sym e) ∙ refused_input s
