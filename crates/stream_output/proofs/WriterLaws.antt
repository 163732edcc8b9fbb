-- What the writer leaves on each of its ways.
use Rattle.std.specs.declared.result.Result.TheVariants.{Ok, Err}
use Prim.Native.Nat.{ℕ, ◌+◌, ◌*◌, ◌≤◌, ◌<◌}
use mathlib.Core.Path.{◌≡◌, refl, sym, ap, ◌∙◌}
use mathlib.Core.Bool.{Bool, true, false, not, ◌||◌, cond}
use mathlib.Core.List.{List, ◌++◌}
use native.Mathlib.Omega.{arith}
use borrow.Author.Tests.{lt-ltb, le-ltb, eq-eqb, ne_eqb}
use lib.Dec.{eqb, ltb}
use lib.ListN.{length, drop, length-append}
use lib.Seq.{sets, sets-eq}
use lib.Ieee.{Float}
use Rattle.answers.specs.Outcome.{Outcome, gives, refused}
use Rattle.answers.specs.declared.Refusal.TheVariants.{Side, Length}
use Rattle.grid.specs.Sides.{bad_sides}
use Rattle.stream_bytes.proofs.PutLaws.{sets_next}
use Rattle.answers.specs.declared.RunAnswer.{RunAnswer}
use Rattle.stream_output.specs.Output.{grid_record, row_records, end_record, for_input, output_of, output_by, run_number, rows_length, written_of, left_of, Wrote}
use Rattle.stream_output.proofs.OutputLaws.{rows_length_lem}

-- a run of bytes at the front
front : (old new bytes : List ℕ) (n : ℕ) → length bytes ≡ n → n ≤ length old → new ≡ sets old 0 bytes → new ≡ bytes ++ drop n old
front old new bytes n e l f =
    let k : 0 + length bytes ≡ n = omega (arith, e) in
    f ∙ sets-eq bytes old 0 (omega (arith, e)) ∙ ap (λ (k : ℕ). bytes ++ drop k old) k

module _ (w h : ℕ) (map : List Float) (r : RunAnswer) (old : List ℕ) {n : ℕ} (en : n ≡ run_number r) {b : Bool} (eb : b ≡ for_input n) where
  input : {t : Bool} → b ≡ t → for_input (run_number r) ≡ t
  input e = ap for_input (sym en) ∙ sym eb ∙ e

  -- refused for the input
  module _ (t : b ≡ true) where
    answered : (l : Bool) → ltb (length old) 16 ≡ l → written_of w h (run_number r) (length map) (length old) ≡ cond l (refused 3) (gives 16)
    unfolding written_of
    answered l e = rw (input t, e)

    pub end_short : length old < 16 → Wrote w h map r old (Err Length) old
    end_short l =
        let e : written_of w h (run_number r) (length map) (length old) ≡ refused 3 = answered true (lt-ltb (length old) 16 l) in
        record { answers = sym e; leaves = sym (ap (λ (o : Outcome ℕ). left_of o old (output_by w h r map)) e) }

    ended : end_record n 0 0 0 ≡ output_by w h r map
    unfolding output_of
    ended = ap (λ (k : ℕ). end_record k 0 0 0) en ∙ sym (rw (input t))

    pub end_alone : 16 ≤ length old → {new : List ℕ} → new ≡ sets old 0 (end_record n 0 0 0) → Wrote w h map r old (Ok 16) new
    end_alone l {new} f =
        let e : written_of w h (run_number r) (length map) (length old) ≡ gives 16 = answered false (le-ltb (length old) 16 l) in
        record {
          answers = sym e;
          leaves =
              front old new (end_record n 0 0 0) 16 refl l f ∙ ap (λ (l : List ℕ). l ++ drop 16 old) ended
              ∙ sym (ap (λ (o : Outcome ℕ). left_of o old (output_by w h r map)) e);
        }

  -- the whole output
  module _ (t : b ≡ false) where
    answers_whole : (s c : Bool) → bad_sides w h ≡ s → (not (eqb (length map) (w * h)) || ltb (length old) (22 + rows_length w h)) ≡ c
        → written_of w h (run_number r) (length map) (length old) ≡ cond s (refused 1) (cond c (refused 3) (gives (22 + rows_length w h)))
    unfolding written_of
    answers_whole s c e f = rw (input t, e, f)

    kept : (s c : Bool) (e : bad_sides w h ≡ s) (f : (not (eqb (length map) (w * h)) || ltb (length old) (22 + rows_length w h)) ≡ c)
        → left_of (written_of w h (run_number r) (length map) (length old)) old (output_by w h r map)
        ≡ left_of (cond s (refused 1) (cond c (refused 3) (gives (22 + rows_length w h)))) old (output_by w h r map)
    kept s c e f = ap (λ (o : Outcome ℕ). left_of o old (output_by w h r map)) (answers_whole s c e f)

    pub whole_sides : {s : Bool} → s ≡ bad_sides w h → s ≡ true → Wrote w h map r old (Err Side) old
    whole_sides {s} e f = record { answers = sym (answers_whole true _ (sym e ∙ f) refl); leaves = sym (kept true _ (sym e ∙ f) refl) }

    module _ {s : Bool} (es : s ≡ bad_sides w h) (fs : s ≡ false) where
      refused_length : (not (eqb (length map) (w * h)) || ltb (length old) (22 + rows_length w h)) ≡ true → Wrote w h map r old (Err Length) old
      refused_length f = record { answers = sym (answers_whole false true (sym es ∙ fs) f); leaves = sym (kept false true (sym es ∙ fs) f) }

      pub whole_cells : (length map ≡ w * h → ⊥) → Wrote w h map r old (Err Length) old
      whole_cells d = refused_length (rw (ne_eqb (length map) (w * h) d))

      module _ (full : length map ≡ w * h) {k : ℕ} (ek : k ≡ rows_length w h) where
        pub whole_room : length old < 22 + k → Wrote w h map r old (Err Length) old
        whole_room l = refused_length (rw (eq-eqb (length map) (w * h) full) (lt-ltb (length old) (22 + rows_length w h) (omega (arith, ek))))

        room : 22 + k ≤ length old → (not (eqb (length map) (w * h)) || ltb (length old) (22 + rows_length w h)) ≡ false
        room l = rw (eq-eqb (length map) (w * h) full) (le-ltb (length old) (22 + rows_length w h) (omega (arith, ek)))

        written : grid_record w h ++ (row_records map w h ++ end_record n r.incisions r.passes r.questions) ≡ output_by w h r map
        unfolding output_of
        written =
            ap (λ (k : ℕ). grid_record w h ++ (row_records map w h ++ end_record k r.incisions r.passes r.questions)) en
            ∙ sym (rw (input t))

        bytes_length : length (grid_record w h ++ (row_records map w h ++ end_record n r.incisions r.passes r.questions)) ≡ 22 + rows_length w h
        bytes_length =
            omega (arith, rows_length_lem map w h, length-append (row_records map w h) (end_record n r.incisions r.passes r.questions))

        pub whole_output : 22 + k ≤ length old → {a b c : List ℕ} → a ≡ sets old 0 (grid_record w h) → b ≡ sets a 6 (row_records map w h)
            → c ≡ sets b (6 + k) (end_record n r.incisions r.passes r.questions) → Wrote w h map r old (Ok (22 + k)) c
        whole_output l {a} {b} {c} ea eb ec =
            let e : written_of w h (run_number r) (length map) (length old) ≡ gives (22 + rows_length w h) = answers_whole false false (sym es ∙ fs) (room l) in
            let two : b ≡ sets old 0 (grid_record w h ++ row_records map w h) = sets_next old 0 (grid_record w h) (row_records map w h) 6 refl ea eb in
            let at : 6 + k ≡ 0 + length (grid_record w h ++ row_records map w h) = omega (arith, ek, rows_length_lem map w h) in
            let three : c ≡ sets old 0 ((grid_record w h ++ row_records map w h) ++ end_record n r.incisions r.passes r.questions) =
            sets_next old 0 (grid_record w h ++ row_records map w h) (end_record n r.incisions r.passes r.questions) (6 + k) at two ec in
            record {
              answers = ap (λ (k : ℕ). gives (22 + k)) ek ∙ sym e;
              leaves =
                  front old c (grid_record w h ++ (row_records map w h ++ end_record n r.incisions r.passes r.questions)) (22 + rows_length w h) bytes_length (omega (arith, ek)) three
                  ∙ ap (λ (l : List ℕ). l ++ drop (22 + rows_length w h) old) written
                  ∙ sym (kept false false (sym es ∙ fs) (room l));
            }
