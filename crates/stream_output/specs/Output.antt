-- Document 01, 'The stream': the bytes that go out. The grid record, the rows, and 45 4E with the refusal number or 0
-- (two bytes), incisions, passes, questions (four each). On 1 to 9 only 45 4E comes, counts 0.
use Rattle.std.specs.declared.result.Result.{Result}
use Rattle.std.specs.declared.result.Result.TheVariants.{Ok, Err}
use Rattle.answers.specs.declared.Refusal.{Refusal}
use Rattle.std.specs.Prelude.{ℕ, zero, suc, ◌+◌, ◌*◌, ◌≡◌, Bool, not, ◌&&◌, ◌||◌, cond, List, [], ◌++◌, length, drop, eqb, ltb, Float}
use Rattle.answers.specs.Outcome.{Outcome, gives, refused, refused_at, refusal_of, number_in, answer_of}
use Rattle.grid.specs.Sides.{bad_sides}
use Rattle.stream_bytes.specs.Bytes.{bytes2, bytes4, grid_mark, row_mark, end_mark}
use Rattle.stream_words.specs.Words.{bits_at, word_bytes}
use Rattle.stream_rows.specs.Rows.{row_length}
use Rattle.answers.specs.declared.RunAnswer.{RunAnswer}

abbrev pub grid_record : ℕ → ℕ → List ℕ
grid_record w h = grid_mark ++ (bytes2 w ++ bytes2 h)

-- the heights of n cells from a cell on, four bytes each
abbrev pub height_bytes : List Float → ℕ → ℕ → List ℕ
height_bytes map cell n = word_bytes n (bits_at map cell)

abbrev pub row_record : List Float → ℕ → ℕ → List ℕ
row_record map cell w = row_mark ++ height_bytes map cell w

-- the first rows
unfoldable pub row_records : List Float → ℕ → ℕ → List ℕ
row_records map w zero = []
row_records map w (suc y) = row_records map w y ++ row_record map (y * w) w

abbrev pub end_record : ℕ → ℕ → ℕ → ℕ → List ℕ
end_record number incisions passes questions =
    end_mark ++ (bytes2 number ++ (bytes4 incisions ++ (bytes4 passes ++ bytes4 questions)))

-- 1 to 9: refused for the input
abbrev pub for_input : ℕ → Bool
for_input number = ltb 0 number && ltb number 10

-- the output of a run that answered `number` with its counts, on a w × h map
unfoldable pub output_of : ℕ → ℕ → ℕ → ℕ → ℕ → ℕ → List Float → List ℕ
unfolding row_records
output_of w h number incisions passes questions map =
    cond (for_input number) (end_record number 0 0 0)
    (grid_record w h ++ (row_records map w h ++ end_record number incisions passes questions))

abbrev pub run_number : RunAnswer → ℕ
run_number r = number_in (answer_of r.answer)

abbrev pub output_by : ℕ → ℕ → RunAnswer → List Float → List ℕ
output_by w h r map = output_of w h (run_number r) r.incisions r.passes r.questions map

-- the number of bytes of all rows; the grid record before them has 6 bytes, the end record behind them 16
abbrev pub rows_length : ℕ → ℕ → ℕ
rows_length w h = h * row_length w

-- What the writer answers: the number of bytes that it wrote, or 1, a side of a map that is to be written, or 3, a map
-- of another length or too short a slice.
unfoldable pub written_of : ℕ → ℕ → ℕ → ℕ → ℕ → Outcome ℕ
written_of w h number cells room =
    cond (for_input number) (cond (ltb room 16) (refused 3) (gives 16))
    (cond (bad_sides w h) (refused 1)
    (cond (not (eqb cells (w * h)) || ltb room (22 + rows_length w h)) (refused 3) (gives (22 + rows_length w h))))

-- the slice after the call: the output, and bytes beyond it as they were; the whole slice as it was where the writer
-- refuses
abbrev pub left_of : Outcome ℕ → List ℕ → List ℕ → List ℕ
left_of (gives n) old output = output ++ drop n old
left_of (refused number) old output = old
left_of (refused_at number place) old output = old

pub record Wrote (w h : ℕ) (map : List Float) (r : RunAnswer) (old : List ℕ) (answer : Result ℕ Refusal) (new : List ℕ) : Type 0 where
  pub answers : answer_of answer ≡ written_of w h (run_number r) (length map) (length old)
  pub leaves : new ≡ left_of (written_of w h (run_number r) (length map) (length old)) old (output_by w h r map)
