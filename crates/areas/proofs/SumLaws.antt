-- The loop of `accumulate`.
use Prim.Native.Nat.{ℕ, suc}
use mathlib.Core.Path.{◌≡◌, sym, ap, ◌∙◌}
use mathlib.Core.List.{List, [], ◌∷◌, ◌++◌}
use lib.ListN.{length, get_or, take, drop, replicate}
use lib.Seq.{split_at}
use lib.Ieee.{Float, binary32, of_bits}
use Rattle.std.proofs.lemmas.List.{append-nil}
use Rattle.std.proofs.Common.{append_assoc}
use Rattle.drainage.specs.Ways.{WorkList, added_down, areas_along}
use Rattle.drainage.proofs.WorkListLaws.{entry_lt}
use Rattle.receiver_steps.specs.Step.{NearReceivers}
use Rattle.areas.specs.Sums.{Along}

-- the areas once the entries behind `rest` are added
pub record Adding (n : ℕ) (recv list rest : List ℕ) (area : List Float) : Type 0 where
  pub added : List ℕ
  pub parts : list ≡ rest ++ added
  pub long : length area ≡ n
  pub held : area ≡ areas_along n recv added

module _ {n : ℕ} {recv list : List ℕ} where
  pub adding_none : {area : List Float} → length area ≡ n → area ≡ replicate n (of_bits binary32 0x3f80_0000) → Adding n recv list list area
  unfolding areas_along
  adding_none l e = record { added = []; parts = sym (append-nil list); long = l; held = e }

  module _ {rest : List ℕ} {area : List Float} (s : Adding n recv list rest area) where
    module _ (before : List ℕ) (c : ℕ) (e : rest ≡ before ++ c ∷ []) where
      parts : list ≡ before ++ c ∷ s.added
      parts = s.parts ∙ ap (λ (l : List ℕ). l ++ s.added) e ∙ append_assoc before (c ∷ []) s.added

      pub adding_more : {next : List Float} → next ≡ added_down c (get_or recv c 0) area → length next ≡ length area → Adding n recv list before next
      unfolding areas_along
      adding_more q l = record { added = c ∷ s.added; parts = parts; long = l ∙ s.long; held = q ∙ ap (added_down c (get_or recv c 0)) s.held }

-- near receivers with a work list are cells to add areas along
pub along_of : {w n : ℕ} {recv list : List ℕ} → NearReceivers w n recv → WorkList n recv list → Along n recv list
along_of {list = list} steps work = record { receivers = steps.receivers; inside = steps.inside; entries = λ i l. entry_lt work (take i list) (get_or list i 0) (drop (suc i) list) (split_at list i 0 l) }
