-- Along any work list every cell ends with its settled value, for any combination from downstream.
use Prim.Native.Nat.{ℕ, zero, suc, ◌≤◌, ◌<◌}
use native.Mathlib.Omega.{arith}
use native.Mathlib.Decide.{ℕ_discrete}
use mathlib.Core.Path.{◌≡◌, refl, sym, ap, ◌∙◌, subst}
use mathlib.Core.List.{List, [], ◌∷◌, ◌++◌, append-nil, append_assoc}
use lib.ListN.{length, get_or, set, length-append, length-set}
use lib.Seq.{get_or-set_same, get_or-set_other, ext_get_or}
use Rattle.loops.proofs.CountLaws.{one_same, one_other, times_last, times_here}
use Rattle.loops.specs.Counts.{one_if, times}
use Rattle.drainage.specs.Ways.{WorkList}
use Rattle.drainage.proofs.WorkListLaws.{split, entry_lt, receiver_lt, list_length}
use Rattle.incision_paths.specs.Settled.{made_along, settled, AlongAlike}
use Rattle.incision_paths.proofs.PlaceLaws.{Falls, place_in, falls}

module _ {A : Type 0} (absent : A) (recv : List ℕ) (make : ℕ → A → A → A) (start : List A)
    -- a cell that is its own receiver is made of its own value alone
    (alone : (c : ℕ) (y z : A) → c < length start → get_or recv c 0 ≡ c → make c (get_or start c absent) y ≡ make c (get_or start c absent) z) where
  -- the values once the cells of `done` are made
  record Made (done : List ℕ) (l : List A) : Type 0 where
    long : length l ≡ length start
    made : (c : ℕ) → 0 < times c done → (k : ℕ) → length done ≤ k → get_or l c absent ≡ settled absent recv make start k c
    still : (c : ℕ) → times c done ≡ 0 → get_or l c absent ≡ get_or start c absent

  made_none : Made [] start
  unfolding times
  made_none = record { long = refl; made = λ c h. absurd (omega arith); still = λ c h. refl }

  -- one cell more, whose receiver, if another cell, is done
  module _ {done : List ℕ} {l : List A} (m : Made done l) (c : ℕ) (inside : c < length start) (fresh : times c done ≡ 0) where
    value : A
    value = make c (get_or l c absent) (get_or l (get_or recv c 0) absent)

    value_settled : ((get_or recv c 0 ≡ c → ⊥) → 0 < times (get_or recv c 0) done) → (k : ℕ) → length done ≤ k → value ≡ settled absent recv make start (suc k) c
    unfolding value settled
    value_settled after k h = ap (λ (x : A). make c x (get_or l (get_or recv c 0) absent)) (m.still c fresh) ∙ go (ℕ_discrete (get_or recv c 0) c)
      where
        go : Dec (get_or recv c 0 ≡ c) → make c (get_or start c absent) (get_or l (get_or recv c 0) absent) ≡ make c (get_or start c absent) (settled absent recv make start k (get_or recv c 0))
        go (yes e) = alone c _ _ inside e
        go (no d) = ap (make c (get_or start c absent)) (m.made (get_or recv c 0) (after d) k h)

    made_more : ((get_or recv c 0 ≡ c → ⊥) → 0 < times (get_or recv c 0) done) → Made (done ++ (c ∷ [])) (set l c value)
    made_more after = record { long = length-set l c value ∙ m.long; made = λ d t k h. made d t k h (ℕ_discrete d c); still = λ d t. still d t (ℕ_discrete d c) }
      where
        at_c : (k : ℕ) → length (done ++ (c ∷ [])) ≤ k → get_or (set l c value) c absent ≡ settled absent recv make start k c
        at_c zero h = absurd (omega (arith, length-append done (c ∷ [])))
        at_c (suc k) h = get_or-set_same l c value absent (omega (arith, m.long)) ∙ value_settled after k (omega (arith, length-append done (c ∷ [])))

        made : (d : ℕ) → 0 < times d (done ++ (c ∷ [])) → (k : ℕ) → length (done ++ (c ∷ [])) ≤ k → Dec (d ≡ c) → get_or (set l c value) d absent ≡ settled absent recv make start k d
        made d t k h (yes e) = rw e (at_c k h)
        made d t k h (no n) =
            get_or-set_other l c d value absent n
            ∙ m.made d (omega (arith, times_last d c done, one_other c d (λ e. n (sym e)))) k (omega (arith, length-append done (c ∷ [])))

        still : (d : ℕ) → times d (done ++ (c ∷ [])) ≡ 0 → Dec (d ≡ c) → get_or (set l c value) d absent ≡ get_or start d absent
        still d t (yes e) = absurd (omega (arith, times_last d c done, ap (one_if c) e, one_same c c refl))
        still d t (no n) = get_or-set_other l c d value absent n ∙ m.still d (omega (arith, times_last d c done))

  module _ (list : List ℕ) (n : ℕ) (long : length start ≡ n) (w : WorkList n recv list) where
    made_run : (done rest : List ℕ) (l : List A) → list ≡ done ++ rest → Made done l → Made list (made_along absent recv make rest l)
    unfolding made_along value
    made_run done [] l e m = subst (λ (d : List ℕ). Made d l) (sym (e ∙ append-nil done)) m
    made_run done (c ∷ rest) l e m =
        let inside : c < n = entry_lt w done c rest e in
        let fresh : times c done ≡ 0 = omega (arith, split w c done c rest e, times_here c rest, w.once c inside) in
        made_run (done ++ (c ∷ [])) rest _ (e ∙ sym (append_assoc done (c ∷ []) rest)) (made_more m c (omega arith) fresh (w.after done c rest e))

    -- every cell is settled
    pub along_settled : (c : ℕ) → c < n → (k : ℕ) → length list ≤ k → get_or (made_along absent recv make list start) c absent ≡ settled absent recv make start k c
    along_settled c h = (made_run [] list start refl made_none).made c (omega (arith, w.once c h))

    pub along_long : length (made_along absent recv make list start) ≡ n
    along_long = (made_run [] list start refl made_none).long ∙ long

    -- so that it fits to its receiver's
    pub settled_down : (c : ℕ) → c < n → settled absent recv make start n c ≡ make c (get_or start c absent) (settled absent recv make start n (get_or recv c 0))
    unfolding settled
    settled_down c h = sym (along_settled c h n (omega (arith, list_length w))) ∙ along_settled c h (suc n) (omega (arith, list_length w))

-- two rules that make the same of each cell
module _ {A : Type 0} (absent : A) (recv : List ℕ) (f g : ℕ → A → A → A) (n : ℕ) (a b : List A) (few : length a ≡ n) (long : length b ≡ n)
    (alike : (c : ℕ) (x : A) → c < n → f c (get_or a c absent) x ≡ g c (get_or b c absent) x)
    (alone : (c : ℕ) (y z : A) → c < n → get_or recv c 0 ≡ c → g c (get_or b c absent) y ≡ g c (get_or b c absent) z) where
  f_alone : (c : ℕ) (y z : A) → c < n → get_or recv c 0 ≡ c → f c (get_or a c absent) y ≡ f c (get_or a c absent) z
  f_alone c y z l e = alike c y l ∙ alone c y z l e ∙ sym (alike c z l)

  -- what a cell settles at after more cells than stand before it
  settled_alike : (place : ℕ → ℕ) → Falls n recv place → ((c : ℕ) → c < n → get_or recv c 0 < n) → (k c : ℕ) → c < n → place c < k
      → settled absent recv f a k c ≡ settled absent recv g b k c
  unfolding settled
  settled_alike place p inside zero c l h = absurd (omega arith)
  settled_alike place p inside (suc k) c l h = alike c _ l ∙ go (settled_alike place p inside k (get_or recv c 0) (inside c l)) (ℕ_discrete (get_or recv c 0) c)
    where
      go : (place (get_or recv c 0) < k → settled absent recv f a k (get_or recv c 0) ≡ settled absent recv g b k (get_or recv c 0)) → Dec (get_or recv c 0 ≡ c) → g c (get_or b c absent) (settled absent recv f a k (get_or recv c 0)) ≡ g c (get_or b c absent) (settled absent recv g b k (get_or recv c 0))
      go ih (yes e) = alone c _ _ l e
      go ih (no d) = ap (g c (get_or b c absent)) (ih (omega (arith, p.lower c l d)))

  both_alike : (first second : List ℕ) → WorkList n recv first → WorkList n recv second → made_along absent recv f first a ≡ made_along absent recv g second b
  both_alike first second v w =
      let size : length (made_along absent recv f first a) ≡ n = along_long absent recv f a (λ c y z h. f_alone c y z (omega (arith, few))) first n few v in
      ext_get_or absent _ _ (size ∙ sym (along_long absent recv g b (λ c y z h. alone c y z (omega (arith, long))) second n long w))
      (λ c t.
      let l : c < n = omega arith in
      along_settled absent recv f a (λ c y z h. f_alone c y z (omega (arith, few))) first n few v c l n (omega (arith, list_length v))
      ∙ settled_alike (place_in first) (falls v) (receiver_lt v) n c l ((falls v).few c l)
      ∙ sym (along_settled absent recv g b (λ c y z h. alone c y z (omega (arith, long))) second n long w c l n (omega (arith, list_length w))))

pub along_alike : AlongAlike
along_alike A absent recv f g n a b few long alike alone = both_alike absent recv f g n a b few long alike alone
