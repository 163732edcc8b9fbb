-- The place that a search finds, or none.
use Rattle.std.proofs.Common.{◌≡◌, ℕ, ◌≤◌, ◌<◌, Bool, true, false, cond, ltb, Option, Some, None, refl, sym, ◌∙◌, ap, arith, ltb-true, ltb-false, lt-ltb, le-ltb}
use Rattle.std.specs.Option.{unwrap_or}
use Rattle.loops.specs.Loops.{place_among, Searched}
use Rattle.loops.specs.Firsts.{first_failing, First}
use Rattle.loops.proofs.FirstLaws.{first_is, first_end}

pub place_here : {n c : ℕ} → c < n → Some c ≡ place_among n c
place_here l = rw (lt-ltb _ _ l)

pub place_past : {n c : ℕ} → n ≤ c → None ≡ place_among n c
place_past l = rw (le-ltb _ _ l)

-- what the answer says of the place
pub place_some : {n c k : ℕ} → place_among n c ≡ Some k → (k ≡ c) × (c < n)
place_some {n} {c} {k} e = go (ltb c n) refl e
  where
    go : (b : Bool) → ltb c n ≡ b → cond b (Some c) None ≡ Some k → (k ≡ c) × (c < n)
    go true t q = (cc, ltb-true c n t)
    go false t q = cc

pub place_none : {n c : ℕ} → place_among n c ≡ None → n ≤ c
place_none {n} {c} e = go (ltb c n) refl e
  where
    go : (b : Bool) → ltb c n ≡ b → cond b (Some c) None ≡ None → n ≤ c
    go true t q = cc
    go false t q = ltb-false c n t

module _ {n : ℕ} {P : ℕ → Type 0} where
  pub searched_at : {c : ℕ} → P c → c < n → Searched n P (Some c)
  searched_at {c} p l = record { place = c; fact = p; is = place_here l }

  pub searched_none : {c : ℕ} → P c → n ≤ c → Searched n P None
  searched_none {c} p l = record { place = c; fact = p; is = place_past l }

  -- with another fact of the place
  pub searched_by : {Q : ℕ → Type 0} → ((c : ℕ) → P c → Q c) → {o : Option ℕ} → Searched n P o → Searched n Q o
  searched_by f r = record { place = r.place; fact = f r.place r.fact; is = r.is }

  -- where only c has the fact
  pub searched_only : {c : ℕ} → ((k : ℕ) → P k → k ≡ c) → {o : Option ℕ} → Searched n P o → o ≡ place_among n c
  searched_only f r = r.is ∙ ap (place_among n) (f r.place r.fact)

  module _ {o : Option ℕ} (r : Searched n P o) where
    pub searched_some : {c : ℕ} → o ≡ Some c → P c × (c < n)
    searched_some {c} e =
        let h = place_some (sym r.is ∙ e) in
        (rw h.0 r.fact, omega (arith, h))

    pub searched_past : o ≡ None → n ≤ r.place
    searched_past e = place_none (sym r.is ∙ e)

-- the place, or the end of the search where there is none
pub searched_or : {n : ℕ} {P : ℕ → Type 0} → ((c : ℕ) → P c → c ≤ n) → {o : Option ℕ} → Searched n P o → P (unwrap_or o n)
searched_or {n} {P} f {o} r = go o refl
  where
    go : (v : Option ℕ) → o ≡ v → P (unwrap_or v n)
    go (Some k) e = (searched_some r e).0
    go None e =
        let same : r.place ≡ n = omega (arith, f r.place r.fact, searched_past r e) in
        rw same at r.fact

-- the first place that a test fails of
pub first_here : {n : ℕ} {p : ℕ → Bool} {f : ℕ} → First n p f → f < n → Some f ≡ place_among n (first_failing n p)
first_here {n} s l = place_here l ∙ ap (place_among n) (first_is s)

pub first_none : {n : ℕ} {p : ℕ → Bool} → First n p n → None ≡ place_among n (first_failing n p)
first_none {n} s = place_past (omega arith) ∙ ap (place_among n) (first_is s)
