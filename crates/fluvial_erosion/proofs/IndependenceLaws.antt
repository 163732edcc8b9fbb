-- Two work lists give the same areas and the same incised heights.
use Prim.Native.Nat.{ℕ, ◌^◌, ◌≤◌, ◌<◌}
use mathlib.Core.Path.{◌≡◌, refl, sym, ap, ◌∙◌}
use mathlib.Core.Bool.{cond}
use mathlib.Core.List.{List, [], ◌∷◌}
use lib.ListN.{length, get_or, set}
use lib.Seq.{ext_get_or}
use lib.Dec.{eqb}
use lib.Ieee.{Float, nan}
use borrow.Author.Tests.{eq-eqb}
use Rattle.floats.specs.Stand.{max_of}
use Rattle.drainage.specs.Ground.{Ground}
use Rattle.drainage.specs.Receivers.{distance_to}
use Rattle.drainage.specs.Ways.{WorkList, areas_along}
use Rattle.drainage.proofs.AreaLaws.{length_areas, areas}
use Rattle.incision_paths.specs.Settled.{made_along}
use Rattle.incision_paths.proofs.SettleLaws.{along_alike}
use Rattle.fluvial_erosion.specs.Incision.{incised_height, incised_at, incise_along, incised_by}
use Rattle.fluvial_erosion.specs.Independence.{Independence}
use Rattle.fluvial_erosion.specs.declared.FluvialParams.{FluvialParams}

same_areas : (n : ℕ) → n ≤ 2 ^ 24 → (recv a b : List ℕ) → WorkList n recv a → WorkList n recv b → areas_along n recv a ≡ areas_along n recv b
same_areas n few recv a b v w =
    ext_get_or nan _ _ (length_areas n few recv a ∙ sym (length_areas n few recv b))
    (λ c h.
    let inside : c < n = rw (length_areas n few recv a) at h in
    (areas n few recv a v).area c inside ∙ sym ((areas n few recv b w).area c inside))

-- a cell after its incision, as a combination of its own height and that of its receiver
module _ (g : Ground) (p : FluvialParams) (areas : List Float) (recv : List ℕ) where
  abbrev pub cut : ℕ → Float → Float → Float
  cut c own down =
      incised_height p g.cells (get_or areas c nan) (distance_to g c (get_or recv c 0)) own
      (cond (eqb (get_or recv c 0) c) p.water_level (max_of down p.water_level))

  cut_alone : (c : ℕ) (x y z : Float) → get_or recv c 0 ≡ c → cut c x y ≡ cut c x z
  cut_alone c x y z e = rw (eq-eqb (get_or recv c 0) c e)

  cut_along : (list : List ℕ) (hs : List Float) → incise_along g p areas recv list hs ≡ made_along nan recv cut list hs
  unfolding incise_along made_along
  cut_along [] hs = refl
  cut_along (c ∷ rest) hs = cut_along rest (set hs c (incised_at g p areas recv hs c))

  -- what is made along one list by a combination that cuts as the incision does is what the incision leaves along any
  pub cut_alike : {n : ℕ} (make : ℕ → Float → Float → Float) (start hs : List Float) → length start ≡ n → length hs ≡ n
      → ((c : ℕ) (x : Float) → c < n → make c (get_or start c nan) x ≡ cut c (get_or hs c nan) x)
      → (a b : List ℕ) → WorkList n recv a → WorkList n recv b → made_along nan recv make a start ≡ incise_along g p areas recv b hs
  cut_alike {n} make start hs few long alike a b v w =
      along_alike Float nan recv make cut n start hs few long alike (λ c y z l. cut_alone c _ y z) a b v w ∙ sym (cut_along b hs)

  pub incise_same : (n : ℕ) (a b : List ℕ) (hs : List Float) → length hs ≡ n → WorkList n recv a → WorkList n recv b → incise_along g p areas recv a hs ≡ incise_along g p areas recv b hs
  incise_same n a b hs long v w = cut_along a hs ∙ cut_alike cut hs hs long long (λ c x l. refl) a b v w

pub independence : Independence
unfolding incised_by
independence g p recv a b hs long few v w =
    let same : areas_along g.cells recv a ≡ areas_along g.cells recv b = same_areas g.cells few recv a b v w in
    record {
      areas = same;
      heights = ap (λ (l : List Float). incise_along g p l recv a hs) same ∙ incise_same g p (areas_along g.cells recv b) recv g.cells a b hs (sym long) v w;
    }
