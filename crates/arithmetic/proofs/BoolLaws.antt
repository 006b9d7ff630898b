-- A choice and a range taken apart.
use mathlib.Core.Path.{◌≡◌, refl}
use mathlib.Core.Bool.{Bool, true, false, ◌&&◌, ◌||◌, false≢true, cond}
use mathlib.Core.Logic.{◌⊎◌, inl, inr}
use Prim.Native.Nat.{ℕ, ◌≤◌, ◌<◌}
use borrow.Author.Tests.{le-leb, leb-true, leb-false}
use lib.Dec.{leb}
use Rattle.arithmetic.specs.Tests.{within}

-- what holds of both that are chosen between holds of what is chosen
pub pick_of : {A : Type 0} (P : A → Type 0) (t : Bool) {x y : A} → (t ≡ true → P x) → (t ≡ false → P y) → P (cond t x y)
pick_of P true f g = f refl
pick_of P false f g = g refl

pub no_more : {G : Type 0} → false ≡ true → G
no_more e = absurd (false≢true e)

pub both : (a b : Bool) → (a && b) ≡ true → (a ≡ true) × (b ≡ true)
both true b e = (refl, e)
both false b e = no_more e

pub and_left : (s t : Bool) → s && t ≡ true → s ≡ true
and_left true t e = refl
and_left false t e = e

pub and_right : (s t : Bool) → s && t ≡ true → t ≡ true
and_right true t e = e
and_right false t e = absurd (false≢true e)

pub and_both : {s t : Bool} → s ≡ true → t ≡ true → s && t ≡ true
and_both p q = rw (p, q)

pub or_cases : (s t : Bool) → s || t ≡ true → (s ≡ true) ⊎ (t ≡ true)
or_cases true t e = inl refl
or_cases false t e = inr e

module _ (lo hi x : ℕ) where
  pub within_yes : lo ≤ x → x ≤ hi → within lo hi x ≡ true
  unfolding within
  within_yes p q = rw (le-leb lo x p, le-leb x hi q)

  pub within_low : within lo hi x ≡ true → lo ≤ x
  unfolding within
  within_low e = leb-true lo x (and_left (leb lo x) (leb x hi) e)

  pub within_high : within lo hi x ≡ true → x ≤ hi
  unfolding within
  within_high e = leb-true x hi (and_right (leb lo x) (leb x hi) e)

  -- outside
  pub within_no : within lo hi x ≡ false → lo ≤ x → hi < x
  unfolding within
  within_no e p = leb-false x hi (go (leb lo x) (le-leb lo x p) e)
    where
      go : (t : Bool) → t ≡ true → t && leb x hi ≡ false → leb x hi ≡ false
      go true p e = e
      go false p e = absurd (false≢true p)
