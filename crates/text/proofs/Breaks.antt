-- A break, and none, by the test: of a break the line would be too long with the next word, of none it has room for it. Assumes nothing.
use mathlib.Core.Path.{◌≡◌}
use mathlib.Core.Bool.{Bool, true, false}
use mathlib.Core.List.{List, ◌∷◌}
use Prim.Native.Nat.{ℕ, ◌+◌, ◌≤◌, ◌<◌}
use native.Mathlib.Omega.{arith}
use borrow.Author.Tests.{ltb-true, ltb-false, eqb-true}
use lib.Dec.{eqb, ltb}
use Rattle.arithmetic.proofs.BoolLaws.{and_left, and_right}
use Rattle.text.specs.Lines.{width_of, word_of, breaks}

module _ (adv : ℕ → ℕ) (w u c : ℕ) (cs : List ℕ) where
  pub at_space : breaks adv w u c cs ≡ true → c ≡ 32
  unfolding breaks
  at_space e = eqb-true c 32 (and_left (eqb c 32) (ltb w (u + adv c + width_of adv (word_of cs))) e)

  pub over_full : breaks adv w u c cs ≡ true → w < u + adv c + width_of adv (word_of cs)
  unfolding breaks
  over_full e = ltb-true w _ (and_right (eqb c 32) (ltb w (u + adv c + width_of adv (word_of cs))) e)

  pub room : (t : Bool) → eqb c 32 ≡ t → breaks adv w u c cs ≡ false → u + width_of adv (word_of (c ∷ cs)) ≤ w → u + adv c + width_of adv (word_of cs) ≤ w
  unfolding breaks word_of width_of
  room true p e h = ltb-false w _ (rw p at e)
  room false p e h = let k : u + (adv c + width_of adv (word_of cs)) ≤ w = rw p at h in omega arith
