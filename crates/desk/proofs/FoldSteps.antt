-- A fold that goes on: bytes after bytes are one run of bytes. Assumes nothing.
use Prim.Native.Nat.{ℕ}
use mathlib.Core.Path.{◌≡◌, ap, ◌∙◌}
use mathlib.Core.List.{List, ◌++◌}
use Rattle.arithmetic.specs.Fold.{absorbed}
use Rattle.arithmetic.specs.declared.fold.StateHash.{StateHash}
use Rattle.arithmetic.proofs.FoldLaws.{absorbed_in_turn}

pub and_then : (h : StateHash) (a b : List ℕ) {s t : StateHash} → s ≡ absorbed h a → t ≡ absorbed s b → t ≡ absorbed h (a ++ b)
and_then h a b e q = q ∙ ap (λ (x : StateHash). absorbed x b) e ∙ absorbed_in_turn h a b
