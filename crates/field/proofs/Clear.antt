-- What is filled behind a text. Assumes nothing.
use Rattle.std.proofs.Common.{◌≡◌, ℕ, ◌-◌, ◌<◌, List, [], ◌++◌, length, take, drop, replicate, sym, ap, ◌∙◌, arith, append-nil, length-take, length-drop, take_all, drop_of_length-le}
use borrow.Rule.Slice.PartMut.{put_mid}
use native.Mathlib.Decide.{dec_lt}

module _ (d : List ℕ) (n : ℕ) (l : length d ≡ 64) where
  held_again : take (length (take n d)) d ≡ take n d
  held_again = go (dec_lt 64 n)
    where
      go : Dec (64 < n) → take (length (take n d)) d ≡ take n d
      go (yes h) = let e = length-take n d in take_all (length (take n d)) d (omega arith) ∙ sym (take_all n d (omega arith))
      go (no h) = let e = length-take n d in let k : length (take n d) ≡ n = omega arith in ap (λ (m : ℕ). take m d) k

  pub filled : {z : List ℕ} → z ≡ replicate (length (take (length d - length (take n d)) (drop (length (take n d)) d))) 0
      → put_mid (length (take n d)) (length d - length (take n d)) d z ≡ take n d ++ replicate (64 - n) 0
  filled e =
      let k : ℕ = length (take n d) in
      let a = length-take n d in
      let b = length-drop k d in
      let c : length (take (length d - k) (drop k d)) ≡ 64 - n = omega (arith, length-take (length d - k) (drop k d)) in
      let q : drop (length d - k) (drop k d) ≡ [] = drop_of_length-le (drop k d) (omega arith) in
      rw (e, held_again, c, q, append-nil)
