-- The shares that the code asks for are the definition's: what stands behind the grows changes no share, no share past the
-- children is read, and where one grows the shares sum to the leftover. Assumes nothing.
use Rattle.arithmetic.proofs.LoopLaws.{read_alike}
use Rattle.arithmetic.proofs.Sums.{equal_summands_equal_sums}
use mathlib.Core.Path.{◌≡◌, refl, sym, ap, ◌∙◌, fun_ext}
use mathlib.Core.Bool.{Bool, true, false, ◌||◌, cond}
use Rattle.std.specs.List.{list_any}
use Rattle.std.proofs.lemmas.List.Folds.{list_any_more}
use mathlib.Core.List.{List, [], ◌∷◌, ◌++◌, map}
use Prim.Native.Nat.{ℕ, zero, suc, ◌+◌, ◌-◌, ◌*◌, ◌/◌, ◌%◌, ◌^◌, ◌≤◌, ◌<◌, min}
use native.Mathlib.Omega.{arith}
use lib.Dec.{ltb}
use lib.IntN.{ℤ, pos, negsuc, ◌+ℤ◌, +ℤ_idr, +ℤ_invr}
use lib.ListN.{get_or, drop, take, length, length-map, replicate}
use lib.Signed.{mag, le_z}
use lib.Seq.{sets, sets-eq}
use Rattle.arithmetic.specs.Scalar.{stop, add_sat, sub_sat}
use Rattle.arithmetic.specs.Growth.{sum_to, total, table, comes_before, rank, grow_sum, whole_share, remainder, missing, share_with_unit, share, plan_growth}
use Rattle.arithmetic.proofs.Signed.{stop_keeps_what_fits}
use Rattle.arithmetic.proofs.GrowthPlans.{plan_of_no_leftover, plan_of_no_grow}
use borrow.Author.Tests.{ltb-true, ltb-false, leb-false, lt-ltb, le-ltb}
use native.Mathlib.Decide.{dec_lt}
use Rattle.arithmetic.proofs.Fair.{fair_shares}
use Rattle.boxes.specs.Layout.{Child, boxes, place, content, offset}
use Rattle.boxes.specs.Support.Views.{no_shares, inner_of, box_at, past_of}
use Rattle.boxes.proofs.Layouts.Placing.{boxes_more, grow_of}
use Rattle.boxes.specs.declared.Rect.{Rect}
use Rattle.boxes.specs.declared.Style.{Style}

-- ---- what stands behind the grows

-- one share, by the sum of the grows, its own grow, how many come before it, and what is given in whole shares
one_share : (l s n k x before given : ℕ) → ℕ
one_share l s n k x before given = cond (ltb 0 l) (cond (ltb 0 s) (cond (ltb k n) (l * x / s + cond (ltb before (l - given)) 1 0) 0) 0) 0

no_share : (l s n k x y p q g h : ℕ) → ltb k n ≡ false → one_share l s n k x p g ≡ one_share l s n k y q h
unfolding one_share
no_share l s n k x y p q g h e = rw e refl

ahead : (l s n k x : ℕ) → (ℕ → ℕ) → ℕ
ahead l s n k x f = sum_to (λ j. comes_before (l * x % s) k (l * f j % s) j) n

in_whole : (l s n : ℕ) → (ℕ → ℕ) → ℕ
in_whole l s n f = sum_to (λ j. l * f j / s) n

share_by : ℕ → (ℕ → ℕ) → ℕ → ℕ → ℕ
share_by l f n k = one_share l (sum_to f n) n k (f k) (ahead l (sum_to f n) n k (f k) f) (in_whole l (sum_to f n) n f)

plan_by : (l : ℕ) (grows : List ℕ) (count : ℕ) → plan_growth (pos l) grows count ≡ table 128 (λ k. pos (share_by l (λ (j : ℕ). get_or grows j 0) (min count 128) k))
unfolding plan_growth share share_with_unit whole_share remainder missing grow_sum rank share_by one_share ahead in_whole
plan_by l grows count = refl

module _ (l n : ℕ) (f g : ℕ → ℕ) (e : (k : ℕ) → k < n → f k ≡ g k) where
  inside : (k s : ℕ) → k < n → one_share l s n k (f k) (ahead l s n k (f k) f) (in_whole l s n f) ≡ one_share l s n k (g k) (ahead l s n k (g k) g) (in_whole l s n g)
  unfolding ahead in_whole
  inside k s h =
      let a : ahead l s n k (f k) f ≡ ahead l s n k (f k) g = equal_summands_equal_sums (λ j. comes_before (l * f k % s) k (l * f j % s) j) (λ j. comes_before (l * f k % s) k (l * g j % s) j) n (λ j i. ap (λ (x : ℕ). comes_before (l * f k % s) k (l * x % s) j) (e j i)) in
      let w : in_whole l s n f ≡ in_whole l s n g = equal_summands_equal_sums (λ j. l * f j / s) (λ j. l * g j / s) n (λ j i. ap (λ (x : ℕ). l * x / s) (e j i)) in
      ap (λ (p : ℕ). one_share l s n k (f k) p (in_whole l s n f)) a
      ∙ ap (one_share l s n k (f k) (ahead l s n k (f k) g)) w
      ∙ ap (λ (x : ℕ). one_share l s n k x (ahead l s n k x g) (in_whole l s n g)) (e k h)

  same_share : (k : ℕ) → share_by l f n k ≡ share_by l g n k
  unfolding share_by
  same_share k =
      ap (λ (s : ℕ). one_share l s n k (f k) (ahead l s n k (f k) f) (in_whole l s n f)) (equal_summands_equal_sums f g n e) ∙ go (dec_lt k n)
    where
      go : Dec (k < n) → one_share l (sum_to g n) n k (f k) (ahead l (sum_to g n) n k (f k) f) (in_whole l (sum_to g n) n f) ≡ one_share l (sum_to g n) n k (g k) (ahead l (sum_to g n) n k (g k) g) (in_whole l (sum_to g n) n g)
      go (yes h) = inside k (sum_to g n) h
      go (no h) = no_share l (sum_to g n) n k (f k) (g k) _ _ _ _ (le-ltb k n (omega arith))

-- a plan for so many places reads no others
same_grows_same_plan : (l : ℤ) (g h : List ℕ) (count : ℕ) → ((k : ℕ) → k < count → get_or g k 0 ≡ get_or h k 0) → plan_growth l g count ≡ plan_growth l h count
unfolding plan_growth
same_grows_same_plan (pos l) g h count e =
    plan_by l g count
    ∙ ap (table 128) (fun_ext (λ k. ap (λ (s : ℕ). pos s) (same_share l (min count 128) (λ j. get_or g j 0) (λ j. get_or h j 0) (λ j i. e j (omega arith)) k)))
    ∙ sym (plan_by l h count)
same_grows_same_plan (negsuc l) g h count e = refl

in_front : (g z : List ℕ) (k : ℕ) → k < length g → get_or (g ++ z) k 0 ≡ get_or g k 0
in_front [] z k h = absurd (omega arith)
in_front (x ∷ g) z zero h = refl
in_front (x ∷ g) z (suc k) h = in_front g z k (omega arith)

written_read : (b g : List ℕ) → length g ≤ length b → (k : ℕ) → k < length g → get_or (sets b 0 g) k 0 ≡ get_or g k 0
written_read b g h k i =
    ap (λ (l : List ℕ). get_or l k 0) (sets-eq g b 0 (omega (arith, h)))
    ∙ in_front g (drop (0 + length g) b) k i

-- ---- the sum

-- all of a leftover is shared where one grows
whole_shared : (l : ℕ) (g : List ℕ) (count : ℕ) → count ≤ 128 → 0 < l → 0 < grow_sum g count → total (take count (plan_growth (pos l) g count)) ≡ pos l
whole_shared l g count few some grows =
    let n : min count 128 ≡ count = omega arith in
    let positive : 0 < grow_sum g (min count 128) = rw n grows in
    rw n at (fair_shares.fair l g count some positive).sum_is_the_leftover

total_of_none : (n m : ℕ) → total (take n (replicate m (pos 0))) ≡ pos 0
unfolding total
total_of_none zero m = refl
total_of_none (suc n) zero = refl
total_of_none (suc n) (suc m) = ap (λ (z : ℤ). pos 0 +ℤ z) (total_of_none n m)

less_none : (z : ℤ) → mag z < 2 ^ 63 → sub_sat z (pos 0) ≡ z
unfolding sub_sat
less_none z h = ap stop (+ℤ_idr z) ∙ stop_keeps_what_fits z (record { sfits = h })

less_itself : (z : ℤ) → sub_sat z z ≡ pos 0
unfolding sub_sat stop
less_itself z = ap stop (+ℤ_invr z)

none_are_no_shares : table 128 (λ (k : ℕ). pos 0) ≡ no_shares
unfolding table no_shares
none_are_no_shares = refl

-- What is left free, by whether there is a plan.
pub free_of_no_plan : (l : ℤ) (g : List ℕ) (count : ℕ) → mag l < 2 ^ 63 → no_shares ≡ plan_growth l g count → l ≡ sub_sat l (total (take count (plan_growth l g count)))
unfolding no_shares
free_of_no_plan l g count h e =
    sym (ap (λ (s : List ℤ). sub_sat l (total (take count s))) (sym e) ∙ ap (sub_sat l) (total_of_none count 128) ∙ less_none l h)

pub free_of_plan : (l : ℤ) (g : List ℕ) (count : ℕ) → count ≤ 128 → le_z l (pos 0) ≡ false → ltb 0 (grow_sum g count) ≡ true → pos 0 ≡ sub_sat l (total (take count (plan_growth l g count)))
free_of_plan (pos n) g count few some grows =
    sym (ap (sub_sat (pos n)) (whole_shared n g count few (leb-false n 0 some) (ltb-true 0 (grow_sum g count) grows)) ∙ less_itself (pos n))
free_of_plan (negsuc n) g count few some grows = let z : ◌≡◌ {A = ℕ} 0 1 = cc in absurd (omega arith)

pub no_plan_of_no_leftover : (l : ℤ) (g : List ℕ) (count : ℕ) → le_z l (pos 0) ≡ true → no_shares ≡ plan_growth l g count
no_plan_of_no_leftover l g count h = sym none_are_no_shares ∙ plan_of_no_leftover l g count h

pub no_plan_of_no_grow : (l : ℤ) (g : List ℕ) (count : ℕ) → count ≤ 128 → ltb 0 (grow_sum g count) ≡ false → no_shares ≡ plan_growth l g count
no_plan_of_no_grow l g count few h =
    let n : min count 128 ≡ count = omega arith in
    let z : grow_sum g count ≡ 0 = omega (arith, ltb-false 0 (grow_sum g count) h) in
    sym none_are_no_shares ∙ plan_of_no_grow l g count (ap (grow_sum g) n ∙ z)

-- Whether one of some grows is not 0.
either_is_more : (a b : ℕ) → (ltb 0 a || ltb 0 b) ≡ ltb 0 (a + b)
either_is_more zero b = ap (ltb 0) (let e : b ≡ zero + b = omega arith in e)
either_is_more (suc a) b = ap (λ (c : Bool). c || ltb 0 b) (lt-ltb 0 (suc a) (omega arith)) ∙ sym (lt-ltb 0 (suc a + b) (omega arith))

pub some_grows : (g : List ℕ) (count : ℕ) → count ≤ length g → list_any (ltb 0) (take count g) ≡ ltb 0 (grow_sum g count)
unfolding grow_sum sum_to
some_grows g zero h = refl
some_grows g (suc n) h =
    ap (λ (k : ℕ). list_any (ltb 0) (take k g)) (let e : suc n ≡ n + 1 = omega arith in e)
    ∙ list_any_more (ltb 0) g n 0 (omega arith)
    ∙ ap (λ (b : Bool). b || ltb 0 (get_or g n 0)) (some_grows g n (omega arith))
    ∙ either_is_more (grow_sum g n) (get_or g n 0)

-- ---- a node's children placed

-- where no shares count, each is read as 0
pub counted_share : (b : Bool) (shares : List ℤ) (n : ℕ) → cond b (get_or shares n (pos 0)) (pos 0) ≡ get_or (cond b shares no_shares) n (pos 0)
unfolding no_shares
counted_share true shares n = refl
counted_share false shares n = sym (read_alike 128 n (pos 0))

boxes_take : (s : Style) (cx cy inner cursor : ℤ) (shares : List ℤ) (cs : List Child) → boxes s cx cy inner cursor (take (length cs) shares) cs ≡ boxes s cx cy inner cursor shares cs
unfolding boxes
boxes_take s cx cy inner cursor shares [] = refl
boxes_take s cx cy inner cursor [] (c ∷ cs) = refl
boxes_take s cx cy inner cursor (x ∷ xs) (c ∷ cs) =
    boxes_more s cx cy inner cursor (x ∷ take (length cs) xs) c cs
    ∙ ap (λ (rs : List Rect). box_at s cx cy inner cursor x c ∷ rs) (boxes_take s cx cy inner (past_of s cursor x c) xs cs)
    ∙ sym (boxes_more s cx cy inner cursor (x ∷ xs) c cs)

pub placed_by_parts : (s : Style) (r : Rect) (cs : List Child) (cx cy across cursor leftover free : ℤ) (shares : List ℤ) (before g : List ℕ) (n : ℕ)
    → length before ≡ 128
    → length cs ≤ 128
    → n ≡ length cs
    → g ≡ sets before 0 (map grow_of cs)
    → cx ≡ add_sat r.x s.padding.left
    → cy ≡ add_sat r.y s.padding.top
    → across ≡ (inner_of s.direction s.padding r).cross
    → leftover ≡ sub_sat (inner_of s.direction s.padding r).main (content s cs).main
    → shares ≡ plan_growth leftover g n
    → free ≡ sub_sat leftover (total (take n (plan_growth leftover g n)))
    → cursor ≡ offset s.justify free
    → boxes s cx cy across cursor shares cs ≡ place s r cs
unfolding place inner_of
placed_by_parts s r cs cx cy across cursor leftover free shares before g n long few hn hg hx hy ha hl hs hf hc =
    let many : List ℕ = map grow_of cs in
    let plan : plan_growth leftover g n ≡ plan_growth leftover many (length cs) =
    ap (λ (l : List ℕ). plan_growth leftover l n) hg
    ∙ same_grows_same_plan leftover (sets before 0 many) many n (λ k i. written_read before many (omega (arith, length-map cs grow_of)) k (omega (arith, length-map cs grow_of)))
    ∙ ap (plan_growth leftover many) hn in
    let start : cursor ≡ offset s.justify (sub_sat leftover (total (take (length cs) (plan_growth leftover many (length cs))))) =
    hc ∙ ap (offset s.justify) (hf ∙ ap (λ (k : ℕ). sub_sat leftover (total (take k (plan_growth leftover g n)))) hn ∙ ap (λ (l : List ℤ). sub_sat leftover (total (take (length cs) l))) plan) in
    sym (boxes_take s cx cy across cursor shares cs)
    ∙ ap (λ (l : List ℤ). boxes s cx cy across cursor (take (length cs) l) cs) (hs ∙ plan)
    ∙ ap (λ (z : ℤ). boxes s z cy across cursor (take (length cs) (plan_growth leftover many (length cs))) cs) hx
    ∙ ap (λ (z : ℤ). boxes s (add_sat r.x s.padding.left) z across cursor (take (length cs) (plan_growth leftover many (length cs))) cs) hy
    ∙ ap (λ (z : ℤ). boxes s (add_sat r.x s.padding.left) (add_sat r.y s.padding.top) z cursor (take (length cs) (plan_growth leftover many (length cs))) cs) ha
    ∙ ap (λ (z : ℤ). boxes s (add_sat r.x s.padding.left) (add_sat r.y s.padding.top) (inner_of s.direction s.padding r).cross z (take (length cs) (plan_growth leftover many (length cs))) cs) start
    ∙ ap (λ (z : ℤ). boxes s (add_sat r.x s.padding.left) (add_sat r.y s.padding.top) (inner_of s.direction s.padding r).cross (offset s.justify (sub_sat z (total (take (length cs) (plan_growth z many (length cs)))))) (take (length cs) (plan_growth z many (length cs))) cs) hl
