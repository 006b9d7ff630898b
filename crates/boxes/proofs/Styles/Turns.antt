-- Slots in turn: a list of 6 filled from its front holds what was put into it. Assumes nothing.
use Rattle.std.proofs.Common.{◌≡◌, ℕ, ◌≤◌, List, [], ◌∷◌, ◌++◌, length, refl, sym, ap, ◌∙◌, arith, length-append, take_all}
use Rattle.arena.specs.Slots.{backwards}
use Rattle.arena.specs.declared.listed.Listed.{Listed}
use Rattle.arena.specs.Support.Lists.{listed, none_listed, added, added_all}
use Rattle.arena.proofs.Checks.ListLaws.{added_join, listed_by_a_walk}

last_first : (l : List ℕ) (i : ℕ) → backwards (l ++ i ∷ []) ≡ i ∷ backwards l
last_first [] i = refl
last_first (x ∷ l) i = ap (λ (m : List ℕ). m ++ x ∷ []) (last_first l i)

backwards_length : (l : List ℕ) → length (backwards l) ≡ length l
backwards_length [] = refl
backwards_length (x ∷ l) = let e = length-append (backwards l) (x ∷ []) in let h = backwards_length l in omega arith

-- the last of what is left goes next
pub turned : (o : Listed 6) {l : List ℕ} (m : List ℕ) (i : ℕ) → l ≡ m ++ i ∷ [] → added_all (added o i) (backwards m) ≡ added_all o (backwards l)
unfolding added_all
turned o m i e = sym (ap (λ (k : List ℕ). added_all o (backwards k)) e ∙ ap (added_all o) (last_first m i))

pub none_left : (o : Listed 6) (l : List ℕ) → length l ≡ 0 → o ≡ added_all o (backwards l)
unfolding added_all
none_left o [] e = refl
none_left o (x ∷ l) e = absurd (omega arith)

pub all_in_turn : (s h p f : List ℕ) {o a b r : Listed 6} → o ≡ added_all none_listed (backwards s) → a ≡ added_all o h → b ≡ added_all a p → r ≡ added_all b f
    → length s ≤ 3 → length h ≤ 1 → length p ≤ 1 → length f ≤ 1 → (r.count ≤ 6) × (listed r ≡ backwards s ++ (h ++ p ++ f))
all_in_turn s h p f {o} {a} {b} {r} eo ea eb er ls lh lp lf =
    let whole : List ℕ = backwards s ++ (h ++ p ++ f) in
    let e : r ≡ added_all none_listed whole =
    er ∙ ap (λ (x : Listed 6). added_all x f) (eb ∙ ap (λ (x : Listed 6). added_all x p) ea ∙ added_join o h p)
    ∙ added_join o (h ++ p) f
    ∙ ap (λ (x : Listed 6). added_all x (h ++ p ++ f)) eo
    ∙ added_join none_listed (backwards s) (h ++ p ++ f) in
    let w = listed_by_a_walk r whole e in
    let n1 = length-append (backwards s) (h ++ p ++ f) in
    let n2 = length-append (h ++ p) f in
    let n3 = length-append h p in
    let n4 = backwards_length s in
    (w.0, w.1 ∙ take_all 6 whole (omega arith))
