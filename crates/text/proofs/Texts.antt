-- Texts in a row: their bytes and their characters join and part. Assumes nothing.
use mathlib.Core.Path.{◌≡◌, refl, sym, ap, ◌∙◌}
use mathlib.Core.Bool.{true}
use mathlib.Core.List.{List, [], ◌∷◌, ◌++◌, append_assoc}
use Prim.Native.Nat.{ℕ}
use borrow.Author.Tests.{eqb-true, eq-eqb}
use Rattle.text.specs.Utf8.{is_scalar, all_scalars, encoded, encoded_all}
use Rattle.text.specs.Reader.{start, step_of, run_from, is_utf8}
use Rattle.text.specs.declared.utf8.Place.{Place}
use Rattle.arithmetic.proofs.BoolLaws.{and_left, and_right, and_both}
use Rattle.text.proofs.Complete.{fresh_run}

pub encodings_join : (x y : List ℕ) → encoded_all (x ++ y) ≡ encoded_all x ++ encoded_all y
unfolding encoded_all
encodings_join [] y = refl
encodings_join (c ∷ x) y = ap (λ (l : List ℕ). encoded c ++ l) (encodings_join x y) ∙ sym (append_assoc (encoded c) (encoded_all x) (encoded_all y))

pub scalars_join : (x y : List ℕ) → all_scalars x ≡ true → all_scalars y ≡ true → all_scalars (x ++ y) ≡ true
unfolding all_scalars
scalars_join [] y h k = k
scalars_join (c ∷ x) y h k =
    and_both (and_left (is_scalar c) (all_scalars x) h) (scalars_join x y (and_right (is_scalar c) (all_scalars x) h) k)

pub scalars_part : (x y : List ℕ) → all_scalars (x ++ y) ≡ true → (all_scalars x ≡ true) × (all_scalars y ≡ true)
unfolding all_scalars
scalars_part [] y h = (refl, h)
scalars_part (c ∷ x) y h =
    let r = scalars_part x y (and_right (is_scalar c) (all_scalars (x ++ y)) h) in
    (and_both (and_left (is_scalar c) (all_scalars (x ++ y)) h) r.0, r.1)

run_joins : (p : Place) (s t : List ℕ) → run_from p (s ++ t) ≡ run_from (run_from p s) t
unfolding run_from
run_joins p [] t = refl
run_joins p (b ∷ s) t = run_joins (step_of p b) s t

-- what follows well-formed bytes in well-formed bytes is well-formed
pub rest_is_utf8 : (s t : List ℕ) → is_utf8 s ≡ true → is_utf8 (s ++ t) ≡ true → is_utf8 t ≡ true
unfolding is_utf8
rest_is_utf8 s t h k =
    let e : (run_from start s).left ≡ 0 = eqb-true _ 0 h in
    let f : (run_from start (s ++ t)).left ≡ 0 = eqb-true _ 0 k in
    eq-eqb _ 0 (sym (fresh_run (run_from start s) start e refl t) ∙ ap (λ (p : Place). p.left) (sym (run_joins start s t)) ∙ f)
