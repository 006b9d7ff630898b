-- Well-formed bytes are the bytes of the characters that they read as, each of which is a scalar value. Assumes nothing.
use mathlib.Core.Path.{◌≡◌, refl, sym, subst, ◌∙◌}
use mathlib.Core.Bool.{Bool, true, false}
use mathlib.Core.Logic.{◌⊎◌, inl, inr, ⊎_elim}
use mathlib.Core.List.{List, [], ◌∷◌, ◌++◌, append_assoc}
use Prim.Native.Nat.{ℕ, zero, suc, ◌+◌, ◌-◌, ◌*◌, ◌/◌, ◌%◌, ◌≤◌, ◌<◌}
use native.Mathlib.Omega.{arith}
use borrow.Author.Tests.{eq-eqb, ne_eqb, eqb-true, eqb-false}
use lib.Dec.{eqb}
use Rattle.arithmetic.specs.Tests.{within}
use Rattle.text.specs.Utf8.{is_scalar, all_scalars, encoded, encoded_all}
use Rattle.text.specs.Reader.{place, start, lost, lead_of, step_of, run_from, is_utf8, emit, scalars_from, scalars}
use Rattle.text.specs.declared.utf8.Place.{Place}
use Rattle.arithmetic.proofs.BoolLaws.{pick_of, within_low, within_high, and_both}
use Rattle.text.proofs.Leads.{Lead, lead_case}
use Rattle.text.proofs.Leads.Lead.{one, two, three_e0, three_e1, three_ed, three_ee, four_f0, four_f1, four_f4, none}
use Rattle.text.proofs.Scalars.{scalar_low, scalar_high, encoded_one, encoded_two, encoded_three, encoded_four}

-- the bytes u, with n more, the first of them from lo to hi, are those of a scalar value, whose bits so far are v
abbrev pub Right : ℕ → ℕ → ℕ → ℕ → List ℕ → Type 0
Right zero lo hi v u = (u ≡ encoded v) × (is_scalar v ≡ true)
Right (suc n) lo hi v u = (b : ℕ) → lo ≤ b → b ≤ hi → Right n 0x80 0xBF (v * 64 + b % 64) (u ++ b ∷ [])

abbrev pub Good : Place → List ℕ → Type 0
Good q u = Right q.left q.low q.high q.code u

pub two_good : (a b : ℕ) → 0xC2 ≤ a → a ≤ 0xDF → 0x80 ≤ b → b ≤ 0xBF
    → (a ∷ b ∷ [] ≡ encoded (a % 32 * 64 + b % 64)) × (is_scalar (a % 32 * 64 + b % 64) ≡ true)
two_good a b l h lb hb =
    let v : ℕ = a % 32 * 64 + b % 64 in
    let e1 : 0xC0 + v / 64 ≡ a = omega arith in
    let e2 : 0x80 + v % 64 ≡ b = omega arith in
    (sym (encoded_two v (omega arith) (omega arith) ∙ cc (e1, e2)), scalar_low v (omega arith))

pub three_bytes : (a b c : ℕ) → 0xE0 ≤ a → a ≤ 0xEF → 0x80 ≤ b → b ≤ 0xBF → 0x80 ≤ c → c ≤ 0xBF → 0x7FF < (a % 16 * 64 + b % 64) * 64 + c % 64
    → a ∷ b ∷ c ∷ [] ≡ encoded ((a % 16 * 64 + b % 64) * 64 + c % 64)
three_bytes a b c la ha lb hb lc hc low =
    let v : ℕ = (a % 16 * 64 + b % 64) * 64 + c % 64 in
    let e1 : 0xE0 + v / 4096 ≡ a = omega arith in
    let e2 : 0x80 + v / 64 % 64 ≡ b = omega arith in
    let e3 : 0x80 + v % 64 ≡ c = omega arith in
    sym (encoded_three v low (omega arith) ∙ cc (e1, e2, e3))

pub four_good : (a b c d : ℕ) → 0xF0 ≤ a → a ≤ 0xF4 → 0x80 ≤ b → b ≤ 0xBF → 0x80 ≤ c → c ≤ 0xBF → 0x80 ≤ d → d ≤ 0xBF
    → 0xFFFF < ((a % 8 * 64 + b % 64) * 64 + c % 64) * 64 + d % 64
    → ((a % 8 * 64 + b % 64) * 64 + c % 64) * 64 + d % 64 ≤ 0x10FFFF
    → (a ∷ b ∷ c ∷ d ∷ [] ≡ encoded (((a % 8 * 64 + b % 64) * 64 + c % 64) * 64 + d % 64))
    × (is_scalar (((a % 8 * 64 + b % 64) * 64 + c % 64) * 64 + d % 64) ≡ true)
four_good a b c d la ha lb hb lc hc ld hd low high =
    let v : ℕ = ((a % 8 * 64 + b % 64) * 64 + c % 64) * 64 + d % 64 in
    let e1 : 0xF0 + v / 262144 ≡ a = omega arith in
    let e2 : 0x80 + v / 4096 % 64 ≡ b = omega arith in
    let e3 : 0x80 + v / 64 % 64 ≡ c = omega arith in
    let e4 : 0x80 + v % 64 ≡ d = omega arith in
    (sym (encoded_four v low ∙ cc (e1, e2, e3, e4)), scalar_high v (omega arith) high)

lead_good : (b : ℕ) (q : Place) → Lead b q → (q ≡ lost) ⊎ Good q (b ∷ [])
lead_good b q (one h) = inr (sym (encoded_one b h), scalar_low b (omega arith))
lead_good b q (two l h) = inr (λ b1 l1 h1. two_good b b1 l h l1 h1)
lead_good b q (three_e0 e) = inr (λ b1 l1 h1 b2 l2 h2.
    (three_bytes b b1 b2 (omega arith) (omega arith) (omega arith) h1 l2 h2 (omega arith), scalar_low _ (omega arith)))
lead_good b q (three_e1 l h) = inr (λ b1 l1 h1 b2 l2 h2.
    (three_bytes b b1 b2 (omega arith) (omega arith) l1 h1 l2 h2 (omega arith), scalar_low _ (omega arith)))
lead_good b q (three_ed e) = inr (λ b1 l1 h1 b2 l2 h2.
    (three_bytes b b1 b2 (omega arith) (omega arith) l1 (omega arith) l2 h2 (omega arith), scalar_low _ (omega arith)))
lead_good b q (three_ee l h) = inr (λ b1 l1 h1 b2 l2 h2.
    (three_bytes b b1 b2 (omega arith) (omega arith) l1 h1 l2 h2 (omega arith), scalar_high _ (omega arith) (omega arith)))
lead_good b q (four_f0 e) = inr (λ b1 l1 h1 b2 l2 h2 b3 l3 h3.
    four_good b b1 b2 b3 (omega arith) (omega arith) (omega arith) h1 l2 h2 l3 h3 (omega arith) (omega arith))
lead_good b q (four_f1 l h) = inr (λ b1 l1 h1 b2 l2 h2 b3 l3 h3.
    four_good b b1 b2 b3 (omega arith) (omega arith) l1 h1 l2 h2 l3 h3 (omega arith) (omega arith))
lead_good b q (four_f4 e) = inr (λ b1 l1 h1 b2 l2 h2 b3 l3 h3.
    four_good b b1 b2 b3 (omega arith) (omega arith) l1 (omega arith) l2 h2 l3 h3 (omega arith) (omega arith))
lead_good b q (none _ _) = inl refl

-- between two characters nothing is held; inside one, the bytes read of it
data Partial (p : Place) : List ℕ → Type 0 where
  between : p.left ≡ 0 → Partial p []
  inside : {u : List ℕ} → (p.left ≡ 0 → ⊥) → Good p u → Partial p u

pub step_lead : (p : Place) (b : ℕ) → p.left ≡ 0 → step_of p b ≡ lead_of b
unfolding step_of
step_lead p b e = rw (eq-eqb p.left 0 e)

next_good : (n lo hi v b : ℕ) (u : List ℕ) → (n ≡ 0 → ⊥) → Right n lo hi v u → lo ≤ b → b ≤ hi → Right (n - 1) 0x80 0xBF (v * 64 + b % 64) (u ++ b ∷ [])
next_good zero lo hi v b u k g l h = absurd (k refl)
next_good (suc n) lo hi v b u k g l h = let e : suc n - 1 ≡ n = omega arith in rw e (g b l h)

stepped : (p : Place) (b : ℕ) (u : List ℕ) → Partial p u → (step_of p b ≡ lost) ⊎ Good (step_of p b) (u ++ b ∷ [])
unfolding step_of
stepped p b u (between e) = rw (eq-eqb p.left 0 e) (lead_good b (lead_of b) (lead_case b))
stepped p b u (inside k g) =
    rw (ne_eqb p.left 0 k)
    (pick_of (λ (q : Place). (q ≡ lost) ⊎ Good q (u ++ b ∷ [])) (within p.low p.high b) {x = place (p.left - 1) 0x80 0xBF (p.code * 64 + b % 64)} {y = lost}
    (λ e. inr (next_good p.left p.low p.high p.code b u k g (within_low _ _ b e) (within_high _ _ b e)))
    (λ _. inl refl))

lost_step : (b : ℕ) → step_of lost b ≡ lost
unfolding step_of
lost_step b = pick_of (λ (q : Place). q ≡ lost) (within 255 0 b) (λ e. absurd (omega (arith, within_low 255 0 b e, within_high 255 0 b e))) (λ _. refl)

lost_run : (s : List ℕ) → run_from lost s ≡ lost
unfolding run_from
lost_run [] = refl
lost_run (b ∷ s) = rw (lost_step b) (lost_run s)

lost_left : (s : List ℕ) → (run_from lost s).left ≡ 0 → ⊥
lost_left s e = let f : lost.left ≡ 0 = rw (lost_run s) at e in omega (arith, f)

abbrev Result : Place → List ℕ → List ℕ → Type 0
Result p s u = (u ++ s ≡ encoded_all (scalars_from p s)) × (all_scalars (scalars_from p s) ≡ true)

abbrev Sent : Place → List ℕ → List ℕ → Type 0
Sent q s u = (u ++ s ≡ encoded_all (emit (eqb q.left 0) q.code (scalars_from q s)))
    × (all_scalars (emit (eqb q.left 0) q.code (scalars_from q s)) ≡ true)

whole : (n lo hi v : ℕ) (u : List ℕ) → n ≡ 0 → Right n lo hi v u → (u ≡ encoded v) × (is_scalar v ≡ true)
whole zero lo hi v u e g = g
whole (suc n) lo hi v u e g = absurd (omega arith)

landed : (q : Place) (s u : List ℕ) (k : Bool) → eqb q.left 0 ≡ k → Good q u → ((w : List ℕ) → Partial q w → Result q s w) → Sent q s u
unfolding encoded_all all_scalars
landed q s u true e g ih =
    let z : q.left ≡ 0 = eqb-true q.left 0 e in
    let r : Result q s [] = ih [] (between z) in
    let h : (u ≡ encoded q.code) × (is_scalar q.code ≡ true) = whole q.left q.low q.high q.code u z g in
    rw e (cc (h.0, r.0), and_both h.1 r.1)
landed q s u false e g ih = rw e (ih u (inside (eqb-false q.left 0 e) g))

sound : (s : List ℕ) (p : Place) (u : List ℕ) → Partial p u → (run_from p s).left ≡ 0 → Result p s u
unfolding run_from scalars_from encoded_all all_scalars
sound [] p u (between e) z = (refl, refl)
sound [] p u (inside k g) z = absurd (k z)
sound (b ∷ s) p u h z =
    ⊎_elim (λ l. absurd (lost_left s (subst (λ (q : Place). (run_from q s).left ≡ 0) l z)))
    (λ g. let r : Sent (step_of p b) s (u ++ b ∷ []) = landed (step_of p b) s (u ++ b ∷ []) _ refl g (λ w k. sound s (step_of p b) w k z) in
    (sym (append_assoc u (b ∷ []) s) ∙ r.0, r.1))
    (stepped p b u h)

module _ (s : List ℕ) (h : is_utf8 s ≡ true) where
  -- what was read, written again, is what was read from
  pub read_writes : encoded_all (scalars s) ≡ s
  unfolding is_utf8 scalars
  read_writes = sym (sound s start [] (between refl) (eqb-true (run_from start s).left 0 h)).0

  pub read_scalars : all_scalars (scalars s) ≡ true
  unfolding is_utf8 scalars
  read_scalars = (sound s start [] (between refl) (eqb-true (run_from start s).left 0 h)).1
