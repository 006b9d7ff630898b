-- The bytes of scalar values are well-formed, and read as those values. Assumes nothing.
use mathlib.Core.Path.{◌≡◌, refl, sym, ap, ◌∙◌}
use mathlib.Core.Bool.{Bool, true, false}
use mathlib.Core.List.{List, [], ◌∷◌, ◌++◌, append_assoc, append-nil}
use Prim.Native.Nat.{ℕ, suc, ◌+◌, ◌-◌, ◌*◌, ◌/◌, ◌%◌, ◌≤◌, ◌<◌}
use native.Mathlib.Omega.{arith}
use borrow.Author.Tests.{eq-eqb, ne_eqb, leb-true, leb-false}
use lib.Dec.{eqb, leb}
use lib.ListN.{length}
use Rattle.text.specs.Utf8.{is_scalar, all_scalars, encoded, encoded_all}
use Rattle.text.specs.Reader.{place, start, lead_of, step_of, run_from, is_utf8, emit, scalars_from, scalars}
use Rattle.text.specs.declared.utf8.Place.{Place}
use Rattle.arithmetic.proofs.BoolLaws.{within_yes, and_left, and_right}
use Rattle.text.proofs.Leads.{Lead, lead_case}
use Rattle.text.proofs.Leads.Lead.{one, two, three_e0, three_e1, three_ed, three_ee, four_f0, four_f1, four_f4, none}
use Rattle.text.proofs.Scalars.{scalar_top, scalar_gap, encoded_one, encoded_two, encoded_three, encoded_four, Size, size_of}
use Rattle.text.proofs.Scalars.Size.{of_one, of_two, of_three, of_four}
use Rattle.text.proofs.Sound.{step_lead}

-- the bytes u take a reader at q to the end of the character c
abbrev Fits : Place → List ℕ → ℕ → Type 0
Fits q [] c = (q.left ≡ 0) × (q.code ≡ c)
Fits q (b ∷ u) c = (q.left ≡ suc (length u)) × (q.low ≤ b) × (b ≤ q.high) × Fits (place (length u) 0x80 0xBF (q.code * 64 + b % 64)) u c

-- what a first byte asks for is what comes
one_fits : (c : ℕ) (q : Place) → Lead c q → c ≤ 0x7F → Fits q [] c
one_fits c q (one _) h = (refl, refl)
one_fits c q (two l _) h = absurd (omega arith)
one_fits c q (three_e0 e) h = absurd (omega arith)
one_fits c q (three_e1 l _) h = absurd (omega arith)
one_fits c q (three_ed e) h = absurd (omega arith)
one_fits c q (three_ee l _) h = absurd (omega arith)
one_fits c q (four_f0 e) h = absurd (omega arith)
one_fits c q (four_f1 l _) h = absurd (omega arith)
one_fits c q (four_f4 e) h = absurd (omega arith)
one_fits c q (none l _) h = absurd (omega arith)

two_fits : (c : ℕ) (q : Place) → Lead (0xC0 + c / 64) q → 0x7F < c → c ≤ 0x7FF → Fits q ((0x80 + c % 64) ∷ []) c
two_fits c q (one h) l k = absurd (omega arith)
two_fits c q (two _ _) l k = omega arith
two_fits c q (three_e0 e) l k = absurd (omega arith)
two_fits c q (three_e1 h _) l k = absurd (omega arith)
two_fits c q (three_ed e) l k = absurd (omega arith)
two_fits c q (three_ee h _) l k = absurd (omega arith)
two_fits c q (four_f0 e) l k = absurd (omega arith)
two_fits c q (four_f1 h _) l k = absurd (omega arith)
two_fits c q (four_f4 e) l k = absurd (omega arith)
two_fits c q (none h f) l k = absurd (omega (arith, f (omega arith)))

below_gap : (c : ℕ) (t : Bool) → leb 0xD800 c ≡ t → 0xE0 + c / 4096 ≡ 0xED → (0xD800 ≤ c → 0xE000 ≤ c) → 0x80 + c / 64 % 64 ≤ 0x9F
below_gap c true h e g = absurd (omega (arith, g (leb-true 0xD800 c h)))
below_gap c false h e g = omega (arith, leb-false 0xD800 c h)

three_fits : (c : ℕ) (q : Place) → Lead (0xE0 + c / 4096) q → 0x7FF < c → c ≤ 0xFFFF → (0xD800 ≤ c → 0xE000 ≤ c)
    → Fits q ((0x80 + c / 64 % 64) ∷ (0x80 + c % 64) ∷ []) c
three_fits c q (one h) l k g = absurd (omega arith)
three_fits c q (two _ h) l k g = absurd (omega arith)
three_fits c q (three_e0 e) l k g = omega arith
three_fits c q (three_e1 h _) l k g = omega arith
three_fits c q (three_ed e) l k g = (refl, omega arith, below_gap c _ refl e g, omega arith)
three_fits c q (three_ee h _) l k g = omega arith
three_fits c q (four_f0 e) l k g = absurd (omega arith)
three_fits c q (four_f1 h _) l k g = absurd (omega arith)
three_fits c q (four_f4 e) l k g = absurd (omega arith)
three_fits c q (none h f) l k g = absurd (omega (arith, f (omega arith)))

four_joined : (c : ℕ) → c ≤ 0x10FFFF
    → (((0xF0 + c / 262144) % 8 * 64 + (0x80 + c / 4096 % 64) % 64) * 64 + (0x80 + c / 64 % 64) % 64) * 64 + (0x80 + c % 64) % 64 ≡ c
four_joined c h =
    let e1 : (0xF0 + c / 262144) % 8 ≡ c / 262144 = omega arith in
    let e2 : (0x80 + c / 4096 % 64) % 64 ≡ c / 4096 % 64 = omega arith in
    let e3 : (0x80 + c / 64 % 64) % 64 ≡ c / 64 % 64 = omega arith in
    let e4 : (0x80 + c % 64) % 64 ≡ c % 64 = omega arith in
    rw (e1, e2, e3, e4) (up c)
  where
    high : (c : ℕ) → c / 262144 * 64 + c / 4096 % 64 ≡ c / 4096
    high c = omega arith

    mid : (c : ℕ) → c / 4096 * 64 + c / 64 % 64 ≡ c / 64
    mid c = omega arith

    up : (c : ℕ) → ((c / 262144 * 64 + c / 4096 % 64) * 64 + c / 64 % 64) * 64 + c % 64 ≡ c
    up c = rw (high c, mid c) (omega arith)

four_fits : (c : ℕ) (q : Place) → Lead (0xF0 + c / 262144) q → 0xFFFF < c → c ≤ 0x10FFFF
    → Fits q ((0x80 + c / 4096 % 64) ∷ (0x80 + c / 64 % 64) ∷ (0x80 + c % 64) ∷ []) c
four_fits c q (one h) l k = absurd (omega arith)
four_fits c q (two _ h) l k = absurd (omega arith)
four_fits c q (three_e0 e) l k = absurd (omega arith)
four_fits c q (three_e1 _ h) l k = absurd (omega arith)
four_fits c q (three_ed e) l k = absurd (omega arith)
four_fits c q (three_ee _ h) l k = absurd (omega arith)
four_fits c q (four_f0 e) l k = (refl, omega arith, omega arith, (refl, omega arith, omega arith, (refl, omega arith, omega arith, (refl, four_joined c k))))
four_fits c q (four_f1 _ _) l k = (refl, omega arith, omega arith, (refl, omega arith, omega arith, (refl, omega arith, omega arith, (refl, four_joined c k))))
four_fits c q (four_f4 e) l k = (refl, omega arith, omega arith, (refl, omega arith, omega arith, (refl, omega arith, omega arith, (refl, four_joined c k))))
four_fits c q (none h f) l k = absurd (omega (arith, f (omega arith)))

-- between characters it does not matter how one got there
pub fresh_run : (p q : Place) → p.left ≡ 0 → q.left ≡ 0 → (s : List ℕ) → (run_from p s).left ≡ (run_from q s).left
unfolding run_from
fresh_run p q e f [] = e ∙ sym f
fresh_run p q e f (b ∷ s) = ap (λ (r : Place). (run_from r s).left) (step_lead p b e ∙ sym (step_lead q b f))

pub fresh_scalars : (p q : Place) → p.left ≡ 0 → q.left ≡ 0 → (s : List ℕ) → scalars_from p s ≡ scalars_from q s
unfolding scalars_from
fresh_scalars p q e f [] = refl
fresh_scalars p q e f (b ∷ s) =
    ap (λ (r : Place). emit (eqb r.left 0) r.code (scalars_from r s)) (step_lead p b e ∙ sym (step_lead q b f))

step_tail : (p : Place) (n b : ℕ) → p.left ≡ suc n → p.low ≤ b → b ≤ p.high → step_of p b ≡ place n 0x80 0xBF (p.code * 64 + b % 64)
unfolding step_of
step_tail p n b e l h =
    let k : p.left ≡ 0 → ⊥ = λ z. omega arith in
    let d : p.left - 1 ≡ n = omega arith in
    rw (ne_eqb p.left 0 k, within_yes p.low p.high b l h, d)

abbrev Read : Place → List ℕ → ℕ → List ℕ → Type 0
Read q u c s = ((run_from q (u ++ s)).left ≡ (run_from start s).left)
    × (emit (eqb q.left 0) q.code (scalars_from q (u ++ s)) ≡ c ∷ scalars_from start s)

fits_read : (u : List ℕ) (q : Place) (c : ℕ) (s : List ℕ) → Fits q u c → Read q u c s
unfolding run_from scalars_from
fits_read [] q c s f = (
  fresh_run q start f.0 refl s,
  ap (λ (t : Bool). emit t q.code (scalars_from q s)) (eq-eqb q.left 0 f.0) ∙ cc (f.1, fresh_scalars q start f.0 refl s),
)
fits_read (b ∷ u) q c s f =
    let r : Read (place (length u) 0x80 0xBF (q.code * 64 + b % 64)) u c s = fits_read u _ c s f.3 in
    let k : q.left ≡ 0 → ⊥ = λ z. omega (arith, f.0) in
    let e : step_of q b ≡ place (length u) 0x80 0xBF (q.code * 64 + b % 64) = step_tail q (length u) b f.0 f.1 f.2 in (
      ap (λ (p : Place). (run_from p (u ++ s)).left) e ∙ r.0,
      ap (λ (t : Bool). emit t q.code (scalars_from q (b ∷ u ++ s))) (ne_eqb q.left 0 k)
          ∙ ap (λ (p : Place). emit (eqb p.left 0) p.code (scalars_from p (u ++ s))) e ∙ r.1,
    )

-- a first byte b, with the others u, that are those of c
led : (b : ℕ) (u : List ℕ) (p : Place) (c : ℕ) (s : List ℕ) → p.left ≡ 0 → Fits (lead_of b) u c
    → ((run_from p (b ∷ u ++ s)).left ≡ (run_from start s).left) × (scalars_from p (b ∷ u ++ s) ≡ c ∷ scalars_from start s)
unfolding run_from scalars_from
led b u p c s e f =
    let r : Read (lead_of b) u c s = fits_read u (lead_of b) c s f in (
      ap (λ (q : Place). (run_from q (u ++ s)).left) (step_lead p b e) ∙ r.0,
      ap (λ (q : Place). emit (eqb q.left 0) q.code (scalars_from q (u ++ s))) (step_lead p b e) ∙ r.1,
    )

abbrev Taken : Place → ℕ → List ℕ → Type 0
Taken p c s = ((run_from p (encoded c ++ s)).left ≡ (run_from start s).left) × (scalars_from p (encoded c ++ s) ≡ c ∷ scalars_from start s)

pub char_read : (p : Place) (c : ℕ) (s : List ℕ) → p.left ≡ 0 → is_scalar c ≡ true → Taken p c s
char_read p c s e h = by_size (size_of c)
  where
    by_size : Size c → Taken p c s
    by_size (of_one m) = rw (encoded_one c m) (led c [] p c s e (one_fits c (lead_of c) (lead_case c) m))
    by_size (of_two l m) =
        rw (encoded_two c l m) (led (0xC0 + c / 64) ((0x80 + c % 64) ∷ []) p c s e (two_fits c (lead_of (0xC0 + c / 64)) (lead_case (0xC0 + c / 64)) l m))
    by_size (of_three l m) =
        rw (encoded_three c l m)
        (led (0xE0 + c / 4096) ((0x80 + c / 64 % 64) ∷ (0x80 + c % 64) ∷ []) p c s e
        (three_fits c (lead_of (0xE0 + c / 4096)) (lead_case (0xE0 + c / 4096)) l m (scalar_gap c h)))
    by_size (of_four l) =
        rw (encoded_four c l)
        (led (0xF0 + c / 262144) ((0x80 + c / 4096 % 64) ∷ (0x80 + c / 64 % 64) ∷ (0x80 + c % 64) ∷ []) p c s e
        (four_fits c (lead_of (0xF0 + c / 262144)) (lead_case (0xF0 + c / 262144)) l (scalar_top c h)))

-- what was written is read back
all_read : (cs : List ℕ) (s : List ℕ) → all_scalars cs ≡ true
    → ((run_from start (encoded_all cs ++ s)).left ≡ (run_from start s).left) × (scalars_from start (encoded_all cs ++ s) ≡ cs ++ scalars_from start s)
unfolding encoded_all all_scalars
all_read [] s h = (refl, refl)
all_read (c ∷ cs) s h =
    let r = all_read cs s (and_right (is_scalar c) (all_scalars cs) h) in
    let t : Taken start c (encoded_all cs ++ s) = char_read start c (encoded_all cs ++ s) refl (and_left (is_scalar c) (all_scalars cs) h) in
    rw (append_assoc (encoded c) (encoded_all cs) s) (t.0 ∙ r.0, t.1 ∙ ap (λ (l : List ℕ). c ∷ l) r.1)

module _ (cs : List ℕ) (h : all_scalars cs ≡ true) where
  pub written_well : is_utf8 (encoded_all cs) ≡ true
  unfolding is_utf8 run_from
  written_well = eq-eqb _ 0 (rw (append-nil (encoded_all cs)) at (all_read cs [] h).0)

  pub written_reads : scalars (encoded_all cs) ≡ cs
  unfolding scalars scalars_from
  written_reads = rw (append-nil (encoded_all cs)) at ((all_read cs [] h).1 ∙ append-nil cs)
