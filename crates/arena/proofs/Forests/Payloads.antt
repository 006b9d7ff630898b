-- What holds of every node, and changes that leave the shape alone: links and counts see nothing of what is known of a node. Assumes nothing.
use Rattle.std.proofs.Common.{◌≡◌, ℕ, ◌+◌, ◌<◌, Bool, true, false, cond, List, sym, refl, ap, ◌∙◌, arith}
use Rattle.arithmetic.specs.Tests.{same, δ}
use Rattle.arena.specs.Forest.{Forest, nil, node, app, size, map_f, any_f}
use Rattle.arena.specs.Slots.{NIL, Slots}
use Rattle.arithmetic.proofs.TestLaws.{δ-refl, eq_cases, zero_cases, bool_cases}
use Rattle.arena.proofs.Forests.ForestLaws.{first_or, last_or, cnt, top, kids, set_kids, cut, wt}
use Rattle.arena.proofs.Forests.Segments.{SegR}
use Rattle.arena.proofs.Forests.Relations.{Rel}

module _ {X : Type 0} where
  abbrev pub AllF : (ℕ → ℕ → X → Type 0) → Forest X → Type 0
  AllF P nil = Unit {0}
  AllF P (node i g x cs sib) = P i g x × AllF P cs × AllF P sib

  pub all_map : (P Q : ℕ → ℕ → X → Type 0) (f : Forest X) → ((i g : ℕ) (x : X) → 0 < cnt i f → P i g x → Q i g x) → AllF P f → AllF Q f
  all_map P Q nil h r = tt
  all_map P Q (node i g x cs sib) h r = let d = δ-refl i in
      (h i g x (omega arith) r.0, all_map P Q cs (λ k m y c. h k m y (omega arith)) r.1, all_map P Q sib (λ k m y c. h k m y (omega arith)) r.2)

  pub all_app : (P : ℕ → ℕ → X → Type 0) (f t : Forest X) → AllF P f → AllF P t → AllF P (app f t)
  all_app P nil t r s = s
  all_app P (node i g x cs sib) t r s = (r.0, r.1, all_app P sib t r.2 s)

  pub all_kids : (P : ℕ → ℕ → X → Type 0) (p : ℕ) (f : Forest X) → AllF P f → AllF P (kids p f)
  all_kids P p nil r = tt
  all_kids P p (node i g x cs sib) r =
      all_app P (cond (same i p) cs (kids p cs)) (kids p sib)
      (eq_cases i p (λ e s d. rw s r.1) (λ e s d. rw s (all_kids P p cs r.1))) (all_kids P p sib r.2)

  pub all_set : (P : ℕ → ℕ → X → Type 0) (p : ℕ) (k f : Forest X) → AllF P k → AllF P f → AllF P (set_kids p k f)
  all_set P p k nil q r = tt
  all_set P p k (node i g x cs sib) q r =
      (r.0, eq_cases i p (λ e s d. rw s q) (λ e s d. rw s (all_set P p k cs q r.1)), all_set P p k sib q r.2)

  pub all_cut : (P : ℕ → ℕ → X → Type 0) (p : ℕ) (f : Forest X) → AllF P f → AllF P (cut p f)
  all_cut P p nil r = tt
  all_cut P p (node i g x cs sib) r =
      eq_cases i p (λ e s d. rw s r.2) (λ e s d. rw s (r.0, all_cut P p cs r.1, all_cut P p sib r.2))

  -- ---- the shape: links and counts see nothing of the payloads

  abbrev pub shape : Forest X → Forest (Unit {0})
  shape f = map_f (λ i g x. tt) f

  pub shape_first : (d : ℕ) (f : Forest X) → first_or d (shape f) ≡ first_or d f
  shape_first d nil = refl
  shape_first d (node i g x cs sib) = refl

  pub shape_last : (d : ℕ) (f : Forest X) → last_or d (shape f) ≡ last_or d f
  shape_last d nil = refl
  shape_last d (node i g x cs sib) = shape_last i sib

  pub shape_wt : (w : ℕ → ℕ → ℕ) (f : Forest X) → wt (λ i g x. w i g) (shape f) ≡ wt (λ i g x. w i g) f
  shape_wt w nil = refl
  shape_wt w (node i g x cs sib) = let h = shape_wt w cs in let h' = shape_wt w sib in omega arith

  pub shape_size : (f : Forest X) → size (shape f) ≡ size f
  shape_size nil = refl
  shape_size (node i g x cs sib) = let h = shape_size cs in let h' = shape_size sib in omega arith

  pub shape_top : (j : ℕ) (f : Forest X) → top j (shape f) ≡ top j f
  shape_top j nil = refl
  shape_top j (node i g x cs sib) = ap (λ (n : ℕ). δ i j + n) (shape_top j sib)

  pub shape_seg : (a : Slots) (f : Forest X) (par pv nx : ℕ) → SegR a par pv f nx ≡ SegR a par pv (shape f) nx
  shape_seg a nil par pv nx = refl
  shape_seg a (node i g x cs sib) par pv nx = rw (shape_first NIL cs, shape_last NIL cs, shape_first nx sib, shape_seg a cs i NIL NIL, shape_seg a sib par i nx)

module _ {X Y : Type 0} where
  pub seg_shape : (a : Slots) (f : Forest X) (f' : Forest Y) (par pv nx : ℕ) → shape f ≡ shape f' → SegR a par pv f nx → SegR a par pv f' nx
  seg_shape a f f' par pv nx e r = rw (shape_seg a f' par pv nx, ← e, ← shape_seg a f par pv nx) r

  pub cnt_shape : (j : ℕ) (f : Forest X) (f' : Forest Y) → shape f ≡ shape f' → cnt j f ≡ cnt j f'
  cnt_shape j f f' e = sym (shape_wt (λ i g. δ i j) f) ∙ ap (λ (q : Forest (Unit {0})). cnt j q) e ∙ shape_wt (λ i g. δ i j) f'

  -- what keeps the shape keeps the relation
  pub rel_shape : (n : ℕ) (a : Slots) (free : ℕ) (f : Forest X) (f' : Forest Y) (fl : List ℕ) → shape f ≡ shape f' → Rel n a free f fl → Rel n a free f' fl
  rel_shape n a free f f' fl e r = record {
    len = r.len;
    small = r.small;
    links = seg_shape a f f' NIL NIL NIL e r.links;
    frees = r.frees;
    head = r.head;
    cover = λ j h. rw (← cnt_shape j f f' e) (r.cover j h);
    inside = λ j h. rw (← cnt_shape j f f' e) (r.inside j h);
    root = λ j. sym (shape_top j f') ∙ ap (top j) (sym e) ∙ shape_top j f ∙ r.root j;
    total = let q : size f ≡ size f' = sym (shape_size f) ∙ ap (λ (q : Forest (Unit {0})). size q) e ∙ shape_size f' in let t = r.total in omega arith;
  }

pub shape_map : {X Y : Type 0} (u : ℕ → ℕ → X → Y) (f : Forest X) → shape (map_f u f) ≡ shape f
shape_map u nil = refl
shape_map u (node i g x cs sib) = rw (shape_map u cs, shape_map u sib)

module _ {X : Type 0} where
  pub record At (P : ℕ → ℕ → X → Type 0) (i : ℕ) : Type 0 where
    pub gen : ℕ
    pub load : X
    pub holds : P i gen load

  -- the node with index j
  pub all_at : (P : ℕ → ℕ → X → Type 0) (j : ℕ) (f : Forest X) → AllF P f → 0 < cnt j f → At P j
  all_at P j nil r z = absurd (omega arith)
  all_at P j (node i g x cs sib) r z =
      eq_cases i j
      (λ e s d. record { gen = g; load = x; holds = rw (← e) r.0 })
      (λ e s d. zero_cases (cnt j cs) (λ c. all_at P j sib r.2 (omega arith)) (λ c. all_at P j cs r.1 c))

  pub all_both : (P Q : ℕ → ℕ → X → Type 0) (f : Forest X) → AllF P f → AllF Q f → AllF (λ i g x. P i g x × Q i g x) f
  all_both P Q nil p q = tt
  all_both P Q (node i g x cs sib) p q = ((p.0, q.0), all_both P Q cs p.1 q.1, all_both P Q sib p.2 q.2)

  pub all_map_f : {Y : Type 0} (P : ℕ → ℕ → Y → Type 0) (v : ℕ → ℕ → X → Y) (f : Forest X) → AllF (λ i g x. P i g (v i g x)) f → AllF P (map_f v f)
  all_map_f P v nil r = tt
  all_map_f P v (node i g x cs sib) r = (r.0, all_map_f P v cs r.1, all_map_f P v sib r.2)

  pub record Hit-at (q : ℕ → ℕ → X → Bool) (P : ℕ → ℕ → X → Type 0) (f : Forest X) : Type 0 where
    pub ix : ℕ
    pub gen : ℕ
    pub load : X
    pub yes_it : q ix gen load ≡ true
    pub holds : P ix gen load
    pub there : 0 < cnt ix f

  pub any_cases {ℓ} : {G : Type ℓ} (q : ℕ → ℕ → X → Bool) (P : ℕ → ℕ → X → Type 0) (f : Forest X) → AllF P f
      → (any_f q f ≡ true → Hit-at q P f → G) → (any_f q f ≡ false → AllF (λ i g x. q i g x ≡ false) f → G) → G
  any_cases q P nil r y n = n refl tt
  any_cases q P (node i g x cs sib) r y n =
      let d = δ-refl i in
      bool_cases (q i g x)
      (λ b. y (rw b) (record { ix = i; gen = g; load = x; yes_it = b; holds = r.0; there = omega arith }))
      (λ b. any_cases q P cs r.1
      (λ b1 w. let th = w.there in y (rw (b, b1)) (record { ix = w.ix; gen = w.gen; load = w.load; yes_it = w.yes_it; holds = w.holds; there = omega arith }))
      (λ b1 w1. any_cases q P sib r.2
      (λ b2 w. let th = w.there in y (rw (b, b1, b2)) (record { ix = w.ix; gen = w.gen; load = w.load; yes_it = w.yes_it; holds = w.holds; there = omega arith }))
      (λ b2 w2. n (rw (b, b1, b2)) (b, w1, w2))))
