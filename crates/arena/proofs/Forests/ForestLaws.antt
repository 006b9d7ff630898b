-- Counts over a forest, its nodes by index, and changes of the children of one. Assumes nothing.
use Rattle.std.proofs.Common.{◌≡◌, ℕ, ◌+◌, ◌<◌, ◌≤◌, cond, ◌≢◌, sym, refl, ap, ◌∙◌, arith}
use Rattle.arithmetic.specs.Tests.{same, δ}
use Rattle.arena.specs.Forest.{Forest, nil, node, app, size}
use Rattle.arithmetic.proofs.TestLaws.{eq_cases, zero_cases}
pub use Rattle.arena.specs.Spelled.{first_or, last_or, wt, cnt, top}

module _ {X : Type 0} where
  abbrev pub kids : ℕ → Forest X → Forest X
  kids p nil = nil
  kids p (node i g x cs sib) = app (cond (same i p) cs (kids p cs)) (kids p sib)

  abbrev pub set_kids : ℕ → Forest X → Forest X → Forest X
  set_kids p k nil = nil
  set_kids p k (node i g x cs sib) = node i g x (cond (same i p) k (set_kids p k cs)) (set_kids p k sib)

  -- without the node i and all below it
  abbrev pub cut : ℕ → Forest X → Forest X
  cut j nil = nil
  cut j (node i g x cs sib) = cond (same i j) sib (node i g x (cut j cs) (cut j sib))

  pub app_nil : (f : Forest X) → app f nil ≡ f
  app_nil nil = refl
  app_nil (node i g x cs sib) = ap (node i g x cs) (app_nil sib)

  pub wt_app : (w : ℕ → ℕ → X → ℕ) (f t : Forest X) → wt w (app f t) ≡ wt w f + wt w t
  wt_app w nil t = omega arith
  wt_app w (node i g x cs sib) t = let h = wt_app w sib t in omega arith

  pub size_is_a_sum : (f : Forest X) → size f ≡ wt (λ i g x. 1) f
  size_is_a_sum nil = refl
  size_is_a_sum (node i g x cs sib) = let h = size_is_a_sum cs in let k = size_is_a_sum sib in omega arith

  pub size_app : (f t : Forest X) → size (app f t) ≡ size f + size t
  size_app nil t = omega arith
  size_app (node i g x cs sib) t = let h = size_app sib t in omega arith

  pub cnt_app : (j : ℕ) (f t : Forest X) → cnt j (app f t) ≡ cnt j f + cnt j t
  cnt_app j f t = wt_app (λ i g x. δ i j) f t

  pub top_app : (j : ℕ) (f t : Forest X) → top j (app f t) ≡ top j f + top j t
  top_app j nil t = omega arith
  top_app j (node i g x cs sib) t = let h = top_app j sib t in omega arith

  pub first_or_app : (d : ℕ) (f t : Forest X) → first_or d (app f t) ≡ first_or (first_or d t) f
  first_or_app d nil t = refl
  first_or_app d (node i g x cs sib) t = refl

  pub last_or_app : (d : ℕ) (f t : Forest X) → last_or d (app f t) ≡ last_or (last_or d f) t
  last_or_app d nil t = refl
  last_or_app d (node i g x cs sib) t = last_or_app i sib t

  pub first_or_set : (d p : ℕ) (k f : Forest X) → first_or d (set_kids p k f) ≡ first_or d f
  first_or_set d p k nil = refl
  first_or_set d p k (node i g x cs sib) = refl

  pub last_or_set : (d p : ℕ) (k f : Forest X) → last_or d (set_kids p k f) ≡ last_or d f
  last_or_set d p k nil = refl
  last_or_set d p k (node i g x cs sib) = last_or_set i p k sib

  pub top_le_cnt : (j : ℕ) (f : Forest X) → top j f ≤ cnt j f
  top_le_cnt j nil = omega arith
  top_le_cnt j (node i g x cs sib) = let h = top_le_cnt j sib in omega arith

  pub kids_none : (p : ℕ) (f : Forest X) → cnt p f ≡ 0 → kids p f ≡ nil
  kids_none p nil z = refl
  kids_none p (node i g x cs sib) z =
      eq_cases i p (λ e s d. absurd (omega arith)) λ e s d.
      rw (s, kids_none p cs (omega arith), kids_none p sib (omega arith))

  pub set_none : (p : ℕ) (k f : Forest X) → cnt p f ≡ 0 → set_kids p k f ≡ f
  set_none p k nil z = refl
  set_none p k (node i g x cs sib) z =
      eq_cases i p (λ e s d. absurd (omega arith)) λ e s d.
      rw (s, set_none p k cs (omega arith), set_none p k sib (omega arith))

  pub cut_none : (p : ℕ) (f : Forest X) → cnt p f ≡ 0 → cut p f ≡ f
  cut_none p nil z = refl
  cut_none p (node i g x cs sib) z =
      eq_cases i p (λ e s d. absurd (omega arith)) λ e s d.
      rw (s, cut_none p cs (omega arith), cut_none p sib (omega arith))

  -- ---- putting back what was there

  pub set_self : (p : ℕ) (f : Forest X) → cnt p f ≤ 1 → set_kids p (kids p f) f ≡ f
  set_self p nil z = refl
  set_self p (node i g x cs sib) z =
      eq_cases i p
      (λ e s d.
      let q : kids p (node i g x cs sib) ≡ cs = rw (s, kids_none p sib (omega arith)) (app_nil cs) in
      let m : set_kids p cs (node i g x cs sib) ≡ node i g x cs sib = rw (s, set_none p cs sib (omega arith)) in
      ap (λ k. set_kids p k (node i g x cs sib)) q ∙ m)
      λ e s d. zero_cases (cnt p cs)
      (λ c.
      let q : kids p (node i g x cs sib) ≡ kids p sib = rw (s, kids_none p cs c) in
      let m : set_kids p (kids p sib) (node i g x cs sib) ≡ node i g x cs sib = rw (s, set_none p (kids p sib) cs c, set_self p sib (omega arith)) in
      ap (λ k. set_kids p k (node i g x cs sib)) q ∙ m)
      (λ c.
      let q : kids p (node i g x cs sib) ≡ kids p cs = rw (s, kids_none p sib (omega arith)) (app_nil (kids p cs)) in
      let m : set_kids p (kids p cs) (node i g x cs sib) ≡ node i g x cs sib = rw (s, set_self p cs (omega arith), set_none p (kids p cs) sib (omega arith)) in
      ap (λ k. set_kids p k (node i g x cs sib)) q ∙ m)

  pub wt_set : (w : ℕ → ℕ → X → ℕ) (p : ℕ) (k f : Forest X) → cnt p f ≡ 1 → wt w (set_kids p k f) ≡ wt w (set_kids p nil f) + wt w k
  wt_set w p k nil z = absurd (omega arith)
  wt_set w p k (node i g x cs sib) z =
      eq_cases i p
      (λ e s d. rw (s, set_none p k sib (omega arith), set_none p nil sib (omega arith)) (omega arith))
      λ e s d. zero_cases (cnt p cs)
      (λ c. let h = wt_set w p k sib (omega arith) in rw (s, set_none p k cs c, set_none p nil cs c) (omega arith))
      (λ c. let h = wt_set w p k cs (omega arith) in rw (s, set_none p k sib (omega arith), set_none p nil sib (omega arith)) (omega arith))

  pub wt_rest : (w : ℕ → ℕ → X → ℕ) (p : ℕ) (f : Forest X) → cnt p f ≡ 1 → wt w f ≡ wt w (set_kids p nil f) + wt w (kids p f)
  wt_rest w p f z = ap (wt w) (sym (set_self p f (omega arith))) ∙ wt_set w p (kids p f) f z

  pub cnt_set : (j p : ℕ) (k f : Forest X) → cnt p f ≡ 1 → cnt j (set_kids p k f) ≡ cnt j (set_kids p nil f) + cnt j k
  cnt_set j p k f z = wt_set (λ i g x. δ i j) p k f z

  pub cnt_rest : (j p : ℕ) (f : Forest X) → cnt p f ≡ 1 → cnt j f ≡ cnt j (set_kids p nil f) + cnt j (kids p f)
  cnt_rest j p f z = wt_rest (λ i g x. δ i j) p f z

  pub top_set : (j p : ℕ) (k f : Forest X) → top j (set_kids p k f) ≡ top j f
  top_set j p k nil = refl
  top_set j p k (node i g x cs sib) = ap (λ (n : ℕ). δ i j + n) (top_set j p k sib)

  pub own_kids : (p : ℕ) (f : Forest X) → cnt p f ≤ 1 → cnt p (kids p f) ≡ 0
  own_kids p nil z = refl
  own_kids p (node i g x cs sib) z =
      eq_cases i p
      (λ e s d. rw (s, kids_none p sib (omega arith), app_nil cs) (omega arith))
      λ e s d. zero_cases (cnt p cs)
      (λ c. rw (s, kids_none p cs c) (own_kids p sib (omega arith)))
      (λ c. rw (s, kids_none p sib (omega arith), app_nil (kids p cs)) (own_kids p cs (omega arith)))

  pub ne_by : (f : Forest X) (i j : ℕ) → 0 < cnt i f → cnt j f ≡ 0 → i ≢ j
  ne_by f i j z u e = let z' : 0 < cnt j f = rw e at z in omega arith

  pub cnt_kids_le : (j p : ℕ) (f : Forest X) → cnt p f ≤ 1 → top j f + cnt j (kids p f) ≤ cnt j f
  cnt_kids_le j p nil z = omega arith
  cnt_kids_le j p (node i g x cs sib) z =
      let t = top_le_cnt j sib in
      eq_cases i p
      (λ e s d. rw (s, kids_none p sib (omega arith), app_nil cs) (omega arith))
      λ e s d. zero_cases (cnt p cs)
      (λ c. let h = cnt_kids_le j p sib (omega arith) in rw (s, kids_none p cs c) (omega arith))
      (λ c. let h = cnt_kids_le j p cs (omega arith) in rw (s, kids_none p sib (omega arith), app_nil (kids p cs)) (omega arith))

  -- ---- a topmost node cuts the list

  pub record Split (i : ℕ) (f : Forest X) : Type 0 where
    pub pre : Forest X
    pub gen : ℕ
    pub load : X
    pub below : Forest X
    pub post : Forest X
    pub whole : f ≡ app pre (node i gen load below post)

  pub split : (i : ℕ) (f : Forest X) → 0 < top i f → Split i f
  split i nil z = absurd (omega arith)
  split i (node k g x cs sib) z =
      eq_cases k i
      (λ e s d. record { pre = nil; gen = g; load = x; below = cs; post = sib; whole = ap (λ (n : ℕ). node n g x cs sib) e })
      λ e s d. let r = split i sib (omega arith) in
      record { pre = node k g x cs r.pre; gen = r.gen; load = r.load; below = r.below; post = r.post; whole = ap (node k g x cs) r.whole }

  pub cut_app : (i g : ℕ) (x : X) (pre c post : Forest X) → cnt i pre ≡ 0 → cut i (app pre (node i g x c post)) ≡ app pre post
  cut_app i g x nil c post z = eq_cases i i (λ e s d. rw s) (λ e s d. absurd (e refl))
  cut_app i g x (node k h y cs sib) c post z =
      eq_cases k i (λ e s d. absurd (omega arith)) λ e s d.
      rw (s, cut_none i cs (omega arith), cut_app i g x sib c post (omega arith))

  -- to cut a node that is not topmost is to cut it from its parent's children
  pub cut_set : (i p : ℕ) (f : Forest X) → cnt p f ≡ 1 → cnt i f ≤ 1 → top i f ≡ 0 → 0 < cnt i (kids p f) → cut i f ≡ set_kids p (cut i (kids p f)) f
  cut_set i p nil z u t k = refl
  cut_set i p (node y g x cs sib) z u t k =
      eq_cases y i (λ e s d. absurd (omega arith)) λ e s d.
      eq_cases y p
      (λ e' s' d'.
      let q : kids p (node y g x cs sib) ≡ cs = rw (s', kids_none p sib (omega arith)) (app_nil cs) in
      let k' : 0 < cnt i cs = rw q at k in
      let m : cut i (node y g x cs sib) ≡ set_kids p (cut i cs) (node y g x cs sib) = rw (s, s', cut_none i sib (omega arith), set_none p (cut i cs) sib (omega arith)) in
      m ∙ ap (λ z. set_kids p (cut i z) (node y g x cs sib)) (sym q))
      λ e' s' d'. zero_cases (cnt p cs)
      (λ c.
      let q : kids p (node y g x cs sib) ≡ kids p sib = rw (s', kids_none p cs c) in
      let k' : 0 < cnt i (kids p sib) = rw q at k in
      let l = cnt_kids_le i p sib (omega arith) in
      let m : cut i (node y g x cs sib) ≡ set_kids p (cut i (kids p sib)) (node y g x cs sib) =
      rw (s, s', cut_none i cs (omega arith), set_none p (cut i (kids p sib)) cs c, cut_set i p sib (omega arith) (omega arith) (omega arith) k') in
      m ∙ ap (λ z. set_kids p (cut i z) (node y g x cs sib)) (sym q))
      (λ c.
      let q : kids p (node y g x cs sib) ≡ kids p cs = rw (s', kids_none p sib (omega arith)) (app_nil (kids p cs)) in
      let k' : 0 < cnt i (kids p cs) = rw q at k in
      let l = cnt_kids_le i p cs (omega arith) in
      let m : cut i (node y g x cs sib) ≡ set_kids p (cut i (kids p cs)) (node y g x cs sib) =
      rw (s, s', cut_none i sib (omega arith), set_none p (cut i (kids p cs)) sib (omega arith), cut_set i p cs (omega arith) (omega arith) (omega arith) k') in
      m ∙ ap (λ z. set_kids p (cut i z) (node y g x cs sib)) (sym q))
