-- Of a field that keeps the rules: an edit is the edit of its text and mark, character by character; it keeps the rules; and the field then
-- holds the edited text. Why: the bytes of the edited text are again some scalar values' bytes, of at most 64 in all. Assumes nothing.
use mathlib.Core.Path.{◌≡◌, refl, sym, ap, ap₂, subst, ◌∙◌}
use mathlib.Core.Bool.{Bool, true, false, ◌&&◌, cond}
use mathlib.Core.List.{List, [], ◌∷◌, ◌++◌, reverse, reverse_aux, reverse_aux-eq, reverse-reverse, reverse_aux-reverse_aux-nil}
use Prim.Native.Nat.{ℕ, ◌+◌, ◌≤◌}
use native.Mathlib.Omega.{arith}
use borrow.Author.Tests.{le-leb, leb-true}
use lib.Dec.{leb}
use lib.ListN.{length, take, drop, length-append, length-drop, length-take}
use lib.Seq.{take-append_seam, drop-append_seam, length-take-le, take-append-le}
use Rattle.text.specs.Utf8.{is_scalar, all_scalars, encoded, encoded_all}
use Rattle.text.specs.Reader.{is_utf8, scalars, scalars_from, run_from}
use Rattle.arithmetic.proofs.BoolLaws.{and_left, and_right, and_both, no_more}
use Rattle.text.proofs.Complete.{written_well, written_reads}
use Rattle.text.proofs.Texts.{encodings_join, scalars_join, scalars_part}
use Rattle.field.specs.Text.{Text, text, bytes_of, caret_of, goes_in, typed, keyed, before}
use Rattle.field.specs.Marks.{takes, mark_after, may_stand, next_mark}
use Rattle.field.specs.Fields.{empty_field, in_range, text_ok, mark_ok, field_ok, held, put_in, edited, inserted, text_of, with_text, with_mark, unconfirmed}
use Rattle.arithmetic.specs.Tests.{over}
use Rattle.field.specs.declared.Field.{Field}
use Rattle.field.specs.declared.Mark.{Mark}
use Rattle.field.specs.declared.Mark.TheVariants.{Untouched, Typed, Confirmed}
use Rattle.field.specs.declared.EditOp.{EditOp}
use Rattle.field.specs.declared.EditOp.TheVariants.{Backspace, Delete, Left, Right, Home, End}
use Rattle.field.proofs.Ranges.{length_in_range, text_by_the_rules, mark_by_the_rules}
use Rattle.field.proofs.Parts.{parts, bytes_of_text, parts_are_held, caret_is_after_front, own_text_is_kept}
use Rattle.field.proofs.Edits.{put_text, edit_of_the_parts}

-- scalar values, of at most 64 bytes in all
pub record Fine (l : List ℕ) : Type 0 where
  pub fits : length (encoded_all l) ≤ 64
  pub proper : all_scalars l ≡ true

abbrev pub Good : Text → Type 0
Good (text b a) = Fine (reverse_aux b a)

module _ (f : Field) (b a : List ℕ) (m : Mark) (g : Good (text b a)) where
  both : (all_scalars (reverse b) ≡ true) × (all_scalars a ≡ true)
  both = scalars_part (reverse b) a (subst (λ (l : List ℕ). all_scalars l ≡ true) (reverse_aux-eq b a) g.proper)

  few : length (bytes_of (text b a)) ≤ 64
  unfolding bytes_of
  few = g.fits

  all_of : bytes_of (text b a) ≡ encoded_all (reverse b) ++ encoded_all a
  all_of = bytes_of_text b a

  taken_all : take (length (bytes_of (text b a))) (over (bytes_of (text b a)) f.bytes) ≡ bytes_of (text b a)
  taken_all = take-append_seam (bytes_of (text b a)) (drop (length (bytes_of (text b a))) f.bytes)

  front_in : length (encoded_all (reverse b)) ≤ length (bytes_of (text b a))
  front_in = omega (arith, ap length all_of, length-append (encoded_all (reverse b)) (encoded_all a))

  taken_front : take (length (encoded_all (reverse b))) (over (bytes_of (text b a)) f.bytes) ≡ encoded_all (reverse b)
  taken_front =
      take-append-le (length (encoded_all (reverse b))) (bytes_of (text b a)) (drop (length (bytes_of (text b a))) f.bytes) front_in
      ∙ ap (take (length (encoded_all (reverse b)))) all_of ∙ take-append_seam (encoded_all (reverse b)) (encoded_all a)

  with_text_ok : text_ok (with_text f (text b a) m) ≡ true
  unfolding text_ok in_range with_text caret_of
  with_text_ok =
      let h1 : is_utf8 (bytes_of (text b a)) ≡ true =
      ap is_utf8 (all_of ∙ sym (encodings_join (reverse b) a)) ∙ written_well (reverse b ++ a) (scalars_join (reverse b) a both.0 both.1) in
      and_both
      (and_both (le-leb (length (bytes_of (text b a))) 64 few) (le-leb (length (encoded_all (reverse b))) (length (bytes_of (text b a))) front_in))
      (and_both (ap is_utf8 taken_all ∙ h1) (ap is_utf8 taken_front ∙ written_well (reverse b) both.0))

  pub with_ok : may_stand m (bytes_of (text b a)) ≡ true → field_ok (with_text f (text b a) m) ≡ true
  unfolding field_ok mark_ok with_text
  with_ok w = and_both with_text_ok (ap (may_stand m) taken_all ∙ w)

  pub with_text_lem : text_of (with_text f (text b a) m) ≡ text b a
  unfolding text_of with_text caret_of
  with_text_lem =
      ap₂ text
      (ap (λ (s : List ℕ). reverse (scalars s)) taken_front ∙ ap reverse (written_reads (reverse b) both.0) ∙ reverse-reverse b)
      (ap (λ (s : List ℕ). scalars (drop (length (encoded_all (reverse b))) s)) (taken_all ∙ all_of)
      ∙ ap scalars (drop-append_seam (encoded_all (reverse b)) (encoded_all a)) ∙ written_reads a both.1)

  pub with_long : length f.bytes ≡ 64 → length (with_text f (text b a) m).bytes ≡ 64
  unfolding with_text
  with_long l =
      omega (arith, length-append (bytes_of (text b a)) (drop (length (bytes_of (text b a))) f.bytes), length-drop (length (bytes_of (text b a))) f.bytes, few)

-- the text that a field holds is good, and an edit keeps it so
pub held_good : (f : Field) → field_ok f ≡ true → Good (text_of f)
unfolding bytes_of
held_good f h =
    let p = parts f h in
    let r : Good (text p.front p.back) = record {
      fits = omega (arith, ap length (bytes_of_text p.front p.back ∙ parts_are_held f p), length-take f.len f.bytes, length_in_range f p.ranged);
      proper = subst (λ (x : List ℕ). all_scalars x ≡ true) (sym (reverse_aux-eq p.front p.back)) (scalars_join (reverse p.front) p.back p.front_scalars p.back_scalars);
    } in
    subst Good (sym p.is_text) r

one_long : (c : ℕ) (a : List ℕ) → length (encoded_all (c ∷ a)) ≡ length (encoded c) + length (encoded_all a)
unfolding encoded_all
one_long c a = length-append (encoded c) (encoded_all a)

less : (c : ℕ) (b a : List ℕ) → Fine (reverse_aux b (c ∷ a)) → Fine (reverse_aux b a)
unfolding all_scalars
less c b a g =
    let x : List ℕ = reverse b in
    let s = scalars_part x (c ∷ a) (subst (λ (l : List ℕ). all_scalars l ≡ true) (reverse_aux-eq b (c ∷ a)) g.proper) in
    let n : length (encoded_all (reverse_aux b (c ∷ a))) ≡ length (encoded_all x) + length (encoded_all (c ∷ a)) =
    ap (λ (l : List ℕ). length (encoded_all l)) (reverse_aux-eq b (c ∷ a)) ∙ ap length (encodings_join x (c ∷ a)) ∙ length-append (encoded_all x) (encoded_all (c ∷ a)) in
    let m : length (encoded_all (reverse_aux b a)) ≡ length (encoded_all x) + length (encoded_all a) =
    ap (λ (l : List ℕ). length (encoded_all l)) (reverse_aux-eq b a) ∙ ap length (encodings_join x a) ∙ length-append (encoded_all x) (encoded_all a) in
    let k : length (encoded_all (c ∷ a)) ≡ length (encoded c) + length (encoded_all a) = one_long c a in
    record {
      fits = omega (arith, g.fits);
      proper = subst (λ (l : List ℕ). all_scalars l ≡ true) (sym (reverse_aux-eq b a)) (scalars_join x a s.0 (and_right (is_scalar c) (all_scalars a) s.1));
    }

pub keyed_good : (op : EditOp) (t : Text) → Good t → Good (keyed op t)
unfolding keyed
keyed_good Backspace (text [] a) g = g
keyed_good Backspace (text (c ∷ b) a) g = less c b a g
keyed_good Delete (text b []) g = g
keyed_good Delete (text b (c ∷ a)) g = less c b a g
keyed_good Left (text [] a) g = g
keyed_good Left (text (c ∷ b) a) g = g
keyed_good Right (text b []) g = g
keyed_good Right (text b (c ∷ a)) g = g
keyed_good Home (text b a) g = g
keyed_good End (text b a) g = subst Fine (sym (reverse_aux-reverse_aux-nil a b)) g

more : (c : ℕ) (b a : List ℕ) → is_scalar c ≡ true → length (encoded_all (reverse_aux b a)) + length (encoded c) ≤ 64 → Fine (reverse_aux b a) → Fine (reverse_aux b (c ∷ a))
unfolding all_scalars
more c b a h k g =
    let x : List ℕ = reverse b in
    let s = scalars_part x a (subst (λ (l : List ℕ). all_scalars l ≡ true) (reverse_aux-eq b a) g.proper) in
    let n : length (encoded_all (reverse_aux b (c ∷ a))) ≡ length (encoded_all x) + length (encoded_all (c ∷ a)) =
    ap (λ (l : List ℕ). length (encoded_all l)) (reverse_aux-eq b (c ∷ a)) ∙ ap length (encodings_join x (c ∷ a)) ∙ length-append (encoded_all x) (encoded_all (c ∷ a)) in
    let m : length (encoded_all (reverse_aux b a)) ≡ length (encoded_all x) + length (encoded_all a) =
    ap (λ (l : List ℕ). length (encoded_all l)) (reverse_aux-eq b a) ∙ ap length (encodings_join x a) ∙ length-append (encoded_all x) (encoded_all a) in
    let o : length (encoded_all (c ∷ a)) ≡ length (encoded c) + length (encoded_all a) = one_long c a in
    record {
      fits = omega arith;
      proper = subst (λ (l : List ℕ). all_scalars l ≡ true) (sym (reverse_aux-eq b (c ∷ a))) (scalars_join x (c ∷ a) s.0 (and_both h s.1));
    }

pub typed_good : (c : ℕ) (t : Text) → Good t → Good (typed c t)
unfolding typed goes_in bytes_of
typed_good c (text b a) g = go (is_scalar c && leb (length (encoded_all (reverse_aux b a)) + length (encoded c)) 64) refl
  where
    go : (k : Bool) → is_scalar c && leb (length (encoded_all (reverse_aux b a)) + length (encoded c)) 64 ≡ k → Good (cond k (text (c ∷ b) a) (text b a))
    go true e = more c b a (and_left _ _ e) (leb-true _ 64 (and_right (is_scalar c) _ e)) g
    go false e = g

-- ---- what changes no text leaves a mark that stands

pub what_takes_nothing_keeps_the_bytes : (op : EditOp) (t : Text) → takes op t ≡ false → bytes_of (keyed op t) ≡ bytes_of t
unfolding takes keyed bytes_of
what_takes_nothing_keeps_the_bytes Backspace (text [] a) e = refl
what_takes_nothing_keeps_the_bytes Backspace (text (c ∷ b) a) e = no_more (sym e)
what_takes_nothing_keeps_the_bytes Delete (text b []) e = refl
what_takes_nothing_keeps_the_bytes Delete (text b (c ∷ a)) e = no_more (sym e)
what_takes_nothing_keeps_the_bytes Left (text [] a) e = refl
what_takes_nothing_keeps_the_bytes Left (text (c ∷ b) a) e = refl
what_takes_nothing_keeps_the_bytes Right (text b []) e = refl
what_takes_nothing_keeps_the_bytes Right (text b (c ∷ a)) e = refl
what_takes_nothing_keeps_the_bytes Home (text b a) e = refl
what_takes_nothing_keeps_the_bytes End (text b a) e = ap encoded_all (reverse_aux-reverse_aux-nil a b)

pub what_goes_not_in_keeps_the_bytes : (c : ℕ) (t : Text) → goes_in c t ≡ false → bytes_of (typed c t) ≡ bytes_of t
unfolding typed
what_goes_not_in_keeps_the_bytes c t e = rw e

still_stands : (changed : Bool) (m : Mark) {s s' : List ℕ} → (changed ≡ false → s' ≡ s) → may_stand m s ≡ true → may_stand (mark_after changed m) s' ≡ true
still_stands true m e w = refl
still_stands false m e w = ap (may_stand m) (e refl) ∙ w

-- The laws. `long` is what the type [u8; 64] gives of a field's bytes.
module _ (f : Field) (h : field_ok f ≡ true) where
  -- what a reader of the field sees is its text's
  pub held_is_the_texts : bytes_of (text_of f) ≡ held f
  held_is_the_texts = let p = parts f h in ap bytes_of p.is_text ∙ bytes_of_text p.front p.back ∙ parts_are_held f p

  module _ (long : length f.bytes ≡ 64) where
    pub length_is_the_texts : length (bytes_of (text_of f)) ≡ f.len
    length_is_the_texts = ap length held_is_the_texts ∙ length-take-le f.len f.bytes (omega (arith, length_in_range f (parts f h).ranged))

    pub caret_is_the_texts : caret_of (text_of f) ≡ f.cursor
    unfolding caret_of
    caret_is_the_texts = let p = parts f h in ap caret_of p.is_text ∙ caret_is_after_front f long p

    pub field_is_its_text : with_text f (text_of f) f.mark ≡ f
    field_is_its_text = let p = parts f h in ap (λ (t : Text). with_text f t f.mark) p.is_text ∙ own_text_is_kept f long p

    -- an edit of the bytes is the edit of the text
    pub edit_is_by_characters : (op : EditOp) → edited f op ≡ with_text f (keyed op (text_of f)) (mark_after (takes op (text_of f)) f.mark)
    unfolding edited
    edit_is_by_characters op =
        let p = parts f h in
        rw p.ranged (sym (edit_of_the_parts f long p op) ∙ ap (λ (t : Text). with_text f (keyed op t) (mark_after (takes op t) f.mark)) (sym p.is_text))

    pub insert_is_by_characters : (c : ℕ) → inserted f c ≡ with_text f (typed c (text_of f)) (mark_after (goes_in c (text_of f)) f.mark)
    unfolding inserted typed goes_in
    insert_is_by_characters c =
        let p = parts f h in
        rw (p.ranged, length_is_the_texts) (by (is_scalar c && leb (f.len + length (encoded c)) 64))
      where
        by : (t : Bool) → cond t (put_in f (encoded c)) f ≡ with_text f (cond t (before c (text_of f)) (text_of f)) (mark_after t f.mark)
        by true = let p = parts f h in sym (put_text f long p c) ∙ ap (λ (t : Text). with_text f (before c t) Typed) (sym p.is_text)
        by false = sym field_is_its_text

    -- what is kept by a field with another text, of which its mark stands
    abbrev Keeps : Text → Field → Type 0
    Keeps t g = (field_ok g ≡ true) × (text_of g ≡ t) × (length g.bytes ≡ 64)

    kept_by : (t : Text) (m : Mark) → Good t → may_stand m (bytes_of t) ≡ true → Keeps t (with_text f t m)
    kept_by (text b a) m g w = (with_ok f b a m g w, with_text_lem f b a m g, with_long f b a m g long)

    its_mark_stands : may_stand f.mark (bytes_of (text_of f)) ≡ true
    unfolding mark_ok
    its_mark_stands = ap (may_stand f.mark) held_is_the_texts ∙ mark_by_the_rules f h

    edited_keeps : (op : EditOp) → Keeps (keyed op (text_of f)) (edited f op)
    edited_keeps op =
        let t : Text = text_of f in
        subst (Keeps (keyed op t)) (sym (edit_is_by_characters op))
        (kept_by (keyed op t) _ (keyed_good op t (held_good f h)) (still_stands (takes op t) f.mark (what_takes_nothing_keeps_the_bytes op t) its_mark_stands))

    inserted_keeps : (c : ℕ) → Keeps (typed c (text_of f)) (inserted f c)
    inserted_keeps c =
        let t : Text = text_of f in
        subst (Keeps (typed c t)) (sym (insert_is_by_characters c))
        (kept_by (typed c t) _ (typed_good c t (held_good f h)) (still_stands (goes_in c t) f.mark (what_goes_not_in_keeps_the_bytes c t) its_mark_stands))

    pub edit_keeps_the_rules : (op : EditOp) → field_ok (edited f op) ≡ true
    edit_keeps_the_rules op = (edited_keeps op).0

    pub edit_is_the_texts : (op : EditOp) → text_of (edited f op) ≡ keyed op (text_of f)
    edit_is_the_texts op = (edited_keeps op).1

    pub edit_keeps_64_bytes : (op : EditOp) → length (edited f op).bytes ≡ 64
    edit_keeps_64_bytes op = (edited_keeps op).2

    pub insert_keeps_the_rules : (c : ℕ) → field_ok (inserted f c) ≡ true
    insert_keeps_the_rules c = (inserted_keeps c).0

    pub insert_is_the_texts : (c : ℕ) → text_of (inserted f c) ≡ typed c (text_of f)
    insert_is_the_texts c = (inserted_keeps c).1

    pub insert_keeps_64_bytes : (c : ℕ) → length (inserted f c).bytes ≡ 64
    insert_keeps_64_bytes c = (inserted_keeps c).2

    -- a key that changes the text sets typed, and no other changes the mark
    pub edit_marks_a_change : (op : EditOp) → (edited f op).mark ≡ mark_after (takes op (text_of f)) f.mark
    unfolding with_text
    edit_marks_a_change op = ap (λ (g : Field). g.mark) (edit_is_by_characters op)

    pub insert_marks_a_change : (c : ℕ) → (inserted f c).mark ≡ mark_after (goes_in c (text_of f)) f.mark
    unfolding with_text
    insert_marks_a_change c = ap (λ (g : Field). g.mark) (insert_is_by_characters c)

    -- and the owner stays
    pub edit_keeps_the_owner : (op : EditOp) → (edited f op).owner ≡ f.owner
    unfolding with_text
    edit_keeps_the_owner op = ap (λ (g : Field). g.owner) (edit_is_by_characters op)

    pub insert_keeps_the_owner : (c : ℕ) → (inserted f c).owner ≡ f.owner
    unfolding with_text
    insert_keeps_the_owner c = ap (λ (g : Field). g.owner) (insert_is_by_characters c)

-- a new field keeps the rules, and its text is empty
pub empty_field_keeps_the_rules : field_ok empty_field ≡ true
unfolding empty_field field_ok text_ok mark_ok in_range is_utf8 run_from
empty_field_keeps_the_rules = refl

pub empty_field_has_no_text : text_of empty_field ≡ text [] []
unfolding empty_field text_of scalars scalars_from
empty_field_has_no_text = refl

-- another mark keeps the rules where it may stand, and the text
pub mark_keeps_the_rules : (f : Field) (m : Mark) → field_ok f ≡ true → may_stand m (held f) ≡ true → field_ok (with_mark f m) ≡ true
unfolding field_ok text_ok mark_ok in_range with_mark
mark_keeps_the_rules f m h w = and_both (text_by_the_rules f h) w

pub mark_keeps_the_text : (f : Field) (m : Mark) → text_of (with_mark f m) ≡ text_of f
unfolding text_of with_mark
mark_keeps_the_text f m = refl

-- so does the next ship
next_mark_stands : (m : Mark) (s : List ℕ) → may_stand (next_mark m) s ≡ true
next_mark_stands Untouched s = refl
next_mark_stands Typed s = refl
next_mark_stands Confirmed s = refl

pub next_ship_keeps_the_rules : (f : Field) → field_ok f ≡ true → field_ok (unconfirmed f) ≡ true
unfolding unconfirmed
next_ship_keeps_the_rules f h = mark_keeps_the_rules f (next_mark f.mark) h (next_mark_stands f.mark (held f))
