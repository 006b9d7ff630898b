-- Lines of characters are lines of their bytes: a character's bytes hold no space unless it is one, and weigh as much as its advance. Assumes
-- nothing.
use mathlib.Core.Path.{◌≡◌, refl, sym, ap, ◌∙◌}
use mathlib.Core.Bool.{Bool, true, false, cond, ◌&&◌}
use mathlib.Core.List.{List, [], ◌∷◌, ◌++◌, map}
use Prim.Native.Nat.{ℕ, ◌+◌, ◌/◌, ◌≤◌, ◌<◌}
use native.Mathlib.Omega.{arith}
use borrow.Author.Tests.{eqb-true, ne_eqb, le-leb, lt-leb}
use lib.Dec.{eqb, leb}
use Rattle.arithmetic.specs.Tests.{within}
use Rattle.arithmetic.proofs.BoolLaws.{within_low}
use Rattle.arithmetic.proofs.TestLaws.{bool_cases}
use Rattle.text.specs.Advance.{advances, advance_of}
use Rattle.text.specs.Lines.{Lines, behind, text_of, width_of, widest_in, widest, cut, onto, word_of, breaks, greedy_from}
use Rattle.text.specs.Lines.Lines.{lines}
use Rattle.text.specs.LineStarts.{in_bytes}
use Rattle.text.specs.Support.LineParts.{weight_of}
use Rattle.text.specs.Utf8.{encoded, encoded_all}
use Rattle.text.proofs.Scalars.{encoded_one, encoded_two, encoded_three, encoded_four, Size, size_of}
use Rattle.text.proofs.Scalars.Size.{of_one, of_two, of_three, of_four}
use Rattle.text.proofs.Shapes.{Tails, six_bits_are_a_tail}
use Rattle.text.proofs.Texts.{encodings_join}
use Rattle.text.proofs.Words.{Spaceless, onto_all, word_run, width_append, greedy_run}

-- what a byte weighs
other_advance : (x : ℕ) → 126 < x → advance_of x ≡ advance_of 63
unfolding advance_of within advances
other_advance x h = simp (lt-leb x 126 h, and_no (leb 32 x))
  where
    and_no : (t : Bool) → t && false ≡ false
    and_no true = refl
    and_no false = refl

lead_weight : (b : ℕ) → 0xBF < b → weight_of b ≡ advance_of 63
unfolding weight_of within
lead_weight b h = simp (le-leb 0x80 b (omega arith), lt-leb b 0xBF h) (other_advance b (omega arith))

pub low_weight : (b : ℕ) → b ≤ 0x7F → weight_of b ≡ advance_of b
unfolding weight_of within
low_weight b h = rw (lt-leb 0x80 b (omega arith))

plain : (b : ℕ) → 32 < b → eqb b 32 ≡ false
plain b h = ne_eqb b 32 (λ e. omega arith)

tails_plain : (ts : List ℕ) → Tails ts → Spaceless ts
tails_plain [] t = tt
tails_plain (b ∷ ts) t = (plain b (omega (arith, within_low 0x80 0xBF b t.0)), tails_plain ts t.1)

tails_weigh_nothing : (ts : List ℕ) → Tails ts → width_of weight_of ts ≡ 0
unfolding width_of weight_of
tails_weigh_nothing [] t = refl
tails_weigh_nothing (b ∷ ts) t = rw (t.0, tails_weigh_nothing ts t.1)

-- the bytes of a character that is no space
abbrev Char : ℕ → List ℕ → Type 0
Char c e = Spaceless e × (width_of weight_of e ≡ advance_of c)

many_bytes : (c a : ℕ) (ts : List ℕ) → 0x7F < c → 0xBF < a → Tails ts → Char c (a ∷ ts)
unfolding width_of
many_bytes c a ts h k t =
    ((plain a (omega arith), tails_plain ts t), omega (arith, lead_weight a k, tails_weigh_nothing ts t, other_advance c (omega arith)))

char_bytes : (c : ℕ) → eqb c 32 ≡ false → Char c (encoded c)
char_bytes c n = by_size (size_of c)
  where
    by_size : Size c → Char c (encoded c)
    by_size (of_one m) = rw (encoded_one c m) ((n, tt), unfold width_of in omega (arith, low_weight c m))
    by_size (of_two l m) = rw (encoded_two c l m) (many_bytes c _ _ (omega arith) (omega arith) (six_bits_are_a_tail c, tt))
    by_size (of_three l m) =
        rw (encoded_three c l m) (many_bytes c _ _ (omega arith) (omega arith) (six_bits_are_a_tail (c / 64), (six_bits_are_a_tail c, tt)))
    by_size (of_four l) =
        rw (encoded_four c l)
        (many_bytes c _ _ (omega arith) (omega arith) (six_bits_are_a_tail (c / 4096), (six_bits_are_a_tail (c / 64), (six_bits_are_a_tail c, tt))))

pub space : encoded 32 ≡ 32 ∷ []
space = encoded_one 32 (omega arith)

-- so bytes are as wide as their characters
char_width : (c : ℕ) → width_of weight_of (encoded c) ≡ advance_of c
char_width c = bool_cases (eqb c 32) (λ e. rw (eqb-true c 32 e, space) (unfold width_of in omega (arith, low_weight 32 (omega arith)))) (λ e. (char_bytes c e).1)

pub width_bytes : (cs : List ℕ) → width_of weight_of (encoded_all cs) ≡ width_of advance_of cs
unfolding encoded_all width_of
width_bytes [] = refl
width_bytes (c ∷ cs) = width_append weight_of (encoded c) (encoded_all cs) ∙ cc (char_width c, width_bytes cs)

widest_in_bytes : (ls : List (List ℕ)) → widest_in weight_of (map encoded_all ls) ≡ widest_in advance_of ls
unfolding widest_in
widest_in_bytes [] = refl
widest_in_bytes (m ∷ ms) = rw (width_bytes m, widest_in_bytes ms)

pub widest_bytes : (b : Lines) → widest weight_of (in_bytes b) ≡ widest advance_of b
unfolding widest widest_in in_bytes
widest_bytes (lines l ls) = rw (width_bytes l, widest_in_bytes ls)

-- and are broken as they are
word_bytes : (cs : List ℕ) → width_of weight_of (word_of (encoded_all cs)) ≡ width_of advance_of (word_of cs)
unfolding encoded_all word_of width_of
word_bytes [] = refl
word_bytes (c ∷ cs) =
    bool_cases (eqb c 32) (λ e. rw (e, eqb-true c 32 e, space))
    (λ e. let k : Char c (encoded c) = char_bytes c e in
    rw (word_run (encoded c) (encoded_all cs) k.0, e) (width_append weight_of (encoded c) (word_of (encoded_all cs)) ∙ cc (k.1, word_bytes cs)))

bytes_cut : (b : Lines) → in_bytes (cut b) ≡ cut (in_bytes b)
unfolding in_bytes encoded_all
bytes_cut (lines l ls) = refl

bytes_onto : (c : ℕ) (b : Lines) → in_bytes (onto c b) ≡ onto_all (encoded c) (in_bytes b)
unfolding in_bytes encoded_all
bytes_onto c (lines l ls) = refl

onto_one : (c : ℕ) (e : List ℕ) (b : Lines) → e ≡ c ∷ [] → onto_all e b ≡ onto c b
onto_one c e (lines l ls) h = rw h

module _ (w : ℕ) (cs : List ℕ) (r : (v : ℕ) → greedy_from weight_of w v (encoded_all cs) ≡ in_bytes (greedy_from advance_of w v cs)) where
  same_test : (u : ℕ) → breaks weight_of w u 32 (encoded_all cs) ≡ breaks advance_of w u 32 cs
  unfolding breaks
  same_test u = rw (low_weight 32 (omega arith), word_bytes cs)

  at_space : (u : ℕ) → greedy_from weight_of w u (32 ∷ encoded_all cs) ≡ in_bytes (greedy_from advance_of w u (32 ∷ cs))
  unfolding greedy_from
  at_space u = rw (same_test u, low_weight 32 (omega arith)) (go (breaks advance_of w u 32 cs))
    where
      go : (t : Bool) → cond t (cut (greedy_from weight_of w 0 (encoded_all cs))) (onto 32 (greedy_from weight_of w (u + advance_of 32) (encoded_all cs)))
          ≡ in_bytes (cond t (cut (greedy_from advance_of w 0 cs)) (onto 32 (greedy_from advance_of w (u + advance_of 32) cs)))
      go true = ap cut (r 0) ∙ sym (bytes_cut (greedy_from advance_of w 0 cs))
      go false =
          let b : Lines = greedy_from advance_of w (u + advance_of 32) cs in
          ap (onto 32) (r (u + advance_of 32)) ∙ sym (bytes_onto 32 b ∙ onto_one 32 (encoded 32) (in_bytes b) space)

  in_word : (u c : ℕ) → eqb c 32 ≡ false → greedy_from weight_of w u (encoded c ++ encoded_all cs) ≡ in_bytes (greedy_from advance_of w u (c ∷ cs))
  unfolding greedy_from breaks
  in_word u c n =
      let q : Char c (encoded c) = char_bytes c n in
      rw n (greedy_run weight_of w u (encoded c) (encoded_all cs) q.0
      ∙ ap (λ (x : ℕ). onto_all (encoded c) (greedy_from weight_of w (u + x) (encoded_all cs))) q.1
      ∙ ap (onto_all (encoded c)) (r (u + advance_of c)) ∙ sym (bytes_onto c (greedy_from advance_of w (u + advance_of c) cs)))

pub greedy_bytes : (w : ℕ) (cs : List ℕ) (u : ℕ) → greedy_from weight_of w u (encoded_all cs) ≡ in_bytes (greedy_from advance_of w u cs)
unfolding encoded_all
greedy_bytes w [] u = unfold in_bytes encoded_all greedy_from in refl
greedy_bytes w (c ∷ cs) u =
    bool_cases (eqb c 32) (λ e. rw (eqb-true c 32 e, space) (at_space w cs (greedy_bytes w cs) u)) (λ e. in_word w cs (greedy_bytes w cs) u c e)

-- the bytes of lines are lines of the bytes
behind_bytes : (ls : List (List ℕ)) → behind (map encoded_all ls) ≡ encoded_all (behind ls)
unfolding behind encoded_all
behind_bytes [] = refl
behind_bytes (m ∷ ms) = rw (space, encodings_join m (behind ms), behind_bytes ms)

pub text_bytes : (b : Lines) → text_of (in_bytes b) ≡ encoded_all (text_of b)
unfolding text_of in_bytes
text_bytes (lines l ls) = rw (encodings_join l (behind ls), behind_bytes ls)
