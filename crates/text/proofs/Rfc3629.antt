-- What is written and read is what RFC 3629 says. A character's bytes are one alternative of the grammar (Alternatives); and each alternative is
-- some scalar value's bytes, so a string of the grammar is written, and what is written the reader takes. That bytes sort as codes stands in Order.
-- Assumes nothing.
use mathlib.Core.Path.{◌≡◌, refl, sym, ap, ap₂, subst, ◌∙◌}
use mathlib.Core.Bool.{true}
use mathlib.Core.List.{List, [], ◌∷◌, ◌++◌}
use Prim.Native.Nat.{ℕ}
use native.Mathlib.Omega.{arith}
use Rattle.text.specs.Utf8.{is_scalar, all_scalars, encoded, encoded_all, Octets}
use Rattle.text.specs.Utf8.Octets.{none, utf8_1, utf8_2, utf8_3_e0, utf8_3_e1, utf8_3_ed, utf8_3_ee, utf8_4_f0, utf8_4_f1, utf8_4_f4}
use Rattle.text.specs.Reader.{is_utf8, scalars}
use Rattle.text.specs.Rfc3629.{Written, AsRfc3629}
use Rattle.arithmetic.proofs.BoolLaws.{and_left, and_right, and_both}
use Rattle.text.proofs.Scalars.{scalar_low, scalar_high, encoded_one}
use Rattle.text.proofs.Alternatives.{character_is_an_alternative}
use Rattle.text.proofs.Sound.{read_writes, read_scalars, two_good, three_bytes, four_good}
use Rattle.text.proofs.Complete.{written_well, written_reads}
use Rattle.text.proofs.Order.{characters_sort_as_codes, texts_sort_as_their_codes}

encodings_are_octets : (cs : List ℕ) → all_scalars cs ≡ true → Octets (encoded_all cs)
unfolding encoded_all all_scalars
encodings_are_octets [] h = none
encodings_are_octets (c ∷ cs) h =
    character_is_an_alternative c (and_left (is_scalar c) (all_scalars cs) h) (encoded_all cs)
    (encodings_are_octets cs (and_right (is_scalar c) (all_scalars cs) h))

written_is_octets : (s : List ℕ) → Written s → Octets s
written_is_octets s w = subst Octets w.bytes (encodings_are_octets w.list w.proper)

-- bytes u that are those of v, before a string that is written
led_by : (v : ℕ) (u s : List ℕ) → (u ≡ encoded v) × (is_scalar v ≡ true) → Written s → Written (u ++ s)
unfolding encoded_all all_scalars
led_by v u s g w = record {
  list = v ∷ w.list;
  proper = and_both g.1 w.proper;
  bytes = ap₂ ◌++◌ (sym g.0) w.bytes;
}

octets_are_written : (s : List ℕ) → Octets s → Written s
unfolding encoded_all all_scalars
octets_are_written _ none = record { list = []; proper = refl; bytes = refl }
octets_are_written _ (utf8_1 {a} {s} x o) =
    led_by a (a ∷ []) s (sym (encoded_one a x.1), scalar_low a (omega arith)) (octets_are_written s o)
octets_are_written _ (utf8_2 {a} {b} {s} x y o) =
    led_by _ (a ∷ b ∷ []) s (two_good a b x.0 x.1 y.0 y.1) (octets_are_written s o)
octets_are_written _ (utf8_3_e0 {a} {b} {c} {s} x y z o) =
    led_by _ (a ∷ b ∷ c ∷ []) s
    (three_bytes a b c (omega arith) (omega arith) (omega arith) (omega arith) z.0 z.1 (omega arith), scalar_low _ (omega arith))
    (octets_are_written s o)
octets_are_written _ (utf8_3_e1 {a} {b} {c} {s} x y z o) =
    led_by _ (a ∷ b ∷ c ∷ []) s
    (three_bytes a b c (omega arith) (omega arith) y.0 y.1 z.0 z.1 (omega arith), scalar_low _ (omega arith))
    (octets_are_written s o)
octets_are_written _ (utf8_3_ed {a} {b} {c} {s} x y z o) =
    led_by _ (a ∷ b ∷ c ∷ []) s
    (three_bytes a b c (omega arith) (omega arith) y.0 (omega arith) z.0 z.1 (omega arith), scalar_low _ (omega arith))
    (octets_are_written s o)
octets_are_written _ (utf8_3_ee {a} {b} {c} {s} x y z o) =
    led_by _ (a ∷ b ∷ c ∷ []) s
    (three_bytes a b c (omega arith) (omega arith) y.0 y.1 z.0 z.1 (omega arith), scalar_high _ (omega arith) (omega arith))
    (octets_are_written s o)
octets_are_written _ (utf8_4_f0 {a} {b} {c} {d} {s} x y z w o) =
    led_by _ (a ∷ b ∷ c ∷ d ∷ []) s
    (four_good a b c d (omega arith) (omega arith) (omega arith) y.1 z.0 z.1 w.0 w.1 (omega arith) (omega arith))
    (octets_are_written s o)
octets_are_written _ (utf8_4_f1 {a} {b} {c} {d} {s} x y z w o) =
    led_by _ (a ∷ b ∷ c ∷ d ∷ []) s
    (four_good a b c d (omega arith) (omega arith) y.0 y.1 z.0 z.1 w.0 w.1 (omega arith) (omega arith))
    (octets_are_written s o)
octets_are_written _ (utf8_4_f4 {a} {b} {c} {d} {s} x y z w o) =
    led_by _ (a ∷ b ∷ c ∷ d ∷ []) s
    (four_good a b c d (omega arith) (omega arith) y.0 (omega arith) z.0 z.1 w.0 w.1 (omega arith) (omega arith))
    (octets_are_written s o)

octets_are_taken : (s : List ℕ) → Octets s → is_utf8 s ≡ true
octets_are_taken s o = let w = octets_are_written s o in ap is_utf8 (sym w.bytes) ∙ written_well w.list w.proper

taken_is_written : (s : List ℕ) → is_utf8 s ≡ true → Written s
taken_is_written s h = record { list = scalars s; proper = read_scalars s h; bytes = read_writes s h }

list_read : (s : List ℕ) (w : Written s) → w.list ≡ scalars s
list_read s w = sym (written_reads w.list w.proper) ∙ ap scalars w.bytes

pub as_rfc_3629 : AsRfc3629
as_rfc_3629 = record {
  taken_is_well_formed = λ s h. written_is_octets s (taken_is_written s h);
  well_formed_is_taken = octets_are_taken;
  well_formed_is_written = octets_are_written;
  written_is_well_formed = written_is_octets;
  one_list = λ s v w. list_read s v ∙ sym (list_read s w);
  read_back = written_reads;
  written_back = λ s o. read_writes s (octets_are_taken s o);
  bytes_sort_as_codes = λ a b _ _. characters_sort_as_codes a b;
  texts_sort_as_codes = texts_sort_as_their_codes;
}
