-- What the code's loops leave after a character, as the definition has it. Assumes nothing.
use mathlib.Core.Path.{◌≡◌, ap, ◌∙◌}
use mathlib.Core.Bool.{true, false}
use mathlib.Core.List.{List, ◌++◌}
use Prim.Native.Nat.{ℕ, ◌+◌, ◌-◌, ◌≤◌, ◌<◌}
use native.Mathlib.Omega.{arith}
use borrow.Author.Tests.{le-leb, lt-leb}
use lib.ListN.{length, take, drop}
use lib.Seq.{paste}
use Rattle.text.specs.Utf8.{is_scalar, encoded}
use Rattle.text.specs.declared.utf8.Encoded.{Encoded}
use Rattle.text.proofs.Encodes.{Bytes}
use Rattle.text.proofs.Encodes.Bytes.{nothing, some}
use Rattle.field.specs.Fields.{in_range, held, put_in, inserted}
use Rattle.arithmetic.specs.Tests.{over}
use Rattle.field.specs.declared.Field.{Field}
use Rattle.field.specs.declared.Mark.TheVariants.{Typed}
use Rattle.field.proofs.Ranges.{caret_in_range}
use Rattle.field.proofs.Pastes.{put_in_lem}

module _ (f : Field) (h : in_range f ≡ true) (c : ℕ) where
  no_character_is_ignored : is_scalar c ≡ false → f ≡ inserted f c
  unfolding inserted
  no_character_is_ignored k = rw (h, k)

  long_character_is_ignored : is_scalar c ≡ true → 64 < f.len + length (encoded c) → f ≡ inserted f c
  unfolding inserted
  long_character_is_ignored k n = rw (h, k, lt-leb (f.len + length (encoded c)) 64 n)

  module _ (e : Encoded) where
    pub no_bytes_change_nothing : Bytes c e → e.len ≡ 0 → f ≡ inserted f c
    no_bytes_change_nothing (nothing k z) n = no_character_is_ignored k
    no_bytes_change_nothing (some k a t l m b) n = absurd (omega arith)

    pub no_room_changes_nothing : Bytes c e → 64 < f.len + e.len → f ≡ inserted f c
    no_room_changes_nothing (nothing k z) n = no_character_is_ignored k
    no_room_changes_nothing (some k a t l m b) n = long_character_is_ignored k (omega arith)

    pub bytes_go_in : Bytes c e → (e.len ≡ 0 → ⊥) → f.len + e.len ≤ 64 → length f.bytes ≡ 64
        → record {
          owner = f.owner;
          bytes = paste (paste f.bytes (f.cursor + e.len) (drop f.cursor f.bytes) (f.len - f.cursor)) f.cursor e.bytes e.len;
          len = f.len + e.len;
          cursor = f.cursor + e.len;
          mark = Typed;
        } ≡ inserted f c
    unfolding inserted put_in
    bytes_go_in (nothing k z) n g long = absurd (n z)
    bytes_go_in (some k a t l m b) n g long =
        let w = put_in_lem f.bytes e.bytes f.cursor f.len e.len (caret_in_range f h) (omega arith) (omega arith) in
        let s : over ((take f.cursor f.bytes ++ take e.len e.bytes) ++ drop f.cursor (held f)) f.bytes
        ≡ over ((take f.cursor f.bytes ++ encoded c) ++ drop f.cursor (held f)) f.bytes =
        ap (λ (x : List ℕ). over ((take f.cursor f.bytes ++ x) ++ drop f.cursor (held f)) f.bytes) t in
        let r : f.len + length (encoded c) ≤ 64 = omega arith in
        rw (h, k, le-leb (f.len + length (encoded c)) 64 r)
        (λ i. record { owner = f.owner; bytes = (w ∙ s) i; len = f.len + a i; cursor = f.cursor + a i; mark = Typed })
