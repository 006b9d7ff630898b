-- Room is made and filled: the text with the character in it, over the old bytes. Assumes nothing.
use Rattle.std.proofs.Common.{◌≡◌, ℕ, ◌+◌, ◌-◌, ◌≤◌, List, ◌++◌, length, take, drop, sym, ap, ◌∙◌, arith, rules, take-take, length-take-le}
use lib.Seq.{paste}
use Rattle.std.proofs.lemmas.Slice.{put_mid-paste}
use Rattle.text.proofs.Encodes.{encoded_bytes, at_most_four_bytes}
use Rattle.field.specs.Fields.{inserted}
use Rattle.field.specs.declared.Mark.TheVariants.{Typed}
use Rattle.field.proofs.Inserts.{no_bytes_change_nothing, no_room_changes_nothing, bytes_go_in}
use Rattle.field.proofs.Ranges.{length_in_range, caret_in_range}
use Rattle.field.proofs.Field.insert.Goals as goal
use Rattle.field.proofs.Field.insert.Goals.{then-not-in_range-via-then-not-in_range, then-not-in_range-via-else-not-in_range+then-e-eq0, then-not-in_range-via-else-not-in_range+else-e-eq0+then-self-e-gt64}

pub overflow_add-self : goal.overflow_add-self
overflow_add-self c = let h = sym c.in_range.ensures ∙ c.if-not-in_range.false in
    record { fits = omega (arith, length_in_range c.args.self h, at_most_four_bytes c.args.ch c.encode-e.result (encoded_bytes c.args.ch c.encode-e.result c.encode-e.ensures)) }

pub returns-then-not-in_range : goal.returns-then-not-in_range
unfolding inserted
returns-then-not-in_range c =
    let b = encoded_bytes c.args.ch c.encode-e.result c.encode-e.ensures in
    elim c.then-not-in_range.branch [
      | then-not-in_range-via-then-not-in_range w ↦ rw (sym c.in_range.ensures ∙ w.if-not-in_range.true)
      | then-not-in_range-via-else-not-in_range+then-e-eq0 w ↦ no_bytes_change_nothing c.args.self (sym c.in_range.ensures ∙ w.if-not-in_range.false) c.args.ch c.encode-e.result b w.if-e-eq0.true
      | then-not-in_range-via-else-not-in_range+else-e-eq0+then-self-e-gt64 w ↦ no_room_changes_nothing c.args.self (sym c.in_range.ensures ∙ w.if-not-in_range.false) c.args.ch c.encode-e.result b w.if-self-e-gt64.true
    ]

pub copy_within-requires-clause-start_le_end : goal.copy_within-requires-clause-start_le_end
copy_within-requires-clause-start_le_end c = caret_in_range c.args.self (sym c.in_range.ensures ∙ c.if-not-in_range.false)

pub copy_within-requires-clause-dest_in_bounds : goal.copy_within-requires-clause-dest_in_bounds
copy_within-requires-clause-dest_in_bounds c =
    let k = caret_in_range c.args.self (sym c.in_range.ensures ∙ c.if-not-in_range.false) in
    let l : length c.args.self.bytes ≡ 64 = search rules in omega arith

pub slice_bounds-copy_from_slice-end : goal.slice_bounds-copy_from_slice-end
slice_bounds-copy_from_slice-end c =
    let k = caret_in_range c.args.self (sym c.in_range.ensures ∙ c.if-not-in_range.false) in omega arith

pub shared_ref_as_front-copy_from_slice : goal.shared_ref_as_front-copy_from_slice
shared_ref_as_front-copy_from_slice c = at_most_four_bytes c.args.ch c.encode-e.result (encoded_bytes c.args.ch c.encode-e.result c.encode-e.ensures)

pub returns : goal.returns
returns c =
    let f = c.args.self in
    let e = c.encode-e.result in
    let h = sym c.in_range.ensures ∙ c.if-not-in_range.false in
    let b = encoded_bytes c.args.ch e c.encode-e.ensures in
    let four : length e.bytes ≡ 4 = search rules in
    let few : e.len ≤ length e.bytes = omega (arith, at_most_four_bytes c.args.ch e b) in
    let wide : List ℕ = c.copy_within.new.self in
    let m = put_mid-paste f.cursor (f.cursor + e.len - f.cursor) wide c.copy_from_slice.new.self (take e.len e.bytes) e.len c.copy_from_slice.ensures.after (omega arith) (sym (length-take-le e.len e.bytes few))
    ∙ ap (λ (s : List ℕ). take f.cursor wide ++ s ++ drop (f.cursor + e.len) wide) (take-take e.len e.len e.bytes (omega arith))
    ∙ ap (λ (d : List ℕ). paste d f.cursor e.bytes e.len) c.copy_within.ensures.after in
    (λ i. record { owner = f.owner; bytes = m i; len = f.len + e.len; cursor = f.cursor + e.len; mark = Typed })
    ∙ bytes_go_in f h c.args.ch e b c.if-e-eq0.false c.if-self-e-gt64.false (search rules)
