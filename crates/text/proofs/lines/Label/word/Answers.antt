use mathlib.Core.Path.{◌≡◌, sym, ap, ◌∙◌}
use mathlib.Core.List.{List}
use Prim.Native.Nat.{ℕ, ◌+◌, ◌-◌, ◌<◌}
use native.Mathlib.Omega.{arith}
use lib.ListN.{length, take, drop, get_or, length-drop}
use Rattle.text.specs.Support.LineParts.{weight_of}
use Rattle.text.proofs.LineParts.{WordTo, word_small, word_step, word_stop, word_at_space, word_at_end}
use Rattle.text.proofs.Walks.{lent_from, lent_at}
use Rattle.text.proofs.lines.Label.word.Goals as goal

-- The turn at byte i of what is lent from `from` on.
module _ (s : List ℕ) (from width i : ℕ) (t : WordTo s from width (from + i)) (h : i < length (take (length s - from) (drop from s))) where
  inside : from + i < length s
  inside = omega (arith, ap length (lent_from from s), length-drop from s)

  one_byte_more : (get_or (take (length s - from) (drop from s)) i 0 ≡ 32 → ⊥) → WordTo s from (width + weight_of (get_or (take (length s - from) (drop from s)) i 0)) (from + (i + 1))
  one_byte_more n =
      let e : from + i + 1 ≡ from + (i + 1) = omega arith in
      rw (lent_at from s i, sym e) (word_step s from width (from + i) t inside (λ q. n (lent_at from s i ∙ q)))

pub overflow_add-width : goal.overflow_add-width
overflow_add-width c =
    omega (arith, word_small _ _ _ _ (one_byte_more _ _ _ _ c.loop-i.invariant c.loop-i-test.true c.if-b-eq32.false) c.args.self.now.short, c.weight-width.ensures)

pub loop-i-preserved : goal.loop-i-preserved
loop-i-preserved c = rw c.weight-width.ensures (one_byte_more _ _ _ _ c.loop-i.invariant c.loop-i-test.true c.if-b-eq32.false)

pub returns-then-b-eq32 : goal.returns-then-b-eq32
returns-then-b-eq32 c =
    let s = c.args.self.now.bytes.now in
    let from = c.args.from in
    let h = inside s from c.loop-i.width c.loop-i.i c.loop-i.invariant c.loop-i-test.true in
    word_stop _ _ _ _ c.loop-i.invariant (word_at_space s (from + c.loop-i.i) h (sym (lent_at from s c.loop-i.i) ∙ c.if-b-eq32.true)) c.args.self.now.short

pub returns : goal.returns
returns c =
    let s : List ℕ = c.args.self.now.bytes.now in
    let from : ℕ = c.args.from in
    let e : from + c.loop-i.i ≡ length s = omega (arith, ap length (lent_from from s), length-drop from s, c.requires) in
    word_stop s from c.loop-i.width (length s) (rw e at c.loop-i.invariant) (word_at_end s (length s) (omega arith)) c.args.self.now.short
