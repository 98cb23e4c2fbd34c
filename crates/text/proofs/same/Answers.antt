-- `same`: what follows is equal just if the whole is; the last eight bytes are.
use Prim.Native.Nat.{◌+◌, ◌-◌}
use native.Mathlib.Omega.{arith}
use mathlib.Core.Path.{refl, sym, ap, ◌∙◌}
use lib.ListN.{length}
use Rattle.std.proofs.Common.{rules}
use Rattle.model.proofs.ByteStrings.{differ_same_bytes}
use Rattle.text.proofs.Words.{told_from_end, word_next, word_last, word_differs, word_end}
use Rattle.text.proofs.same.Goals as goal

pub returns-then-word : goal.returns-then-word
returns-then-word c =
    let s = c.args in
    sym (word_differs s.a.now s.b.now (length s.a.now - 8) λ e. c.if-word.true (c.word.ensures ∙ e ∙ sym c.word-2.ensures))

pub loop-i-init : goal.loop-i-init
loop-i-init c =
    let s = c.args in
    let e = sym c.word.ensures ∙ c.if-word.false ∙ c.word-2.ensures in (
      c.if-a-b.false,
      word_last s.a.now s.b.now c.if-a-b.false (length s.a.now - 8) (omega arith) (λ k. (c.type_inv.a k).fits) (λ k. (c.type_inv.b k).fits) (omega arith) e,
      refl,
    )

pub returns-then-word-2 : goal.returns-then-word-2
returns-then-word-2 c =
    let s = c.args in
    sym (word_differs s.a.now s.b.now c.loop-i.i λ e. c.if-word-2.true (c.word-in-loop-i.ensures ∙ e ∙ sym c.word-in-loop-i-2.ensures))

pub loop-i-preserved : goal.loop-i-preserved
loop-i-preserved c =
    let s = c.args in
    let l = c.loop-i in
    let e = sym c.word-in-loop-i.ensures ∙ c.if-word-2.false ∙ c.word-in-loop-i-2.ensures in (
      l.invariant.0,
      l.invariant.1,
      word_next s.a.now s.b.now l.invariant.0 l.i (omega arith) (λ k. (c.type_inv.a k).fits) (λ k. (c.type_inv.b k).fits) e ∙ l.invariant.2,
    )

pub returns-else-word : goal.returns-else-word
returns-else-word c =
    let s = c.args in
    let l = c.loop-i in
    word_end s.a.now s.b.now l.i _ c.loop-i-test.false l.invariant.1 l.invariant.2

pub returns-else-word-2 : goal.returns-else-word-2
returns-else-word-2 c =
    let s = c.args in
    let l = c.loop-i in
    let e = sym c.word-in-loop-i.ensures ∙ c.if-word-2.false ∙ c.word-in-loop-i-2.ensures in
    let f = word_next s.a.now s.b.now l.invariant.0 l.i (omega arith) (λ k. (c.type_inv.a k).fits) (λ k. (c.type_inv.b k).fits) e in
    word_end s.a.now s.b.now (l.i + 8) (length s.a.now - 8) (omega arith) l.invariant.1 (f ∙ l.invariant.2)

pub returns-then-a-b : goal.returns-then-a-b
returns-then-a-b c = sym (differ_same_bytes _ _ λ e. omega (arith, ap length e))

pub returns-then-a-lt8 : goal.returns-then-a-lt8
returns-then-a-lt8 c = told_from_end c.eq.result c.args.a.now c.args.b.now (λ e. search rules) (λ e. search rules)
