use Prim.Native.Nat.{ℕ, ◌-◌, ◌<◌}
use native.Mathlib.Omega.{arith}
use mathlib.Core.Logic.{inl, inr}
use mathlib.Core.Path.{◌≡◌, sym, ap, ◌∙◌}
use mathlib.Core.List.{List}
use lib.ListN.{length, take}
use Rattle.std.specs.Prelude.{Some}
use Rattle.std.specs.List.{slice_range}
use borrow.Author.Rules.{rules}
use Rattle.words.specs.Numbers.{max_kept}
use Rattle.command.specs.Record.{choice_of}
use Rattle.command.specs.Numbered.{are_bytes}
use Rattle.command.proofs.Choices.{
  byte_is,
  byte_over,
  copied_start,
  copied_large,
  copied_step,
  copied_end,
  choice_long,
  choice_broken,
  choice_whole,
}
use Rattle.command.proofs.numbered.given_choice.Goals as goal

-- the numbers that are given
first_of : (values cut : List ℕ) (n : ℕ) → cut ≡ slice_range values 0 n → cut ≡ take n values
first_of values cut n e = let count : n - 0 ≡ n = omega arith in e ∙ rw count

pub returns-in_err-given : goal.returns-in_err-given
returns-in_err-given c =
    let size : length c.args.numbers.values ≡ max_kept = search rules in
    let cases = c.in_err-given.ensures.lookup.0 in
    let long : max_kept < c.args.numbers.count = elim cases [ inl l ↦ absurd (omega arith) | inr l ↦ omega arith ] in
    c.from_residual.ensures ∙ sym (choice_long c.args.numbers long)

pub loop-value-init : goal.loop-value-init
loop-value-init c = rw c.new-recipes.ensures (copied_start _)

pub returns-in_err-ok : goal.returns-in_err-ok
returns-in_err-ok c =
    let size : length c.args.numbers.values ≡ max_kept = search rules in
    let cut = c.in_ok-given.ensures.lookup.0 in
    let given = first_of _ _ c.args.numbers.count cut.2 in
    let large = byte_over _ _ c.in_err-ok.ensures.value c.try_from.ensures in
    let broken = copied_large c.loop-value.invariant c.loop-value-test.true large in
    c.from_residual-in_err-ok.ensures
    ∙ sym (choice_broken c.args.numbers (omega arith) (ap are_bytes (sym given) ∙ broken))

pub loop-value-preserved : goal.loop-value-preserved
loop-value-preserved c =
    let byte = byte_is _ _ _ c.in_ok-ok.ensures.value c.try_from.ensures in
    rw (c.push.ensures, byte.0) (copied_step c.loop-value.invariant c.loop-value-test.true byte.1)

pub returns : goal.returns
returns c =
    let size : length c.args.numbers.values ≡ max_kept = search rules in
    let cut = c.in_ok-given.ensures.lookup.0 in
    let given = first_of _ _ c.args.numbers.count cut.2 in
    let whole = copied_end c.loop-value.invariant c.loop-value-test.false in
    ap (λ (l : List ℕ). Some (choice_of l)) (whole.0 ∙ given)
    ∙ sym (choice_whole c.args.numbers (omega arith) (ap are_bytes (sym given) ∙ whole.1))
