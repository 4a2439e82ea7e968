use borrow.Author.Rules.{rules}
use native.Mathlib.Omega.{arith}
use mathlib.Core.Path.{sym, ap, ◌∙◌}
use lib.ListN.{length}
use borrow.Author.Tests.{tests}
use Rattle.std.specs.Prelude.{◌+◌, Option, Some, None, MatchOption, IsSome}
use Rattle.std.proofs.lemmas.List.{length_push}
use Rattle.std.proofs.lemmas.Iterator.Consumers.{YieldsList-at, YieldsList-turn, YieldsList-end}
use Rattle.sheet.specs.Frame.{frame_of}
use Rattle.sheet.proofs.Lines.{first_next}
use Rattle.sheet.proofs.Placed.{placed_bytes, lines_pass, first_read}
use Rattle.sheet.proofs.Listed.{places_yielded, place_below, place_next, place_line, stored_next, stored_full, stored_end}
use Rattle.sheet.proofs.list.week_of.Goals.{then-place-lt-MAX_BATCHES, else-place-lt-MAX_BATCHES}
use Rattle.sheet.proofs.list.week_of.Goals as goal

some_of : {A : Type 0} (r : Option A) (P : Type 0) (Q : A → Type 0) → MatchOption r P Q → (P → ⊥) → IsSome r
some_of None P Q h n = absurd (n h)
some_of (Some x) P Q h n = search rules

pub unwrap-first-requires : goal.unwrap-first-requires
unwrap-first-requires c =
    let some = placed_bytes c.args.sheet.now c.requires in
    some_of c.next.result _ _ c.next.ensures.steps (λ e. omega (arith, some, ap length c.split_inclusive-lines.ensures.rest, e.0))

pub batch_of-requires : goal.batch_of-requires
batch_of-requires c =
    let next =
    first_next _ _ _ c.split_inclusive-lines.ensures.rest c.unwrap-first.ensures c.next.ensures.steps
    (λ a r q k. search (rules, tests)) in
    let turn =
    YieldsList-turn
    (YieldsList-at c.into_iter-place-iterator.ensures.into_iter_gives
    (places_yielded _ c.enumerate-place-items.ensures.count c.enumerate-place-items.ensures.source
    (λ f a r q k. search (rules, tests))))
    c.loop-place.yielded _ c.loop-place.yielded_by _ _ (c.in-Some.place, c.in-Some.line) c.in-Some.is c.next-in-loop-place.ensures.steps in
    ap frame_of (sym (place_line next turn))
    ∙ ((lines_pass _).0 c.requires).batches _ (omega arith) (place_below next turn)

pub loop-place-preserved : goal.loop-place-preserved
loop-place-preserved c =
    let next =
    first_next _ _ _ c.split_inclusive-lines.ensures.rest c.unwrap-first.ensures c.next.ensures.steps
    (λ a r q k. search (rules, tests)) in
    let turn =
    YieldsList-turn
    (YieldsList-at c.into_iter-place-iterator.ensures.into_iter_gives
    (places_yielded _ c.enumerate-place-items.ensures.count c.enumerate-place-items.ensures.source
    (λ f a r q k. search (rules, tests))))
    c.loop-place.yielded _ c.loop-place.yielded_by _ _ (c.in-Some.place, c.in-Some.line) c.in-Some.is c.next-in-loop-place.ensures.steps in
    rw (length_push c.loop-place.yielded (c.in-Some.place, c.in-Some.line)) (
      ap (λ n. n + 1) (place_next next turn),
      elim c.if-place-lt-MAX_BATCHES.branch [
        | then-place-lt-MAX_BATCHES w ↦
            rw w.batches-is (stored_next next turn c.loop-place.invariant.1 w.if-place-lt-MAX_BATCHES.true w.batch_of.ensures)
        | else-place-lt-MAX_BATCHES w ↦
            rw w.batches-is (stored_full next turn c.loop-place.invariant.1 w.if-place-lt-MAX_BATCHES.false)
      ],
    )

pub word_at-requires : goal.word_at-requires
word_at-requires c =
    omega (
      arith,
      first_read _ _ _ c.requires c.split_inclusive-lines.ensures.rest c.unwrap-first.ensures c.next.ensures.steps
          (λ a r q k. search (rules, tests)),
    )

pub word_at-requires-2 : goal.word_at-requires-2
word_at-requires-2 c =
    omega (
      arith,
      first_read _ _ _ c.requires c.split_inclusive-lines.ensures.rest c.unwrap-first.ensures c.next.ensures.steps
          (λ a r q k. search (rules, tests)),
    )

pub returns : goal.returns
returns c =
    let next =
    first_next _ _ _ c.split_inclusive-lines.ensures.rest c.unwrap-first.ensures c.next.ensures.steps
    (λ a r q k. search (rules, tests)) in
    let end =
    YieldsList-end
    (YieldsList-at c.into_iter-place-iterator.ensures.into_iter_gives
    (places_yielded _ c.enumerate-place-items.ensures.count c.enumerate-place-items.ensures.source
    (λ f a r q k. search (rules, tests))))
    c.loop-place.yielded _ c.loop-place.yielded_by _ _ c.in-None.is c.next-in-loop-place.ensures.steps in
    stored_end next c.loop-place.invariant.0 c.loop-place.invariant.1 end.1 c.word_at.ensures c.word_at-2.ensures
