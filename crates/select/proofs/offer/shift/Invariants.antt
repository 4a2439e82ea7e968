-- `shift` meets its contract. The loop's invariant is that of a list that is changed throughout.
use Prim.Native.Nat.{◌+◌, max}
use lib.ListN.{length, get_or}
use Rattle.arrays.proofs.Patches.{Patching}
use Rattle.select.proofs.offer.shift.Given as goal

abbrev pub invariant-loop-m : goal.invariant-loop-m
invariant-loop-m l =
    Patching (λ i. max (get_or l.initial.word-items i 0) (get_or l.before i 0 + l.w)) 0 (length l.initial.word-items)
    l.initial.word-items l.word-items l.m
