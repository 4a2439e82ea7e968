-- `raise` meets its contract. The loop's invariant is that of a list that is changed throughout.
use Prim.Native.Nat.{max}
use lib.ListN.{length, get_or}
use Rattle.arrays.proofs.Patches.{Patching}
use Rattle.select.proofs.row.raise.Given as goal

abbrev pub invariant-loop-word : goal.invariant-loop-word
invariant-loop-word l =
    Patching (λ i. max (get_or l.initial.word-items i 0) l.level) 0 (length l.initial.word-items) l.initial.word-items l.word-items
    l.word-index
