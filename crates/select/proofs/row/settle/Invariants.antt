-- `settle` meets its contract. The loop's invariant is that of two lists that are written from a third.
use Rattle.arrays.proofs.Maps.{Mapping}
use Rattle.select.specs.Word.{score_part, version_part}
use Rattle.select.proofs.row.settle.Given as goal

abbrev pub invariant-loop-m : goal.invariant-loop-m
invariant-loop-m l =
    Mapping score_part l.words l.m l.scores × Mapping version_part l.words l.m l.picks
