-- `put_numbers`: what is put, and the numbers that are left, are together what was there and all the numbers.
use Rattle.std.proofs.Common.{◌≡◌, ◌++◌, map, drop}
use Rattle.text.specs.Decimal.{decimal}
use Rattle.text.specs.Line.{spaced}
use Rattle.text.proofs.put.Text.put_numbers.Given as goal

abbrev pub invariant-loop-n : goal.invariant-loop-n
invariant-loop-n g l =
    let fields = map (λ n. decimal (g.I.Number.value n)) in
    l.self ++ spaced (fields (drop l.n-index l.numbers)) ≡ l.initial.self ++ spaced (fields l.numbers)
