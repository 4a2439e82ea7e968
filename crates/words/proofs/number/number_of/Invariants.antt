-- `number_of` meets its contract. The invariant: the digits before the index are read, and spell `value`.
use Rattle.words.proofs.Spelling.{Spelling}
use Rattle.words.proofs.number.number_of.Given as goal

abbrev pub invariant-loop-b : goal.invariant-loop-b
invariant-loop-b l = Spelling l.word l.b-index l.value
