-- `numbers_of` meets its contract. The invariant: `count` words are passed.
use Rattle.words.specs.Word.{words_of, words_left}
use Rattle.words.proofs.Numbering.{Numbered}
use Rattle.words.proofs.numbers.numbers_of.Given as goal

abbrev pub invariant-loop-word : goal.invariant-loop-word
invariant-loop-word l = Numbered (words_of l.line) l.values l.count (words_left l.word-iterator)
