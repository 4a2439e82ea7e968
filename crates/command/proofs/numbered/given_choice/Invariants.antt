-- `given_choice` meets its contract. The invariant: the numbers before the index are copied, and those from there on decide.
use Rattle.command.proofs.Choices.{Copied}
use Rattle.command.proofs.numbered.given_choice.Given as goal

abbrev pub invariant-loop-value : goal.invariant-loop-value
invariant-loop-value l = Copied l.given l.value-index l.recipes
