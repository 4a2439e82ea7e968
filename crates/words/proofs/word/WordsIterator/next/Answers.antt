use native.Mathlib.Omega.{arith}
use mathlib.Core.List.{◌∷◌}
use mathlib.Core.Path.{◌≡◌, ap}
use lib.ListN.{length}
use Rattle.std.proofs.lemmas.List.{take_rest}
use Rattle.words.specs.Word.{words_of, StandsFirst}
use Rattle.words.proofs.NextWords.{none_starts, first_cut}
use Rattle.words.proofs.word.WordsIterator.next.Goals as goal

pub returns-in_err-start-clause-steps : goal.returns-in_err-start-clause-steps
returns-in_err-start-clause-steps c =
    rw c.from_residual.ensures ((none_starts _ c.in_err-start.ensures, none_starts _ c.in_err-start.ensures), tt)

pub returns-clause-steps : goal.returns-clause-steps
returns-clause-steps c =
    let line = c.args.self.now.rest.now in
    let start = c.in_ok-start.start in
    let word = c.split_at.result.0.now in
    let after = c.split_at.result.1.now in
    let first : (words_of line ≡ word ∷ words_of after) × StandsFirst line word after =
    rw (c.split_at.ensures.front, c.split_at.ensures.back, c.unwrap_or-end.ensures)
    (first_cut line start c.in_ok-start.ensures (take_rest line start) c.first_place.ensures) in
    first

-- one word fewer is left
pub returns-clause-goes : goal.returns-clause-goes
returns-clause-goes c =
    record { on = λ _. (tt, tt, omega (arith, ap length (returns-clause-steps c).0)); keeps = tt; rests = λ _. tt }
