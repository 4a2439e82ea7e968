use Rattle.std.proofs.Common.{ℕ, rules, arith, length-append}
use Rattle.text.specs.Line.{week_line}
use Rattle.text.proofs.Spacing.{rest_room, week_rest}
use Rattle.text.proofs.put.Text.week_line.Goals as goal

pub rest-requires : goal.rest-requires
rest-requires g c = (search rules, rest_room _ _ _ _ c.put.ensures c.requires (grind (arith, week_rest)))

pub returns-clause-width : goal.returns-clause-width
unfolding week_line
returns-clause-width g c = rw (c.rest.ensures, c.put.ensures) (grind (arith, week_rest, length-append {A = ℕ}))
