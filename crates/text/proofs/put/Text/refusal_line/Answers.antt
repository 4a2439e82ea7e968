use Rattle.std.proofs.Common.{rules, arith}
use Rattle.text.proofs.Spacing.{rest_room, refusal_rest}
use Rattle.text.proofs.put.Text.refusal_line.Goals as goal

pub rest-requires : goal.rest-requires
rest-requires g c = (search rules, rest_room _ _ _ _ c.put.ensures c.requires (grind (arith, refusal_rest)))
