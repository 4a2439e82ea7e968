use Rattle.std.proofs.Common.{rules, length}
use Rattle.text.proofs.Zeros.{appended, zeros_beyond}
use Rattle.text.proofs.fixed.Bytes.extend.Goals as goal

pub invariant_of-self : goal.invariant_of-self
invariant_of-self g c = (
  search rules,
  zeros_beyond g.row.N c.self.inside.len (length c.args.part.now) c.self.inside.bytes c.copy_from_slice.new.self c.self.told
      (search rules) (search rules) c.self.invariant.1,
  search rules,
)

pub returns : goal.returns
returns g c =
    rw
    (appended g.row.N c.self.inside.len (length c.args.part.now) c.self.inside.bytes c.copy_from_slice.new.self c.self.told
    (search rules) (search rules))
    (search rules)
