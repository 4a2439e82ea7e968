use Rattle.std.proofs.Common.{ℕ, rules, arith, length-append, append_assoc}
use Rattle.text.proofs.Decimals.{decimal_five}
use Rattle.text.proofs.Spacing.{counts_parts, idle_rest}
use Rattle.text.proofs.put.Text.counts.Goals as goal

pub put_named-requires : goal.put_named-requires
put_named-requires g c = (search rules, grind (arith, decimal_five))

pub put-requires : goal.put-requires
put-requires g c = (search rules, rw c.put_named.ensures (grind (arith, decimal_five, length-append {A = ℕ})))

pub rest-requires : goal.rest-requires
rest-requires g c =
    (search rules, rw (c.put.ensures, c.put_named.ensures) (grind (arith, decimal_five, idle_rest, length-append {A = ℕ})))

pub returns-clause-counts : goal.returns-clause-counts
returns-clause-counts g c = rw (c.rest.ensures, c.put.ensures, c.put_named.ensures, counts_parts) (simp append_assoc)

pub returns-clause-width : goal.returns-clause-width
returns-clause-width g c =
    rw (c.rest.ensures, c.put.ensures, c.put_named.ensures) (grind (arith, decimal_five, idle_rest, length-append {A = ℕ}))
