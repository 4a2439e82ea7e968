-- A list in whatever order: rearrangements of each other are well formed together, and have one list in order, which is well formed too.
use mathlib.Core.Path.{◌≡◌, sym, ◌∙◌}
use Rattle.arrays.proofs.Rearranges.{perm-length}
use Rattle.week.specs.Record.{Week}
use Rattle.week.specs.Order.{InOrder}
use Rattle.week.specs.Written.{batches_of}
use Rattle.week.specs.Ordered.{ordered_week, Rearranged}
use Rattle.week.proofs.Ordered.{ordered_rearranged, week_in_order, ordered_again, rearranged_ordered}
use Rattle.judge.specs.Fault.{WellFormed}
use Rattle.judge.proofs.Fit.{list_fit, list_counted, fit_list, fit_perm}

-- "Two accepted lists that are rearrangements of each other ..": if one is accepted, so is the other
pub rearranged_passes : {w v : Week} → Rearranged w v → WellFormed w → WellFormed v
rearranged_passes {w} {v} same list =
    let counted = sym (perm-length same.batches) ∙ list_counted w list ∙ same.count in
    let most = ((list_fit w (list_counted w list)).0 list).0 in
    let fit = fit_perm same.batches (fit_list w list) in
    (list_fit v counted).1 (rw same.count at most, rw (same.opening, same.closing) at fit)

-- and both have one list in order
pub one_order : {w v : Week} → Rearranged w v → WellFormed w → ordered_week w ≡ ordered_week v
one_order {w} same list = rearranged_ordered (fit_list w list).differ same

module _ (w : Week) (list : WellFormed w) where
  pub in_order_rearranged : Rearranged w (ordered_week w)
  in_order_rearranged = ordered_rearranged w (list_counted w list)

  pub in_order_passes : WellFormed (ordered_week w)
  in_order_passes = rearranged_passes in_order_rearranged list

  -- strictly in order
  pub in_order_strict : InOrder w.opening (batches_of (ordered_week w))
  in_order_strict = week_in_order w (list_counted w list) (fit_list w list).differ

  -- and ordered again it is the same
  pub in_order_again : ordered_week (ordered_week w) ≡ ordered_week w
  in_order_again = ordered_again w (list_counted w list) (fit_list w list).differ
