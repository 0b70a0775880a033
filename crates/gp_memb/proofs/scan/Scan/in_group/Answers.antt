use Rattle.std.proofs.Common.{arith}
use Rattle.gp_memb.proofs.scan.Scan.in_group.Goals as goal

-- the scan stays in one group
pub claimed_in-requires : goal.claimed_in-requires
claimed_in-requires c =
    let product = c.saturating_mul.ensures in
    let end = c.saturating_add-end.ensures in
    let least = c.min.ensures in
    let low = c.requires in
    let fits = c.ranges.group.fits in
    (c.args.group, c.requires.0, omega arith)
