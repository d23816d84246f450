-- `elementary_sqrt::sqrt::nearest_root` meets its contract: what is tested is nearest, and so is what the digits give. Assumes nothing.
use Rattle.elementary_sqrt.proofs.Root.{nearest_bound, nearest_digits}
use Rattle.elementary_sqrt.proofs.sqrt.nearest_root.Goals as goal

pub returns-then-is_nearest : goal.returns-then-is_nearest
returns-then-is_nearest c =
    let e = c.is_nearest.ensures c.if-is_nearest.true in
    (e, nearest_bound c.args.x _ c.requires e)

pub returns-then-is_nearest-2 : goal.returns-then-is_nearest-2
returns-then-is_nearest-2 c =
    let e = c.is_nearest-2.ensures c.if-is_nearest-2.true in
    (e, nearest_bound c.args.x _ c.requires e)

pub returns-then-is_nearest-3 : goal.returns-then-is_nearest-3
returns-then-is_nearest-3 c =
    let e = c.is_nearest-3.ensures c.if-is_nearest-3.true in
    (e, nearest_bound c.args.x _ c.requires e)

pub returns : goal.returns
returns c =
    let e = nearest_digits c.args.x c.root_digits.result c.root_digits.ensures.0 in
    (e, nearest_bound c.args.x _ c.requires e)
