use Rattle.std.proofs.Common.{rules, lit≤}
use Rattle.packed_decimal.proofs.wrong_offset.Goals as goal
use Rattle.packed_decimal.proofs.Laws.Walk.{offset_told}

pub returns : goal.returns
returns c =
    let u = c.position.ensures.runs in
    offset_told u.0 _ _ c.args.bytes.now (λ x b s. search rules) (search rules) (rw (u.1, c.chunks.ensures.size, c.chunks.ensures.rest) at (c.chunks.ensures.runs u.0 u.0.seen) (lit≤ tt)) _ _ u.2 c.map.ensures.cases
    (λ k at e. search rules)
