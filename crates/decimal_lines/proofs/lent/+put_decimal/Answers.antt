-- No digit, the last one, and one after those of a tenth.
use Rattle.decimal_lines.proofs.Digits.{positive, stored_none, stored_last, stored_next}
use Rattle.decimal_lines.proofs.lent.+put_decimal.Goals as goal

pub returns-then-k-eq0 : goal.returns-then-k-eq0
returns-then-k-eq0 t c =
    let s = stored_none _ _ _ _ c.if-k-eq0.true in
    record { stored = s.0; end = s.1.0; within = s.1.1 }

pub returns-then-n-lt10 : goal.returns-then-n-lt10
returns-then-n-lt10 t c =
    let s = stored_last _ _ _ _ (positive _ c.if-k-eq0.false) c.if-n-lt10.true in
    record { stored = s.0; end = s.1.0; within = s.1.1 }

pub returns : goal.returns
returns t c =
    let call = c.put_decimal-next.ensures in
    let s = stored_next _ _ _ _ _ _ (positive _ c.if-k-eq0.false) c.if-n-lt10.false call.stored call.end in
    record { stored = s.0; end = s.1.0; within = s.1.1 }
