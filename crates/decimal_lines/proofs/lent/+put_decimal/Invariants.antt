-- The number of digits left.
use Rattle.decimal_lines.proofs.lent.+put_decimal.Given as goal

abbrev pub decreases-put_decimal : goal.decreases-put_decimal
decreases-put_decimal l = l.k
