use Rattle.gerg_coefficients.proofs.Steps.{functions_on}
use Rattle.gerg_coefficients.proofs.Finite.{no_number_fault}
use Rattle.gerg_coefficients.proofs.Whole.{doubles_stored, integers_stored}
use Rattle.gerg_coefficients.proofs.load.put_tables.Goals as goal

pub returns : goal.returns
returns c =
    let pre = c.requires in
    let f = pre.0 in
    let zeros = pre.1 in
    let pairs = c.put_pairs-finite.ensures in
    let d =
    doubles_stored _ _ zeros.0 c.put_components.ensures.0 c.put_terms.ensures.0 pairs.0 c.put_departures.ensures.0 in (
      d,
      (
        integers_stored _ _ zeros.1 c.put_components.ensures.1 c.put_terms.ensures.1 pairs.1.0
            (λ a la i. functions_on _ _ _ f.count_limit a la i c.put_byte_records.ensures) c.put_departures.ensures.1,
        λ e. rw d (no_number_fault _ _ (pairs.1.1 e)),
      ),
    )
