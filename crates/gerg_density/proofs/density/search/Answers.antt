-- `search` meets its contract: past rows 13 and 14 the steps are ready. Assumes nothing.
use mathlib.Core.Path.{◌∙◌, sym}
use Rattle.numerics.specs.Tests.{holds}
use Rattle.gerg_density.proofs.density.search.Goals as goal

pub run-requires : goal.run-requires
run-requires c =
    -- what owning the options tells, field by field
    let h = c.well_formed.1.1.1.0.1.1 in
    record {
      doubles = record { lo = holds _ h.0.1.1.0.1; hi = holds _ h.0.1.1.1.0.1 };
      fits = h.1.0.1;
      bracketed = sym c.options_refused-options_refused.ensures ∙ c.if-options_refused.false;
      reachable = sym c.target_refused-target_refused.ensures ∙ c.if-target_refused.false;
    }
