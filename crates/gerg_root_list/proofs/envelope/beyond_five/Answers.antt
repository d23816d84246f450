use native.Mathlib.Omega.{arith}
use mathlib.Core.Path.{◌∙◌}
use lib.Dec.{leb}
use Rattle.std.proofs.Common.{rules, tests}
use Rattle.std.proofs.lemmas.Iterator.{YieldsList-from_slice}
use Rattle.std.proofs.lemmas.Iterator.Search.{any_from_yields_List}
use Rattle.gerg_root_list.specs.RootList.{beyond_five}
use Rattle.gerg_root_list.proofs.Laws.FirstFive.{any_first}
use Rattle.gerg_root_list.proofs.envelope.beyond_five.Goals as goal

pub returns : goal.returns
unfolding beyond_five
returns c =
    let e = any_from_yields_List (leb 5) _ _ _ c.any.ensures.ran (YieldsList-from_slice _ c.iter.ensures.rest) (λ x b q k. search (rules, tests)) in
    e ∙ any_first c.args.model.now.component_indices c.args.model.now.components (omega arith)
