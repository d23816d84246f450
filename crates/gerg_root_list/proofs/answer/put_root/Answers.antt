-- `gerg_root_list::answer::put_root` meets its contract. Assumes nothing.
use native.Mathlib.Omega.{arith}
use Rattle.gerg_root_list.proofs.Laws.RootPasted.{root_pasted}
use Rattle.gerg_root_list.proofs.answer.put_root.Goals as goal

pub returns : goal.returns
returns c = root_pasted c.args.root.now (omega arith) c.args.components c.args.at _ _ c.args.out.now _ _ c.copy_from_slice.ensures.after c.copy_from_slice-2.ensures.after (omega arith) (omega arith) (omega arith) c.requires.1
