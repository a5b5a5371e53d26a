use mathlib.Core.Path.{sym}
use Prim.Native.Nat.{◌/◌}
use lib.ListN.{length}
use Rattle.page_list.proofs.Laws.{count_numbers}
use Rattle.page_list.proofs.page_count.Goals as goal

pub returns : goal.returns
returns c = let l = c.args.list.now in sym (count_numbers l 0 (length l / 8))
