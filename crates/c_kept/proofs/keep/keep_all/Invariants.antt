use Rattle.std.proofs.Common.{◌≡◌, map, take}
use Rattle.std.specs.Prelude.{vec_len}
use Rattle.c_syntax.specs.View.{item_of}
use Rattle.c_kept.specs.Kept.{all_kept}
use Rattle.c_kept.proofs.keep.keep_all.Given as goal

-- the first ones are done
abbrev pub invariant-loop-index : goal.invariant-loop-index
invariant-loop-index l = (map item_of l.items.items ≡ all_kept (take l.index l.all) (map item_of l.fn.items.items)) × (vec_len l.items ≡ vec_len l.fn.items)
