use Rattle.std.proofs.Common.{List, ◌++◌, ◌∙◌, ap, refl}
use Rattle.eir_core.specs.declared.ops.Op.{Op}
use Rattle.c_addressing.proofs.HereLemmas.{added}
use Rattle.c_addressing.proofs.SameLemmas.{restore_is}
use Rattle.c_addressing.proofs.values.restore.Goals as goal

pub returns : goal.returns
returns c = λ n h. added c.args.out.now (record c.args.out.now { ops = c.put_restore.new.ops }) _ refl (c.in_ok-put_restore.ensures ∙ ap (λ (l : List Op). c.args.out.now.ops.items ++ l) (restore_is c.args.r c.args.d n h)) refl
