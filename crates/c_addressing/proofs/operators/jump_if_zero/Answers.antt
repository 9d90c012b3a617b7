use Rattle.std.proofs.Common.{List, ◌++◌, ◌∙◌, ap, refl}
use Rattle.eir_core.specs.declared.ops.Op.{Op}
use Rattle.c_addressing.proofs.HereLemmas.{added}
use Rattle.c_addressing.proofs.SameLemmas.{jump_if_zero_is}
use Rattle.c_addressing.proofs.operators.jump_if_zero.Goals as goal

pub returns : goal.returns
returns c = λ n h. added c.args.out.now (record c.args.out.now { ops = c.put_jump_if_zero.new.ops }) _ refl (c.in_ok-put_jump_if_zero.ensures ∙ ap (λ (l : List Op). c.args.out.now.ops.items ++ l) (jump_if_zero_is c.args.is_zero c.args.target n h)) refl
