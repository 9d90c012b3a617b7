use Rattle.std.proofs.Common.{[], sym, subst}
use Rattle.c_syntax.specs.declared.tree.UnOp.{UnOp}
use Rattle.c_types.specs.Types.{decayed}
use Rattle.c_eval.specs.Environment.{operand_type}
use Rattle.c_emitted.specs.Emits.{Emits}
use Rattle.c_emitted.proofs.EmitLemmas.{nothing}
use Rattle.c_here.specs.Behind.{behind_one}
use Rattle.c_here.proofs.behind.one_behind.Goals as goal

pub returns-in-Address-clause-emits : goal.returns-in-Address-clause-emits
returns-in-Address-clause-emits c = λ p judged.
    let out = c.args.out.now in
    subst (λ (op : UnOp). Emits out out (behind_one op (decayed (operand_type p))) []) (sym c.in-Address.is) (nothing out)
