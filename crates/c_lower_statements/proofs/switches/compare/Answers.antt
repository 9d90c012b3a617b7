use Rattle.std.proofs.Common.{sym, subst}
use Rattle.std.specs.Prelude.{OnOk}
use Rattle.c_syntax.specs.View.{part_of}
use Rattle.c_syntax.specs.declared.tree.Part.{Part}
use Rattle.c_addressing.specs.Here.{Emits}
use Rattle.c_applied.proofs.LeadsLemmas.{nothing, keeps_none}
use Rattle.c_lower_statements.specs.Pieces.{label_code}
use Rattle.c_lower_statements.proofs.switches.compare.Goals as goal

pub returns-in-Label-clause-code : goal.returns-in-Label-clause-code
returns-in-Label-clause-code c = λ m s holds hk.
    subst (λ (x : Part). OnOk c.compare_word.result (Emits c.args.out.now c.compare_word.new.out (label_code (part_of x) s m) 0)) (sym c.in-Label.is) (c.compare_word.ensures.code c.in-Label._at m s holds hk)

pub returns-in-Label-clause-keeps : goal.returns-in-Label-clause-keeps
returns-in-Label-clause-keeps c = c.compare_word.ensures.keeps

pub returns-in-Item-clause-code : goal.returns-in-Item-clause-code
returns-in-Item-clause-code c = λ m s holds hk.
    subst (λ (x : Part). Emits c.args.out.now c.args.out.now (label_code (part_of x) s m) 0) (sym c.in-Item.is) (nothing c.args.out.now)

pub returns-in-Item-clause-keeps : goal.returns-in-Item-clause-keeps
returns-in-Item-clause-keeps c = keeps_none c.args.out.now
