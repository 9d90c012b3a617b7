use Rattle.std.proofs.Common.{sym, ap, ◌∙◌}
use Rattle.c_eval.specs.Environment.{constant_word}
use Rattle.c_types.specs.Seen.{constant_of}
use Rattle.c_types.specs.declared.constant.Constant.{Constant}
use Rattle.c_fewer_trees.proofs.types.word_of.Goals as goal

pub returns-in-NotConstant : goal.returns-in-NotConstant
returns-in-NotConstant c =
    ap (λ (k : Constant). constant_word (constant_of k)) (sym c.in-NotConstant.is)

pub returns-in-Undefined : goal.returns-in-Undefined
returns-in-Undefined c =
    ap (λ (k : Constant). constant_word (constant_of k)) (sym c.in-Undefined.is)

pub returns-in-Value : goal.returns-in-Value
returns-in-Value c =
    c.get.ensures.value ∙ ap (λ (k : Constant). constant_word (constant_of k)) (sym c.in-Value.is)
