use Rattle.std.proofs.Common.{◌&&◌, ◌∷◌, length, refl, sym, subst, ◌∙◌}
use Rattle.std.specs.Prelude.{Err, ◌==◌}
use Rattle.c_types.specs.declared.fault.TypeFault.TheVariants as fault
use Rattle.c_types.specs.Types.{CType}
use Rattle.c_types.specs.Operands as plain
use Rattle.c_types.specs.Operands.{count_of, argument_rules}
use Rattle.c_types.specs.Table.{known}
use Rattle.c_operands.specs.Seen.{IsOperand, IsJudged}
use Rattle.c_operands.proofs.ListLemmas.{function_is, no_function}
use Rattle.c_operands.proofs.ArgumentLemmas.{as_many}
use Rattle.c_operands.proofs.CallLemmas.{told_as, taken_as}
use Rattle.c_operands.proofs.calls.function_call.Goals as goal

pub returns-in-None : goal.returns-in-None
returns-in-None c = λ t xs h a.
    let table = c.args.types.now in
    subst (IsJudged (IsOperand table) (Err (fault.BadCall c.args.at)))
    (sym (no_function table.tags (known table) c.shape-shape.result t (sym c.in-None.ensures) (c.shape-shape.ensures.says ∙ h) c.args.at c.args.defined xs)) refl

pub has_length-fits-requires : goal.has_length-fits-requires
has_length-fits-requires c =
    let table = c.args.types.now in
    let f = function_is table.tags (known table) c.shape-shape.result c.in-Some.result c.in-Some.list c.requires.0 (sym c.in-Some.ensures) (c.shape-shape.ensures.says ∙ c.requires.1) in
    (f.params, f.list)

pub broken_argument-others-requires : goal.broken_argument-others-requires
broken_argument-others-requires c =
    let table = c.args.types.now in
    let f = function_is table.tags (known table) c.shape-shape.result c.in-Some.result c.in-Some.list c.requires.0 (sym c.in-Some.ensures) (c.shape-shape.ensures.says ∙ c.requires.1) in
    (f.params, f.list)

pub returns-in-Some : goal.returns-in-Some
returns-in-Some c = λ t xs h a.
    let table = c.args.types.now in
    let f = function_is table.tags (known table) c.shape-shape.result c.in-Some.result c.in-Some.list t (sym c.in-Some.ensures) (c.shape-shape.ensures.says ∙ h) in
    let many = as_many table c.args.arguments.now xs a in
    let fits = c.has_length-fits.ensures f.params f.list in
    let taken = taken_as c.is_taken-taken.result c.args.defined c.has_length-fits.result (count_of f.params) (length c.args.arguments.now) (length xs) c.is_taken-taken.ensures fits many in
    let others = c.broken_argument-others.ensures f.params xs f.list a in
    let rules = argument_rules f.params xs in
    let told = told_as c.told-fault.result c.is_taken-taken.result (c.args.defined && count_of f.params == length xs) (fault.BadCall c.args.at) rules (c.told-fault.ensures rules others) taken in
    subst (λ (u : CType). IsJudged (IsOperand table) c.judged.result (plain.function_call c.args.at c.args.defined u xs)) (sym f.is)
    (c.judged.ensures table (plain.value_at c.args.at f.result) ((c.args.defined && count_of f.params == length xs, fault.BadCall c.args.at) ∷ rules) (c.value_at.ensures table f.result f.first) told)
