use Rattle.std.proofs.Common.{◌∙◌}
use Rattle.c_syntax.specs.View.{ty_of, decls_of}
use Rattle.c_types.specs.Scope.{entered}
use Rattle.c_types.specs.Units as plain
use Rattle.c_types.specs.Table.{known}
use Rattle.c_operands.proofs.OperandLemmas.{grows_then}
use Rattle.c_expressions.proofs.KeptLemmas.{type_kept}
use Rattle.c_declared.proofs.HeldLemmas.{holds_kept, block_entered}
use Rattle.c_signatures.proofs.BlockLemmas.{inside_then, may_end, same_holds}
use Rattle.c_signatures.proofs.signature.judge_signature.Goals as goal

pub judge_parameters-requires : goal.judge_parameters-requires
judge_parameters-requires c =
    let h = c.requires in
    let t0 = c.args.types.now in
    let t1 = c.result_type.new.types in
    let d0 = c.args.declared.now in
    let d1 = c.begin_block-mark.new.declared in
    let i = c.begin_block-mark.ensures.inside in
    (entered h.0, block_entered t1 d0 d1 h.0 c.begin_block-mark.ensures.block i.outer i.layouts i.defined (holds_kept t0 t1 d0 h.0 c.in_ok-given.ensures.grows c.in_ok-given.ensures.tags h.1))

pub joined-requires-clause-gives : goal.joined-requires-clause-gives
joined-requires-clause-gives c =
    let h = c.requires in
    let p = plain.result_type h.0 c.args.at (ty_of c.args.gives.now) in
    (p, type_kept c.result_type.new.types c.judge_parameters.new.types c.in_ok-given.given p c.in_ok-all.ensures.grows (c.in_ok-given.ensures.judged h.0 h.1))

pub joined-requires-clause-parameters : goal.joined-requires-clause-parameters
joined-requires-clause-parameters c =
    let h = c.requires in
    let t0 = c.args.types.now in
    let t1 = c.result_type.new.types in
    let d0 = c.args.declared.now in
    let d1 = c.begin_block-mark.new.declared in
    let i = c.begin_block-mark.ensures.inside in
    let now = block_entered t1 d0 d1 h.0 c.begin_block-mark.ensures.block i.outer i.layouts i.defined (holds_kept t0 t1 d0 h.0 c.in_ok-given.ensures.grows c.in_ok-given.ensures.tags h.1) in
    (d1, entered h.0, plain.all_parameters (entered h.0) (decls_of c.args.parameters.now.items.items), c.in_ok-all.ensures.judged (entered h.0) now)

pub end_block-requires : goal.end_block-requires
end_block-requires c =
    may_end c.args.declared.now c.judge_parameters.new.declared c.begin_block-mark.result
    (inside_then c.args.declared.now c.begin_block-mark.new.declared c.judge_parameters.new.declared c.begin_block-mark.ensures.inside c.in_ok-all.ensures.around) c.begin_block-mark.ensures.mark

pub returns-clause-judged : goal.returns-clause-judged
returns-clause-judged c = λ s holds.
    let t0 = c.args.types.now in
    let t1 = c.result_type.new.types in
    let t2 = c.judge_parameters.new.types in
    let d0 = c.args.declared.now in
    let d1 = c.begin_block-mark.new.declared in
    let i = c.begin_block-mark.ensures.inside in
    let now = block_entered t1 d0 d1 s c.begin_block-mark.ensures.block i.outer i.layouts i.defined (holds_kept t0 t1 d0 s c.in_ok-given.ensures.grows c.in_ok-given.ensures.tags holds) in
    let p = plain.result_type s c.args.at (ty_of c.args.gives.now) in
    let q = plain.all_parameters (entered s) (decls_of c.args.parameters.now.items.items) in
    c.in_ok-signature.ensures.judged s d1 p q c.begin_block-mark.ensures.block (type_kept t1 t2 c.in_ok-given.given p c.in_ok-all.ensures.grows (c.in_ok-given.ensures.judged s holds)) (c.in_ok-all.ensures.judged (entered s) now)

pub returns-clause-holds : goal.returns-clause-holds
returns-clause-holds c = λ s holds.
    let t0 = c.args.types.now in
    let t1 = c.result_type.new.types in
    let t2 = c.judge_parameters.new.types in
    let t3 = c.joined.new.types in
    let d0 = c.args.declared.now in
    let inside = inside_then d0 c.begin_block-mark.new.declared c.judge_parameters.new.declared c.begin_block-mark.ensures.inside c.in_ok-all.ensures.around in
    let same = c.in_ok-end_block.ensures d0 inside c.begin_block-mark.ensures.mark in
    same_holds t0 t3 d0 c.end_block.new.declared s
    (grows_then (known t0) (known t2) (known t3) (grows_then (known t0) (known t1) (known t2) c.in_ok-given.ensures.grows c.in_ok-all.ensures.grows) c.in_ok-signature.ensures.grows)
    (c.in_ok-signature.ensures.tags ∙ (c.in_ok-all.ensures.tags ∙ c.in_ok-given.ensures.tags)) same holds
