use Rattle.std.proofs.Common.{◌≤◌, length, drop, refl, sym, ◌∙◌, arith}
use Rattle.std.proofs.lemmas.Option.{slice_get-get_or}
use Rattle.c_types.specs.Table.{known}
use Rattle.c_operands.proofs.ListLemmas.{more_is, none_is, list_within}
use Rattle.c_operands.proofs.ArgumentLemmas.{as_many, one_more, all_passed, no_types_left}
use Rattle.c_operands.proofs.parameters.broken_argument.Goals as goal

pub loop-argument-init : goal.loop-argument-init
loop-argument-init c = λ ts h. record { rest = ts; list = h; is = λ xs a. refl }

pub shape-shape-requires : goal.shape-shape-requires
shape-shape-requires c =
    let p = c.loop-argument.invariant c.requires.0 c.requires.1 in
    list_within c.args.types.now c.loop-argument.rest p.rest p.list

pub argument_fault-fault-requires : goal.argument_fault-fault-requires
argument_fault-fault-requires c =
    let table = c.args.types.now in
    let p = c.loop-argument.invariant c.requires.0 c.requires.1 in
    let m = more_is table.tags (known table) c.shape-shape.result c.in-Some.ty c.in-Some.behind p.rest (sym c.in-Some.ensures) (c.shape-shape.ensures.says ∙ p.list) in
    (m.t, m.first)

pub loop-argument-preserved : goal.loop-argument-preserved
loop-argument-preserved c = λ ts h.
    let table = c.args.types.now in
    let arguments = c.args.arguments.now in
    let i = c.loop-argument.argument-index in
    let told = c.loop-argument.told in
    let fault = c.argument_fault-fault.result in
    let p = c.loop-argument.invariant ts h in
    let m = more_is table.tags (known table) c.shape-shape.result c.in-Some.ty c.in-Some.behind p.rest (sym c.in-Some.ensures) (c.shape-shape.ensures.says ∙ p.list) in
    record {
      rest = m.us;
      list = m.rest;
      is = λ xs a.
          one_more table arguments xs i c.in-Some.ty m.t m.us p.rest ts told fault c.merged-told.result c.argument_fault-fault.ensures (slice_get-get_or arguments i _ c.loop-argument-test.true) m.first m.is c.merged-told.ensures a (p.is xs a);
    }

pub returns-in-None : goal.returns-in-None
returns-in-None c = λ ts xs h a.
    let table = c.args.types.now in
    let p = c.loop-argument.invariant ts h in
    let none = none_is table.tags (known table) c.shape-shape.result p.rest (sym c.in-None.ensures) (c.shape-shape.ensures.says ∙ p.list) in
    sym (p.is xs a ∙ no_types_left c.loop-argument.told p.rest (drop c.loop-argument.argument-index xs) none)

pub returns : goal.returns
returns c = λ ts xs h a.
    let p = c.loop-argument.invariant ts h in
    let many = as_many c.args.types.now c.args.arguments.now xs a in
    let past : length xs ≤ c.loop-argument.argument-index = omega arith in
    sym (p.is xs a ∙ all_passed c.loop-argument.told p.rest xs c.loop-argument.argument-index past)
