use Rattle.std.proofs.Common.{◌≡◌, ◌+◌, ◌<◌, sym, ◌∙◌, arith}
use Rattle.c_types.specs.Operands.{count_of}
use Rattle.c_types.specs.Table.{known}
use Rattle.c_operands.proofs.ListLemmas.{more_is, none_is, passed_first, ended_early, list_within, all_counted}
use Rattle.c_operands.proofs.parameters.has_length.Goals as goal

pub loop-index-init : goal.loop-index-init
loop-index-init c = λ ts h. record { rest = ts; list = h; count = omega arith }

pub shape-shape-requires : goal.shape-shape-requires
shape-shape-requires c =
    let p = c.loop-index.invariant c.requires.0 c.requires.1 in
    list_within c.args.types.now c.loop-index.rest p.rest p.list

pub loop-index-preserved : goal.loop-index-preserved
loop-index-preserved c = λ ts h.
    let table = c.args.types.now in
    let p = c.loop-index.invariant ts h in
    let m = more_is table.tags (known table) c.shape-shape.result c.in-Some._first c.in-Some.behind p.rest (sym c.in-Some.ensures) (c.shape-shape.ensures.says ∙ p.list) in
    record { rest = m.us; list = m.rest; count = passed_first ts m.us m.t p.rest c.loop-index._index p.count m.is }

pub returns-in-None : goal.returns-in-None
returns-in-None c = λ ts h.
    let table = c.args.types.now in
    let p = c.loop-index.invariant ts h in
    let none = none_is table.tags (known table) c.shape-shape.result p.rest (sym c.in-None.ensures) (c.shape-shape.ensures.says ∙ p.list) in
    let less : c.loop-index._index < c.args.count = omega arith in
    ended_early ts p.rest c.loop-index._index c.args.count p.count none less

pub shape-last-requires : goal.shape-last-requires
shape-last-requires c =
    let p = c.loop-index.invariant c.requires.0 c.requires.1 in
    list_within c.args.types.now c.loop-index.rest p.rest p.list

pub returns : goal.returns
returns c = λ ts h.
    let table = c.args.types.now in
    let p = c.loop-index.invariant ts h in
    let passed = p.count in
    let count : count_of ts ≡ c.args.count + count_of p.rest = omega arith in
    all_counted table.tags (known table) c.shape-last.result c.is_end.result ts p.rest c.args.count c.is_end.ensures (c.shape-last.ensures.says ∙ p.list) count
