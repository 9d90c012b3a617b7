use Rattle.std.proofs.Common.{[], ◌∷◌, List, subst}
use Rattle.std.specs.Prelude.{IfOk}
use Rattle.c_syntax.specs.View.{decls_of, stmt_of}
use Rattle.c_syntax.specs.declared.tree.Decl.{Decl}
use Rattle.c_applied.proofs.LeadsLemmas.{if_ok}
use Rattle.c_addressing.specs.declared.here.Output.{Output}
use Rattle.c_lower.specs.Functions.{defined}
use Rattle.c_lower.specs.Walk.{Passes}
use Rattle.c_lower.proofs.WalkLemmas.{if_on, held_same, signed_passes}
use Rattle.c_lower.proofs.functions.add_signed.Goals as goal

pub function-requires : goal.function-requires
function-requires c = c.requires

pub returns-clause-keeps : goal.returns-clause-keeps
returns-clause-keeps c = if_on c.function.result (λ told l. record { grows = l.keeps.grows; tags = l.keeps.tags }) c.function.ensures

pub returns-clause-holds : goal.returns-clause-holds
returns-clause-holds c = λ s holds.
    let a : Output = record c.args.out.now { literals = c.literals_of-out.result } in
    if_on c.function.result (λ told l. held_same c.args.here.now c.function.new.here a c.function.new.out s l.same l.keeps holds) c.function.ensures

pub returns-clause-adds : goal.returns-clause-adds
returns-clause-adds c = λ w names s g is sig blocks.
    let a = c.args.out.now in
    let b = c.function.new.out in
    let h = c.args.here.now in
    let e = c.function.new.here in
    let kinds = c.args.structs.now in
    let placed = c.args.placed.now in
    let name = c.args.name.now in
    let body = stmt_of c.args.body.now in
    subst (λ (l : List Decl). IfOk c.function.result (λ told. Passes e kinds a b placed w names c.args.k told s (defined s name (decls_of l) body g ∷ []))) c.as_slice-items.ensures.value
    (if_ok c.function.result (λ told l. signed_passes h e kinds a b c.literals_of-out.result placed w names s name c.args.f.now (decls_of c.as_slice-items.result.now) body g c.args.k told c.literals_of-out.ensures is sig blocks l) c.function.ensures)
