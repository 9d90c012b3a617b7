use Rattle.std.proofs.Common.{List, [], ◌++◌, sym, ap, subst, ◌∙◌}
use Rattle.std.specs.Prelude.{OnOk, Option}
use Rattle.std.proofs.lemmas.Option.{slice_get_within}
use Rattle.c_syntax.specs.Words.{meaning}
use Rattle.c_types.specs.Scope as scope
use Rattle.c_types.specs.Scope.{entity_of}
use Rattle.c_code.specs.Code as code
use Rattle.c_code.specs.Code.{name_code}
use Rattle.c_plain.specs.declared.instruction.Instruction.TheVariants as plain
use Rattle.c_plain.specs.declared.instruction.Unary.TheVariants as unary
use Rattle.c_types.specs.Known.{OneType}
use Rattle.c_types.specs.Table.{known}
use Rattle.c_emitted.specs.Emits.{Emits}
use Rattle.c_emitted.proofs.EmitLemmas.{on_ok, both}
use Rattle.c_here.specs.Named.{object_of}
use Rattle.c_here.proofs.NamedLemmas.{entity_found, object_found, function_found}
use Rattle.c_here.proofs.named.named_value.Goals as goal

pub fetch-requires : goal.fetch-requires
fetch-requires c =
    let table = c.args.types.now in
    let d = c.args.here.now.declared in
    let s = c.requires.0 in
    let o = meaning (d.names.block ++ d.names.outer) c.args.name.now in
    let is = object_found table o (entity_of s c.args.name.now) c.in-Some.ty (ap object_of (sym c.get.ensures) ∙ (sym c.object_of.ensures ∙ c.in-Some.is)) (entity_found table d s c.args.name.now c.requires.1.fits) in
    slice_get_within (known table) c.in-Some.ty (OneType is.0) is.2

pub returns-in_ok-named_place-in-Some : goal.returns-in_ok-named_place-in-Some
returns-in_ok-named_place-in-Some c = λ site env is.
    let table = c.args.types.now in
    let d = c.args.here.now.declared in
    let name = c.args.name.now in
    let o = meaning (d.names.block ++ d.names.outer) name in
    let obj = object_found table o (entity_of env.scope name) c.in-Some.ty (ap object_of (sym c.get.ensures) ∙ (sym c.object_of.ensures ∙ c.in-Some.is)) (entity_found table d env.scope name is.holds.fits) in
    subst (λ (p : Option scope.Entity). OnOk c.add.result (Emits c.args.out.now c.add.new.self (name_code site env name p) [])) (sym obj.1)
    (on_ok c.add.result (both (c.in_ok-named_place-in-Some.ensures env.objects site.names is.slots is.files))
    (c.add.ensures (code.Fetch obj.0) (record { means = λ names r e. ap (λ f. plain.Unary (unary.Fetch f)) (c.fetch.ensures obj.0 obj.2) })))

pub returns-in-None : goal.returns-in-None
returns-in-None c = λ site env is.
    let table = c.args.types.now in
    let d = c.args.here.now.declared in
    let name = c.args.name.now in
    let o = meaning (d.names.block ++ d.names.outer) name in
    let none = function_found table site env name o (entity_of env.scope name) (ap object_of (sym c.get.ensures) ∙ (sym c.object_of.ensures ∙ c.in-None.is)) (entity_found table d env.scope name is.holds.fits) in
    subst (λ (is : List code.Instruction). OnOk c.function.result (Emits c.args.out.now c.function.new.self is [])) (sym none) c.function.ensures
