use Rattle.std.proofs.Common.{ℕ, List, ◌++◌, sym, subst, ap, ◌∙◌}
use Rattle.std.specs.Prelude.{Option, Some}
use Rattle.std.proofs.lemmas.Option.{slice_get_within}
use Rattle.c_syntax.specs.Words.{meaning}
use Rattle.c_types.specs.Scope as scope
use Rattle.c_types.specs.Scope.{entity_of}
use Rattle.c_types.specs.Known.{OneType}
use Rattle.c_types.specs.Table.{known}
use Rattle.c_operands.specs.declared.class.Class.{Class}
use Rattle.c_emission.specs.declared.location.Direct.TheVariants as rust
use Rattle.c_lowered.specs.Locations as plain
use Rattle.c_addressing.specs.Classes.{held_by}
use Rattle.c_addressing.specs.Names.{number_in}
use Rattle.c_addressing.specs.Places.{IsDirectOrNone}
use Rattle.c_addressing.proofs.ClassLemmas.{held_is}
use Rattle.c_addressing.proofs.PlaceLemmas.{entity_found, object_found, function_found}
use Rattle.c_addressing.proofs.names.named.Goals as goal

pub class_of-requires : goal.class_of-requires
class_of-requires c =
    let table = c.args.out.now.types in
    let d = c.args.here.now.declared in
    let s = c.requires.0 in
    let o = meaning (d.names.block ++ d.names.outer) c.args.name.now in
    let is = object_found table o (entity_of s c.args.name.now) c.in-Some.ty (ap number_in (sym c.get.ensures) ∙ (sym c.number_in.ensures ∙ c.in-Some.is)) (entity_found table d s c.args.name.now c.requires.1.fits) in
    slice_get_within (known table) c.in-Some.ty (OneType is.0) is.2

pub returns-in-Some : goal.returns-in-Some
returns-in-Some c = λ w env is.
    let table = c.args.out.now.types in
    let d = c.args.here.now.declared in
    let name = c.args.name.now in
    let o = meaning (d.names.block ++ d.names.outer) name in
    let obj = object_found table o (entity_of env.scope name) c.in-Some.ty (ap number_in (sym c.get.ensures) ∙ (sym c.number_in.ensures ∙ c.in-Some.is)) (entity_found table d env.scope name is.holds.fits) in
    let place = plain.located w (meaning env.objects name) in
    let class = c.class_of.ensures obj.0 obj.2 in
    subst (λ (p : Option scope.Entity). IsDirectOrNone c.held.result (plain.named_direct w env name p)) (sym obj.1)
    (subst (λ (v : Option plain.Direct). IsDirectOrNone c.held.result v) (ap (λ (k : Class). held_by k place) class ∙ held_is obj.0 place) (c.held.ensures place (c.located.ensures c.args.out.now w env is)))

pub returns-in-None : goal.returns-in-None
returns-in-None c = λ w env is.
    let table = c.args.out.now.types in
    let d = c.args.here.now.declared in
    let name = c.args.name.now in
    let o = meaning (d.names.block ++ d.names.outer) name in
    let none = function_found table w env name o (entity_of env.scope name) (ap number_in (sym c.get.ensures) ∙ (sym c.number_in.ensures ∙ c.in-None.is)) (entity_found table d env.scope name is.holds.fits) in
    subst (λ (v : Option plain.Direct). IsDirectOrNone (Some (rust.Exactly c.entry_of.result)) v) (sym none) (c.entry_of.ensures c.args.out.now w env is)
