use Rattle.std.proofs.Common.{◌≡◌, ◌<◌, ◌≤◌, ◌^◌, ℕ, List, [], ◌∷◌, ◌++◌, map, replicate, Option, Some, None, refl, sym, ap, subst, ◌∙◌, arith}
use Rattle.c_syntax.specs.Plain as tree
use Rattle.c_syntax.specs.View.{decl_of}
use Rattle.c_blocks.specs.Locals.{IsTypedOrNone, IsSomeDeclared}
use Rattle.c_blocks.specs.declared.locals.Local.{Local}
use Rattle.c_flat.proofs.LocalLemmas.{local_on, no_local}
use Rattle.c_flat.proofs.locals.local.Goals as goal

pub first_value-requires-clause-holds : goal.first_value-requires-clause-holds
first_value-requires-clause-holds c = c.in_ok-declared.ensures.keeps.holds

pub returns-in-Some : goal.returns-in-Some
returns-in-Some c =
    local_on c.first_value.result c.args.types.now c.declare_local.new.types c.first_value.new.types c.args.here.now c.declare_local.new.here c.args.kinds.now c.args.out.now c.first_value.new.out c.args.block.now c.declare_local.new.block (decl_of c.args.d.now) c.in-Some.object
    c.in_ok-declared.ensures.keeps c.in_ok-declared.ensures.free c.first_value.ensures.grows c.first_value.ensures.tags
    (λ site env stands ok small. subst (λ (o : Option Local). IsSomeDeclared c.declare_local.new.types c.declare_local.new.here c.args.out.now c.args.block.now c.declare_local.new.block site env (decl_of c.args.d.now) o) c.in-Some.is (c.in_ok-declared.ensures.declares c.args.out.now site env stands ok small))
    c.first_value.ensures.emits

pub returns-in-None : goal.returns-in-None
returns-in-None c =
    no_local c.args.types.now c.declare_local.new.types c.args.here.now c.declare_local.new.here c.args.kinds.now c.args.out.now c.args.block.now c.declare_local.new.block (decl_of c.args.d.now) c.in_ok-declared.ensures.keeps c.in_ok-declared.ensures.free
    (λ site env stands ok small. subst (λ (o : Option Local). IsSomeDeclared c.declare_local.new.types c.declare_local.new.here c.args.out.now c.args.block.now c.declare_local.new.block site env (decl_of c.args.d.now) o) c.in-None.is (c.in_ok-declared.ensures.declares c.args.out.now site env stands ok small))

pub first_value-requires-clause-ty : goal.first_value-requires-clause-ty
first_value-requires-clause-ty c = subst (λ (o : Option Local). IsTypedOrNone c.declare_local.new.types o) c.in-Some.is c.in_ok-declared.ensures.typed
