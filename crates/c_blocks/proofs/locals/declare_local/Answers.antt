use Rattle.std.proofs.Common.{refl}
use Rattle.c_syntax.specs.View.{decl_of}
use Rattle.c_types.specs.Declarations.{declared_type, declared_object}
use Rattle.std.proofs.Common.{false}
use Rattle.c_declared.proofs.HeldLemmas.{held_kept}
use Rattle.c_here.proofs.HereLemmas.{here_later}
use Rattle.c_blocks.proofs.LocalLemmas.{typed_as, refused_type}
use Rattle.c_blocks.proofs.locals.declare_local.Goals as goal

pub declare_as-requires-clause-holds : goal.declare_as-requires-clause-holds
declare_as-requires-clause-holds c = held_kept c.args.types.now c.declared_type.new.types c.args.here.now.declared c.in_ok-ty.ensures.grows c.in_ok-ty.ensures.tags c.requires

pub returns-in_ok-local-in-Ok-clause-declares : goal.returns-in_ok-local-in-Ok-clause-declares
returns-in_ok-local-in-Ok-clause-declares c = λ out site env stands ok small.
    let old = c.args.types.now in
    let new = c.declared_type.new.types in
    let s = env.scope in
    let d = decl_of c.args.d.now in
    let judged = c.in_ok-ty.ensures.judged s stands.here.holds in
    c.in_ok-local-in-Ok.ensures.declares out site env (record { here = here_later old new c.args.here.now out site env c.in_ok-ty.ensures.grows c.in_ok-ty.ensures.tags stands.here; next = stands.next }) ok
    (typed_as new c.in_ok-ty.ty c.in-Ok.number (declared_type s d) judged c.in-Ok.is) small

pub returns-in-Err-clause-keeps : goal.returns-in-Err-clause-keeps
returns-in-Err-clause-keeps c = record {
  grows = c.in_ok-ty.ensures.grows;
  tags = c.in_ok-ty.ensures.tags;
  beside = record { declared = record { outer = refl; layouts = refl; defined = refl }; slots = refl };
  holds = held_kept c.args.types.now c.declared_type.new.types c.args.here.now.declared c.in_ok-ty.ensures.grows c.in_ok-ty.ensures.tags c.requires;
}

pub returns-in-Err-clause-declares : goal.returns-in-Err-clause-declares
returns-in-Err-clause-declares c = λ out site env stands ok small.
    let s = env.scope in
    let d = decl_of c.args.d.now in
    refused_type c.declared_type.new.types c.in_ok-ty.ty c.in-Err.field-0 (declared_type s d) (λ t. declared_object s false d t) (c.in_ok-ty.ensures.judged s stands.here.holds) c.in-Err.is ok

pub returns-in_ok-local-in-Ok-clause-typed : goal.returns-in_ok-local-in-Ok-clause-typed
returns-in_ok-local-in-Ok-clause-typed c = c.in_ok-local-in-Ok.ensures.typed
