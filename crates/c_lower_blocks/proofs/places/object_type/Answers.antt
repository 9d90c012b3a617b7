use Rattle.std.proofs.Common.{refl, sym, subst}
use Rattle.c_syntax.specs.View.{decl_of}
use Rattle.c_types.specs.Types.{CType, Void}
use Rattle.c_types.specs.Declarations.{declared_type}
use Rattle.c_types.specs.Table.{HasType}
use Rattle.c_eval.specs.Environment.{object_type_in}
use Rattle.c_addressing.proofs.HereLemmas.{still}
use Rattle.c_applied.proofs.LeadsLemmas.{then_still}
use Rattle.c_lower_blocks.proofs.LaidLemmas.{typed_as, refused_is}
use Rattle.c_lower_blocks.proofs.places.object_type.Goals as goal

pub returns-in-Ok-clause-ty : goal.returns-in-Ok-clause-ty
returns-in-Ok-clause-ty c = λ s holds.
    typed_as c.declared_type.new.types c.in_ok-ty.ty c.in-Ok.number (declared_type s (decl_of c.args.d.now)) (c.in_ok-ty.ensures.judged s holds) c.in-Ok.is

pub returns-in-Ok-clause-typed : goal.returns-in-Ok-clause-typed
returns-in-Ok-clause-typed c =
    let s = c.requires.0 in
    let d = decl_of c.args.d.now in
    (object_type_in s d, typed_as c.declared_type.new.types c.in_ok-ty.ty c.in-Ok.number (declared_type s d) (c.in_ok-ty.ensures.judged s c.requires.1) c.in-Ok.is)

pub returns-in-Ok-clause-still : goal.returns-in-Ok-clause-still
returns-in-Ok-clause-still c = still c.args.out.now (record c.args.out.now { types = c.declared_type.new.types }) c.in_ok-ty.ensures.grows c.in_ok-ty.ensures.tags refl refl

pub returns-in_ok-number-in-Err-clause-ty : goal.returns-in_ok-number-in-Err-clause-ty
returns-in_ok-number-in-Err-clause-ty c = λ s holds.
    subst (λ (t : CType). HasType c.number.new.self c.in_ok-number-in-Err.number t)
    (sym (refused_is c.declared_type.new.types c.in_ok-ty.ty c.in-Err.field-0 (declared_type s (decl_of c.args.d.now)) (c.in_ok-ty.ensures.judged s holds) c.in-Err.is)) c.in_ok-number-in-Err.ensures.number

pub returns-in_ok-number-in-Err-clause-typed : goal.returns-in_ok-number-in-Err-clause-typed
returns-in_ok-number-in-Err-clause-typed c = (Void, c.in_ok-number-in-Err.ensures.number)

pub returns-in_ok-number-in-Err-clause-still : goal.returns-in_ok-number-in-Err-clause-still
returns-in_ok-number-in-Err-clause-still c =
    let old = c.args.out.now in
    let mid = record old { types = c.declared_type.new.types } in
    then_still (still old mid c.in_ok-ty.ensures.grows c.in_ok-ty.ensures.tags refl refl)
    (still mid (record old { types = c.number.new.self }) c.in_ok-number-in-Err.ensures.grows c.in_ok-number-in-Err.ensures.tags refl refl)
