use Rattle.std.proofs.Common.{ap}
use Rattle.c_syntax.specs.View.{decl_of, value_of, maybe_value}
use Rattle.c_eval.specs.Environment.{object_type_in, declaring}
use Rattle.std.specs.Prelude.{Some}
use Rattle.c_lowered.specs.Locations.{located}
use Rattle.c_lowered.specs.Statements.{offset_in_frame}
use Rattle.c_lower_statements.proofs.FormLemmas.{local_none}
use Rattle.c_lower_statements.proofs.LocalLemmas.{local_on}
use Rattle.c_lower_statements.proofs.locals.local.Goals as goal

pub first_value-requires-clause-holds : goal.first_value-requires-clause-holds
first_value-requires-clause-holds c = c.in_ok-object.ensures.goes.holds

pub first_value-requires-clause-ty : goal.first_value-requires-clause-ty
first_value-requires-clause-ty c = c.in_ok-object.ensures.typed

pub returns-in-Some : goal.returns-in-Some
returns-in-Some c = λ to.
    let d = decl_of c.args.d.now in
    let dec = c.in_ok-object.ensures in
    local_on c.first_value.result c.args.out.now c.declare_local.new.out c.first_value.new.out c.args.here.now c.declare_local.new.here c.args.structs.now c.args.block.now c.declare_local.new.block d (value_of c.in-Some.value) c.in_ok-object.object to c.args.k
    (ap maybe_value c.in-Some.is) dec.goes c.first_value.ensures.keeps dec.still dec.declares
    (λ w env m n is structs hm. c.first_value.ensures.code (object_type_in env.scope d) (offset_in_frame (located w (Some (Some env.next)))) is.ty is.at w (declaring d env) m n is.stands.here structs hm is.stands.free)

pub returns-in-None : goal.returns-in-None
returns-in-None c = λ to.
    let dec = c.in_ok-object.ensures in
    local_none (decl_of c.args.d.now) c.in_ok-object.object to c.args.k (ap maybe_value c.in-None.is) dec.goes dec.still dec.declares
