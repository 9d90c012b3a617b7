use Rattle.std.proofs.Common.{subst}
use Rattle.c_opening.specs.BuiltIns.{result_of, parameters_of}
use Rattle.c_opening.proofs.BuiltInLemmas.{on_ok, built_in_more}
use Rattle.c_opening.proofs.built_ins.declare_built_in.Goals as goal

pub returns-clause-names : goal.returns-clause-names
returns-clause-names c = λ others are.
    on_ok c.declare.result
    (built_in_more c.args.types.now c.result_type.new.types c.parameter_list.new.types c.number.new.self c.args.names.now.block c.declare.new.self.block others c.args.name.now c.in_ok-function.function c.in_ok-result.result c.in_ok-list.list
    (result_of c.args.gives) (parameters_of c.args.takes) c.in_ok-result.ensures.grows c.in_ok-list.ensures.grows c.in_ok-function.ensures.grows c.in_ok-result.ensures.number c.in_ok-list.ensures.list c.in_ok-function.ensures.number are)
    c.declare.ensures.block
