use Rattle.std.proofs.Common.{ap}
use Rattle.c_prep.specs.Directives.{Empty, Define, Undef, If, Turn, Close}
use Rattle.c_prep.specs.Lines.{defined, after_else, after_endif}
use Rattle.c_prep.specs.Views.{state_of, directive_of}
use Rattle.c_prep.proofs.Giving.{adds_none}
use Rattle.c_prep.proofs.Obeying.{always_ok, adds_at, macros_adds, opens_adds}
use Rattle.c_prep.proofs.context.Context.obey.Goals as goal

pub returns-in-Empty-clause-acts : goal.returns-in-Empty-clause-acts
returns-in-Empty-clause-acts c = adds_at (state_of c.args.self.now) c.args.at c.args.out.now Empty c.args.directive (ap directive_of c.in-Empty.is) (adds_none c.args.out.now)

pub returns-in-Define-clause-acts : goal.returns-in-Define-clause-acts
returns-in-Define-clause-acts c =
    let s = state_of c.args.self.now in
    always_ok c.define.result (adds_at s c.args.at c.args.out.now (Define c.in-Define.name.now c.in-Define.pos c.in-Define.tokens.now) c.args.directive (ap directive_of c.in-Define.is)
    (macros_adds s (defined c.in-Define.name.now c.in-Define.pos c.in-Define.tokens.now s.macros) c.args.out.now))

pub returns-in-Undef-clause-acts : goal.returns-in-Undef-clause-acts
returns-in-Undef-clause-acts c = adds_at (state_of c.args.self.now) c.args.at c.args.out.now (Undef c.in-Undef.name.now) c.args.directive (ap directive_of c.in-Undef.is) (adds_none c.args.out.now)

pub returns-in_ok-open-in-If-clause-acts : goal.returns-in_ok-open-in-If-clause-acts
returns-in_ok-open-in-If-clause-acts c = adds_at (state_of c.args.self.now) c.args.at c.args.out.now (If c.in-If.name.now c.in-If.wanted) c.args.directive (ap directive_of c.in-If.is) (adds_none c.args.out.now)

pub returns-in-Turn-clause-acts : goal.returns-in-Turn-clause-acts
returns-in-Turn-clause-acts c =
    let s = state_of c.args.self.now in
    always_ok c.turn.result (adds_at s c.args.at c.args.out.now (Turn c.in-Turn.more) c.args.directive (ap directive_of c.in-Turn.is) (opens_adds s (after_else c.args.at c.in-Turn.more s.opens) c.args.out.now))

pub returns-in-Close-clause-acts : goal.returns-in-Close-clause-acts
returns-in-Close-clause-acts c =
    let s = state_of c.args.self.now in
    always_ok c.close.result (adds_at s c.args.at c.args.out.now (Close c.in-Close.more) c.args.directive (ap directive_of c.in-Close.is) (opens_adds s (after_endif c.args.at c.in-Close.more s.opens) c.args.out.now))
