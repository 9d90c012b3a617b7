use Rattle.std.proofs.Common.{sym, subst, ◌∙◌}
use Rattle.c_types.specs.Table.{Table}
use Rattle.c_declared.specs.Held.{HoldsSome}
use Rattle.c_lower_statements.proofs.CaseLemmas.{here_same, keeps_same, aside_made}
use Rattle.c_lower_statements.proofs.asides.step_aside.Goals as goal

pub maybe_effect-requires : goal.maybe_effect-requires
maybe_effect-requires c = subst (λ (t : Table). HoldsSome t c.args.here.now.declared) (sym c.exchange-front.ensures.types) c.requires

pub returns-clause-code : goal.returns-clause-code
returns-clause-code c = λ w env m n is hk hd.
    let a = c.args.out.now in
    let b = c.exchange-front.new.out in
    let front = c.exchange-front.ensures in
    let made = c.exchange-made.ensures in
    let f = c.in_ok-maybe_effect.ensures.code w env m n (here_same c.args.here.now a b w env front.types front.literals is) hk hd in
    aside_made a b c.maybe_effect.new.out c.exchange-made.new.out c.exchange-made.result.items _ _ front.types front.literals (front.ops ∙ c.new-nothing.ensures.items) f.emits made.before made.types made.literals (made.ops ∙ front.before)

pub returns-clause-keeps : goal.returns-clause-keeps
returns-clause-keeps c = keeps_same c.args.out.now c.exchange-front.new.out c.maybe_effect.new.out c.exchange-made.new.out c.exchange-front.ensures.types c.exchange-made.ensures.types c.in_ok-maybe_effect.ensures.keeps
