use Rattle.std.proofs.Common.{◌≡◌, length, subst, sym, arith}
use Rattle.c_scopes.specs.Stack.{Stands}
use Rattle.c_scopes.proofs.StackLemmas.{push_stands}
use Rattle.c_scopes.proofs.stack.push.Goals as goal

pub returns-in-Ok-clause-stands : goal.returns-in-Ok-clause-stands
returns-in-Ok-clause-stands c =
    let count : c.len-index.result ≡ length c.args.declared.now.items = omega arith in
    λ s.
    subst (λ ds. Stands ds c.insert.new.self.entries) (sym c.in_ok-push.ensures.items)
    (push_stands c.args.declared.now.items c.args.latest.now.entries c.insert.new.self.entries c.args.name c.args.entity c.place_of-hidden.result c.len-index.result
    c.place_of-hidden.ensures count c.in-Ok.ensures.entries s)
