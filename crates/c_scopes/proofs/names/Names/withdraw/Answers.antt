use Rattle.std.proofs.Common.{◌≡◌, suc, ◌-◌, ◌<◌, drop, length, ap, ◌∙◌, arith}
use Rattle.std.specs.Prelude.{vec_len}
use Rattle.c_scopes.proofs.BlockLemmas.{withdrawn}
use Rattle.c_scopes.proofs.names.Names.withdraw.Goals as goal

pub returns-in_ok-pop-clause-block : goal.returns-in_ok-pop-clause-block
returns-in_ok-pop-clause-block c =
    let items = c.self.inside.declared.items in
    let start = c.self.inside.start in
    let within : start < length items = omega arith in
    let size : suc (vec_len c.self.inside.declared - 1) ≡ length items = omega arith in
    withdrawn items c.pop.new.declared.items (vec_len c.self.inside.declared - 1) start within size c.in_ok-pop.ensures.front ∙ ap (λ b. drop 1 b.block) c.self.view_is
