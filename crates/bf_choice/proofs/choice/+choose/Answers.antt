use Rattle.std.proofs.Common.{◌≡◌, ◌<◌, ◌++◌, ◌-◌, suc, length, ap, sym, subst, ◌∙◌, arith}
use Rattle.bf_tape.specs.Code.{if_code, goto_code}
use Rattle.bf_tape.specs.Piece.{Piece}
use Rattle.bf_choice.specs.Choice.{bit_cell, spare_cell, codes, AreBalanced}
use Rattle.bf_choice.proofs.Chosen.{tree_of, balanced_front, balanced_rest}
use Rattle.bf_choice.proofs.choice.+choose.Goals as goal

pub choose-requires : goal.choose-requires
choose-requires t c =
    (omega (arith, c.decreases, c.if-digits-eq0.false), (omega (arith, c.requires.digits), subst (λ arms. AreBalanced (codes arms)) (sym c.rest-high.ensures) (balanced_rest c.half-from.result c.args.arms.now c.requires.balanced)))

pub choose-requires-2 : goal.choose-requires-2
choose-requires-2 t c =
    (omega (arith, c.decreases, c.if-digits-eq0.false), (omega (arith, c.requires.digits), subst (λ arms. AreBalanced (codes arms)) (sym c.front-low.ensures) (balanced_front c.half-from.result c.args.arms.now c.requires.balanced)))

pub returns : goal.returns
returns t c =
    let d = c.args.digits in
    let k = c.args.digits - 1 in
    let e : d ≡ suc k = omega (arith, c.if-digits-eq0.false) in
    let some : 0 < length c.args.arms.now = omega (arith, c.if-count-eq0.false) in
    c.in_ok-both.ensures
    ∙ ((λ i. let yes : Piece = c.in_ok-yes.ensures i in let other : Piece = c.in_ok-other.ensures i in record { commands = if_code 0 (bit_cell k) (spare_cell k) yes.commands other.commands ++ goto_code (spare_cell k) 0; cell = 0 })
    ∙ ap (λ xs. record { commands = xs; cell = 0 }) (tree_of d k c.half-from.result c.args.arms.now c.rest-high.result.now c.front-low.result.now e some c.half-from.ensures c.rest-high.ensures c.front-low.ensures))
