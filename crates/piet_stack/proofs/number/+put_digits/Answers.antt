use Rattle.std.proofs.Common.{◌≡◌, ◌-◌, ◌<◌, ◌≤◌, arith}
use Rattle.piet_stack.proofs.Digits.{zero_put, one_put, half_fits, more_put}
use Rattle.piet_stack.proofs.number.+put_digits.Goals as goal

pub returns-in_ok-put-2 : goal.returns-in_ok-put-2
returns-in_ok-put-2 t c = zero_put c.args.width c.args.n c.args.code.now.items c.put.new.code.items c.put-then-n-eq0.new.code.items c.if-n-eq0.true c.in_ok-put.ensures c.in_ok-put-2.ensures

pub returns-else-n-eq0 : goal.returns-else-n-eq0
returns-else-n-eq0 t c =
    let is : c.args.n ≡ 1 = omega (arith, c.if-n-lt2.true, c.if-n-eq0.false) in
    one_put c.args.width c.args.n c.args.code.now.items c.put.new.code.items c.requires is c.in_ok-put.ensures

pub put_digits-requires : goal.put_digits-requires
put_digits-requires t c =
    let two : 2 ≤ c.args.n = omega (arith, c.if-n-lt2.false) in
    let half = half_fits c.args.width c.args.n c.requires two in
    (omega (arith, half.0, c.decreases), half.1)

pub returns : goal.returns
returns t c =
    let two : 2 ≤ c.args.n = omega (arith, c.if-n-lt2.false) in
    more_put c.args.width c.args.n c.args.code.now.items c.put_digits.new.code.items c.put_digit.new.code.items c.requires two c.in_ok-put_digits.ensures c.in_ok-put_digit.ensures
