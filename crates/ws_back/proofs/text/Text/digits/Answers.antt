use Rattle.std.proofs.Common.{◌≡◌, ◌≤◌, ◌%◌, cond, true, false, length, nat_eq, arith, ap, sym, ◌∙◌, length-set}
use Rattle.std.proofs.lemmas.Bool.Decides.{nat_tests}
use Rattle.std.proofs.lemmas.Result.{on_ok_weaker}
use Rattle.ws_back.proofs.Texts.{digit_bytes, more_digits, all_digits}
use Rattle.ws_back.proofs.text.Text.digits.Goals as goal
use Rattle.ws_back.proofs.text.Text.digits.Goals.{then-rest-eq1, else-rest-eq1}

pub loop-rest-preserved : goal.loop-rest-preserved
loop-rest-preserved c =
    let byte : c.if-rest-eq1.digits ≡ cond (nat_eq (c.loop-rest.rest % 2) 1) 9 32 = elim c.if-rest-eq1.branch [
      | then-rest-eq1 w ↦ let e : nat_eq (c.loop-rest.rest % 2) 1 ≡ true = grind (arith, nat_tests) in w.digits-is ∙ ap (λ b. cond b 9 32) (sym e)
      | else-rest-eq1 w ↦ let e : nat_eq (c.loop-rest.rest % 2) 1 ≡ false = grind (arith, nat_tests) in w.digits-is ∙ ap (λ b. cond b 9 32) (sym e)
    ] in
    let fits : c.loop-rest.at ≤ length c.loop-rest.digits = omega arith in
    let more = more_digits c.loop-rest.digits (digit_bytes 25 c.args.n) c.loop-rest.at c.loop-rest.rest c.loop-rest-test.true c.loop-rest.invariant.small fits c.loop-rest.invariant.whole in
    record {
      size = simp length-set c.loop-rest.invariant.size;
      fits = omega arith;
      small = more.1;
      whole = rw byte more.2;
    }

pub returns : goal.returns
returns c = on_ok_weaker c.signs.result (λ h. rw (all_digits c.loop-rest.digits (digit_bytes 25 c.args.n) c.loop-rest.at c.loop-rest.rest c.loop-rest.invariant.size c.loop-rest.invariant.fits c.loop-rest-test.false c.loop-rest.invariant.whole) at h) c.signs.ensures
