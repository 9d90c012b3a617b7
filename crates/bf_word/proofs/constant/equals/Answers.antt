use Rattle.std.proofs.Common.{◌≡◌, ◌+◌, ◌-◌, ◌/◌, ◌%◌, ◌++◌, ap, ◌∙◌}
use Rattle.word24.specs.Word.{number_of}
use Rattle.bf_tape.specs.Code.{move_code}
use Rattle.bf_tape.specs.Piece.{joined}
use Rattle.bf_word.specs.WordCode.{add_bytes_code, once_code, raise_code, opposite, equals_code}
use Rattle.bf_word.proofs.Chain.{adds_aside}
use Rattle.bf_word.proofs.Codes.{first_code, next_code, aside_code}
use Rattle.bf_word.proofs.Told.{equals_adds}
use Rattle.bf_word.proofs.constant.equals.Goals as goal

pub returns-clause-effect : goal.returns-clause-effect
returns-clause-effect c =
    let value = c.get-number.ensures.value in
    adds_aside c.append.result c.args.f.now c.append.new.f c.append.ensures.ok c.aside-piece.ensures.piece
    (equals_adds c.args.counter c.args.flag (number_of c.args.v) c.requires.beyond c.args.v.in_range
    ((256 - c.get-number.result % 256) % 256) ((256 - c.get-number.result / 256 % 256) % 256) ((256 - c.get-number.result / 65536 % 256) % 256)
    (ap (λ n. opposite (n % 256)) value) (ap (λ n. opposite (n / 256 % 256)) value) (ap (λ n. opposite (n / 65536 % 256)) value)
    (c.get-number.result % 256) (c.get-number.result / 256 % 256) (c.get-number.result / 65536 % 256)
    (ap (λ n. n % 256) value) (ap (λ n. n / 256 % 256) value) (ap (λ n. n / 65536 % 256) value)
    c.in_ok-add_bytes.ensures.effect c.in_ok-lower_once.ensures.effect c.in_ok-move_to.ensures.effect c.in_ok-lift_once.ensures.effect c.in_ok-add_bytes-2.ensures.effect)

pub returns-clause-code : goal.returns-clause-code
returns-clause-code c =
    let h = c.args.f.now.cell in
    let w = c.args.counter in
    let flag = c.args.flag in
    let n = number_of c.args.v in
    let value = c.get-number.ensures.value in
    let one = add_bytes_code h w (opposite (n % 256)) (opposite (n / 256 % 256)) (opposite (n / 65536 % 256)) in
    let two = one ++ once_code (w + 2) w in
    let three = two ++ move_code w (w + 9) flag in
    let four = three ++ raise_code (w + 9) w in
    aside_code c.append.result c.args.f.now c.append.new.f (equals_code h w n flag) (w + 2) c.append.ensures.ok
    (next_code w (w + 2) four (λ k. add_bytes_code k w (n % 256) (n / 256 % 256) (n / 65536 % 256))
    (next_code (w + 9) w three (λ k. raise_code k w)
    (next_code w (w + 9) two (λ k. move_code k (w + 9) flag)
    (next_code (w + 2) w one (λ k. once_code k w)
    (first_code h (w + 2) (λ k. add_bytes_code k w (opposite (n % 256)) (opposite (n / 256 % 256)) (opposite (n / 65536 % 256))) c.aside-piece.ensures.piece
    (c.in_ok-add_bytes.ensures.code ∙ ap (λ v. joined c.aside-piece.result (add_bytes_code c.aside-piece.result.cell w (opposite (v % 256)) (opposite (v / 256 % 256)) (opposite (v / 65536 % 256))) (w + 2)) value))
    c.in_ok-lower_once.ensures.code) c.in_ok-move_to.ensures.code) c.in_ok-lift_once.ensures.code)
    (c.in_ok-add_bytes-2.ensures.code ∙ ap (λ v. joined c.lift_once.new.f (add_bytes_code c.lift_once.new.f.cell w (v % 256) (v / 256 % 256) (v / 65536 % 256)) (w + 2)) value))
