use Rattle.std.proofs.Common.{◌<◌, ◌≤◌, length, sym, ap, List, ℕ, Some, ◌∙◌, arith}
use Rattle.c_syntax.specs.View.{expr_of}
use Rattle.c_static.proofs.StringLemmas.{no_room, string_fits, string_too_long}
use Rattle.c_static.proofs.strings.spelled.Goals as goal

pub returns-in_default-room_of : goal.returns-in_default-room_of
returns-in_default-room_of c = λ t has. sym (no_room t (expr_of c.args.e.now) (sym (c.room_of.ensures t has) ∙ c.in_default-room_of.is))

pub returns-in_ok-padded : goal.returns-in_ok-padded
returns-in_ok-padded c = λ t has.
    let text = c.in-Some.text.now in
    let n = c.in-Some-room_of.count in
    let fits : length text ≤ n = omega (arith, c.if-text-count.true) in
    ap (λ (l : List ℕ). Some l) c.in_ok-padded.ensures ∙ sym (string_fits t (expr_of c.args.e.now) n text (sym c.in-Some.ensures) (sym (c.in-Some-room_of.ensures t has)) fits)

pub returns-else-text-count : goal.returns-else-text-count
returns-else-text-count c = λ t has.
    let text = c.in-Some.text.now in
    let n = c.in-Some-room_of.count in
    let over : n < length text = omega (arith, c.if-text-count.false) in
    sym (string_too_long t (expr_of c.args.e.now) n text (sym c.in-Some.ensures) (sym (c.in-Some-room_of.ensures t has)) over)
