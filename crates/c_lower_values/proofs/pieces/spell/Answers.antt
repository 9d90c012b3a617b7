use Rattle.std.proofs.Common.{◌≡◌, ◌+◌, get_or, drop, refl, arith}
use Rattle.std.proofs.lemmas.List.{drop_all}
use Rattle.c_lower_values.proofs.SpellLemmas.{none_spelled, one_spelled, all_spelled, drop_from}
use Rattle.c_lower_values.proofs.pieces.spell.Goals as goal

pub loop-byte-init : goal.loop-byte-init
loop-byte-init c = none_spelled c.args.out.now c.args.at c.args.bytes.now c.args.bytes.now refl

pub loop-byte-preserved : goal.loop-byte-preserved
loop-byte-preserved c =
    let bytes = c.args.bytes.now in
    let i = c.loop-byte.byte-index in
    let x = c.from.result in
    let same : x ≡ get_or bytes i 0 = grind (arith, c.from.ensures) in
    one_spelled c.args.out.now c.loop-byte.out c.spell_word.new.out c.args.at c.loop-byte.place c.next-place.result bytes (drop i bytes) x (drop (i + 1) bytes) c.loop-byte.invariant (drop_from bytes i x c.loop-byte-test.true same)
    (λ n h. c.in_ok-spell_word.ensures n h) (λ n h. c.next-place.ensures n h)

pub returns : goal.returns
returns c = λ n h.
    let bytes = c.args.bytes.now in
    let i = c.loop-byte.byte-index in
    all_spelled c.args.out.now c.loop-byte.out c.args.at c.loop-byte.place bytes (drop i bytes) c.loop-byte.invariant (drop_all i bytes c.loop-byte-test.false) n h
