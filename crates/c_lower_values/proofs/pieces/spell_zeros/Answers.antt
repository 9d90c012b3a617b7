use Rattle.std.proofs.Common.{◌≡◌, ◌<◌, ◌≤◌, ℕ, ◌+◌, ◌-◌, replicate, ap, arith}
use Rattle.c_lower_values.proofs.SpellLemmas.{none_spelled, one_spelled, all_spelled, one_zero, no_zero}
use Rattle.c_lower_values.proofs.pieces.spell_zeros.Goals as goal

pub loop-index-init : goal.loop-index-init
loop-index-init c =
    let n = c.args.count in
    let e : n ≡ n - 0 = omega arith in
    none_spelled c.args.out.now c.args.at (replicate n 0) (replicate (n - 0) 0) (ap (λ (k : ℕ). replicate {A = ℕ} k 0) e)

pub loop-index-preserved : goal.loop-index-preserved
loop-index-preserved c =
    let n = c.args.count in
    let i = c.loop-index._index in
    let within : i < n = omega arith in
    one_spelled c.args.out.now c.loop-index.out c.spell_word.new.out c.args.at c.loop-index.place c.next-place.result (replicate n 0) (replicate (n - i) 0) 0 (replicate (n - (i + 1)) 0) c.loop-index.invariant (one_zero n i within)
    (λ m h. c.in_ok-spell_word.ensures m h) (λ m h. c.next-place.ensures m h)

pub returns : goal.returns
returns c = λ m h.
    let n = c.args.count in
    let i = c.loop-index._index in
    let past : n ≤ i = omega arith in
    all_spelled c.args.out.now c.loop-index.out c.args.at c.loop-index.place (replicate n 0) (replicate (n - i) 0) c.loop-index.invariant (no_zero n i past) m h
