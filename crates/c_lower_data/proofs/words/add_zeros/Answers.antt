use Rattle.std.proofs.Common.{◌≡◌, ◌<◌, ◌≤◌, ℕ, ◌+◌, ◌-◌, ◌++◌, replicate, ap, arith}
use Rattle.c_lowered.specs.Whole.{words_from}
use Rattle.c_lower_data.proofs.LetterLemmas.{one_worded, all_worded, one_zero, no_zero}
use Rattle.c_lower_data.proofs.words.add_zeros.Goals as goal

pub loop-index-init : goal.loop-index-init
loop-index-init c =
    let n = c.args.count in
    let e : n ≡ n - 0 = omega arith in
    record { whole = ap (λ (k : ℕ). c.args.words.now.items ++ words_from (replicate k 0)) e }

pub loop-index-preserved : goal.loop-index-preserved
loop-index-preserved c =
    let n = c.args.count in
    let i = c.loop-index._index in
    let within : i < n = omega arith in
    one_worded c.args.words.now.items c.loop-index.words.items c.push.new.self.items (replicate n 0) (replicate (n - i) 0) 0 (replicate (n - (i + 1)) 0) c.word.result c.loop-index.invariant (one_zero n i within) c.word.ensures c.in_ok-push.ensures.items

pub returns : goal.returns
returns c =
    let n = c.args.count in
    let i = c.loop-index._index in
    let past : n ≤ i = omega arith in
    all_worded c.args.words.now.items c.loop-index.words.items (replicate n 0) (replicate (n - i) 0) c.loop-index.invariant (no_zero n i past)
