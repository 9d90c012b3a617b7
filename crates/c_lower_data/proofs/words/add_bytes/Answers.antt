use Rattle.std.proofs.Common.{◌≡◌, ◌+◌, get_or, drop, refl, arith}
use Rattle.std.proofs.lemmas.List.{drop_all}
use Rattle.c_lower_data.proofs.LetterLemmas.{one_worded, all_worded, drop_from}
use Rattle.c_lower_data.proofs.words.add_bytes.Goals as goal

pub loop-byte-init : goal.loop-byte-init
loop-byte-init c = record { whole = refl }

pub loop-byte-preserved : goal.loop-byte-preserved
loop-byte-preserved c =
    let bytes = c.args.bytes.now in
    let i = c.loop-byte.byte-index in
    let x = c.from.result in
    let same : x ≡ get_or bytes i 0 = grind (arith, c.from.ensures) in
    one_worded c.args.words.now.items c.loop-byte.words.items c.push.new.self.items bytes (drop i bytes) x (drop (i + 1) bytes) c.word.result c.loop-byte.invariant (drop_from bytes i x c.loop-byte-test.true same) c.word.ensures c.in_ok-push.ensures.items

pub returns : goal.returns
returns c =
    let bytes = c.args.bytes.now in
    let i = c.loop-byte.byte-index in
    all_worded c.args.words.now.items c.loop-byte.words.items bytes (drop i bytes) c.loop-byte.invariant (drop_all i bytes c.loop-byte-test.false)
