use Rattle.std.proofs.Common.{◌++◌, List, map, ap, ◌∙◌, ℕ}
use Rattle.std.specs.List.{flat_map}
use Rattle.mach_core.proofs.Lists.{drop_none}
use Rattle.word24.specs.declared.word.Word.{Word}
use Rattle.word24.specs.Word.{number_of}
use Rattle.wasm_rule.specs.Memory.{bytes_of}
use Rattle.wasm_code.proofs.Pieces.{words_more, words_all}
use Rattle.wasm_code.proofs.data.bytes_for.Goals as goal

pub loop-word-init : goal.loop-word-init
loop-word-init c =
    ap (λ (left : List Word). c.in_ok-bytes.bytes.items ++ flat_map (bytes_of 4) (map number_of left)) (drop_none c.args.words.now)
    ∙ ap (λ (bytes : List ℕ). bytes ++ flat_map (bytes_of 4) (map number_of c.args.words.now)) c.in_ok-bytes.ensures.items

pub loop-word-preserved : goal.loop-word-preserved
loop-word-preserved c =
    words_more c.args.words.now c.loop-word.word-index c.word-item.result c.loop-word.bytes.items c.put_word.new.bytes.items (flat_map (bytes_of 4) (map number_of c.args.words.now))
    c.loop-word-test.true c.word-item.is c.in_ok-put_word.ensures c.loop-word.invariant

pub returns : goal.returns
returns c = words_all c.args.words.now c.loop-word.word-index c.loop-word.bytes.items (flat_map (bytes_of 4) (map number_of c.args.words.now)) c.loop-word-test.false c.loop-word.invariant
