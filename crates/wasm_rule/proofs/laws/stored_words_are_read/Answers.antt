use Rattle.wasm_rule.proofs.Stored.{byte_below, byte_stored, byte_behind, word_stored, segments_last}
use Rattle.wasm_rule.proofs.laws.stored_words_are_read.Goals as goal

pub returns : goal.returns
returns c = record { below = byte_below; within = byte_stored; behind = byte_behind; word = word_stored; later = segments_last }
