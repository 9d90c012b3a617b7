use Rattle.std.proofs.Common.{◌∙◌}
use Rattle.wasm_bytes.proofs.Utf8.{text_test}
use Rattle.wasm_bytes.proofs.text.is_text.Goals as goal

pub returns : goal.returns
returns c = c.is_ok.ensures.value ∙ text_test c.from_utf8.result c.args.bytes.now _ _ c.from_utf8.ensures.cases
