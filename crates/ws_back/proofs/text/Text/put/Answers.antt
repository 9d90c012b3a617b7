use Rattle.std.proofs.lemmas.Result.{on_ok_weaker}
use Rattle.ws_back.specs.Commands.{instruction_of}
use Rattle.ws_back.proofs.Texts.{instruction_put}
use Rattle.ws_back.proofs.text.Text.put.Goals as goal

pub returns : goal.returns
returns c =
    on_ok_weaker c.parameter.result (λ h. instruction_put (instruction_of c.args.command) c.args.self.now.bytes.items c.signs.new.self.bytes.items c.parameter.new.self.bytes.items c.name.result.now c.name.ensures c.in_ok-signs.ensures h) c.parameter.ensures
