use Rattle.elvm_cli.proofs.Compiled.{slices_are_bytes}
use Rattle.elvm_cli.proofs.read.are_bytes.Goals as goal

pub returns : goal.returns
returns c = slices_are_bytes c.args._text.now c.type_inv._text
