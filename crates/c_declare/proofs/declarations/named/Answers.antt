use Rattle.std.proofs.Common.{◌∙◌}
use Rattle.c_held.specs.View.{layers_of}
use Rattle.c_declare.proofs.Same.{named_same}
use Rattle.c_declare.proofs.declarations.named.Goals as goal

pub returns : goal.returns
returns c = λ m f a b h. named_same c.text.result c.args.token.pos (layers_of c.args.layers.items) m f (c.text.ensures ∙ a) b h
