-- The plain trees of what is made so far.
use Rattle.std.specs.Prelude.{map}
use Rattle.c_syntax.specs.View.{expr_of, stmt_of}
use Rattle.c_helper_steps.specs.declared.parts.Parts as code
use Rattle.c_helper_steps.specs.Postfix.{Parts}

abbrev pub seen : code.Parts → Parts
seen p = record {
  exprs = map expr_of p.exprs.items;
  arguments = map expr_of p.arguments.items;
  row = map stmt_of p.row.items;
  blocks = map (λ r. map stmt_of r.items) p.blocks.items;
}
