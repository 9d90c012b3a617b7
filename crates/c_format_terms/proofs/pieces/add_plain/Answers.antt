use Rattle.std.proofs.Common.{false, map}
use Rattle.c_syntax.specs.View.{stmt_of}
use Rattle.c_helpers.specs.Terms.{number}
use Rattle.c_helpers.specs.Functions.{put_piece}
use Rattle.c_format_terms.proofs.PieceLemmas.{before_rest}
use Rattle.c_format_terms.proofs.pieces.add_plain.Goals as goal

pub returns : goal.returns
returns c = λ rest. before_rest (map stmt_of c.args.row.now.items) (map stmt_of c.add_byte.new.row.items) (rest false) (put_piece (number c.args.byte)) c.in_ok-add_byte.ensures
