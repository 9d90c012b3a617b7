use Rattle.std.proofs.Common.{◌≡◌, ◌+◌, ◌++◌, ◌∷◌, [], ℕ, List, false, map, drop, length, sym, ap, ◌∙◌}
use Rattle.c_syntax.specs.Plain.{CStmt}
use Rattle.c_syntax.specs.View.{stmt_of}
use Rattle.c_syntax.specs.declared.tree.Stmt.{Stmt}
use Rattle.c_helpers.specs.Terms.{block}
use Rattle.c_helpers.specs.Functions.{pieces, spend_unit}
use Rattle.c_format_terms.proofs.ConversionLemmas.{drop_byte}
use Rattle.c_format_terms.proofs.PieceLemmas.{all_pieces}
use Rattle.c_format_terms.proofs.pieces.body.Goals as goal

pub loop-byte-init : goal.loop-byte-init
loop-byte-init c =
    let format = c.args.format.now in
    ap (λ (n : ℕ). map stmt_of c.add_unit.new.row.items ++ pieces false format n) (ap length c.new-letters.ensures.items)
    ∙ (ap (λ (l : List CStmt). l ++ pieces false format 0) c.in_ok-add_unit.ensures
    ∙ ap (λ (l : List Stmt). (map stmt_of l ++ spend_unit ∷ []) ++ pieces false format 0) c.new-row.ensures.items)

pub loop-byte-preserved : goal.loop-byte-preserved
loop-byte-preserved c =
    let format = c.args.format.now in
    let i = c.loop-byte.byte-index in
    c.in_ok-next.ensures (drop (i + 1) format)
    ∙ (sym (ap (λ (l : List ℕ). map stmt_of c.loop-byte.row.items ++ pieces c.loop-byte.behind l (length c.loop-byte.letters.items)) (drop_byte format i c.loop-byte-test.true)) ∙ c.loop-byte.invariant)

pub returns : goal.returns
returns c =
    let format = c.args.format.now in
    let l = c.loop-byte in
    c.block.ensures ∙ ap block (all_pieces (map stmt_of l.row.items) (spend_unit ∷ pieces false format 0) l.behind format l.byte-index (length l.letters.items) c.loop-byte-test.false l.invariant)
