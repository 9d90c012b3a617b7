use Rattle.std.proofs.Common.{◌≡◌, ◌++◌, ◌∷◌, [], map, subst}
use Rattle.std.specs.Prelude.{OnOk}
use Rattle.c_syntax.specs.Plain.{CExpr}
use Rattle.c_syntax.specs.View.{stmt_of}
use Rattle.c_helpers.specs.Functions.{put_piece}
use Rattle.c_format_terms.proofs.effects.add_byte.Goals as goal

pub returns : goal.returns
returns c =
    subst (λ (x : CExpr). OnOk c.add_character.result (map stmt_of c.add_character.new.row.items ≡ map stmt_of c.args.row.now.items ++ put_piece x ∷ [])) c.number-e.ensures c.add_character.ensures
