use Rattle.std.proofs.Common.{◌≡◌, ◌+◌, true, nat_eq, cond, Some, subst, ap, ◌∙◌, eq-eqb}
use Rattle.bf_lang.specs.Brackets.{Stands}
use Rattle.bf_lang.specs.Reading.{IsScanned}
use Rattle.bf_lang.specs.Text.{is_open_byte, is_close_byte}
use Rattle.bf_lang.proofs.Scanned.{first_unopened, scanned_open}
use Rattle.bf_lang.proofs.Spelled.{byte_stands}
use Rattle.bf_lang.proofs.text.bracket.Goals as goal

pub returns-then-old-eq0 : goal.returns-then-old-eq0
returns-then-old-eq0 c =
    let text = c.args.text.now in
    let k = c.args.at in
    let b = c.args.old in
    let here : Stands is_open_byte text k = byte_stands is_open_byte text k c.requires.at ∙ ap (λ x. Some (is_open_byte x)) c.in-91.is in
    let first : nat_eq b.depth 0 ≡ true = eq-eqb b.depth 0 c.if-old-eq0.true in
    subst (λ t. IsScanned text (k + 1) (record { depth = b.depth + 1; outer = cond t k b.outer })) first (scanned_open text k b c.requires.scanned c.requires.at here)

pub returns-in-93 : goal.returns-in-93
returns-in-93 c =
    let text = c.args.text.now in
    let here : Stands is_close_byte text c.args.at = byte_stands is_close_byte text c.args.at c.requires.at ∙ ap (λ x. Some (is_close_byte x)) c.in-93.is in
    first_unopened text c.args.at c.args.old c.requires.scanned c.if-old-eq0-2.true here
