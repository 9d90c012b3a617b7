use Rattle.std.proofs.Common.{◌≡◌, ◌^◌, ◌++◌, [], ◌∷◌, subst}
use Rattle.eir_core.specs.declared.ops.Reg.TheVariants.{A, B, C}
use Rattle.eir_core.specs.declared.ops.Cond.TheVariants.{Ge}
use Rattle.c_routines.specs.declared.item.Item.TheVariants.{Label, Jump, JumpIf}
use Rattle.c_routines.specs.Items.{constant, does, label_of}
use Rattle.c_routines.specs.Using.{negate, entered, left_again}
use Rattle.c_routines.proofs.Codes.{three_put}
use Rattle.c_routines.proofs.signs.put_positive.Goals as goal

pub returns : goal.returns
returns c =
    three_put c.put_negated_left.result c.args.items.now.items
    (JumpIf Ge (label_of c.args.base 2) A (constant (2 ^ 23)) ∷ JumpIf Ge (label_of c.args.base 0) B (constant (2 ^ 23)) ∷ Jump c.args.entry ∷ Label (label_of c.args.base 0) ∷ [])
    (does (negate B C) (entered c.args.entry (label_of c.args.base 1) c.args.first [])) (does (negate C B) (left_again c.args.first []))
    c.put_signs_tested.new.items.items c.put_negated_entered.new.items.items c.put_negated_left.new.items.items c.in_ok-put_signs_tested.ensures
    (subst (λ l. c.put_negated_entered.new.items.items ≡ c.put_signs_tested.new.items.items ++ does (negate B C) (entered c.args.entry l c.args.first [])) c.label.ensures c.in_ok-put_negated_entered.ensures)
    c.put_negated_left.ensures
