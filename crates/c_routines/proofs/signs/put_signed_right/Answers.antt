use Rattle.std.proofs.Common.{◌≡◌, ◌^◌, ◌++◌, [], ◌∷◌, subst}
use Rattle.eir_core.specs.declared.ops.Reg.TheVariants.{A}
use Rattle.eir_core.specs.declared.ops.Cond.TheVariants.{Ge}
use Rattle.c_routines.specs.declared.item.Item.TheVariants.{Label, Jump, JumpIf}
use Rattle.c_routines.specs.Items.{constant, does, label_of}
use Rattle.c_routines.specs.SignedRight.{turned}
use Rattle.c_routines.specs.Using.{entered, left_again}
use Rattle.c_routines.proofs.Codes.{three_put}
use Rattle.c_routines.proofs.signs.put_signed_right.Goals as goal

pub returns : goal.returns
returns c =
    three_put c.put_turned_left.result c.args.items.now.items
    (JumpIf Ge (label_of c.args.base 0) A (constant (2 ^ 23)) ∷ Jump c.args.entry ∷ Label (label_of c.args.base 0) ∷ [])
    (does turned (entered c.args.entry (label_of c.args.base 1) c.args.first [])) (does turned (left_again c.args.first []))
    c.put_sign_tested.new.items.items c.put_turned_entered.new.items.items c.put_turned_left.new.items.items c.in_ok-put_sign_tested.ensures
    (subst (λ l. c.put_turned_entered.new.items.items ≡ c.put_sign_tested.new.items.items ++ does turned (entered c.args.entry l c.args.first [])) c.label.ensures c.in_ok-put_turned_entered.ensures)
    c.put_turned_left.ensures
