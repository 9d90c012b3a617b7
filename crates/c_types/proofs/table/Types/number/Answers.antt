use Rattle.std.proofs.Common.{◌≡◌, Option, Some, None, refl, sym, ap, subst, ◌∙◌}
use Rattle.std.specs.Prelude.{IsSome, slice_get}
use Rattle.c_types.specs.Known.{Known, says}
use Rattle.c_types.specs.Table.{Table, table_of, texts, known}
use Rattle.c_types.proofs.ShapeEquality.{equal, shape_same, shape_self}
use Rattle.c_types.proofs.TableLemmas.{IsNumbered, numbered}
use Rattle.c_types.proofs.table.Types.number.Goals as goal

some_is : (o : Option Known) → IsSome o → (k : Known) × (o ≡ Some k)
some_is (Some k) h = (k, refl)
some_is None h = cc

-- what the shape says
said : (c : goal.In_ok-number) → (k : Known) × (says (texts c.self.inside.tags.keys) (known (table_of c.self.inside.tags.keys c.self.inside.shapes.keys)) c.args.shape ≡ Some k)
said c = some_is (says (texts c.self.inside.tags.keys) (known (table_of c.self.inside.tags.keys c.self.inside.shapes.keys)) c.args.shape) (subst (λ (t : Table). IsSome (says t.tags (known t) c.args.shape)) (sym c.self.view_is) c.requires)

made : (c : goal.In_ok-number) → IsNumbered (texts c.self.inside.tags.keys) c.self.inside.shapes.keys c.insert_full.new.self.keys (said c).0 c.in_ok-number.number
made c =
    numbered equal shape_same shape_self (texts c.self.inside.tags.keys) c.self.inside.shapes.keys c.insert_full.new.self.keys c.args.shape (said c).0 c.in_ok-number.number
    c.self.invariant (said c).1 c.in_ok-number.ensures.keys c.in_ok-number.ensures.index

pub invariant_of-self-2 : goal.invariant_of-self-2
invariant_of-self-2 c = (made c).made

pub returns-clause-number : goal.returns-clause-number
returns-clause-number c = (made c).number ∙ (sym (said c).1 ∙ ap (λ (t : Table). says t.tags (known t) c.args.shape) c.self.view_is)

pub returns-clause-grows : goal.returns-clause-grows
returns-clause-grows c = λ n k h. (made c).grows n k (subst (λ (t : Table). slice_get (known t) n ≡ Some k) (sym c.self.view_is) h)
