-- The rules of first values.
use Rattle.std.proofs.Common.{◌≡◌, ℕ, Bool, ◌||◌, List, [], ◌∷◌, ◌++◌, Option, Some, None, refl, sym, ap, subst, ◌∙◌}
use Rattle.c_syntax.specs.Plain.{CExpr}
use Rattle.c_types.specs.declared.fault.TypeFault.{TypeFault}
use Rattle.c_types.specs.declared.fault.TypeFault.TheVariants as fault
use Rattle.c_types.specs.Types.{CType}
use Rattle.c_types.specs.Refusals.{Rule, broken}
use Rattle.c_types.specs.Operands.{Operand, converts}
use Rattle.c_types.specs.Declarations.{object_rules, takes_string}
use Rattle.c_types.specs.Table.{Table, HasType}
use Rattle.c_operands.specs.Arguments.{merged}
use Rattle.c_operands.proofs.LeastLemmas.{broken_first}
use Rattle.c_declared.specs.Slots.{IsTypeOrNone}

pub some_type : (table : Table) (n : ℕ) (o : Option ℕ) (t : Option CType) → o ≡ Some n → IsTypeOrNone table o t → (u : CType) × (t ≡ Some u) × HasType table n u
some_type table n o t e h = by t (subst (λ (k : Option ℕ). IsTypeOrNone table k t) e h) where
  by : (t : Option CType) → IsTypeOrNone table (Some n) t → (u : CType) × (t ≡ Some u) × HasType table n u
  by (Some u) g = (u, refl, g)
  by None g = absurd g

pub no_type : (table : Table) (o : Option ℕ) (t : Option CType) → o ≡ None → IsTypeOrNone table o t → t ≡ None
no_type table o t e h = by t (subst (λ (k : Option ℕ). IsTypeOrNone table k t) e h) where
  by : (t : Option CType) → IsTypeOrNone table None t → t ≡ None
  by None g = refl
  by (Some u) g = absurd g

-- the object's own rule
pub object_as : (r : Option TypeFault) (kept : Bool) (at : ℕ) (t : Option CType) (u : CType) (e : CExpr) (x : Operand)
    → r ≡ broken ((kept, fault.Mismatch at) ∷ []) → kept ≡ (takes_string u e || converts x u) → at ≡ x.pos → t ≡ Some u → r ≡ broken (object_rules t e x)
object_as r kept at t u e x h k p q =
    h ∙ (ap (λ (b : Bool). broken ((b, fault.Mismatch at) ∷ [])) k
    ∙ (ap (λ (n : ℕ). broken ((takes_string u e || converts x u, fault.Mismatch n) ∷ [])) p
    ∙ ap (λ (o : Option CType). broken (object_rules o e x)) (sym q)))

-- the object's rule beside others
both_rules : (t : Option CType) (e : CExpr) (x : Operand) (rules : List Rule) → broken (object_rules t e x ++ rules) ≡ merged (broken (object_rules t e x)) (broken rules)
both_rules (Some t) e x rules = broken_first (takes_string t e || converts x t) (fault.Mismatch x.pos) rules
both_rules None e x rules = refl

pub value_rules : (r a b : Option TypeFault) (t : Option CType) (e : CExpr) (x : Operand) (rules : List Rule)
    → r ≡ merged a b → a ≡ broken (object_rules t e x) → b ≡ broken rules → r ≡ broken (object_rules t e x ++ rules)
value_rules r a b t e x rules h f g = h ∙ (ap (λ (o : Option TypeFault). merged o b) f ∙ (ap (λ (o : Option TypeFault). merged (broken (object_rules t e x)) o) g ∙ sym (both_rules t e x rules)))
