-- Judgements of which one is as good as the other.
use Rattle.std.proofs.Common.{◌≡◌, ℕ, List, ◌∷◌, Option, Some, None, Bool, true, false, refl, sym, ap, ◌∙◌, subst}
use Rattle.std.specs.Prelude.{◌%◌, ◌^◌, ◌==◌, Ok, Err, if◌then◌else◌}
use Rattle.std.specs.Option.{option_map_or}
use Rattle.c_types.specs.declared.fault.TypeFault.{TypeFault}
use Rattle.c_types.specs.Types as type
use Rattle.c_types.specs.Types.{CType, is_arithmetic}
use Rattle.c_types.specs.Constants.{Value}
use Rattle.c_types.specs.Refusals.{Judged, Rule, after, both, broken, keeping}
use Rattle.c_types.specs.Operands.{Operand, Zero, Other, operand, is_place, is_designator, is_zero}
use Rattle.c_types.specs.Expressions.{literal}
use Rattle.c_fewer_types.specs.AsGood.{IsAsGood, JudgedAsGood}

pub moved : (r q q' : Judged Operand) → q ≡ q' → JudgedAsGood r q' → JudgedAsGood r q
moved r q q' e h = subst (λ z. JudgedAsGood r z) (sym e) h

pub refused_good : (r : Judged Operand) (e : TypeFault) → JudgedAsGood (Err e) r
refused_good r e x k = absurd (cc k)

pub ok_good : (a b : Operand) → IsAsGood a b → JudgedAsGood (Ok a) (Ok b)
ok_good a b g x e = let same : a ≡ x = cc e in (b, refl, subst (λ z. IsAsGood z b) same g)

-- what is no literal is as good as itself
pub self_good : (a : Operand) → is_zero a.sort ≡ false → IsAsGood a a
self_good a e = record { ty = refl; place = refl; designator = refl; zero = λ k. k; number = λ k. absurd (cc (sym e ∙ k)) }

-- a tree of one part, and one that is made of what the part becomes
pub with_one : (r q : Judged Operand) (f : Operand → Judged Operand) (whole : Judged Operand) → JudgedAsGood r q
    → ((a b : Operand) → r ≡ Ok a → q ≡ Ok b → IsAsGood a b → JudgedAsGood (f a) whole) → JudgedAsGood (after r f) whole
with_one (Ok a) q f whole h k x e = let l = h a refl in k a l.0 refl l.1 l.2 x e
with_one (Err d) q f whole h k x e = absurd (cc e)

pub with_two : (r q u v : Judged Operand) (f : Operand → Operand → Judged Operand) (whole : Judged Operand) → JudgedAsGood r q → JudgedAsGood u v
    → ((a b c d : Operand) → r ≡ Ok a → u ≡ Ok c → q ≡ Ok b → v ≡ Ok d → IsAsGood a b → IsAsGood c d → JudgedAsGood (f a c) whole) → JudgedAsGood (both r u f) whole
with_two (Ok a) q (Ok c) v f whole h k m x e = let l = h a refl in let n = k c refl in m a l.0 c n.0 refl refl l.1 n.1 l.2 n.2 x e
with_two (Ok a) q (Err d) v f whole h k m x e = absurd (cc e)
with_two (Err d) q (Ok c) v f whole h k m x e = absurd (cc e)
with_two (Err d) q (Err c) v f whole h k m x e = absurd (cc e)

-- what keeps its rules is what it is said to be
pub keeping_is : {A : Type 0} (rules : List Rule) (a x : A) → keeping rules a ≡ Ok x → (broken rules ≡ None) × (a ≡ x)
keeping_is {A} rules a x e = go (broken rules) refl e
  where
    go : (o : Option TypeFault) → broken rules ≡ o → option_map_or (λ e. Err e) o (Ok a) ≡ Ok x → (broken rules ≡ None) × (a ≡ x)
    go None k l = let same : a ≡ x = cc l in (k, same)
    go (Some d) k l = absurd (cc l)

pub first_kept : (b : Bool) (f : TypeFault) (rules : List Rule) → broken ((b, f) ∷ rules) ≡ None → (b ≡ true) × (broken rules ≡ None)
first_kept true f rules e = (refl, e)
first_kept false f rules e = absurd (cc e)

-- an expression of a type, which is neither a place nor a literal
pub record IsOf (r : Judged Operand) (t : CType) : Type 0 where
  pub what : Operand
  pub is : r ≡ Ok what
  pub ty : t ≡ what.ty
  pub sort : what.sort ≡ Other

-- it is as good as what has that type and isn't one either
pub typed_good : (r q : Judged Operand) → ((z : Operand) → r ≡ Ok z → (z.sort ≡ Other) × IsOf q z.ty) → JudgedAsGood r q
typed_good r q f z e =
    let l = f z e in
    let w = l.1 in (
      w.what,
      w.is,
      record {
        ty = w.ty;
        place = ap is_place l.0 ∙ sym (ap is_place w.sort);
        designator = ap is_designator l.0 ∙ sym (ap is_designator w.sort);
        zero = λ k. absurd (cc (sym (ap is_zero l.0) ∙ k));
        number = λ k. absurd (cc (sym (ap is_zero w.sort) ∙ k));
      },
    )

-- the number that stands for a `sizeof`
pub number_good : (z : Operand) (n : ℕ) (unsigned : Bool) → z.ty ≡ type.Unsigned → z.sort ≡ Other → unsigned ≡ true → IsAsGood z (literal 0 n unsigned)
number_good z n true t s e = go (n == 0)
  where
    go : (b : Bool) → IsAsGood z (operand 0 type.Unsigned (if b then Zero else Other) (Value (n % 2 ^ 24)))
    go true = record { ty = t; place = ap is_place s; designator = ap is_designator s; zero = λ k. refl; number = λ k. refl }
    go false = record { ty = t; place = ap is_place s; designator = ap is_designator s; zero = λ k. absurd (cc (sym (ap is_zero s) ∙ k)); number = λ k. absurd (cc k) }
number_good z n false t s e = absurd (cc e)
