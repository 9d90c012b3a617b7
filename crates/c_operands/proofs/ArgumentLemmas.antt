-- Arguments one by one.
use Rattle.std.proofs.Common.{◌≡◌, ℕ, zero, suc, ◌+◌, ◌≤◌, Bool, List, [], ◌∷◌, length, drop, Option, Some, None, refl, sym, ap, subst, ◌∙◌, arith, add-one}
use Rattle.std.specs.Prelude.{slice_get, if◌then◌else◌}
use Rattle.c_types.specs.declared.fault.TypeFault.{TypeFault}
use Rattle.c_types.specs.declared.fault.TypeFault.TheVariants as fault
use Rattle.c_types.specs.Types as types
use Rattle.c_types.specs.Types.{CType, CTypes}
use Rattle.c_types.specs.Refusals.{broken}
use Rattle.c_types.specs.Operands as plain
use Rattle.c_types.specs.Operands.{argument_rules}
use Rattle.c_types.specs.Known.{OneType, Grows}
use Rattle.c_types.specs.Table.{Table, known, HasType}
use Rattle.c_operands.specs.declared.operand.Value.{Value}
use Rattle.c_operands.specs.Seen.{IsValue}
use Rattle.c_operands.specs.declared.arguments.Argument.{Argument}
use Rattle.c_operands.specs.Arguments.{HasList, IsArgument, AreArguments, merged}
use Rattle.c_operands.proofs.LeastLemmas.{merged_together, merged_none, broken_first}

some_argument : (a b : Argument) → Some a ≡ Some b → a ≡ b
some_argument a b e = cc

-- an argument, and what it is in the definitions, before the others
pub record IsNext (table : Table) (a : Argument) (xs : List plain.Operand) (i : ℕ) : Type 0 where
  pub x : plain.Operand
  pub is : IsArgument table a x
  pub rest : drop i xs ≡ x ∷ drop (suc i) xs

pub next_at : (table : Table) (arguments : List Argument) (xs : List plain.Operand) (i : ℕ) (a : Argument) → AreArguments table arguments xs → slice_get arguments i ≡ Some a → IsNext table a xs i
next_at table [] xs i a h e = absurd cc
next_at table (b ∷ arguments) [] i a h e = absurd h
next_at table (b ∷ arguments) (x ∷ xs) zero a h e = record { x = x; is = subst (λ (c : Argument). IsArgument table c x) (some_argument b a e) h.0; rest = refl }
next_at table (b ∷ arguments) (x ∷ xs) (suc i) a h e = let p = next_at table arguments xs i a h.1 e in record { x = p.x; is = p.is; rest = p.rest }

pub as_many : (table : Table) (arguments : List Argument) (xs : List plain.Operand) → AreArguments table arguments xs → length arguments ≡ length xs
as_many table [] [] h = refl
as_many table [] (x ∷ xs) h = absurd h
as_many table (a ∷ arguments) [] h = absurd h
as_many table (a ∷ arguments) (x ∷ xs) h = ap suc (as_many table arguments xs h.1)

-- so many arguments are passed with the types of a list, and what they are refused for is told
pub record SoFar (table : Table) (n : ℕ) (arguments : List Argument) (i : ℕ) (ts : CTypes) (told : Option TypeFault) : Type 0 where
  pub rest : CTypes
  pub list : HasList table n rest
  pub is : (xs : List plain.Operand) → AreArguments table arguments xs → broken (argument_rules ts xs) ≡ merged told (broken (argument_rules rest (drop i xs)))

pub next_rule : (told found : Option TypeFault) (t : CType) (us rest : CTypes) (x : plain.Operand) (xs : List plain.Operand) (i : ℕ)
    → found ≡ broken ((plain.converts x t, fault.Mismatch x.pos) ∷ []) → rest ≡ types.MoreType t us → drop i xs ≡ x ∷ drop (suc i) xs
    → merged told (broken (argument_rules rest (drop i xs))) ≡ merged (merged told found) (broken (argument_rules us (drop (i + 1) xs)))
next_rule told found t us rest x xs i f e d =
    ap (λ (r : CTypes). merged told (broken (argument_rules r (drop i xs)))) e
    ∙ (ap (λ (ys : List plain.Operand). merged told (broken (argument_rules (types.MoreType t us) ys))) d
    ∙ (ap (merged told) (broken_first (plain.converts x t) (fault.Mismatch x.pos) (argument_rules us (drop (suc i) xs)))
    ∙ (merged_together told (broken ((plain.converts x t, fault.Mismatch x.pos) ∷ [])) (broken (argument_rules us (drop (suc i) xs)))
    ∙ (ap (λ (o : Option TypeFault). merged (merged told o) (broken (argument_rules us (drop (suc i) xs)))) (sym f)
    ∙ ap (λ (k : ℕ). merged (merged told found) (broken (argument_rules us (drop k xs)))) (sym (add-one i))))))

-- an argument more is judged
pub one_more : {a : Argument} (table : Table) (arguments : List Argument) (xs : List plain.Operand) (i ty : ℕ) (t : CType) (us rest ts : CTypes) (told found next : Option TypeFault)
    → ((x : plain.Operand) (u : CType) → IsArgument table a x → HasType table ty u → found ≡ broken ((plain.converts x u, fault.Mismatch x.pos) ∷ []))
    → slice_get arguments i ≡ Some a → HasType table ty t → rest ≡ types.MoreType t us → next ≡ merged told found → AreArguments table arguments xs
    → broken (argument_rules ts xs) ≡ merged told (broken (argument_rules rest (drop i xs)))
    → broken (argument_rules ts xs) ≡ merged next (broken (argument_rules us (drop (i + 1) xs)))
one_more {a} table arguments xs i ty t us rest ts told found next judged there h e f are so_far =
    let n = next_at table arguments xs i a are there in
    so_far
    ∙ (next_rule told found t us rest n.x xs i (judged n.x t n.is h) e n.rest
    ∙ ap (λ (o : Option TypeFault). merged o (broken (argument_rules us (drop (i + 1) xs)))) (sym f))

no_rules : (ts : CTypes) → argument_rules ts [] ≡ []
no_rules types.NoType = refl
no_rules (types.MoreType t ts) = refl

pub none_left : (xs : List plain.Operand) (i : ℕ) → length xs ≤ i → drop i xs ≡ []
none_left [] zero h = refl
none_left [] (suc i) h = refl
none_left (x ∷ xs) zero h = absurd (omega arith)
none_left (x ∷ xs) (suc i) h = none_left xs i (omega arith)

pub all_passed : (told : Option TypeFault) (rest : CTypes) (xs : List plain.Operand) (i : ℕ) → length xs ≤ i → merged told (broken (argument_rules rest (drop i xs))) ≡ told
all_passed told rest xs i h =
    ap (λ (ys : List plain.Operand). merged told (broken (argument_rules rest ys))) (none_left xs i h)
    ∙ (ap (λ r. merged told (broken r)) (no_rules rest) ∙ merged_none told)

pub no_types_left : (told : Option TypeFault) (rest : CTypes) (xs : List plain.Operand) → rest ≡ types.NoType → merged told (broken (argument_rules rest xs)) ≡ told
no_types_left told rest xs e = ap (λ (r : CTypes). merged told (broken (argument_rules r xs))) e ∙ merged_none told

pub fault_as : (told : Option TypeFault) (a : ℕ) (kept : Bool) (x : plain.Operand) (t : CType) → told ≡ (if kept then None else Some (fault.Mismatch a)) → a ≡ x.pos → kept ≡ plain.converts x t → told ≡ broken ((plain.converts x t, fault.Mismatch x.pos) ∷ [])
fault_as told a kept x t h e f =
    h ∙ (ap (λ (n : ℕ). if kept then None else Some (fault.Mismatch n)) e ∙ ap (λ (k : Bool). if k then None else Some (fault.Mismatch x.pos)) f)

-- ---- arguments while the table grows

value_kept : (old new : Table) (v : Value) (x : plain.Operand) → Grows (known old) (known new) → IsValue old v x → IsValue new v x
value_kept old new v x grows o = record { ty = grows v.ty (OneType (plain.value_type x)) o.ty; class = o.class; null = o.null }

pub arguments_kept : (old new : Table) (arguments : List Argument) (xs : List plain.Operand) → Grows (known old) (known new) → AreArguments old arguments xs → AreArguments new arguments xs
arguments_kept old new [] [] grows h = h
arguments_kept old new (a ∷ arguments) (x ∷ xs) grows h = (record { at = h.0.at; value = value_kept old new a.value x grows h.0.value }, arguments_kept old new arguments xs grows h.1)
arguments_kept old new [] (x ∷ xs) grows h = absurd h
arguments_kept old new (a ∷ arguments) [] grows h = absurd h
