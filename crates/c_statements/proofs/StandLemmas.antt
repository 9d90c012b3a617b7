-- What stands around a statement, and what is declared, while the table of types grows.
use Rattle.std.proofs.Common.{◌≡◌, ℕ, Option, refl, subst}
use Rattle.std.specs.Prelude.{Result, Ok, Err, IfOk, OnOk}
use Rattle.c_types.specs.declared.fault.TypeFault.{TypeFault}
use Rattle.c_types.specs.Scope.{Scope}
use Rattle.c_types.specs.Statements as plain
use Rattle.c_types.specs.Known.{OneType, Grows}
use Rattle.c_types.specs.Table.{Table, known, IsType}
use Rattle.c_operands.specs.declared.declarations.Declarations.{Declarations}
use Rattle.c_declared.specs.Held.{Holds}
use Rattle.c_declared.proofs.HeldLemmas.{holds_kept}
use Rattle.c_conditions.specs.declared.around.Around.{Around}
use Rattle.c_conditions.specs.Standing.{StandsIn}

pub result_kept : (old new : Table) (n : ℕ) → Grows (known old) (known new) → IsType old n → IsType new n
result_kept old new n grows h = (h.0, grows n (OneType h.0) h.1)

-- around a statement there is what the code says
pub standing : (table : Table) (a : Around) → IsType table a.result → (w : plain.Around) × StandsIn table a w
standing table a h = (record { result = h.0; continues = a.continues; breaks = a.breaks }, record { result = h.1; continues = refl; breaks = refl })

-- in a loop or a switch there is a result too
pub result_within : (table : Table) (a b : Around) (f : plain.Around → plain.Around) → ((table : Table) (w : plain.Around) → StandsIn table a w → StandsIn table b (f w)) → IsType table a.result → IsType table b.result
result_within table a b f within h =
    let k = standing table a h in
    let inner = within table k.0 k.1 in
    ((f k.0).result, inner.result)

-- what is told, said in another way
pub told_as : {E : Type 0} (r : Result (Option TypeFault) E) (a b : Option TypeFault) → a ≡ b → IfOk r (λ o. o ≡ a) → IfOk r (λ o. o ≡ b)
told_as r a b e h = subst (λ (t : Option TypeFault). IfOk r (λ o. o ≡ t)) e h

-- what holds whatever is answered
pub on_any : {T E P : Type 0} (r : Result T E) → P → OnOk r P
on_any (Ok x) h = h
on_any (Err e) h = tt

pub held_on : {T E : Type 0} (r : Result T E) (old new : Table) (d : Declarations) (s : Scope) → OnOk r (Grows (known old) (known new)) → OnOk r (new.tags ≡ old.tags) → Holds old d s → OnOk r (Holds new d s)
held_on (Ok x) old new d s grows same h = holds_kept old new d s grows same h
held_on (Err e) old new d s grows same h = tt
