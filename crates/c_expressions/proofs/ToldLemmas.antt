-- Arguments that are judged one after the other.
use Rattle.std.proofs.Common.{◌≡◌, List, [], ◌∷◌, ◌++◌, Option, Some, None, refl, sym, ap, subst, append_assoc, append-nil}
use Rattle.std.specs.Prelude.{Ok, Err, Vec}
use Rattle.std.specs.declared.alloc.Global.{Global}
use Rattle.c_types.specs.declared.fault.TypeFault.{TypeFault}
use Rattle.c_types.specs.Refusals.{Judged, both, least, least_of}
use Rattle.c_types.specs.Operands as plain
use Rattle.c_types.specs.Known.{Grows}
use Rattle.c_types.specs.Table.{Table, known}
use Rattle.c_operands.specs.declared.arguments.Argument.{Argument}
use Rattle.c_operands.specs.Arguments.{IsArgument, AreArguments, merged}
use Rattle.c_operands.proofs.ArgumentLemmas.{arguments_kept}
use Rattle.c_operands.proofs.LeastLemmas.{merged_together}
use Rattle.c_operands.specs.Seen.{IsJudged}
use Rattle.c_expressions.specs.Told.{behind, AreSoFar, AreGiven}

abbrev pub Others : Type 0
Others = Judged (List plain.Operand)

abbrev pub joined : Judged plain.Operand → Others → Others
joined p others = both p others (λ x rest. Ok (x ∷ rest))

some_fault : (d e : TypeFault) → Some d ≡ Some e → d ≡ e
some_fault d e h = cc

least_behind : (d e : TypeFault) (o : Option TypeFault) → least_of d (Some (least_of e o)) ≡ least_of (least d e) o
least_behind d e None = refl
least_behind d e (Some f) = some_fault _ _ (merged_together (Some d) (Some e) (Some f))

-- one more argument that is no refusal
pub with_argument : (told : Option TypeFault) (xs : List plain.Operand) (x : plain.Operand) (others : Others) → behind told xs (joined (Ok x) others) ≡ behind told (xs ++ x ∷ []) others
with_argument None xs x (Ok ys) = ap Ok (sym (append_assoc xs (x ∷ []) ys))
with_argument None xs x (Err e) = refl
with_argument (Some d) xs x (Ok ys) = refl
with_argument (Some d) xs x (Err e) = refl

-- one more that is
pub with_refusal : (told : Option TypeFault) (xs : List plain.Operand) (e : TypeFault) (others : Others) → behind told xs (joined (Err e) others) ≡ behind (merged told (Some e)) xs others
with_refusal None xs e (Ok ys) = refl
with_refusal None xs e (Err f) = refl
with_refusal (Some d) xs e (Ok ys) = refl
with_refusal (Some d) xs e (Err f) = ap Err (least_behind d e (Some f))

pub arguments_more : (table : Table) (arguments : List Argument) (xs : List plain.Operand) (a : Argument) (x : plain.Operand) → AreArguments table arguments xs → IsArgument table a x → AreArguments table (arguments ++ a ∷ []) (xs ++ x ∷ [])
arguments_more table [] [] a x h k = (k, tt)
arguments_more table (b ∷ arguments) (y ∷ xs) a x h k = (h.0, arguments_more table arguments xs a x h.1 k)
arguments_more table [] (y ∷ xs) a x h k = absurd h
arguments_more table (b ∷ arguments) [] a x h k = absurd h

pub so_far_more : (old new : Table) (told : Option TypeFault) (arguments : List Argument) (xs : List plain.Operand) (a : Argument) (x : plain.Operand) → Grows (known old) (known new) → AreSoFar old told arguments xs → IsArgument new a x → AreSoFar new told (arguments ++ a ∷ []) (xs ++ x ∷ [])
so_far_more old new None arguments xs a x grows h k = arguments_more new arguments xs a x (arguments_kept old new arguments xs grows h) k
so_far_more old new (Some e) arguments xs a x grows h k = tt

pub so_far_refused : (table : Table) (told : Option TypeFault) (e : TypeFault) (arguments : List Argument) (xs : List plain.Operand) → AreSoFar table (merged told (Some e)) arguments xs
so_far_refused table None e arguments xs = tt
so_far_refused table (Some d) e arguments xs = tt

pub so_far_kept : (old new : Table) (told : Option TypeFault) (arguments : List Argument) (xs : List plain.Operand) → Grows (known old) (known new) → AreSoFar old told arguments xs → AreSoFar new told arguments xs
so_far_kept old new None arguments xs grows h = arguments_kept old new arguments xs grows h
so_far_kept old new (Some e) arguments xs grows h = tt

pub nothing_refused : (table : Table) (told : Option TypeFault) (given : Vec Argument Global) (xs : List plain.Operand) → told ≡ None → AreSoFar table told given.items xs → IsJudged (AreGiven table) (Ok given) (behind told xs (Ok []))
nothing_refused table told given xs e h =
    let are : AreSoFar table None given.items xs = subst (λ (o : Option TypeFault). AreSoFar table o given.items xs) e h in
    subst (λ (o : Option TypeFault). IsJudged (AreGiven table) (Ok given) (behind o xs (Ok []))) (sym e)
    (subst (λ (ys : List plain.Operand). AreGiven table given ys) (sym (append-nil xs)) are)

pub something_refused : (table : Table) (told : Option TypeFault) (d : TypeFault) (xs : List plain.Operand) → told ≡ Some d → IsJudged (AreGiven table) (Err d) (behind told xs (Ok []))
something_refused table told d xs e = subst (λ (o : Option TypeFault). IsJudged (AreGiven table) (Err d) (behind o xs (Ok []))) (sym e) refl
