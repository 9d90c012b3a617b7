-- Where the code of a function begins.
use Rattle.std.proofs.Common.{◌≡◌, ℕ, suc, ◌+◌, List, [], ◌∷◌, ◌++◌, length, refl, sym, ap, subst, ◌∙◌, arith}
use Rattle.std.specs.Prelude.{Some, slice_get}
use Rattle.std.proofs.lemmas.List.{append-nil}
use Rattle.c_resolved.specs.Same.{IsOwner, in_function}
use Rattle.c_plain.specs.declared.instruction.Instruction.{Instruction}
use Rattle.c_emitted.specs.declared.emitter.Emitter.{Emitter}
use Rattle.c_emitted.specs.Emits.{tables_of, Emits}
use Rattle.c_linked.specs.Begun.{BeginsFunction}

empty_list : (ys : List Instruction) → length ys ≡ 0 → ys ≡ []
empty_list [] e = refl
empty_list (y ∷ ys) e = absurd (omega (arith, e))

-- the emitter behind a name's number, in that function and before its first literal
pub begins : (a b : Emitter) (name : List ℕ) (f owner : ℕ) → Emits a b [] [] → slice_get (tables_of b).names f ≡ Some name → owner ≡ f + 1 → BeginsFunction a (record b { owner = owner; before = 0 }) name f
begins a b name f owner e named is =
    let own : owner ≡ suc f = omega (arith, is) in
    record {
      code = e.behind ∙ (ap (λ l. a.code ++ l) (empty_list e.code e.count) ∙ append-nil a.code);
      tables = e.tables;
      number = named;
      owner = subst (λ n. IsOwner (tables_of b).names (Some name) n) (sym own) (in_function f name named);
      before = refl;
      objects = e.stays.objects;
      files = e.stays.files;
    }
