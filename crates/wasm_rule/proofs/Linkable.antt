-- Each module has one answer.
use Rattle.std.proofs.Common.{◌≡◌, ◌≢◌, ◌⊎◌, Bool, true, false, Option, None, Some, refl, inl, inr, ℕ}
use Rattle.std.specs.Prelude.{IsSome}
use Rattle.wasm_bin.specs.declared.module.Module.{Module}
use Rattle.wasm_rule.specs.declared.fault.LinkFault.{LinkFault}
use Rattle.wasm_rule.specs.declared.fault.LinkFault.TheVariants.{WrongImport, NoMain, BadData, Memory}
use Rattle.wasm_rule.specs.Start.{are_known, main_of, are_placed, IsLinkable}
use Rattle.wasm_rule.specs.Refusals.{IsRefusedFor, HasOneAnswer}

both_ways : (b : Bool) → b ≡ true → b ≡ false → ⊥
both_ways true e f = cc
both_ways false e f = cc

some_and_none : {A : Type 0} (o : Option A) → IsSome o → o ≡ None → ⊥
some_and_none None h e = cc
some_and_none (Some x) h e = absurd cc

fault_or_not : (m : Module) → IsLinkable m ⊎ ((fault : LinkFault) × (fault ≢ Memory) × IsRefusedFor m fault)
fault_or_not m =
    elim (are_known m) as (λ b. are_known m ≡ b → IsLinkable m ⊎ ((fault : LinkFault) × (fault ≢ Memory) × IsRefusedFor m fault)) [
      | true ↦ λ known. entry known (main_of m) refl
      | false ↦ λ e. inr (WrongImport, (λ x. cc), e)
    ] refl
  where
    placed : are_known m ≡ true → IsSome (main_of m) → IsLinkable m ⊎ ((fault : LinkFault) × (fault ≢ Memory) × IsRefusedFor m fault)
    placed known main =
        elim (are_placed m) as (λ b. are_placed m ≡ b → IsLinkable m ⊎ ((fault : LinkFault) × (fault ≢ Memory) × IsRefusedFor m fault)) [
          | true ↦ λ e. inl (record { imports = known; entry = main; segments = e })
          | false ↦ λ e. inr (BadData, (λ x. cc), (known, main, e))
        ] refl

    entry : are_known m ≡ true → (o : Option ℕ) → main_of m ≡ o → IsLinkable m ⊎ ((fault : LinkFault) × (fault ≢ Memory) × IsRefusedFor m fault)
    entry known None e = inr (NoMain, (λ x. cc), (known, e))
    entry known (Some main) e = placed known (rw e refl)

never_both : (m : Module) (fault : LinkFault) → fault ≢ Memory → IsLinkable m → IsRefusedFor m fault → ⊥
never_both m WrongImport other l r = both_ways (are_known m) l.imports r
never_both m NoMain other l r = some_and_none (main_of m) l.entry r.1
never_both m BadData other l r = both_ways (are_placed m) l.segments r.2
never_both m Memory other l r = other refl

one_refusal : (m : Module) (a b : LinkFault) → a ≢ Memory → b ≢ Memory → IsRefusedFor m a → IsRefusedFor m b → a ≡ b
one_refusal m WrongImport WrongImport x y r s = refl
one_refusal m NoMain NoMain x y r s = refl
one_refusal m BadData BadData x y r s = refl
one_refusal m WrongImport NoMain x y r s = absurd (both_ways (are_known m) s.0 r)
one_refusal m WrongImport BadData x y r s = absurd (both_ways (are_known m) s.0 r)
one_refusal m NoMain WrongImport x y r s = absurd (both_ways (are_known m) r.0 s)
one_refusal m BadData WrongImport x y r s = absurd (both_ways (are_known m) r.0 s)
one_refusal m NoMain BadData x y r s = absurd (some_and_none (main_of m) s.1 r.1)
one_refusal m BadData NoMain x y r s = absurd (some_and_none (main_of m) r.1 s.1)
one_refusal m Memory b x y r s = absurd (x refl)
one_refusal m a Memory x y r s = absurd (y refl)

pub one_answer : (m : Module) → HasOneAnswer m
one_answer m = record { some = fault_or_not m; taken = never_both m; refused = one_refusal m }
