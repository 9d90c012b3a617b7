-- Each module is valid or refused.
use Rattle.std.proofs.Common.{◌≡◌, ◌≢◌, ◌⊎◌, ⊎_elim, ℕ, zero, suc, ◌+◌, ◌<◌, Bool, true, false, List, [], ◌∷◌, ◌++◌, length, Option, Some, None, refl, sym, ap, subst, inl, inr, arith}
use Rattle.std.specs.Prelude.{◌||◌, slice_get, nat_eq, is_some}
use Rattle.std.proofs.lemmas.Bool.{cases_eq}
use Rattle.wasm_bin.specs.declared.module.Body.{Body}
use Rattle.wasm_bin.specs.declared.module.FuncType.{FuncType}
use Rattle.wasm_bin.specs.declared.module.Instr.{Instr}
use Rattle.wasm_bin.specs.declared.module.Instr.TheVariants as instr
use Rattle.wasm_bin.specs.declared.module.Module.{Module}
use Rattle.wasm_valid.specs.declared.fault.ValidFault.{ValidFault}
use Rattle.wasm_valid.specs.declared.fault.ValidFault.TheVariants.{Invalid, Memory}
use Rattle.wasm_valid.specs.Context.{Context, context_of}
use Rattle.wasm_valid.specs.Checking.{accepts}
use Rattle.wasm_valid.specs.Nesting.{spelled}
use Rattle.wasm_valid.specs.Typing.{IsTypedExpression}
use Rattle.wasm_valid.specs.Rules.{FollowsRules, IsTypedAt, IsTypedAs, IsTypedBody, IsValid, IsRefused, own_type, have_few_results, have_types, is_memory, are_there, is_start}
use Rattle.wasm_valid.proofs.Deciding.{accepted_typed, typed_accepted}
use Rattle.wasm_valid.proofs.NameLemmas.{apart_or_not}

is_true : (b : Bool) → (b ≡ true) ⊎ ((b ≡ true) → ⊥)
is_true true = inl refl
is_true false = inr (λ e. cc)

both : {A B : Type 0} → A ⊎ (A → ⊥) → B ⊎ (B → ⊥) → (A × B) ⊎ ((A × B) → ⊥)
both (inl a) (inl b) = inl (a, b)
both (inl a) (inr never) = inr (λ h. never h.1)
both (inr never) b = inr (λ h. never h.0)

-- ---- code

is_end : Instr → Bool
is_end instr.End = true
is_end _ = false

end_is : (i : Instr) → is_end i ≡ true → i ≡ instr.End
unfolding is_end
end_is instr.End e = refl
end_is _ e = absurd cc

end_not : (i : Instr) → is_end i ≡ false → i ≡ instr.End → ⊥
unfolding is_end
end_not i e f = let g : is_end instr.End ≡ false = subst (λ (x : Instr). is_end x ≡ false) f e in cc

one_more : (i : Instr) (front : List Instr) → i ∷ [] ≡ front ++ instr.End ∷ [] → i ≡ instr.End
one_more i [] e = cc
one_more i (x ∷ []) e = absurd cc
one_more i (x ∷ y ∷ front) e = absurd cc

none_ends : (front : List Instr) → [] ≡ front ++ instr.End ∷ [] → ⊥
none_ends [] e = cc
none_ends (x ∷ front) e = cc

later_ends : (i j : Instr) (rest front : List Instr) → ((front : List Instr) → j ∷ rest ≡ front ++ instr.End ∷ [] → ⊥) → i ∷ j ∷ rest ≡ front ++ instr.End ∷ [] → ⊥
later_ends i j rest [] never e = cc
later_ends i j rest (x ∷ front) never e = let h : j ∷ rest ≡ front ++ instr.End ∷ [] = cc in never front h

-- the last instruction is an `end` or not
ends : (code : List Instr) → ((front : List Instr) × (code ≡ front ++ instr.End ∷ [])) ⊎ ((front : List Instr) → code ≡ front ++ instr.End ∷ [] → ⊥)
ends [] = inr none_ends
ends (i ∷ []) = elim (is_end i) as (λ b. is_end i ≡ b → ((front : List Instr) × (i ∷ [] ≡ front ++ instr.End ∷ [])) ⊎ ((front : List Instr) → i ∷ [] ≡ front ++ instr.End ∷ [] → ⊥)) [
  | true ↦ λ e. inl ([], ap (λ (x : Instr). x ∷ []) (end_is i e))
  | false ↦ λ e. inr (λ front h. end_not i e (one_more i front h))
] refl
ends (i ∷ j ∷ rest) = ⊎_elim (λ h. inl (i ∷ h.0, ap (λ (l : List Instr). i ∷ l) h.1)) (λ never. inr (λ front e. later_ends i j rest front never e)) (ends (j ∷ rest))

front_typed : (c : Context) (front : List Instr) → IsTypedExpression c (front ++ instr.End ∷ []) ⊎ (IsTypedExpression c (front ++ instr.End ∷ []) → ⊥)
front_typed c front = ⊎_elim (λ e. inl (accepted_typed c front e)) (λ never. inr (λ typed. never (typed_accepted c front typed))) (is_true (accepts c front))

typed_or_not : (c : Context) (code : List Instr) → IsTypedExpression c code ⊎ (IsTypedExpression c code → ⊥)
typed_or_not c code = ⊎_elim
    (λ h. subst (λ (l : List Instr). IsTypedExpression c l ⊎ (IsTypedExpression c l → ⊥)) (sym h.1) (front_typed c h.0))
    (λ never. inr (λ typed. never (spelled typed.0) typed.1))
    (ends code)

-- ---- bodies

by_kind : (m : Module) (o : Option FuncType) (body : Body) → IsTypedBody m o body ⊎ (IsTypedBody m o body → ⊥)
by_kind m None body = inr (λ h. h)
by_kind m (Some t) body = typed_or_not (context_of m (t.params + body.locals) t.results) body.code

by_body : (m : Module) (k : ℕ) (o : Option Body) → IsTypedAs m k o ⊎ (IsTypedAs m k o → ⊥)
by_body m k None = inr (λ h. h)
by_body m k (Some body) = by_kind m (own_type m k) body

before_or_last : (k n : ℕ) → k < suc n → (k < n) ⊎ (k ≡ n)
before_or_last k n lt = grind arith

-- the first of so many bodies that is not typed, if there is one
first_or_all : (m : Module) (n : ℕ) → ((k : ℕ) → k < n → IsTypedAt m k) ⊎ ((k : ℕ) × (k < n) × ((j : ℕ) → j < k → IsTypedAt m j) × (IsTypedAt m k → ⊥))
first_or_all m zero = inl (λ k lt. absurd (omega arith))
first_or_all m (suc n) = ⊎_elim
    (λ all. ⊎_elim
    (λ typed. inl (λ k lt. ⊎_elim (λ before. all k before) (λ e. subst (IsTypedAt m) (sym e) typed) (before_or_last k n lt)))
    (λ never. inr (n, omega arith, all, never))
    (by_body m n (slice_get m.bodies n)))
    (λ h. let lt : h.0 < n = h.1 in inr (h.0, omega arith, h.2, h.3))
    (first_or_all m n)

-- ---- the rules

follows_or_not : (m : Module) → FollowsRules m ⊎ (FollowsRules m → ⊥)
follows_or_not m = ⊎_elim
    (λ h. inl (record { results = h.0; types = h.1.0; bodies = h.1.1.0; memory = h.1.1.1.0; exports = h.1.1.1.1.0; names = h.1.1.1.1.1.0; start = h.1.1.1.1.1.1.0; segments = h.1.1.1.1.1.1.1 }))
    (λ never. inr (λ r. never (r.results, (r.types, (r.bodies, (r.memory, (r.exports, (r.names, (r.start, r.segments)))))))))
    (both (is_true (have_few_results m)) (both (is_true (have_types m)) (both (cases_eq (length m.bodies) (length m.funcs)) (both (is_true (is_memory m.memory)) (both (is_true (are_there m))
    (both (apart_or_not m.exports) (both (is_true (is_start m m.start)) (is_true (nat_eq (length m.segments) 0 || is_some m.memory)))))))))

pub valid_or_refused : (m : Module) → IsValid m ⊎ ((fault : ValidFault) × (fault ≢ Memory) × IsRefused m fault)
valid_or_refused m = ⊎_elim
    (λ rules. ⊎_elim
    (λ all. inl (record { rules = rules; typed = all }))
    (λ h. inr (Invalid h.0, (λ x. cc), inr (rules, record { there = h.1; typed = h.2; untyped = h.3 })))
    (first_or_all m (length m.bodies)))
    (λ broken. inr (Invalid (length m.bodies), (λ x. cc), inl (broken, refl)))
    (follows_or_not m)
