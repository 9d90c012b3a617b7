-- Calls whose code is typed over the values that they have.
use Rattle.std.proofs.Common.{◌≡◌, ◌⊎◌, ℕ, ◌+◌, ◌-◌, ◌≤◌, Bool, List, [], ◌∷◌, ◌++◌, length, map, refl, sym, subst, ◌∙◌, inl, inr, arith}
use Rattle.wasm_bin.specs.declared.module.Instr.{Instr}
use Rattle.wasm_bin.specs.declared.module.Instr.TheVariants as instr
use Rattle.wasm_bin.specs.declared.module.Module.{Module}
use Rattle.wasm_valid.specs.Context.{Context}
use Rattle.wasm_valid.specs.Effects.{effect_of, numeric_effect, MayApply}
use Rattle.wasm_valid.specs.Nesting.{Code, Nothing, Single, InBlock, InLoop, InIf, InIfElse, spelled}
use Rattle.wasm_valid.specs.Typing.{arity, HasType}
use Rattle.wasm_rule.specs.Config.{Label, Call, Config}
use Rattle.wasm_rule.specs.Ready.{beneath_of, above, label_arity, arities_of, context_in, IsReadyFor, IsReady}

-- how many values a branch to each of these labels takes, the innermost first, and then to the function
abbrev pub arities : List Label → ℕ → List ℕ
arities labels results = map label_arity labels ++ results ∷ []

-- code is some typed code and then a tail, over so many values
pub record Fit (c : Context) (labels : List ℕ) (beneath : ℕ) (Tail : List Instr → ℕ → Type 0) (code : List Instr) (n : ℕ) : Type 0 where
  pub typed_code : Code
  pub tail : List Instr
  pub more : ℕ
  pub given : ℕ
  pub is : code ≡ spelled typed_code ++ tail
  pub count : n ≡ beneath + more
  pub typed : HasType c labels typed_code more given
  pub follows : Tail tail given

-- the tail closes the block: by its `end`, or by an `else` from which the branch goes on at the same code
abbrev pub Closes : List Instr → List Instr → List Instr → Type 0
Closes tail rest next = (tail ≡ instr.End ∷ rest) ⊎ ((other : List Instr) × (tail ≡ instr.Else ∷ other) × (next ≡ rest))

-- what follows the typed code of a block, and where a branch to it leads
pub record Outside (l : Label) (beneath : ℕ) (Outer : List Instr → ℕ → Type 0) (tail : List Instr) (given : ℕ) : Type 0 where
  pub rest : List Instr
  pub lower : beneath ≤ l.beneath
  pub closes : Closes tail rest l.next
  pub behind : Outer rest (l.beneath + given)
  pub target : Outer l.next (l.beneath + label_arity l)

-- what follows the typed code under these labels
abbrev pub Follows : Context → List Label → List Instr → ℕ → Type 0
Follows c [] tail given = (tail ≡ instr.End ∷ []) × (given ≡ c.results)
Follows c (l ∷ labels) tail given =
    Outside l (beneath_of labels) (Fit c (arities labels c.results) (beneath_of labels) (λ t g. Follows c labels t g)) tail given

-- code under these labels is typed over so many values
abbrev pub Fits : Context → List Label → List Instr → ℕ → Type 0
Fits c labels code n = Fit c (arities labels c.results) (beneath_of labels) (Follows c labels) code n

-- the code of a call is typed over so many values
abbrev pub CallFits : Module → Call → ℕ → Type 0
CallFits m call n = Fits (context_in m call) call.labels call.code n

-- each of the calls that wait is typed over its values and the result of the one that it made
abbrev pub Wait : Module → Bool → List Call → Type 0
Wait m gives [] = Unit {0}
Wait m gives (call ∷ callers) = CallFits m call (length call.values + arity gives) × Wait m call.gives callers

-- so are the calls that are made later
abbrev pub AllFit : Module → List Call → Type 0
AllFit m [] = Unit {0}
AllFit m (call ∷ calls) = CallFits m call (length call.values) × AllFit m calls

-- all calls of a configuration are typed, and all globals are there
pub record IsSound (m : Module) (c : Config) : Type 0 where
  pub call : Call
  pub callers : List Call
  pub last : c.calls ≡ call ∷ callers
  pub fits : CallFits m call (length call.values)
  pub wait : Wait m call.gives callers
  pub later : AllFit m c.later
  pub globals : length c.globals ≡ length m.globals

-- ---- a sound configuration is ready

plain_ready : (m : Module) (call : Call) (i : Instr) (b : ℕ) → MayApply (effect_of (context_in m call) (arities_of call) i) (above call) b → IsReadyFor m call i
unfolding effect_of numeric_effect
plain_ready m call (instr.Block gives) b h = tt
plain_ready m call (instr.Loop gives) b h = tt
plain_ready m call (instr.If gives) b h = absurd h
plain_ready m call instr.Else b h = tt
plain_ready m call instr.End b h = absurd h
plain_ready m call i b h = (b, h)

-- some code has a first instruction with all that it needs
pub record Begins (m : Module) (call : Call) (code : List Instr) : Type 0 where
  pub instr : Instr
  pub others : List Instr
  pub is : code ≡ instr ∷ others
  pub needs : IsReadyFor m call instr

end_ready : (m : Module) (call : Call) (labels : List Label) (tail : List Instr) (given : ℕ) → call.labels ≡ labels → Follows (context_in m call) labels tail given → given ≤ above call → Begins m call tail
end_ready m call [] tail given e (ends, last) le = record { instr = instr.End; others = []; is = ends; needs = λ none. omega arith }
end_ready m call (l ∷ labels) tail given e h le = closing h.closes
  where
    closing : Closes tail h.rest l.next → Begins m call tail
    closing (inl ends) = record { instr = instr.End; others = h.rest; is = ends; needs = λ none. absurd (cc (sym e ∙ none)) }
    closing (inr (other, parts, same)) = record { instr = instr.Else; others = other; is = parts; needs = tt }

begins : (m : Module) (call : Call) (code : Code) (tail : List Instr) (more given : ℕ) → HasType (context_in m call) (arities_of call) code more given → more ≡ above call → Follows (context_in m call) call.labels tail given
    → Begins m call (spelled code ++ tail)
begins m call Nothing tail more given h le follows = end_ready m call call.labels tail given refl follows (omega arith)
begins m call (Single i others) tail more given h le follows = record { instr = i; others = spelled others ++ tail; is = refl; needs = plain_ready m call i h.0 (subst (λ n. MayApply (effect_of (context_in m call) (arities_of call) i) n h.0) le h.1) }
begins m call (InBlock result body others) tail more given h le follows = record { instr = instr.Block result; others = (spelled body ++ instr.End ∷ spelled others) ++ tail; is = refl; needs = tt }
begins m call (InLoop result body others) tail more given h le follows = record { instr = instr.Loop result; others = (spelled body ++ instr.End ∷ spelled others) ++ tail; is = refl; needs = tt }
begins m call (InIf result body others) tail more given h le follows =
    let one : more ≡ h.0 + 1 = h.1 in
    record { instr = instr.If result; others = (spelled body ++ instr.End ∷ spelled others) ++ tail; is = refl; needs = omega arith }
begins m call (InIfElse result body other others) tail more given h le follows =
    let one : more ≡ h.0 + 1 = h.1 in
    record { instr = instr.If result; others = (spelled body ++ instr.Else ∷ (spelled other ++ instr.End ∷ spelled others)) ++ tail; is = refl; needs = omega arith }

pub ready : (m : Module) (c : Config) → IsSound m c → IsReady m c
ready m c s =
    let f = s.fits in
    let le : f.more ≡ above s.call = enough (length s.call.values) (beneath_of s.call.labels) f.more f.count in
    let b = begins m s.call f.typed_code f.tail f.more f.given f.typed le f.follows in
    record { call = s.call; callers = s.callers; instr = b.instr; code = b.others; last = s.last; first = f.is ∙ b.is; needs = b.needs; globals = s.globals }
  where
    enough : (n beneath more : ℕ) → n ≡ beneath + more → more ≡ n - beneath
    enough n beneath more e = omega arith
