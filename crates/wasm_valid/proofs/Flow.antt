-- What nested code leaves on the stack, and its types.
use Rattle.std.proofs.Common.{◌≡◌, ℕ, ◌+◌, Bool, true, false, cond, not, ◌&&◌, List, ◌∷◌, Option, Some, None, refl, sym, subst, arith}
use Rattle.std.specs.Option.{option_and_then}
use Rattle.wasm_valid.specs.Context.{Context}
use Rattle.wasm_valid.specs.Effects.{effect_of}
use Rattle.wasm_valid.specs.Nesting.{Code, Nothing, Single, InBlock, InLoop, InIf, InIfElse}
use Rattle.wasm_valid.specs.Typing.{arity, HasType}
use Rattle.wasm_valid.specs.Levels.{Level, at_start, Allows, is_allowed, without, with_more, level_after}
use Rattle.wasm_valid.specs.Checking.{Kind, is_if}
use Rattle.wasm_valid.specs.declared.frames.Kind.TheVariants as kind
use Rattle.wasm_valid.proofs.Levels.{MayAllow, and_both, by_test, is_allowed-true, Allows-is_allowed, without-allows, allows-without, more-allows, allows-more, may_effect-allows, allows-may_effect}

-- a level that may be missing allows so many values
abbrev pub is_left : Option Level → ℕ → Bool
is_left None n = false
is_left (Some l) n = is_allowed l n

-- what a part of a block leaves is right
abbrev pub is_right : Kind → Bool → Option Level → Bool
is_right kind result inner = is_left inner (arity result) && not (is_if kind && result)

-- what is left behind a block
abbrev pub past : Kind → Bool → Option Level → (Level → Option Level) → Level → Option Level
past kind result inner after outer = cond (is_right kind result inner) (after (with_more (arity result) outer)) None

-- what is left behind both parts of an `if`
abbrev pub past_both : Bool → Option Level → Option Level → (Level → Option Level) → Level → Option Level
past_both result inner other after outer = cond (is_left inner (arity result) && true) (past kind.Else result other after outer) None

-- what the code leaves
abbrev pub flow : Context → List ℕ → Code → Level → Option Level
flow c labels Nothing l = Some l
flow c labels (Single i others) l = option_and_then (flow c labels others) (option_and_then (level_after l) (effect_of c labels i))
flow c labels (InBlock result body others) l = past kind.Block result (flow c (arity result ∷ labels) body at_start) (flow c labels others) l
flow c labels (InLoop result body others) l = past kind.Loop result (flow c (0 ∷ labels) body at_start) (flow c labels others) l
flow c labels (InIf result body others) l = option_and_then (past kind.If result (flow c (arity result ∷ labels) body at_start) (flow c labels others)) (without l 1)
flow c labels (InIfElse result body other others) l = option_and_then (past_both result (flow c (arity result ∷ labels) body at_start) (flow c (arity result ∷ labels) other at_start) (flow c labels others)) (without l 1)

pub is_left-true : (o : Option Level) (n : ℕ) → MayAllow o n → is_left o n ≡ true
is_left-true None n e = absurd e
is_left-true (Some l) n e = is_allowed-true l n e

pub MayAllow-is_left : (o : Option Level) (n : ℕ) → is_left o n ≡ true → MayAllow o n
MayAllow-is_left None n e = cc
MayAllow-is_left (Some l) n e = Allows-is_allowed l n e

-- if the flow leaves what the types say and no more
abbrev Sound : (Level → Option Level) → (ℕ → ℕ → Type 0) → Type 0
Sound after P = (l : Level) (a b : ℕ) → Allows l a → P a b → MayAllow (after l) b

abbrev Complete : (Level → Option Level) → (ℕ → ℕ → Type 0) → Type 0
Complete after P = (l : Level) (b : ℕ) → MayAllow (after l) b → (a : ℕ) × Allows l a × P a b

both_and : (a b : Bool) → a ≡ true → b ≡ true → (a && b) ≡ true
both_and a b e f = rw (e, f) refl

no_result : (result : Bool) → not result ≡ true → arity result ≡ 0
no_result true e = cc
no_result false e = refl

result_no : (result : Bool) → arity result ≡ 0 → not result ≡ true
result_no true e = absurd (omega arith)
result_no false e = refl

past-allows : (k : Kind) (result : Bool) (inner : Option Level) (after : Level → Option Level) (P : ℕ → ℕ → Type 0) (outer : Level) (m b : ℕ) → Sound after P → MayAllow inner (arity result) → not (is_if k && result) ≡ true → Allows outer m → P (m + arity result) b → MayAllow (past k result inner after outer) b
past-allows k result inner after P outer m b sound left q h p =
    let right : is_right k result inner ≡ true = both_and (is_left inner (arity result)) (not (is_if k && result)) (is_left-true inner (arity result) left) q in
    rw right (sound (with_more (arity result) outer) (m + arity result) b (more-allows outer (arity result) m h) p)

-- what stands behind a block that leaves so many values
record Past (k : Kind) (result : Bool) (inner : Option Level) (P : ℕ → ℕ → Type 0) (outer : Level) (b : ℕ) : Type 0 where
  pub before : ℕ
  pub allowed : Allows outer before
  pub inside : MayAllow inner (arity result)
  pub whole : not (is_if k && result) ≡ true
  pub behind : P (before + arity result) b

allows-past : (k : Kind) (result : Bool) (inner : Option Level) (after : Level → Option Level) (P : ℕ → ℕ → Type 0) (outer : Level) (b : ℕ) → Complete after P → MayAllow (past k result inner after outer) b → Past k result inner P outer b
allows-past k result inner after P outer b complete =
    by_test {P = MayAllow (past k result inner after outer) b → Past k result inner P outer b} (is_right k result inner)
    (λ t. rw t (λ h.
    let w = complete (with_more (arity result) outer) b h in
    let m = allows-more outer (arity result) w.0 w.1 in
    let r = and_both (is_left inner (arity result)) (not (is_if k && result)) t in
    record { before = m.0; allowed = m.1; inside = MayAllow-is_left inner (arity result) r.0; whole = r.1; behind = subst (λ n. P n b) m.2 w.2 }))
    (λ t. rw t (λ h. absurd h))

then_allows : (o : Option Level) (after : Level → Option Level) (m b : ℕ) → MayAllow o m → ((l : Level) → Allows l m → MayAllow (after l) b) → MayAllow (option_and_then after o) b
then_allows None after m b h f = absurd h
then_allows (Some l) after m b h f = f l h

record Then (o : Option Level) (after : Level → Option Level) (b : ℕ) : Type 0 where
  pub level : Level
  pub is : o ≡ Some level
  pub behind : MayAllow (after level) b

allows_then : (o : Option Level) (after : Level → Option Level) (b : ℕ) → MayAllow (option_and_then after o) b → Then o after b
allows_then None after b h = absurd h
allows_then (Some l) after b h = record { level = l; is = refl; behind = h }

-- both parts of an `if`
both-allows : (result : Bool) (inner other : Option Level) (after : Level → Option Level) (P : ℕ → ℕ → Type 0) (outer : Level) (m b : ℕ) → Sound after P → MayAllow inner (arity result) → MayAllow other (arity result) → Allows outer m → P (m + arity result) b → MayAllow (past_both result inner other after outer) b
both-allows result inner other after P outer m b sound left right h p =
    let ends : (is_left inner (arity result) && true) ≡ true = both_and (is_left inner (arity result)) true (is_left-true inner (arity result) left) refl in
    rw ends (past-allows kind.Else result other after P outer m b sound right refl h p)

allows-both : (result : Bool) (inner other : Option Level) (after : Level → Option Level) (P : ℕ → ℕ → Type 0) (outer : Level) (b : ℕ) → Complete after P → MayAllow (past_both result inner other after outer) b → MayAllow inner (arity result) × Past kind.Else result other P outer b
allows-both result inner other after P outer b complete =
    by_test {P = MayAllow (past_both result inner other after outer) b → MayAllow inner (arity result) × Past kind.Else result other P outer b} (is_left inner (arity result) && true)
    (λ t. rw t (λ h. (MayAllow-is_left inner (arity result) (and_both (is_left inner (arity result)) true t).0, allows-past kind.Else result other after P outer b complete h)))
    (λ t. rw t (λ h. absurd h))

-- what the types allow is left
pub flow-allows : (code : Code) (c : Context) (labels : List ℕ) → Sound (flow c labels code) (HasType c labels code)
flow-allows Nothing c labels l a b h e = subst (Allows l) e h
flow-allows (Single i others) c labels l a b h p =
    then_allows (option_and_then (level_after l) (effect_of c labels i)) (flow c labels others) p.0 b
    (may_effect-allows (effect_of c labels i) l a p.0 h p.1)
    (λ m k. flow-allows others c labels m p.0 b k p.2)
flow-allows (InBlock result body others) c labels l a b h p =
    past-allows kind.Block result (flow c (arity result ∷ labels) body at_start) (flow c labels others) (HasType c labels others) l a b
    (flow-allows others c labels) (flow-allows body c (arity result ∷ labels) at_start 0 (arity result) refl p.0) refl h p.1
flow-allows (InLoop result body others) c labels l a b h p =
    past-allows kind.Loop result (flow c (0 ∷ labels) body at_start) (flow c labels others) (HasType c labels others) l a b
    (flow-allows others c labels) (flow-allows body c (0 ∷ labels) at_start 0 (arity result) refl p.0) refl h p.1
flow-allows (InIf result body others) c labels l a b h p =
    let inner = flow c (arity result ∷ labels) body at_start in
    then_allows (without l 1) (past kind.If result inner (flow c labels others)) p.0 b
    (without-allows l 1 p.0 (subst (Allows l) p.1 h))
    (λ m k. past-allows kind.If result inner (flow c labels others) (HasType c labels others) m p.0 b
    (flow-allows others c labels) (flow-allows body c (arity result ∷ labels) at_start 0 (arity result) refl p.2) (result_no result p.3) k p.4)
flow-allows (InIfElse result body other others) c labels l a b h p =
    let inner = flow c (arity result ∷ labels) body at_start in
    let outer = flow c (arity result ∷ labels) other at_start in
    then_allows (without l 1) (past_both result inner outer (flow c labels others)) p.0 b
    (without-allows l 1 p.0 (subst (Allows l) p.1 h))
    (λ m k. both-allows result inner outer (flow c labels others) (HasType c labels others) m p.0 b
    (flow-allows others c labels) (flow-allows body c (arity result ∷ labels) at_start 0 (arity result) refl p.2)
    (flow-allows other c (arity result ∷ labels) at_start 0 (arity result) refl p.3) k p.4)

-- inside a block nothing is there at first
pub inside-type : (code : Code) (c : Context) (labels : List ℕ) (n : ℕ) → Complete (flow c labels code) (HasType c labels code) → MayAllow (flow c labels code at_start) n → HasType c labels code 0 n
inside-type code c labels n complete h =
    let w = complete at_start n h in
    subst (λ a. HasType c labels code a n) w.1 w.2

-- what is left the types allow
pub allows-flow : (code : Code) (c : Context) (labels : List ℕ) → Complete (flow c labels code) (HasType c labels code)
allows-flow Nothing c labels l b h = (b, h, refl)
allows-flow (Single i others) c labels l b h =
    let w = allows_then (option_and_then (level_after l) (effect_of c labels i)) (flow c labels others) b h in
    let p = allows-flow others c labels w.level b w.behind in
    let e = allows-may_effect (effect_of c labels i) l p.0 (subst (λ o. MayAllow o p.0) (sym w.is) p.1) in
    (e.0, e.1, (p.0, e.2, p.2))
allows-flow (InBlock result body others) c labels l b h =
    let w = allows-past kind.Block result (flow c (arity result ∷ labels) body at_start) (flow c labels others) (HasType c labels others) l b (allows-flow others c labels) h in
    (w.before, w.allowed, (inside-type body c (arity result ∷ labels) (arity result) (allows-flow body c (arity result ∷ labels)) w.inside, w.behind))
allows-flow (InLoop result body others) c labels l b h =
    let w = allows-past kind.Loop result (flow c (0 ∷ labels) body at_start) (flow c labels others) (HasType c labels others) l b (allows-flow others c labels) h in
    (w.before, w.allowed, (inside-type body c (0 ∷ labels) (arity result) (allows-flow body c (0 ∷ labels)) w.inside, w.behind))
allows-flow (InIf result body others) c labels l b h =
    let inner = flow c (arity result ∷ labels) body at_start in
    let o = allows_then (without l 1) (past kind.If result inner (flow c labels others)) b h in
    let w = allows-past kind.If result inner (flow c labels others) (HasType c labels others) o.level b (allows-flow others c labels) o.behind in
    let k = allows-without l 1 w.before (subst (λ v. MayAllow v w.before) (sym o.is) w.allowed) in
    (w.before + 1, k, (w.before, refl, inside-type body c (arity result ∷ labels) (arity result) (allows-flow body c (arity result ∷ labels)) w.inside, no_result result w.whole, w.behind))
allows-flow (InIfElse result body other others) c labels l b h =
    let inner = flow c (arity result ∷ labels) body at_start in
    let outer = flow c (arity result ∷ labels) other at_start in
    let o = allows_then (without l 1) (past_both result inner outer (flow c labels others)) b h in
    let both = allows-both result inner outer (flow c labels others) (HasType c labels others) o.level b (allows-flow others c labels) o.behind in
    let w = both.1 in
    let k = allows-without l 1 w.before (subst (λ v. MayAllow v w.before) (sym o.is) w.allowed) in
    (w.before + 1, k, (w.before, refl, inside-type body c (arity result ∷ labels) (arity result) (allows-flow body c (arity result ∷ labels)) both.0, inside-type other c (arity result ∷ labels) (arity result) (allows-flow other c (arity result ∷ labels)) w.inside, w.behind))
