-- The walk over the flat list of nested code.
use Rattle.std.proofs.Common.{◌≡◌, ℕ, ◌+◌, Bool, true, false, cond, List, ◌∷◌, ◌++◌, Option, Some, None, refl, ap, ◌∙◌, append_assoc}
use Rattle.std.specs.Option.{option_map, option_and_then}
use Rattle.wasm_bin.specs.declared.module.Instr.{Instr}
use Rattle.wasm_bin.specs.declared.module.Instr.TheVariants as instr
use Rattle.wasm_valid.specs.Context.{Context}
use Rattle.wasm_valid.specs.Effects.{effect_of, numeric_effect, MayApply}
use Rattle.wasm_valid.specs.Nesting.{Code, Nothing, Single, InBlock, InLoop, InIf, InIfElse, spelled}
use Rattle.wasm_valid.specs.Typing.{arity, HasType}
use Rattle.wasm_valid.specs.Levels.{Level, at_start, without, with_more, level_after}
use Rattle.wasm_valid.specs.Checking.{Kind, Frame, Plain, State, labels_under, opened, closed, parted, may_close, may_part, shape_of, stepped, walk}
use Rattle.wasm_valid.specs.declared.frames.Kind.TheVariants as kind
use Rattle.wasm_valid.proofs.Flow.{past, past_both, flow}

-- each single instruction is no part of a block's form
abbrev pub IsNested : Code → Type 0
IsNested Nothing = Unit {0}
IsNested (Single i others) = (shape_of i ≡ Plain) × IsNested others
IsNested (InBlock result body others) = IsNested body × IsNested others
IsNested (InLoop result body others) = IsNested body × IsNested others
IsNested (InIf result body others) = IsNested body × IsNested others
IsNested (InIfElse result body other others) = IsNested body × IsNested other × IsNested others

plain_effect : (c : Context) (labels : List ℕ) (i : Instr) (a m : ℕ) → MayApply (effect_of c labels i) a m → shape_of i ≡ Plain
unfolding effect_of numeric_effect shape_of
plain_effect c labels (instr.Block result) a m h = absurd h
plain_effect c labels (instr.Loop result) a m h = absurd h
plain_effect c labels (instr.If result) a m h = absurd h
plain_effect c labels instr.Else a m h = absurd h
plain_effect c labels instr.End a m h = absurd h
plain_effect c labels _ a m h = refl

-- typed code is nested so
pub IsNested-typed : (code : Code) (c : Context) (labels : List ℕ) (a b : ℕ) → HasType c labels code a b → IsNested code
IsNested-typed Nothing c labels a b h = tt
IsNested-typed (Single i others) c labels a b h = (plain_effect c labels i a h.0 h.1, IsNested-typed others c labels h.0 b h.2)
IsNested-typed (InBlock result body others) c labels a b h = (IsNested-typed body c (arity result ∷ labels) 0 (arity result) h.0, IsNested-typed others c labels (a + arity result) b h.1)
IsNested-typed (InLoop result body others) c labels a b h = (IsNested-typed body c (0 ∷ labels) 0 (arity result) h.0, IsNested-typed others c labels (a + arity result) b h.1)
IsNested-typed (InIf result body others) c labels a b h = (IsNested-typed body c (arity result ∷ labels) 0 (arity result) h.2, IsNested-typed others c labels (h.0 + arity result) b h.4)
IsNested-typed (InIfElse result body other others) c labels a b h = (IsNested-typed body c (arity result ∷ labels) 0 (arity result) h.2, IsNested-typed other c (arity result ∷ labels) 0 (arity result) h.3, IsNested-typed others c labels (h.0 + arity result) b h.4)

-- the state at a level in these blocks
abbrev pub at_level : List Frame → Level → State
at_level frames l = record { level = l; frames = frames }

abbrev frame : Kind → Bool → Level → Frame
frame k result outer = record { kind = k; result = result; outer = outer }

-- the walk goes on behind what is left
abbrev Goes : Context → List Frame → List Instr → Level → Option State
Goes c frames rest m = walk c rest (at_level frames m)

-- after a single instruction
on_single : (o : Option Level) (frames : List Frame) (others : Level → Option Level) (go : State → Option State) (W : Level → Option State) → ((m : Level) → go (at_level frames m) ≡ option_and_then W (others m)) → option_and_then go (option_map (λ m. at_level frames m) o) ≡ option_and_then W (option_and_then others o)
on_single None frames others go W h = refl
on_single (Some m) frames others go W h = h m

-- at the end of a block
on_close : (o : Option Level) (k : Kind) (result : Bool) (outer : Level) (frames : List Frame) (others : Level → Option Level) (go : State → Option State) (W : Level → Option State) → ((m : Level) → go (at_level frames m) ≡ option_and_then W (others m)) → option_and_then (λ m. option_and_then go (closed (frame k result outer ∷ frames) m)) o ≡ option_and_then W (past k result o others outer)
on_close None k result outer frames others go W h = refl
on_close (Some m) k result outer frames others go W h =
    elim (may_close (frame k result outer) m) as (λ t. option_and_then go (cond t (Some (at_level frames (with_more (arity result) outer))) None) ≡ option_and_then W (cond t (others (with_more (arity result) outer)) None)) [
      | true ↦ h (with_more (arity result) outer)
      | false ↦ refl
    ]

-- between the two parts of an `if`
on_part : (o : Option Level) (result : Bool) (outer : Level) (frames : List Frame) (other : Option Level) (others : Level → Option Level) (go : State → Option State) (W : Level → Option State) → go (opened kind.Else result frames outer) ≡ option_and_then W (past kind.Else result other others outer) → option_and_then (λ m. option_and_then go (parted (frame kind.If result outer ∷ frames) m)) o ≡ option_and_then W (past_both result o other others outer)
on_part None result outer frames other others go W h = refl
on_part (Some m) result outer frames other others go W h =
    elim (may_part (frame kind.If result outer) m) as (λ t. option_and_then go (cond t (Some (opened kind.Else result frames outer)) None) ≡ option_and_then W (cond t (past kind.Else result other others outer) None)) [
      | true ↦ h
      | false ↦ refl
    ]

-- where a block opens
on_open : (o : Option Level) (k : Kind) (result : Bool) (frames : List Frame) (behind : Level → Option Level) (go : State → Option State) (W : Level → Option State) → ((outer : Level) → go (opened k result frames outer) ≡ option_and_then W (behind outer)) → option_and_then go (option_map (opened k result frames) o) ≡ option_and_then W (option_and_then behind o)
on_open None k result frames behind go W h = refl
on_open (Some outer) k result frames behind go W h = h outer

-- over the code in a block, its end, and what follows
closes : (c : Context) (k : Kind) (result : Bool) (frames : List Frame) (outer : Level) (body others rest : List Instr) (inner : Option Level) (after : Level → Option Level) → ((more : List Instr) → walk c (body ++ more) (opened k result frames outer) ≡ option_and_then (Goes c (frame k result outer ∷ frames) more) inner) → ((m : Level) → walk c (others ++ rest) (at_level frames m) ≡ option_and_then (Goes c frames rest) (after m)) → walk c ((body ++ instr.End ∷ others) ++ rest) (opened k result frames outer) ≡ option_and_then (Goes c frames rest) (past k result inner after outer)
unfolding shape_of
closes c k result frames outer body others rest inner after inside behind =
    ap (λ code. walk c code (opened k result frames outer)) (append_assoc body (instr.End ∷ others) rest)
    ∙ (inside (instr.End ∷ (others ++ rest))
    ∙ on_close inner k result outer frames after (walk c (others ++ rest)) (Goes c frames rest) behind)

-- over the first part of an `if`, and what follows
parts : (c : Context) (result : Bool) (frames : List Frame) (outer : Level) (body behind rest : List Instr) (inner other : Option Level) (after : Level → Option Level) → ((more : List Instr) → walk c (body ++ more) (opened kind.If result frames outer) ≡ option_and_then (Goes c (frame kind.If result outer ∷ frames) more) inner) → walk c (behind ++ rest) (opened kind.Else result frames outer) ≡ option_and_then (Goes c frames rest) (past kind.Else result other after outer) → walk c ((body ++ instr.Else ∷ behind) ++ rest) (opened kind.If result frames outer) ≡ option_and_then (Goes c frames rest) (past_both result inner other after outer)
unfolding shape_of
parts c result frames outer body behind rest inner other after inside h =
    ap (λ code. walk c code (opened kind.If result frames outer)) (append_assoc body (instr.Else ∷ behind) rest)
    ∙ (inside (instr.Else ∷ (behind ++ rest))
    ∙ on_part inner result outer frames other after (walk c (behind ++ rest)) (Goes c frames rest) h)

-- the walk over nested code leaves what the flow leaves
pub walk-spelled : (code : Code) (c : Context) (frames : List Frame) (rest : List Instr) (l : Level) → IsNested code → walk c (spelled code ++ rest) (at_level frames l) ≡ option_and_then (Goes c frames rest) (flow c (labels_under frames c.results) code l)
unfolding shape_of
walk-spelled Nothing c frames rest l n = refl
walk-spelled (Single i others) c frames rest l n =
    let labels = labels_under frames c.results in
    let go = walk c (spelled others ++ rest) in
    ap (λ shape. option_and_then go (stepped c shape i (at_level frames l))) n.0
    ∙ on_single (option_and_then (level_after l) (effect_of c labels i)) frames (flow c labels others) go (Goes c frames rest) (λ m. walk-spelled others c frames rest m n.1)
walk-spelled (InBlock result body others) c frames rest l n =
    let labels = labels_under frames c.results in
    closes c kind.Block result frames l (spelled body) (spelled others) rest (flow c (arity result ∷ labels) body at_start) (flow c labels others)
    (λ more. walk-spelled body c (frame kind.Block result l ∷ frames) more at_start n.0)
    (λ m. walk-spelled others c frames rest m n.1)
walk-spelled (InLoop result body others) c frames rest l n =
    let labels = labels_under frames c.results in
    closes c kind.Loop result frames l (spelled body) (spelled others) rest (flow c (0 ∷ labels) body at_start) (flow c labels others)
    (λ more. walk-spelled body c (frame kind.Loop result l ∷ frames) more at_start n.0)
    (λ m. walk-spelled others c frames rest m n.1)
walk-spelled (InIf result body others) c frames rest l n =
    let labels = labels_under frames c.results in
    let inner = flow c (arity result ∷ labels) body at_start in
    on_open (without l 1) kind.If result frames (past kind.If result inner (flow c labels others)) (walk c ((spelled body ++ instr.End ∷ spelled others) ++ rest)) (Goes c frames rest)
    (λ outer. closes c kind.If result frames outer (spelled body) (spelled others) rest inner (flow c labels others)
    (λ more. walk-spelled body c (frame kind.If result outer ∷ frames) more at_start n.0)
    (λ m. walk-spelled others c frames rest m n.1))
walk-spelled (InIfElse result body other others) c frames rest l n =
    let labels = labels_under frames c.results in
    let inner = flow c (arity result ∷ labels) body at_start in
    let second = flow c (arity result ∷ labels) other at_start in
    let behind = spelled other ++ instr.End ∷ spelled others in
    on_open (without l 1) kind.If result frames (past_both result inner second (flow c labels others)) (walk c ((spelled body ++ instr.Else ∷ behind) ++ rest)) (Goes c frames rest)
    (λ outer. parts c result frames outer (spelled body) behind rest inner second (flow c labels others)
    (λ more. walk-spelled body c (frame kind.If result outer ∷ frames) more at_start n.0)
    (closes c kind.Else result frames outer (spelled other) (spelled others) rest second (flow c labels others)
    (λ more. walk-spelled other c (frame kind.Else result outer ∷ frames) more at_start n.1)
    (λ m. walk-spelled others c frames rest m n.2)))
