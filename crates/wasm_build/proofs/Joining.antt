-- Code put behind code.
use Rattle.std.proofs.Common.{◌≡◌, ℕ, ◌+◌, List, ◌∷◌, ◌++◌, refl, sym, ap, subst, ◌∙◌, append_assoc}
use Rattle.wasm_bin.specs.declared.module.Instr.{Instr}
use Rattle.wasm_bin.specs.declared.module.Instr.TheVariants as instr
use Rattle.wasm_valid.specs.Context.{Context}
use Rattle.wasm_valid.specs.Nesting.{Code, Nothing, Single, InBlock, InLoop, InIf, InIfElse, spelled}
use Rattle.wasm_valid.specs.Typing.{arity, HasType}
use Rattle.wasm_build.specs.Joined.{joined, JoinedCodeTypes}

-- a block, and code behind it
block_then : (first : Instr) (inside rest more all : List Instr) → all ≡ rest ++ more → first ∷ (inside ++ instr.End ∷ all) ≡ (first ∷ (inside ++ instr.End ∷ rest)) ++ more
block_then first inside rest more all e =
    ap (λ (t : List Instr). first ∷ (inside ++ instr.End ∷ t)) e ∙ ap (λ (t : List Instr). first ∷ t) (sym (append_assoc inside (instr.End ∷ rest) more))

spelling : (a b : Code) → spelled (joined a b) ≡ spelled a ++ spelled b
spelling Nothing b = refl
spelling (Single i others) b = ap (λ (t : List Instr). i ∷ t) (spelling others b)
spelling (InBlock result body others) b = block_then (instr.Block result) (spelled body) (spelled others) (spelled b) (spelled (joined others b)) (spelling others b)
spelling (InLoop result body others) b = block_then (instr.Loop result) (spelled body) (spelled others) (spelled b) (spelled (joined others b)) (spelling others b)
spelling (InIf result body others) b = block_then (instr.If result) (spelled body) (spelled others) (spelled b) (spelled (joined others b)) (spelling others b)
spelling (InIfElse result body other others) b =
    let inner = instr.Else ∷ (spelled other ++ instr.End ∷ spelled others) in
    ap (λ (t : List Instr). instr.If result ∷ (spelled body ++ t)) (block_then instr.Else (spelled other) (spelled others) (spelled b) (spelled (joined others b)) (spelling others b))
    ∙ ap (λ (t : List Instr). instr.If result ∷ t) (sym (append_assoc (spelled body) inner (spelled b)))

typing : (c : Context) (labels : List ℕ) (a b : Code) (x y z : ℕ) → HasType c labels a x y → HasType c labels b y z → HasType c labels (joined a b) x z
typing c labels Nothing b x y z h k = subst (λ (n : ℕ). HasType c labels b n z) (sym h) k
typing c labels (Single i others) b x y z h k = (h.0, h.1, typing c labels others b h.0 y z h.2 k)
typing c labels (InBlock result body others) b x y z h k = (h.0, typing c labels others b (x + arity result) y z h.1 k)
typing c labels (InLoop result body others) b x y z h k = (h.0, typing c labels others b (x + arity result) y z h.1 k)
typing c labels (InIf result body others) b x y z h k = (h.0, h.1, h.2, h.3, typing c labels others b (h.0 + arity result) y z h.4 k)
typing c labels (InIfElse result body other others) b x y z h k = (h.0, h.1, h.2, h.3, typing c labels others b (h.0 + arity result) y z h.4 k)

pub joining : JoinedCodeTypes
joining = record { spelling = spelling; typing = typing }
