-- The code of `main` as its blocks nest.
use Rattle.std.proofs.Common.{◌≡◌, ℕ, zero, suc, ◌+◌, ◌^◌, ◌≤◌, false, List, [], ◌∷◌, ◌++◌, length, replicate, refl, sym, ap, ◌∙◌, arith, append_assoc}
use Rattle.std.specs.Prelude.{pos}
use Rattle.std.specs.List.{range_with_len}
use Rattle.eir_core.specs.declared.ops.Op.{Op}
use Rattle.eir_core.specs.Eir.{Eir}
use Rattle.wasm_bin.specs.declared.module.Instr.{Instr}
use Rattle.wasm_bin.specs.declared.module.Instr.TheVariants as instr
use Rattle.wasm_valid.specs.Nesting.{Code, Nothing, Single, InBlock, InLoop, spelled}
use Rattle.wasm_build.specs.Nested.{depth_of}
use Rattle.wasm_code.specs.Emitted.{goal_local, ops_code, blocks_code, main_code}

-- instructions of which none opens a block
abbrev pub singles : List Instr → Code
singles [] = Nothing
singles (i ∷ code) = Single i (singles code)

-- code in as many blocks as these, with the code of each behind its own
abbrev pub nest : Code → List (List Op) → Code
nest inside [] = inside
nest inside (ops ∷ blocks) = nest (InBlock false inside (singles (ops_code (length blocks) ops))) blocks

-- the choice among so many blocks
abbrev pub choice : ℕ → Code
choice n = singles (instr.LocalGet goal_local ∷ instr.BrTable (range_with_len 0 n) (n + 1) ∷ [])

abbrev pub loop : List (List Op) → Code
loop blocks = InLoop false (nest (choice (length blocks)) blocks) Nothing

abbrev pub main : Eir → Code
main p = Single (instr.Const (pos p.start)) (Single (instr.LocalSet goal_local) (loop p.blocks))

singles_spelled : (code : List Instr) → spelled (singles code) ≡ code
singles_spelled [] = refl
singles_spelled (i ∷ code) = ap (λ (rest : List Instr). i ∷ rest) (singles_spelled code)

shifted : {A : Type 0} (n : ℕ) (x : A) (xs : List A) → replicate n x ++ x ∷ xs ≡ replicate (suc n) x ++ xs
shifted zero x xs = refl
shifted (suc n) x xs = ap (λ (rest : List _). x ∷ rest) (shifted n x xs)

-- the end of the loop, and that of the function
abbrev ends : List Instr
ends = instr.End ∷ instr.End ∷ []

nest_spelled : (inside : Code) (blocks : List (List Op)) → spelled (nest inside blocks) ++ ends ≡ replicate (length blocks) (instr.Block false) ++ (spelled inside ++ instr.End ∷ blocks_code blocks)
nest_spelled inside [] = refl
nest_spelled inside (ops ∷ blocks) =
    let code = ops_code (length blocks) ops in
    let rest = instr.End ∷ blocks_code blocks in
    let within : (spelled inside ++ instr.End ∷ spelled (singles code)) ++ rest ≡ spelled inside ++ instr.End ∷ (code ++ rest) =
    append_assoc (spelled inside) (instr.End ∷ spelled (singles code)) rest ∙ ap (λ (c : List Instr). spelled inside ++ instr.End ∷ (c ++ rest)) (singles_spelled code) in
    nest_spelled (InBlock false inside (singles code)) blocks
    ∙ (ap (λ (c : List Instr). replicate (length blocks) (instr.Block false) ++ instr.Block false ∷ c) within
    ∙ shifted (length blocks) (instr.Block false) (spelled inside ++ instr.End ∷ (code ++ rest)))

pub main_spelled : (p : Eir) → main_code p ≡ spelled (main p) ++ instr.End ∷ []
main_spelled p =
    let blocks = p.blocks in
    let body = spelled (nest (choice (length blocks)) blocks) in
    let regroup : (body ++ instr.End ∷ []) ++ instr.End ∷ [] ≡ body ++ ends = append_assoc body (instr.End ∷ []) (instr.End ∷ []) in
    ap (λ (c : List Instr). instr.Const (pos p.start) ∷ instr.LocalSet goal_local ∷ instr.Loop false ∷ c) (sym (regroup ∙ nest_spelled (choice (length blocks)) blocks))

singles_flat : (code : List Instr) → depth_of (singles code) ≡ 0
singles_flat [] = refl
singles_flat (i ∷ code) = singles_flat code

nest_deep : (inside : Code) (blocks : List (List Op)) → depth_of (nest inside blocks) ≤ depth_of inside + length blocks
nest_deep inside [] = omega arith
nest_deep inside (ops ∷ blocks) =
    let flat = singles_flat (ops_code (length blocks) ops) in
    let rest = nest_deep (InBlock false inside (singles (ops_code (length blocks) ops))) blocks in
    omega arith

pub main_deep : (p : Eir) → length p.blocks ≤ 2 ^ 16 → depth_of (main p) ≤ 2 ^ 20
main_deep p few = let deep = nest_deep (choice (length p.blocks)) p.blocks in omega arith
