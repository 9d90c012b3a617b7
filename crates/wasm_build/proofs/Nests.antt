-- Typed code nests as the binary format wants it.
use Rattle.std.proofs.Common.{◌≡◌, ℕ, suc, ◌+◌, ◌^◌, ◌≤◌, ◌<◌, Bool, true, List, [], ◌∷◌, ◌++◌, map, refl, sym, ap, subst, ◌∙◌, arith}
use Rattle.std.proofs.lemmas.List.{map-append}
use Rattle.std.proofs.lemmas.Bool.{eqb-false}
use Rattle.wasm_bin.specs.declared.module.Instr.{Instr}
use Rattle.wasm_bin.specs.declared.module.Instr.TheVariants as instr
use Rattle.wasm_bin.specs.Opcode.{coded, is_block}
use Rattle.wasm_bin.specs.Grammar.{IsSingle, Nests, Empty, Single as Alone, Enclosed, Alternative}
use Rattle.wasm_valid.specs.Context.{Context}
use Rattle.wasm_valid.specs.Effects.{MayApply, effect_of, numeric_effect}
use Rattle.wasm_valid.specs.Nesting.{Code, Nothing, Single, InBlock, InLoop, InIf, InIfElse, spelled}
use Rattle.wasm_valid.specs.Typing.{arity, HasType}
use Rattle.wasm_build.specs.Nested.{depth_of, TypedCodeIsExpression}

-- an instruction with an effect is no block, no else and no end
single_of : (c : Context) (labels : List ℕ) (i : Instr) (a m : ℕ) → MayApply (effect_of c labels i) a m → IsSingle (coded i).0
unfolding effect_of numeric_effect is_block
single_of c labels (instr.Block gives) a m h = absurd h
single_of c labels (instr.Loop gives) a m h = absurd h
single_of c labels (instr.If gives) a m h = absurd h
single_of c labels instr.Else a m h = absurd h
single_of c labels instr.End a m h = absurd h
single_of c labels i a m h = record { opens_none = refl; no_else = eqb-false (coded i).0 0x05 refl; no_end = eqb-false (coded i).0 0x0B refl }

-- a block, what is inside it and what follows it
enclosed : (depth : ℕ) (i : Instr) (body others : List Instr) → is_block (coded i).0 ≡ true → depth < 2 ^ 20 → Nests (suc depth) (map coded body) → Nests depth (map coded others)
    → Nests depth (map coded (i ∷ (body ++ instr.End ∷ others)))
enclosed depth i body others b room n k =
    subst (λ xs. Nests depth (coded i ∷ xs)) (sym (map-append coded body (instr.End ∷ others)))
    (Enclosed (coded i) (coded instr.End) (map coded body) (map coded others) b refl room n k)

-- an if with an else, what is inside it and what follows it
parted : (depth : ℕ) (gives : Bool) (body other others : List Instr) → depth < 2 ^ 20 → Nests (suc depth) (map coded body) → Nests (suc depth) (map coded other) → Nests depth (map coded others)
    → Nests depth (map coded (instr.If gives ∷ (body ++ instr.Else ∷ (other ++ instr.End ∷ others))))
parted depth gives body other others room n j k =
    subst (λ xs. Nests depth (coded (instr.If gives) ∷ xs))
    (sym (map-append coded body (instr.Else ∷ (other ++ instr.End ∷ others)) ∙ ap (λ xs. map coded body ++ coded instr.Else ∷ xs) (map-append coded other (instr.End ∷ others))))
    (Alternative (coded (instr.If gives)) (coded instr.Else) (coded instr.End) (map coded body) (map coded other) (map coded others) refl refl refl room n j k)

block_opens : is_block 0x02 ≡ true
unfolding is_block
block_opens = refl

loop_opens : is_block 0x03 ≡ true
unfolding is_block
loop_opens = refl

if_opens : is_block 0x04 ≡ true
unfolding is_block
if_opens = refl

nests : (c : Context) (labels : List ℕ) (code : Code) (a b depth : ℕ) → HasType c labels code a b → depth + depth_of code ≤ 2 ^ 20 → Nests depth (map coded (spelled code))
nests c labels Nothing a b depth h k = Empty
nests c labels (Single i others) a b depth h k = Alone (coded i) (map coded (spelled others)) (single_of c labels i a h.0 h.1) (nests c labels others h.0 b depth h.2 k)
nests c labels (InBlock result body others) a b depth h k =
    enclosed depth (instr.Block result) (spelled body) (spelled others) block_opens (omega arith)
    (nests c (arity result ∷ labels) body 0 (arity result) (suc depth) h.0 (omega arith)) (nests c labels others (a + arity result) b depth h.1 (omega arith))
nests c labels (InLoop result body others) a b depth h k =
    enclosed depth (instr.Loop result) (spelled body) (spelled others) loop_opens (omega arith)
    (nests c (0 ∷ labels) body 0 (arity result) (suc depth) h.0 (omega arith)) (nests c labels others (a + arity result) b depth h.1 (omega arith))
nests c labels (InIf result body others) a b depth h k =
    enclosed depth (instr.If result) (spelled body) (spelled others) if_opens (omega arith)
    (nests c (arity result ∷ labels) body 0 (arity result) (suc depth) h.2 (omega arith)) (nests c labels others (h.0 + arity result) b depth h.4 (omega arith))
nests c labels (InIfElse result body other others) a b depth h k =
    parted depth result (spelled body) (spelled other) (spelled others) (omega arith)
    (nests c (arity result ∷ labels) body 0 (arity result) (suc depth) h.2 (omega arith)) (nests c (arity result ∷ labels) other 0 (arity result) (suc depth) h.3 (omega arith)) (nests c labels others (h.0 + arity result) b depth h.4 (omega arith))

pub expression : TypedCodeIsExpression
expression c labels code a b h k = record {
  inside = map coded (spelled code);
  last = coded instr.End;
  parts = map-append coded (spelled code) (instr.End ∷ []);
  nests = nests c labels code a b 0 h (omega arith);
  is_end = refl;
}
