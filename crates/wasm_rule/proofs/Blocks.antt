-- Where the blocks of typed code go on: the search for an `end` or an `else` passes over whatever is nested between.
use Rattle.std.proofs.Common.{suc, ◌≡◌, ℕ, ◌+◌, List, ◌∷◌, ◌++◌, refl, ap, ◌∙◌, append_assoc}
use Rattle.wasm_bin.specs.declared.module.Instr.{Instr}
use Rattle.wasm_bin.specs.declared.module.Instr.TheVariants.{Block, Loop, If, Else, End}
use Rattle.wasm_valid.specs.Context.{Context}
use Rattle.wasm_valid.specs.Effects.{effect_of, numeric_effect, MayApply}
use Rattle.wasm_valid.specs.Nesting.{Code, Nothing, Single, InBlock, InLoop, InIf, InIfElse, spelled}
use Rattle.wasm_valid.specs.Typing.{arity, HasType}
use Rattle.wasm_rule.specs.Code.{past_end, else_part}
use Rattle.wasm_rule.specs.Laws.{EndsAt, PartsAt}

-- both searches go past an instruction that forms no block
plain_past : (c : Context) (labels : List ℕ) (i : Instr) (a m depth : ℕ) (rest : List Instr) → MayApply (effect_of c labels i) a m → (past_end depth (i ∷ rest) ≡ past_end depth rest) × (else_part depth (i ∷ rest) ≡ else_part depth rest)
unfolding effect_of numeric_effect
plain_past c labels (Block gives) a m depth rest h = absurd h
plain_past c labels (Loop gives) a m depth rest h = absurd h
plain_past c labels (If gives) a m depth rest h = absurd h
plain_past c labels Else a m depth rest h = absurd h
plain_past c labels End a m depth rest h = absurd h
plain_past c labels _ a m depth rest h = (refl, refl)

-- and past typed code
pub past_nested : (code : Code) (c : Context) (labels : List ℕ) (a b depth : ℕ) (rest : List Instr) → HasType c labels code a b → past_end depth (spelled code ++ rest) ≡ past_end depth rest
past_nested Nothing c labels a b depth rest h = refl
past_nested (Single i others) c labels a b depth rest h = (plain_past c labels i a h.0 depth (spelled others ++ rest) h.1).0 ∙ past_nested others c labels h.0 b depth rest h.2
past_nested (InBlock result body others) c labels a b depth rest h =
    ap (past_end (suc depth)) (append_assoc (spelled body) (End ∷ spelled others) rest) ∙ past_nested body c (arity result ∷ labels) 0 (arity result) (suc depth) (End ∷ (spelled others ++ rest)) h.0 ∙ past_nested others c labels (a + arity result) b depth rest h.1
past_nested (InLoop result body others) c labels a b depth rest h =
    ap (past_end (suc depth)) (append_assoc (spelled body) (End ∷ spelled others) rest) ∙ past_nested body c (0 ∷ labels) 0 (arity result) (suc depth) (End ∷ (spelled others ++ rest)) h.0 ∙ past_nested others c labels (a + arity result) b depth rest h.1
past_nested (InIf result body others) c labels a b depth rest h =
    ap (past_end (suc depth)) (append_assoc (spelled body) (End ∷ spelled others) rest) ∙ past_nested body c (arity result ∷ labels) 0 (arity result) (suc depth) (End ∷ (spelled others ++ rest)) h.2 ∙ past_nested others c labels (h.0 + arity result) b depth rest h.4
past_nested (InIfElse result body other others) c labels a b depth rest h =
    ap (past_end (suc depth)) (append_assoc (spelled body) (Else ∷ (spelled other ++ End ∷ spelled others)) rest)
    ∙ past_nested body c (arity result ∷ labels) 0 (arity result) (suc depth) (Else ∷ ((spelled other ++ End ∷ spelled others) ++ rest)) h.2
    ∙ ap (past_end (suc depth)) (append_assoc (spelled other) (End ∷ spelled others) rest)
    ∙ past_nested other c (arity result ∷ labels) 0 (arity result) (suc depth) (End ∷ (spelled others ++ rest)) h.3
    ∙ past_nested others c labels (h.0 + arity result) b depth rest h.4

pub else_nested : (code : Code) (c : Context) (labels : List ℕ) (a b depth : ℕ) (rest : List Instr) → HasType c labels code a b → else_part depth (spelled code ++ rest) ≡ else_part depth rest
else_nested Nothing c labels a b depth rest h = refl
else_nested (Single i others) c labels a b depth rest h = (plain_past c labels i a h.0 depth (spelled others ++ rest) h.1).1 ∙ else_nested others c labels h.0 b depth rest h.2
else_nested (InBlock result body others) c labels a b depth rest h =
    ap (else_part (suc depth)) (append_assoc (spelled body) (End ∷ spelled others) rest) ∙ else_nested body c (arity result ∷ labels) 0 (arity result) (suc depth) (End ∷ (spelled others ++ rest)) h.0 ∙ else_nested others c labels (a + arity result) b depth rest h.1
else_nested (InLoop result body others) c labels a b depth rest h =
    ap (else_part (suc depth)) (append_assoc (spelled body) (End ∷ spelled others) rest) ∙ else_nested body c (0 ∷ labels) 0 (arity result) (suc depth) (End ∷ (spelled others ++ rest)) h.0 ∙ else_nested others c labels (a + arity result) b depth rest h.1
else_nested (InIf result body others) c labels a b depth rest h =
    ap (else_part (suc depth)) (append_assoc (spelled body) (End ∷ spelled others) rest) ∙ else_nested body c (arity result ∷ labels) 0 (arity result) (suc depth) (End ∷ (spelled others ++ rest)) h.2 ∙ else_nested others c labels (h.0 + arity result) b depth rest h.4
else_nested (InIfElse result body other others) c labels a b depth rest h =
    ap (else_part (suc depth)) (append_assoc (spelled body) (Else ∷ (spelled other ++ End ∷ spelled others)) rest)
    ∙ else_nested body c (arity result ∷ labels) 0 (arity result) (suc depth) (Else ∷ ((spelled other ++ End ∷ spelled others) ++ rest)) h.2
    ∙ ap (else_part (suc depth)) (append_assoc (spelled other) (End ∷ spelled others) rest)
    ∙ else_nested other c (arity result ∷ labels) 0 (arity result) (suc depth) (End ∷ (spelled others ++ rest)) h.3
    ∙ else_nested others c labels (h.0 + arity result) b depth rest h.4

pub ends_at : (c : Context) (labels : List ℕ) (body : Code) (a b : ℕ) (rest : List Instr) → HasType c labels body a b → EndsAt body rest
ends_at c labels body a b rest h = record { past = past_nested body c labels a b 0 (End ∷ rest) h; other = else_nested body c labels a b 0 (End ∷ rest) h }

pub parts_at : (c : Context) (labels : List ℕ) (first second : Code) (a b d e : ℕ) (rest : List Instr) → HasType c labels first a b → HasType c labels second d e → PartsAt first second rest
parts_at c labels first second a b d e rest h k = record {
  past = past_nested first c labels a b 0 (Else ∷ (spelled second ++ End ∷ rest)) h ∙ past_nested second c labels d e 0 (End ∷ rest) k;
  other = else_nested first c labels a b 0 (Else ∷ (spelled second ++ End ∷ rest)) h;
}
