-- Code and bytes in pieces, one behind the other.
use Rattle.std.proofs.Common.{slice_get, add-one, ◌≡◌, ◌≢◌, ℕ, suc, ◌+◌, ◌-◌, ◌<◌, ◌≤◌, false, List, [], ◌∷◌, ◌++◌, length, drop, map, replicate, get_or, Option, None, Some, refl, sym, ap, ◌∙◌, arith, append_assoc, append-nil}
use Rattle.std.specs.Prelude.{pos}
use Rattle.std.specs.List.{flat_map, range_with_len}
use Rattle.std.proofs.lemmas.List.{drop_all, length-drop, replicate_more, map-id}
use Rattle.std.proofs.lemmas.List.FromFn.{map-range_with_len_more}
use Rattle.mach_core.proofs.Lists.{next_of, next_is}
use Rattle.word24.specs.declared.word.Word.{Word}
use Rattle.word24.specs.Word.{number_of}
use Rattle.eir_core.specs.declared.ops.Op.{Op}
use Rattle.eir_core.specs.Eir.{Eir}
use Rattle.wasm_bin.specs.declared.module.Instr.{Instr}
use Rattle.wasm_bin.specs.declared.module.Instr.TheVariants.{Block, Loop, End, Const, LocalSet}
use Rattle.wasm_rule.specs.Memory.{bytes_of}
use Rattle.wasm_code.specs.Emitted.{goal_local, op_code, ops_code, blocks_code, choice_code, turn_code, main_code, segments_for}

-- what pieces are joined by
pub ruleset pieces = (append_assoc, append-nil)

-- one more piece, where the code of an item and of those behind it is still to come
more : {A : Type 0} (now new first rest all : List A) → new ≡ now ++ first → now ++ (first ++ rest) ≡ all → new ++ rest ≡ all
more now new first rest all e h = ap (λ (code : List _). code ++ rest) e ∙ (append_assoc now first rest ∙ h)

pub ops_more : (out : ℕ) (ops : List Op) (i : ℕ) (op : Op) (now new all : List Instr) → i < length ops → op ≡ get_or ops i op → new ≡ now ++ op_code out op → now ++ ops_code out (drop i ops) ≡ all → new ++ ops_code out (drop (i + 1) ops) ≡ all
ops_more out ops i op now new all lt is e h =
    let split : drop i ops ≡ op ∷ drop (i + 1) ops = next_of ops i op lt is in
    more now new (op_code out op) (ops_code out (drop (i + 1) ops)) all e (ap (λ (left : List Op). now ++ ops_code out left) (sym split) ∙ h)

pub ops_all : (out : ℕ) (ops : List Op) (i : ℕ) (now all : List Instr) → length ops ≤ i → now ++ ops_code out (drop i ops) ≡ all → now ≡ all
ops_all out ops i now all le h = sym (append-nil now) ∙ (ap (λ (left : List Op). now ++ ops_code out left) (sym (drop_all i ops le)) ∙ h)

pub blocks_more : (blocks : List (List Op)) (k out : ℕ) (ops : List Op) (now new all : List Instr) → slice_get blocks k ≡ Some ops → out ≡ length blocks - 1 - k → new ≡ now ++ (ops_code out ops ++ End ∷ []) → now ++ blocks_code (drop k blocks) ≡ all → new ++ blocks_code (drop (k + 1) blocks) ≡ all
blocks_more blocks k out ops now new all is far e h =
    let rest = drop (k + 1) blocks in
    let split : drop k blocks ≡ ops ∷ rest = next_is blocks k ops is ∙ ap (λ n. ops ∷ drop n blocks) (sym (add-one k)) in
    let behind : length rest ≡ out = omega (arith, length-drop (k + 1) blocks) in
    let first = ops_code out ops ++ End ∷ [] in
    let joined : first ++ blocks_code rest ≡ ops_code out ops ++ End ∷ blocks_code rest = append_assoc (ops_code out ops) (End ∷ []) (blocks_code rest) in
    let whole : ops_code out ops ++ End ∷ blocks_code rest ≡ blocks_code (drop k blocks) = ap (λ n. ops_code n ops ++ End ∷ blocks_code rest) (sym behind) ∙ ap blocks_code (sym split) in
    more now new first (blocks_code rest) all e (ap (λ (code : List Instr). now ++ code) (joined ∙ whole) ∙ h)

pub blocks_all : (blocks : List (List Op)) (k : ℕ) (now new all : List Instr) → length blocks ≤ k → new ≡ now ++ End ∷ [] → now ++ blocks_code (drop k blocks) ≡ all → new ≡ all
blocks_all blocks k now new all le e h = e ∙ (ap (λ (left : List (List Op)). now ++ blocks_code left) (sym (drop_all k blocks le)) ∙ h)

-- one more of the blocks within one another
pub nest_more : (before now new : List Instr) (block : Instr) (n : ℕ) → new ≡ now ++ block ∷ [] → now ≡ before ++ replicate n block → new ≡ before ++ replicate (n + 1) block
nest_more before now new block n e h =
    e ∙ (ap (λ (code : List Instr). code ++ block ∷ []) h ∙ (append_assoc before (replicate n block) (block ∷ []) ∙ ap (λ (code : List Instr). before ++ code) (replicate_more n block)))

-- one more number behind those from a number on
pub range_more : (a n k : ℕ) → a + n ≡ k → range_with_len a n ++ k ∷ [] ≡ range_with_len a (n + 1)
range_more a n k e =
    let some = map-range_with_len_more (λ (x : ℕ). x) a n k e in
    let front = ap (λ (xs : List ℕ). xs ++ k ∷ []) (map-id (range_with_len a n)) in
    sym (sym (map-id (range_with_len a (n + 1))) ∙ (some ∙ front))

pub zero_plus : (k : ℕ) → 0 + k ≡ k
zero_plus k = omega arith

-- the code of `main` in its pieces
pub main_is : (p : Eir) (count start : ℕ) (a b c d e f : List Instr) → count ≡ length p.blocks → start ≡ p.start → a ≡ [] → b ≡ a ++ (Const (pos start) ∷ LocalSet goal_local ∷ []) → c ≡ b ++ Loop false ∷ []
    → d ≡ c ++ replicate count (Block false) → e ≡ d ++ choice_code count → f ≡ e ++ blocks_code p.blocks → f ≡ main_code p
main_is p count start a b c d e f is first none begun entered nested chosen filled =
    let nest = replicate count (Block false) in
    let front : c ≡ Const (pos start) ∷ LocalSet goal_local ∷ Loop false ∷ [] = entered ∙ (ap (λ (code : List Instr). code ++ Loop false ∷ []) (begun ∙ ap (λ (code : List Instr). code ++ (Const (pos start) ∷ LocalSet goal_local ∷ [])) none)) in
    let all : f ≡ Const (pos start) ∷ LocalSet goal_local ∷ Loop false ∷ ((nest ++ choice_code count) ++ blocks_code p.blocks) =
    filled ∙ ap (λ (code : List Instr). code ++ blocks_code p.blocks) (chosen ∙ ap (λ (code : List Instr). code ++ choice_code count) (nested ∙ ap (λ (code : List Instr). code ++ nest) front)) in
    all
    ∙ (ap (λ (code : List Instr). Const (pos start) ∷ LocalSet goal_local ∷ Loop false ∷ code) (append_assoc nest (choice_code count) (blocks_code p.blocks))
    ∙ (ap (λ n. Const (pos start) ∷ LocalSet goal_local ∷ Loop false ∷ (replicate n (Block false) ++ (choice_code n ++ blocks_code p.blocks))) is
    ∙ ap (λ n. Const (pos n) ∷ LocalSet goal_local ∷ turn_code p.blocks) first))

pub words_more : (words : List Word) (i : ℕ) (word : Word) (now new all : List ℕ) → i < length words → word ≡ get_or words i word → new ≡ now ++ bytes_of 4 (number_of word)
    → now ++ flat_map (bytes_of 4) (map number_of (drop i words)) ≡ all → new ++ flat_map (bytes_of 4) (map number_of (drop (i + 1) words)) ≡ all
words_more words i word now new all lt is e h =
    let rest = drop (i + 1) words in
    let split : drop i words ≡ word ∷ rest = next_of words i word lt is in
    more now new (bytes_of 4 (number_of word)) (flat_map (bytes_of 4) (map number_of rest)) all e (ap (λ (left : List Word). now ++ flat_map (bytes_of 4) (map number_of left)) (sym split) ∙ h)

pub words_all : (words : List Word) (i : ℕ) (now all : List ℕ) → length words ≤ i → now ++ flat_map (bytes_of 4) (map number_of (drop i words)) ≡ all → now ≡ all
words_all words i now all le h = sym (append-nil now) ∙ (ap (λ (left : List Word). now ++ flat_map (bytes_of 4) (map number_of left)) (sym (drop_all i words le)) ∙ h)

-- where there are words there is a segment
pub some_words : (words : List Word) → length words ≢ 0 → segments_for words ≡ record { offset = pos 0; bytes = flat_map (bytes_of 4) (map number_of words) } ∷ []
some_words [] some = absurd (some refl)
some_words (word ∷ words) some = refl

pub no_words : (words : List Word) → length words ≡ 0 → segments_for words ≡ []
no_words [] none = refl
no_words (word ∷ words) none = absurd (omega arith)
