-- Lanes that are drawn one after the other.
use Rattle.std.proofs.Common.{◌≡◌, ℕ, zero, suc, ◌+◌, ◌^◌, ◌<◌, ◌≤◌, List, [], ◌∷◌, ◌++◌, length, take, drop, get_or, Some, slice_get, refl, sym, ap, ◌∙◌, arith, append_assoc, append-nil, add-one}
use Rattle.std.proofs.lemmas.List.{drop_more, drop_all}
use Rattle.mach_core.proofs.Lists.{next_is}
use Rattle.word24.specs.declared.word.Word.{Word}
use Rattle.eir_core.specs.declared.ops.Op.{Op}
use Rattle.eir_core.specs.Eir.{Eir, size_of}
use Rattle.piet_lane.specs.declared.command.Command.{Command}
use Rattle.piet_stack.specs.Code.{number_code, op_code, second_code}
use Rattle.piet_back.specs.declared.layout.Layout.{Layout}
use Rattle.piet_back.specs.Lanes.{layout_of, flat, op_lane, ways_at, block_lanes, op_lanes, second_lanes, init_code, data_code, data_lanes, pair_lanes, lanes_by, lanes}
use Rattle.piet_back.proofs.Lookups.{before_few, length-flat}

put_more : {A : Type 0} (old new rest all : List A) (x : A) → new ≡ old ++ x ∷ [] → old ++ x ∷ rest ≡ all → new ++ rest ≡ all
put_more {A} old new rest all x e h = ap (λ (xs : List A). xs ++ rest) e ∙ (append_assoc old (x ∷ []) rest ∙ h)

pub block_lane_more : (g : Layout) (bs : List (List Op)) (k first next : ℕ) (ops : List Op) (old new all : List (List Command)) (lane : List Command) → slice_get bs k ≡ Some ops → next ≡ first + length ops → old ++ block_lanes g first (drop k bs) ≡ all
    → lane ≡ number_code (op_lane g first) → new ≡ old ++ lane ∷ [] → new ++ block_lanes g next (drop (k + 1) bs) ≡ all
block_lane_more g bs k first next ops old new all lane there sum h is e =
    put_more old new (block_lanes g next (drop (k + 1) bs)) all lane e
    (ap (λ (x : List Command). old ++ x ∷ block_lanes g next (drop (k + 1) bs)) is
    ∙ (ap (λ n. old ++ number_code (op_lane g first) ∷ block_lanes g n (drop (k + 1) bs)) sum
    ∙ (ap (λ n. old ++ number_code (op_lane g first) ∷ block_lanes g (first + length ops) (drop n bs)) (add-one k)
    ∙ (ap (λ (xs : List (List Op)). old ++ block_lanes g first xs) (sym (next_is bs k ops there)) ∙ h))))

pub flat_more : (bs : List (List Op)) (k : ℕ) (ops old new all : List Op) → slice_get bs k ≡ Some ops → old ++ flat (drop k bs) ≡ all → new ≡ old ++ ops → new ++ flat (drop (k + 1) bs) ≡ all
flat_more bs k ops old new all there h e =
    ap (λ (xs : List Op). xs ++ flat (drop (k + 1) bs)) e
    ∙ (append_assoc old ops (flat (drop (k + 1) bs))
    ∙ (ap (λ n. old ++ (ops ++ flat (drop n bs))) (add-one k) ∙ (ap (λ (xs : List (List Op)). old ++ flat xs) (sym (next_is bs k ops there)) ∙ h)))

pub first_few : (p : Eir) (k : ℕ) → size_of p ≤ 2 ^ 12 → length p.blocks + length (flat (take k p.blocks)) ≤ 2 ^ 12
first_few p k small = let few = before_few p.blocks k in let all = length-flat p.blocks in omega (arith, few, all, small)

-- all lanes, piece by piece
joined : (b o s d e : List (List Command)) (i : List Command) → (((b ++ (o ++ s)) ++ i ∷ []) ++ d) ++ e ≡ b ++ (o ++ (s ++ (i ∷ (d ++ e))))
joined b o s d e i =
    append_assoc ((b ++ (o ++ s)) ++ i ∷ []) d e
    ∙ (append_assoc (b ++ (o ++ s)) (i ∷ []) (d ++ e) ∙ (append_assoc b (o ++ s) (i ∷ (d ++ e)) ∙ ap (λ (xs : List (List Command)). b ++ xs) (append_assoc o s (i ∷ (d ++ e)))))

pub lanes_put : (p : Eir) (g : Layout) (a0 a1 a2 a3 a4 a5 : List (List Command)) (i : List Command) (words : List Word) (start : ℕ) → g ≡ layout_of p → a0 ≡ [] → a1 ≡ a0 ++ block_lanes g 0 p.blocks
    → a2 ≡ a1 ++ (op_lanes g 0 (flat p.blocks) ++ second_lanes g 0 (flat p.blocks)) → i ≡ init_code g start → start ≡ p.start → a3 ≡ a2 ++ i ∷ [] → words ≡ p.words → a4 ≡ a3 ++ data_lanes g 0 words → a5 ≡ a4 ++ pair_lanes g → a5 ≡ lanes p
lanes_put p g a0 a1 a2 a3 a4 a5 i words start layout none first both init begin third known fourth fifth =
    let b = block_lanes g 0 p.blocks in
    let o = op_lanes g 0 (flat p.blocks) in
    let s = second_lanes g 0 (flat p.blocks) in
    let e = pair_lanes g in
    let one : a1 ≡ b = first ∙ ap (λ (xs : List (List Command)). xs ++ b) none in
    let two : a2 ≡ b ++ (o ++ s) = both ∙ ap (λ (xs : List (List Command)). xs ++ (o ++ s)) one in
    let lane : i ≡ init_code g p.start = init ∙ ap (init_code g) begin in
    let three : a3 ≡ (b ++ (o ++ s)) ++ init_code g p.start ∷ [] = third ∙ (ap (λ (xs : List (List Command)). xs ++ i ∷ []) two ∙ ap (λ (x : List Command). (b ++ (o ++ s)) ++ x ∷ []) lane) in
    let four : a4 ≡ ((b ++ (o ++ s)) ++ init_code g p.start ∷ []) ++ data_lanes g 0 p.words = fourth ∙ (ap (λ (xs : List (List Command)). xs ++ data_lanes g 0 words) three ∙ ap (λ (ws : List Word). ((b ++ (o ++ s)) ++ init_code g p.start ∷ []) ++ data_lanes g 0 ws) known) in
    fifth ∙ (ap (λ (xs : List (List Command)). xs ++ e) four ∙ (joined b o s (data_lanes g 0 p.words) e (init_code g p.start) ∙ ap (λ (z : Layout). lanes_by z p) layout))
