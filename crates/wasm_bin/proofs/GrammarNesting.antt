-- Code is accepted exactly where its instructions nest.
use Rattle.std.proofs.Common.{◌≡◌, ◌≢◌, ℕ, suc, ◌^◌, ◌<◌, Bool, true, false, List, [], ◌∷◌, ◌++◌, length, refl, sym, ap, subst, ◌∙◌, append_assoc, inl, inr, arith}
use Rattle.std.specs.Prelude.{◌⊎◌, ◌==◌}
use Rattle.std.proofs.lemmas.Bool.{eqb-true, eqb-false, eq-eqb, ne_eqb}
use Rattle.wasm_bin.specs.Opcode.{Coded, is_block}
use Rattle.wasm_bin.specs.Body.{Blocks, blocks_after, is_last, code_at}
use Rattle.wasm_bin.specs.Grammar.{IsSingle, Nests, Empty, Single, Enclosed, Alternative, IsExpression, SpellsCode}
use Rattle.wasm_bin.proofs.GrammarSteps.{Reads, by_test}
use Rattle.wasm_bin.proofs.GrammarCode.{Accepts, no_block, differ, code_sound, code_complete, blocks_of, blocks_of-length, outer_is, may_have_else_is, some_open, Plainly, Closing, prefix_closing, block_closes, else_closes}

after_block : (op : ℕ) (blocks : Blocks) → is_block op ≡ true → blocks_after op blocks ≡ blocks ++ (op == 0x04) ∷ []
unfolding blocks_after
after_block op blocks h = rw h refl

after_else : (op : ℕ) (blocks : Blocks) (flag : Bool) → op ≡ 0x05 → blocks_after op (blocks ++ flag ∷ []) ≡ blocks ++ false ∷ []
unfolding blocks_after is_block
after_else op blocks flag h = let k : blocks_after 0x05 (blocks ++ flag ∷ []) ≡ blocks ++ false ∷ [] = ap (λ xs. xs ++ false ∷ []) (outer_is blocks flag) in subst (λ n. blocks_after n (blocks ++ flag ∷ []) ≡ blocks ++ false ∷ []) (sym h) k

after_end : (op : ℕ) (blocks : Blocks) (flag : Bool) → op ≡ 0x0B → blocks_after op (blocks ++ flag ∷ []) ≡ blocks
unfolding blocks_after is_block
after_end op blocks flag h = subst (λ n. blocks_after n (blocks ++ flag ∷ []) ≡ blocks) (sym h) (outer_is blocks flag)

after_single : (op : ℕ) (blocks : Blocks) → IsSingle op → blocks_after op blocks ≡ blocks
unfolding blocks_after
after_single op blocks s = rw (s.opens_none, ne_eqb op 0x05 s.no_else, ne_eqb op 0x0B s.no_end) refl

not_last : (blocks : Blocks) (op : ℕ) → op ≢ 0x0B → is_last blocks op ≡ false
not_last blocks op h = rw (ne_eqb op 0x0B h) refl

open_not_last : (blocks : Blocks) (flag : Bool) (op : ℕ) → is_last (blocks ++ flag ∷ []) op ≡ false
open_not_last blocks flag op = by_test (op == 0x0B) (λ t. rw (t, some_open blocks flag) refl) (λ f. rw f refl)

block_no_end : (op : ℕ) → is_block op ≡ true → op ≢ 0x0B
unfolding is_block
block_no_end op h e = let k : false ≡ true = subst (λ m. is_block m ≡ true) e h in cc

goes_on : (i : Coded) (blocks after : Blocks) (code : List Coded) → is_last blocks i.0 ≡ false → blocks_after i.0 blocks ≡ after
    → ((is_last blocks i.0 ≡ true) × (code ≡ [])) ⊎ ((is_last blocks i.0 ≡ false) × Accepts (blocks_after i.0 blocks) code) → Accepts after code
goes_on i blocks after code f e (inl h) = absurd (differ (is_last blocks i.0) f h.0)
goes_on i blocks after code f e (inr h) = subst (λ bs. Accepts bs code) e h.1

ends_here : (i : Coded) (code : List Coded) → i.0 ≡ 0x0B → ((is_last [] i.0 ≡ true) × (code ≡ [])) ⊎ ((is_last [] i.0 ≡ false) × Accepts (blocks_after i.0 []) code) → code ≡ []
ends_here i code e (inl h) = h.1
ends_here i code e (inr h) = let k : is_last [] i.0 ≡ true = rw e refl in absurd (differ (is_last [] i.0) h.0 k)

else_case : (i : Coded) (code : List Coded) (stack : List Bool) → ((s : List Bool) → Accepts (blocks_of s) code → Closing s code) → i.0 ≡ 0x05 → Accepts (blocks_of stack) (i ∷ code) → Closing stack (i ∷ code)
else_case i code [] again five a = let k : false ≡ true = a.0.in_if five in absurd cc
else_case i code (true ∷ outs) again five a =
    else_closes outs i code five (again (false ∷ outs) (goes_on i (blocks_of (true ∷ outs)) (blocks_of (false ∷ outs)) code (open_not_last (blocks_of outs) true i.0) (after_else i.0 (blocks_of outs) true five) a.1))
else_case i code (false ∷ outs) again five a = let k : false ≡ true = sym (may_have_else_is (blocks_of outs) false) ∙ a.0.in_if five in absurd cc

end_case : (i : Coded) (code : List Coded) (stack : List Bool) → ((s : List Bool) → Accepts (blocks_of s) code → Closing s code) → i.0 ≡ 0x0B → Accepts (blocks_of stack) (i ∷ code) → Closing stack (i ∷ code)
end_case i code [] again e a = record { inside = []; last = i; parts = ap (λ xs. i ∷ xs) (ends_here i code e a.1); nests = Empty; is_end = e }
end_case i code (flag ∷ outs) again e a = Plainly [] i code refl Empty e (again outs (goes_on i (blocks_of (flag ∷ outs)) (blocks_of outs) code (open_not_last (blocks_of outs) flag i.0) (after_end i.0 (blocks_of outs) flag e) a.1))

-- accepted code closes the open blocks
pub closing_of : (code : List Coded) (stack : List Bool) → Accepts (blocks_of stack) code → Closing stack code
closing_of [] stack a = absurd a
closing_of (i ∷ code) stack a =
    by_test (is_block i.0)
    (λ b.
    let room : length stack < 2 ^ 20 = subst (λ n. n < 2 ^ 20) (blocks_of-length stack) (a.0.room b) in
    block_closes stack i code b room (closing_of code ((i.0 == 0x04) ∷ stack) (goes_on i (blocks_of stack) (blocks_of ((i.0 == 0x04) ∷ stack)) code (not_last (blocks_of stack) i.0 (block_no_end i.0 b)) (after_block i.0 (blocks_of stack) b) a.1)))
    (λ b. by_test (i.0 == 0x05)
    (λ five. else_case i code stack (λ s h. closing_of code s h) (eqb-true i.0 0x05 five) a)
    (λ four. by_test (i.0 == 0x0B)
    (λ e. end_case i code stack (λ s h. closing_of code s h) (eqb-true i.0 0x0B e) a)
    (λ e.
    let single : IsSingle i.0 = record { opens_none = b; no_else = eqb-false i.0 0x05 four; no_end = eqb-false i.0 0x0B e } in
    prefix_closing stack (i ∷ []) code (λ others n. Single i others single n)
    (closing_of code stack (goes_on i (blocks_of stack) (blocks_of stack) code (not_last (blocks_of stack) i.0 single.no_end) (after_single i.0 (blocks_of stack) single) a.1)))))

no_five : (op : ℕ) → op ≡ 0x0B → op ≡ 0x05 → ⊥
no_five op e f = omega arith

no_block_end : (op : ℕ) → op ≡ 0x0B → is_block op ≡ true → ⊥
no_block_end op e b = block_no_end op b e

end_accepts : (stack : List Bool) (flag : Bool) (last : Coded) (code : List Coded) → last.0 ≡ 0x0B → Accepts (blocks_of stack) code → Accepts (blocks_of (flag ∷ stack)) (last ∷ code)
end_accepts stack flag last code e a = (
  record { room = λ b. absurd (no_block_end last.0 e b); in_if = λ f. absurd (no_five last.0 e f) },
  inr (open_not_last (blocks_of stack) flag last.0, subst (λ bs. Accepts bs code) (sym (after_end last.0 (blocks_of stack) flag e)) a),
)

else_accepts : (stack : List Bool) (middle : Coded) (code : List Coded) → middle.0 ≡ 0x05 → Accepts (blocks_of (false ∷ stack)) code → Accepts (blocks_of (true ∷ stack)) (middle ∷ code)
else_accepts stack middle code e a = (
  record { room = λ b. absurd (no_block middle.0 e b); in_if = λ f. may_have_else_is (blocks_of stack) true },
  inr (open_not_last (blocks_of stack) true middle.0, subst (λ bs. Accepts bs code) (sym (after_else middle.0 (blocks_of stack) true e)) a),
)

block_accepts : (stack : List Bool) (i : Coded) (code : List Coded) → is_block i.0 ≡ true → length stack < 2 ^ 20 → Accepts (blocks_of ((i.0 == 0x04) ∷ stack)) code → Accepts (blocks_of stack) (i ∷ code)
block_accepts stack i code b room a = (
  record { room = λ _. subst (λ n. n < 2 ^ 20) (sym (blocks_of-length stack)) room; in_if = λ f. absurd (no_block i.0 f b) },
  inr (not_last (blocks_of stack) i.0 (block_no_end i.0 b), subst (λ bs. Accepts bs code) (sym (after_block i.0 (blocks_of stack) b)) a),
)

single_accepts : (stack : List Bool) (i : Coded) (code : List Coded) → IsSingle i.0 → Accepts (blocks_of stack) code → Accepts (blocks_of stack) (i ∷ code)
single_accepts stack i code s a = (
  record { room = λ b. absurd (differ (is_block i.0) s.opens_none b); in_if = λ f. absurd (s.no_else f) },
  inr (not_last (blocks_of stack) i.0 s.no_end, subst (λ bs. Accepts bs code) (sym (after_single i.0 (blocks_of stack) s)) a),
)

if_opens : (op : ℕ) → op ≡ 0x04 → is_block op ≡ true
unfolding is_block
if_opens op h = rw h refl

-- instructions that nest are accepted within their blocks
pub nests_accept : {depth : ℕ} {inside : List Coded} → Nests depth inside → (stack : List Bool) (rest : List Coded) → length stack ≡ depth → Accepts (blocks_of stack) rest → Accepts (blocks_of stack) (inside ++ rest)
nests_accept Empty stack rest len a = a
nests_accept (Single i others s n) stack rest len a = single_accepts stack i (others ++ rest) s (nests_accept n stack rest len a)
nests_accept (Enclosed i last inside others b l room n k) stack rest len a =
    let behind = end_accepts stack (i.0 == 0x04) last (others ++ rest) l (nests_accept k stack rest len a) in
    let within = nests_accept n ((i.0 == 0x04) ∷ stack) (last ∷ (others ++ rest)) (ap suc len) behind in
    subst (λ xs. Accepts (blocks_of stack) (i ∷ xs)) (sym (append_assoc inside (last ∷ others) rest)) (block_accepts stack i (inside ++ last ∷ (others ++ rest)) b (subst (λ n. n < 2 ^ 20) (sym len) room) within)
nests_accept (Alternative i middle last inside otherwise others f m l room n j k) stack rest len a =
    let behind = end_accepts stack false last (others ++ rest) l (nests_accept k stack rest len a) in
    let second = nests_accept j (false ∷ stack) (last ∷ (others ++ rest)) (ap suc len) behind in
    let between = else_accepts stack middle (otherwise ++ last ∷ (others ++ rest)) m second in
    let first = nests_accept n (true ∷ stack) (middle ∷ (otherwise ++ last ∷ (others ++ rest))) (ap suc len) between in
    let flag : true ≡ (i.0 == 0x04) = sym (eq-eqb i.0 0x04 f) in
    let regroup : (inside ++ middle ∷ (otherwise ++ last ∷ others)) ++ rest ≡ inside ++ middle ∷ (otherwise ++ last ∷ (others ++ rest)) = append_assoc inside (middle ∷ (otherwise ++ last ∷ others)) rest ∙ ap (λ xs. inside ++ middle ∷ xs) (append_assoc otherwise (last ∷ others) rest) in
    subst (λ xs. Accepts (blocks_of stack) (i ∷ xs)) (sym regroup)
    (block_accepts stack i (inside ++ middle ∷ (otherwise ++ last ∷ (others ++ rest))) (if_opens i.0 f) (subst (λ n. n < 2 ^ 20) (sym len) room)
    (subst (λ b. Accepts (blocks_of (b ∷ stack)) (inside ++ middle ∷ (otherwise ++ last ∷ (others ++ rest)))) flag first))

expression_accepts : (code : List Coded) → IsExpression code → Accepts [] code
expression_accepts code e =
    let last : Accepts [] (e.last ∷ []) = (record { room = λ b. absurd (no_block_end e.last.0 e.is_end b); in_if = λ f. absurd (no_five e.last.0 e.is_end f) }, inl (rw e.is_end refl, refl)) in
    subst (Accepts []) (sym e.parts) (nests_accept e.nests [] (e.last ∷ []) refl last)

pub code_reads : Reads (λ p. code_at (length p.left) [] p) SpellsCode
unfolding SpellsCode
code_reads = record {
  sound = λ p code q h.
      let s = code_sound (length p.left) [] p code q h in
      record { front = s.0.front; parts = s.0.parts; same = s.0.same; spelled = (closing_of code [] s.1, s.0.spelled) };
  complete = λ p code q t.
      code_complete code (length p.left) [] p q (omega arith) (record { front = t.front; parts = t.parts; same = t.same; spelled = t.spelled.1 }) (expression_accepts code t.spelled.0);
}
