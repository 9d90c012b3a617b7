-- Where the blocks go on, from the back of the code to the front.
use Rattle.std.proofs.Common.{zero, suc, ◌≡◌, ◌≢◌, ⊎_elim, ℕ, ◌+◌, ◌<◌, ◌≤◌, List, [], ◌∷◌, length, drop, set, get_or, refl, sym, ap, subst, ◌∙◌, arith, drop-cons}
use Rattle.std.proofs.lemmas.Bool.{cases_eq}
use Rattle.std.proofs.lemmas.List.{get_or-set_same, get_or-set_other}
use Rattle.wasm_bin.specs.declared.module.Instr.{Instr}
use Rattle.wasm_bin.specs.declared.module.Instr.TheVariants.{Block, Loop, If, Else, End}
use Rattle.wasm_parts.specs.declared.jumps.Jump.{Jump}
use Rattle.wasm_parts.specs.Jumps.{Leads, AreOpen, enclosing}

-- behind the first item
after_one : (jumps : List Jump) (depth : ℕ) (last : Jump) → get_or (drop 1 jumps) depth last ≡ get_or jumps (suc depth) last
after_one [] depth last = refl
after_one (jump ∷ jumps) depth last = refl

inner_leads : (code rest : List Instr) (last : Jump) (jumps : List Jump) (depth : ℕ) → AreOpen code rest last jumps → Leads code (suc depth) rest (get_or (drop 1 jumps) depth last)
inner_leads code rest last jumps depth h = let P : Jump → Type 0 = λ jump. Leads code (suc depth) rest jump in subst P (sym (after_one jumps depth last)) (h (suc depth))

else_leads : (code rest : List Instr) (place : ℕ) (last : Jump) (jumps : List Jump) (depth : ℕ) → rest ≡ drop (place + 1) code → AreOpen code rest last jumps
    → Leads code depth (Else ∷ rest) (get_or (enclosing Else place last jumps) depth last)
else_leads code rest place last jumps zero e h = record { past = (h zero).past; other = e }
else_leads code rest place last jumps (suc depth) e h = let l = inner_leads code rest last jumps depth h in record { past = l.past; other = l.other }

end_leads : (code rest : List Instr) (place : ℕ) (last : Jump) (jumps : List Jump) (depth : ℕ) → End ∷ rest ≡ drop place code → rest ≡ drop (place + 1) code → AreOpen code rest last jumps
    → Leads code depth (End ∷ rest) (get_or (enclosing End place last jumps) depth last)
end_leads code rest place last jumps zero f e h = record { past = e; other = f }
end_leads code rest place last jumps (suc depth) f e h = record { past = (h depth).past; other = (h depth).other }

pub enclosed : (instr : Instr) (code rest : List Instr) (place : ℕ) (last : Jump) (jumps : List Jump) → instr ∷ rest ≡ drop place code → rest ≡ drop (place + 1) code → AreOpen code rest last jumps
    → AreOpen code (instr ∷ rest) last (enclosing instr place last jumps)
enclosed (Block gives) code rest place last jumps f e h = λ depth. let l = inner_leads code rest last jumps depth h in record { past = l.past; other = l.other }
enclosed (Loop gives) code rest place last jumps f e h = λ depth. let l = inner_leads code rest last jumps depth h in record { past = l.past; other = l.other }
enclosed (If gives) code rest place last jumps f e h = λ depth. let l = inner_leads code rest last jumps depth h in record { past = l.past; other = l.other }
enclosed Else code rest place last jumps f e h = λ depth. else_leads code rest place last jumps depth e h
enclosed End code rest place last jumps f e h = λ depth. end_leads code rest place last jumps depth f e h
enclosed _ code rest place last jumps f e h = λ depth. record { past = (h depth).past; other = (h depth).other }

-- the blocks that enclose an instruction, from those that enclose what follows
pub open_before : (code : List Instr) (place before : ℕ) (instr : Instr) (last : Jump) (blocks blocks' : List Jump) → place ≡ before + 1 → before < length code → instr ≡ get_or code before instr
    → AreOpen code (drop place code) last blocks → blocks' ≡ enclosing instr before last blocks → AreOpen code (drop before code) last blocks'
open_before code place before instr last blocks blocks' next within is h e =
    let after : suc before ≡ before + 1 = omega arith in
    let parts : instr ∷ drop (before + 1) code ≡ drop before code = sym (drop-cons code before instr within ∙ (ap (λ (i : Instr). i ∷ drop (suc before) code) (sym is) ∙ ap (λ k. instr ∷ drop k code) after)) in
    let here : AreOpen code (drop (before + 1) code) last blocks = subst (λ k. AreOpen code (drop k code) last blocks) next h in
    let there : AreOpen code (drop before code) last (enclosing instr before last blocks) =
    subst (λ (rest : List Instr). AreOpen code rest last (enclosing instr before last blocks)) parts (enclosed instr code (drop (before + 1) code) before last blocks parts refl here) in
    subst (λ (bs : List Jump). AreOpen code (drop before code) last bs) (sym e) there

-- one more place of a table
pub filled_before : (code : List Instr) (table : List Jump) (place before : ℕ) (jump : Jump) → place ≡ before + 1 → length table ≡ length code → before < length code → Leads code 0 (drop place code) jump
    → ((k : ℕ) (none : Jump) → place ≤ k → k < length code → Leads code 0 (drop (k + 1) code) (get_or table k none))
    → (k : ℕ) (none : Jump) → before ≤ k → k < length code → Leads code 0 (drop (k + 1) code) (get_or (set table before jump) k none)
filled_before code table place before jump next len within leads filled k none le lt = ⊎_elim (λ e. same e) (λ ne. other ne) (cases_eq k before)
  where
    P : Jump → Type 0
    P j = Leads code 0 (drop (k + 1) code) j

    same : k ≡ before → P (get_or (set table before jump) k none)
    same e =
        let inside : before < length table = omega (arith, len) in
        let at : place ≡ k + 1 = omega arith in
        subst P (sym (ap (λ n. get_or (set table before jump) n none) e ∙ get_or-set_same table before jump none inside)) (subst (λ n. Leads code 0 (drop n code) jump) at leads)

    other : k ≢ before → P (get_or (set table before jump) k none)
    other ne =
        let behind : place ≤ k = omega arith in
        subst P (sym (get_or-set_other table before k jump none ne)) (filled k none behind lt)
