-- Each step of a valid module that can be linked keeps a configuration sound.
use Rattle.std.proofs.Common.{◌≡◌, ℕ, zero, suc, ◌+◌, ◌≤◌, Bool, true, false, List, [], ◌∷◌, ◌++◌, length, drop, Option, Some, None, refl, sym, ap, subst, ◌∙◌, inl, inr, arith, append_assoc}
use Rattle.std.specs.Prelude.{cond, nat_eq, slice_get, slice_index, slice_index_or}
use Rattle.std.proofs.lemmas.List.{length-drop}
use Rattle.wasm_bin.specs.declared.module.Instr.{Instr}
use Rattle.wasm_bin.specs.declared.module.Instr.TheVariants as instr
use Rattle.wasm_bin.specs.declared.module.Module.{Module}
use Rattle.wasm_valid.specs.Context.{Context}
use Rattle.wasm_valid.specs.Effects.{effect_of, numeric_effect, is_arity, have_arity, MayApply}
use Rattle.wasm_valid.specs.Nesting.{Code, Nothing, Single, InBlock, InLoop, InIf, InIfElse, spelled}
use Rattle.wasm_valid.specs.Rules.{IsValid}
use Rattle.wasm_valid.specs.Typing.{arity, HasType}
use Rattle.wasm_valid.proofs.Levels.{true_eq, and_both}
use Rattle.wasm_rule.specs.declared.act.Act.{Act}
use Rattle.wasm_rule.specs.declared.act.Act.TheVariants as act
use Rattle.wasm_rule.specs.Code.{past_end, else_part}
use Rattle.wasm_rule.specs.Config.{Label, Call, Config}
use Rattle.wasm_rule.specs.Rule.{with_call, entered, after, view_of, stepped}
use Rattle.wasm_rule.specs.Step.{act_of}
use Rattle.wasm_rule.specs.Values.{top}
use Rattle.wasm_rule.specs.Start.{IsLinkable}
use Rattle.wasm_rule.specs.Ready.{beneath_of, arities_of, context_in}
use Rattle.wasm_rule.proofs.Blocks.{ends_at, parts_at}
use Rattle.wasm_rule.proofs.Fitting.{arities, Follows, Fits, IsSound}
use Rattle.wasm_rule.proofs.FittingActs.{Keeps, Around, GoesOver, turned_keeps, act_turned, provided_holds, found_holds, mapped_holds}
use Rattle.wasm_rule.proofs.FittingBlocks.{target_at, out_keeps, returned_keeps, ending, step_at, entered_keeps, typed_fits, looped_keeps}
use Rattle.wasm_rule.proofs.FittingCalls.{call_keeps}

-- ---- branches

-- the label of a branch is there, and the values that it takes
br_effect : (c : Context) (labels : List ℕ) (depth a b : ℕ) → MayApply (effect_of c labels (instr.Br depth)) a b → (n : ℕ) × (slice_get labels depth ≡ Some n) × (n ≤ a)
unfolding effect_of
br_effect c labels depth a b h = mapped_holds {X = ℕ} (λ o. MayApply o a b) _ (slice_get labels depth) (λ n. n) h

br_if_effect : (c : Context) (labels : List ℕ) (depth a b : ℕ) → MayApply (effect_of c labels (instr.BrIf depth)) a b → (n : ℕ) × (slice_get labels depth ≡ Some n) × ((kept : ℕ) × (a ≡ kept + (n + 1)) × (b ≡ kept + n))
unfolding effect_of
br_if_effect c labels depth a b h = mapped_holds {X = ℕ} (λ o. MayApply o a b) _ (slice_get labels depth) (λ n. n) h

-- what holds of none doesn't hold under a condition that fails
condition_holds : {E : Type 0} (P : Option E → Type 0) (t : Bool) (e : E) → (P None → ⊥) → P (cond t (Some e) None) → t ≡ true
condition_holds P true e never h = refl
condition_holds P false e never h = absurd (never h)

arity_is : (n : ℕ) (o : Option ℕ) → is_arity n o ≡ true → o ≡ Some n
arity_is n None e = cc
arity_is n (Some k) e = ap (λ x. Some x) (true_eq k n e)

-- each entry of a table leads to a label of one arity
entry_at : (labels : List ℕ) (targets : List ℕ) (last n k : ℕ) → slice_get labels last ≡ Some n → have_arity labels n targets ≡ true → slice_get labels (slice_index_or targets k last) ≡ Some n
entry_at labels [] last n k e h = e
entry_at labels (target ∷ targets) last n zero e h = arity_is n (slice_get labels target) (and_both (is_arity n (slice_get labels target)) (have_arity labels n targets) h).0
entry_at labels (target ∷ targets) last n (suc k) e h = entry_at labels targets last n k e (and_both (is_arity n (slice_get labels target)) (have_arity labels n targets) h).1

-- a branch
branch_keeps : (m : Module) (c : Config) (call : Call) (callers : List Call) (tail : List Instr) (given count depth more n byte : ℕ) → length call.values ≡ beneath_of call.labels + more → Follows (context_in m call) call.labels tail given
    → slice_get (arities_of call) depth ≡ Some n → count ≤ more → Around m c call.gives callers → Keeps m (after m c call callers (act.Branch count depth) byte)
branch_keeps m c call callers tail given count depth more n byte size follows e le s =
    out_keeps m c call callers (drop count call.values) (drop depth call.labels) (beneath_of call.labels) n (target_at (context_in m call) call.labels depth n tail given follows e) (omega (arith, length-drop count call.values, size)) s

-- either of two acts
either_keeps : (m : Module) (c : Config) (call : Call) (callers : List Call) (test : Bool) (p q : Act) (byte : ℕ) → Keeps m (after m c call callers p byte) → Keeps m (after m c call callers q byte) → Keeps m (after m c call callers (cond test p q) byte)
either_keeps m c call callers true p q byte h k = h
either_keeps m c call callers false p q byte h k = k

-- what an instruction that forms no block makes of a configuration
single_keeps : (m : Module) → IsValid m → IsLinkable m → (c : Config) (call : Call) (callers : List Call) (tail : List Instr) (given byte n b : ℕ) (i : Instr) → MayApply (effect_of (context_in m call) (arities_of call) i) n b
    → length call.values ≡ beneath_of call.labels + n → Follows (context_in m call) call.labels tail given → GoesOver m call b → Around m c call.gives callers
    → Keeps m (after m c call callers (act_of m (view_of c call) i) byte)
unfolding effect_of numeric_effect
single_keeps m v linked c call callers tail given byte n b (instr.Block gives) h size follows over s = absurd h
single_keeps m v linked c call callers tail given byte n b (instr.Loop gives) h size follows over s = absurd h
single_keeps m v linked c call callers tail given byte n b (instr.If gives) h size follows over s = absurd h
single_keeps m v linked c call callers tail given byte n b instr.Else h size follows over s = absurd h
single_keeps m v linked c call callers tail given byte n b instr.End h size follows over s = absurd h
single_keeps m v linked c call callers tail given byte n b (instr.Br depth) h size follows over s =
    let r = br_effect (context_in m call) (arities_of call) depth n b h in
    branch_keeps m c call callers tail given 0 depth n r.0 byte size follows r.1 (omega arith) s
single_keeps m v linked c call callers tail given byte n b (instr.BrIf depth) h size follows over s =
    let (k, e, (kept, f, g)) = br_if_effect (context_in m call) (arities_of call) depth n b h in
    either_keeps m c call callers (nat_eq (top call.values) 0) (act.Take 1) (act.Branch 1 depth) byte
    (turned_keeps m c call callers (act.Take 1) byte n b size (omega arith) over s)
    (branch_keeps m c call callers tail given 1 depth n k byte size follows e (omega arith) s)
single_keeps m v linked c call callers tail given byte n b (instr.BrTable depths last) h size follows over s =
    let r = found_holds {X = ℕ} (λ o. MayApply o n b) (λ k. cond (have_arity (arities_of call) k depths) _ None) (slice_get (arities_of call) last) (λ n. n) h in
    let all = condition_holds (λ o. MayApply o n b) (have_arity (arities_of call) r.0 depths) _ (λ n. n) r.2 in
    let le : r.0 + 1 ≤ n = provided_holds (λ o. MayApply o n b) (have_arity (arities_of call) r.0 depths) (λ n. n) r.2 in
    branch_keeps m c call callers tail given 1 (slice_index_or depths (top call.values) last) n r.0 byte size follows (entry_at (arities_of call) depths last r.0 (top call.values) r.1 all) (omega arith) s
single_keeps m v linked c call callers tail given byte n b instr.Return h size follows over s = returned_keeps m c call callers call.values s
single_keeps m v linked c call callers tail given byte n b (instr.Call k) h size follows over s =
    call_keeps m v linked c call callers (context_in m call) (arities_of call) k (length c.calls) (top call.values) byte n b refl h size over s
single_keeps m v linked c call callers tail given byte n b i h size follows over s =
    turned_keeps m c call callers (act_of m (view_of c call) i) byte n b size (act_turned m (view_of c call) (context_in m call) (arities_of call) i n b h tt) over s

-- ---- blocks

-- the rest of the code after a block
abbrev Rest : Code → List Instr → List Instr
Rest others tail = spelled others ++ tail

rest_fits : (c : Context) (labels : List Label) (others : Code) (tail : List Instr) (size kept result given : ℕ) → size ≡ beneath_of labels + kept → HasType c (arities labels c.results) others (kept + result) given → Follows c labels tail given → Fits c labels (Rest others tail) (size + result)
rest_fits c labels others tail size kept result given e h follows = subst (Fits c labels (Rest others tail)) (omega (arith, e)) (typed_fits c labels others tail (kept + result) given h follows)

block_keeps : (m : Module) (c : Config) (call : Call) (callers : List Call) (result : Bool) (body others : Code) (values : List ℕ) (kept given : ℕ) (tail code : List Instr) → code ≡ (spelled body ++ instr.End ∷ spelled others) ++ tail → drop 1 call.code ≡ code
    → HasType (context_in m call) (arity result ∷ arities_of call) body 0 (arity result) → HasType (context_in m call) (arities_of call) others (kept + arity result) given
    → length values ≡ beneath_of call.labels + kept → Follows (context_in m call) call.labels tail given → Around m c call.gives callers → Keeps m (with_call c (entered call result values code) callers)
block_keeps m c call callers result body others values kept given tail code is here h k size follows s =
    let rest : List Instr = Rest others tail in
    let shape : code ≡ spelled body ++ instr.End ∷ rest = is ∙ append_assoc (spelled body) (instr.End ∷ spelled others) tail in
    let past : past_end 0 (drop 1 call.code) ≡ rest = ap (past_end 0) (here ∙ shape) ∙ (ends_at (context_in m call) (arity result ∷ arities_of call) body 0 (arity result) rest h).past in
    entered_keeps m c call callers result values body code rest (instr.End ∷ rest) h shape past (inl refl) (omega (arith, size)) (rest_fits (context_in m call) call.labels others tail (length values) kept (arity result) given size k follows) s

-- an if without an else, whose condition is false, begins at its end
skipped_keeps : (m : Module) (c : Config) (call : Call) (callers : List Call) (result : Bool) (body others : Code) (values : List ℕ) (kept given : ℕ) (tail : List Instr) → drop 1 call.code ≡ (spelled body ++ instr.End ∷ spelled others) ++ tail
    → HasType (context_in m call) (arity result ∷ arities_of call) body 0 (arity result) → arity result ≡ 0 → HasType (context_in m call) (arities_of call) others (kept + arity result) given
    → length values ≡ beneath_of call.labels + kept → Follows (context_in m call) call.labels tail given → Around m c call.gives callers → Keeps m (with_call c (entered call result values (else_part 0 (drop 1 call.code))) callers)
skipped_keeps m c call callers result body others values kept given tail here h none k size follows s =
    let rest : List Instr = Rest others tail in
    let shape : drop 1 call.code ≡ spelled body ++ instr.End ∷ rest = here ∙ append_assoc (spelled body) (instr.End ∷ spelled others) tail in
    let ends = ends_at (context_in m call) (arity result ∷ arities_of call) body 0 (arity result) rest h in
    entered_keeps m c call callers result values Nothing (else_part 0 (drop 1 call.code)) rest (instr.End ∷ rest) (sym none) (ap (else_part 0) shape ∙ ends.other) (ap (past_end 0) shape ∙ ends.past) (inl refl) (omega (arith, size))
    (rest_fits (context_in m call) call.labels others tail (length values) kept (arity result) given size k follows) s

-- where both parts are there
abbrev both_parts : Code → Code → Code → List Instr
both_parts body other others = spelled body ++ instr.Else ∷ (spelled other ++ instr.End ∷ spelled others)

parts_shape : (body other others : Code) (tail : List Instr) → both_parts body other others ++ tail ≡ spelled body ++ instr.Else ∷ (spelled other ++ instr.End ∷ Rest others tail)
parts_shape body other others tail =
    append_assoc (spelled body) (instr.Else ∷ (spelled other ++ instr.End ∷ spelled others)) tail
    ∙ ap (λ l. spelled body ++ instr.Else ∷ l) (append_assoc (spelled other) (instr.End ∷ spelled others) tail)

first_keeps : (m : Module) (c : Config) (call : Call) (callers : List Call) (result : Bool) (body other others : Code) (values : List ℕ) (kept given : ℕ) (tail : List Instr) → drop 1 call.code ≡ both_parts body other others ++ tail
    → HasType (context_in m call) (arity result ∷ arities_of call) body 0 (arity result) → HasType (context_in m call) (arity result ∷ arities_of call) other 0 (arity result) → HasType (context_in m call) (arities_of call) others (kept + arity result) given
    → length values ≡ beneath_of call.labels + kept → Follows (context_in m call) call.labels tail given → Around m c call.gives callers → Keeps m (with_call c (entered call result values (drop 1 call.code)) callers)
first_keeps m c call callers result body other others values kept given tail here h g k size follows s =
    let rest : List Instr = Rest others tail in
    let shape : drop 1 call.code ≡ spelled body ++ instr.Else ∷ (spelled other ++ instr.End ∷ rest) = here ∙ parts_shape body other others tail in
    let parts = parts_at (context_in m call) (arity result ∷ arities_of call) body other 0 (arity result) 0 (arity result) rest h g in
    let past : past_end 0 (drop 1 call.code) ≡ rest = ap (past_end 0) shape ∙ parts.past in
    entered_keeps m c call callers result values body (drop 1 call.code) rest (instr.Else ∷ (spelled other ++ instr.End ∷ rest)) h shape past (inr (spelled other ++ instr.End ∷ rest, refl, past)) (omega (arith, size))
    (rest_fits (context_in m call) call.labels others tail (length values) kept (arity result) given size k follows) s

second_keeps : (m : Module) (c : Config) (call : Call) (callers : List Call) (result : Bool) (body other others : Code) (values : List ℕ) (kept given : ℕ) (tail : List Instr) → drop 1 call.code ≡ both_parts body other others ++ tail
    → HasType (context_in m call) (arity result ∷ arities_of call) body 0 (arity result) → HasType (context_in m call) (arity result ∷ arities_of call) other 0 (arity result) → HasType (context_in m call) (arities_of call) others (kept + arity result) given
    → length values ≡ beneath_of call.labels + kept → Follows (context_in m call) call.labels tail given → Around m c call.gives callers → Keeps m (with_call c (entered call result values (else_part 0 (drop 1 call.code))) callers)
second_keeps m c call callers result body other others values kept given tail here h g k size follows s =
    let rest : List Instr = Rest others tail in
    let shape : drop 1 call.code ≡ spelled body ++ instr.Else ∷ (spelled other ++ instr.End ∷ rest) = here ∙ parts_shape body other others tail in
    let parts = parts_at (context_in m call) (arity result ∷ arities_of call) body other 0 (arity result) 0 (arity result) rest h g in
    entered_keeps m c call callers result values other (else_part 0 (drop 1 call.code)) rest (instr.End ∷ rest) g (ap (else_part 0) shape ∙ parts.other) (ap (past_end 0) shape ∙ parts.past) (inl refl) (omega (arith, size))
    (rest_fits (context_in m call) call.labels others tail (length values) kept (arity result) given size k follows) s

-- ---- a step

-- with the first of the values taken
taken : (values : List ℕ) (beneath more kept : ℕ) → length values ≡ beneath + more → more ≡ kept + 1 → length (drop 1 values) ≡ beneath + kept
taken values beneath more kept e f = length-drop 1 values ∙ omega arith

-- a call at some code
abbrev here : Call → List Instr → Call
here call code = record call { code = code }

code_keeps : (m : Module) → IsValid m → IsLinkable m → (c : Config) (call : Call) (callers : List Call) (code : Code) (tail : List Instr) (more given byte : ℕ) → length call.values ≡ beneath_of call.labels + more
    → HasType (context_in m call) (arities_of call) code more given → Follows (context_in m call) call.labels tail given → Around m c call.gives callers
    → Keeps m (step_at m c (here call (spelled code ++ tail)) callers (spelled code ++ tail) byte)
code_keeps m v linked c call callers Nothing tail more given byte size h follows s =
    ending m c call callers call.labels tail given byte (size ∙ ap (λ n. beneath_of call.labels + n) h) follows s
code_keeps m v linked c call callers (Single i others) tail more given byte size h follows s =
    single_keeps m v linked c (here call (i ∷ (spelled others ++ tail))) callers tail given byte more h.0 i h.1 size follows
    (typed_fits (context_in m call) call.labels others tail h.0 given h.2 follows) s
code_keeps m v linked c call callers (InBlock result body others) tail more given byte size h follows s =
    block_keeps m c (here call (spelled (InBlock result body others) ++ tail)) callers result body others call.values more given tail ((spelled body ++ instr.End ∷ spelled others) ++ tail) refl refl h.0 h.1 size follows s
code_keeps m v linked c call callers (InLoop result body others) tail more given byte size h follows s =
    looped_keeps m c call callers result body others tail more given size h follows s
code_keeps m v linked c call callers (InIf result body others) tail more given byte size h follows s =
    let full : Call = here call (spelled (InIf result body others) ++ tail) in
    let left = taken call.values (beneath_of call.labels) more h.0 size h.1 in
    either_keeps m c full callers (nat_eq (slice_index call.values 0) 0) (act.Otherwise result) (act.Block 1 result) byte
    (skipped_keeps m c full callers result body others (drop 1 call.values) h.0 given tail refl h.2 h.3 h.4 left follows s)
    (block_keeps m c full callers result body others (drop 1 call.values) h.0 given tail ((spelled body ++ instr.End ∷ spelled others) ++ tail) refl refl h.2 h.4 left follows s)
code_keeps m v linked c call callers (InIfElse result body other others) tail more given byte size h follows s =
    let full : Call = here call (spelled (InIfElse result body other others) ++ tail) in
    let left = taken call.values (beneath_of call.labels) more h.0 size h.1 in
    either_keeps m c full callers (nat_eq (slice_index call.values 0) 0) (act.Otherwise result) (act.Block 1 result) byte
    (second_keeps m c full callers result body other others (drop 1 call.values) h.0 given tail refl h.2 h.3 h.4 left follows s)
    (first_keeps m c full callers result body other others (drop 1 call.values) h.0 given tail refl h.2 h.3 h.4 left follows s)

-- a step keeps a configuration sound, if the run goes on
pub step_keeps : (m : Module) → IsValid m → IsLinkable m → (c : Config) (byte : ℕ) → IsSound m c → Keeps m (stepped m c c.calls byte)
step_keeps m v linked c byte s =
    let f = s.fits in
    let around : Around m c s.call.gives s.callers = record { wait = s.wait; later = s.later; globals = s.globals } in
    subst (λ calls. Keeps m (stepped m c calls byte)) (sym s.last)
    (subst (λ code. Keeps m (step_at m c (here s.call code) s.callers code byte)) (sym f.is)
    (code_keeps m v linked c s.call s.callers f.typed_code f.tail f.more f.given byte f.count f.typed f.follows around))
