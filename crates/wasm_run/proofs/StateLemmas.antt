-- What blocks and branches make of a state.
use Rattle.std.proofs.Common.{zero, suc, ◌≡◌, ◌≢◌, ℕ, ◌+◌, Bool, List, [], ◌∷◌, length, drop, map, Some, None, OnOk, refl, sym, ap, ◌∙◌, arith}
use Rattle.std.specs.Prelude.{slice_get}
use Rattle.std.specs.declared.result.Result.{Result}
use Rattle.std.proofs.lemmas.Result.{on_ok_weaker}
use Rattle.wasm_bin.specs.declared.module.Instr.{Instr}
use Rattle.wasm_bin.specs.declared.module.Module.{Module}
use Rattle.wasm_rule.specs.declared.act.Act.TheVariants as act
use Rattle.wasm_parts.specs.declared.frame.CallFrame.{CallFrame}
use Rattle.wasm_parts.specs.declared.frame.Mark.{Mark}
use Rattle.wasm_parts.specs.declared.jumps.Jump.{Jump}
use Rattle.wasm_run.specs.declared.state.State.{State}
use Rattle.wasm_rule.specs.Code.{past_end, else_part, own_code}
use Rattle.wasm_parts.specs.Jumps.{Leads}
use Rattle.wasm_rule.specs.Config.{Config}
use Rattle.wasm_rule.specs.Rule.{entered, branched, with_call, left, closed, going_out, returned}
use Rattle.wasm_parts.specs.Frames.{marked_label, labels_of, call_of}
use Rattle.wasm_run.specs.States.{callers_of, config_of, acted}
use Rattle.wasm_parts.proofs.FrameLemmas.{next_place}

-- the code that is run
abbrev code_in : Module → State → List Instr
code_in m s = own_code m s.frame.body

-- the state with another last call
abbrev with_frame : Module → State → CallFrame → Config
with_frame m s frame = with_call (config_of m s) (call_of m frame) (callers_of m s.callers.items)

abbrev IsEntered : Module → State → ℕ → Bool → Jump → ℕ → CallFrame → Type 0
IsEntered m s count gives jump place frame =
    drop jump.past (code_in m s) ≡ past_end 0 (drop 1 (drop s.frame.place (code_in m s))) → call_of m frame ≡ entered (call_of m s.frame) gives (drop count s.frame.values) (drop place (code_in m s))

past_here : (m : Module) (s : State) (jump : Jump) → Leads (code_in m s) 0 (drop (s.frame.place + 1) (code_in m s)) jump → drop jump.past (code_in m s) ≡ past_end 0 (drop 1 (drop s.frame.place (code_in m s)))
past_here m s jump leads = sym leads.past ∙ ap (past_end 0) (next_place s.frame.place (code_in m s))

pub block_made : (m : Module) (s : State) (count : ℕ) (gives : Bool) (jump : Jump) (frame : CallFrame) → IsEntered m s count gives jump (s.frame.place + 1) frame → Leads (code_in m s) 0 (drop (s.frame.place + 1) (code_in m s)) jump
    → with_frame m s frame ≡ acted m s (act.Block count gives) 0
block_made m s count gives jump frame h leads =
    ap (λ call. with_call (config_of m s) call (callers_of m s.callers.items))
    (h (past_here m s jump leads) ∙ ap (entered (call_of m s.frame) gives (drop count s.frame.values)) (next_place s.frame.place (code_in m s)))

pub block_done : {T E : Type 0} (r : Result T E) (s : State) (count : ℕ) (gives : Bool) (jump : Jump) (frame : CallFrame) → OnOk r ((m : Module) → IsEntered m s count gives jump (s.frame.place + 1) frame)
    → OnOk r ((m : Module) → Leads (code_in m s) 0 (drop (s.frame.place + 1) (code_in m s)) jump → with_frame m s frame ≡ acted m s (act.Block count gives) 0)
block_done r s count gives jump frame h = on_ok_weaker r (λ k m leads. block_made m s count gives jump frame (k m) leads) h

pub otherwise_made : (m : Module) (s : State) (gives : Bool) (jump : Jump) (frame : CallFrame) → IsEntered m s 1 gives jump jump.other frame → Leads (code_in m s) 0 (drop (s.frame.place + 1) (code_in m s)) jump
    → with_frame m s frame ≡ acted m s (act.Otherwise gives) 0
otherwise_made m s gives jump frame h leads =
    ap (λ call. with_call (config_of m s) call (callers_of m s.callers.items))
    (h (past_here m s jump leads) ∙ ap (entered (call_of m s.frame) gives (drop 1 s.frame.values)) (sym leads.other ∙ ap (else_part 0) (next_place s.frame.place (code_in m s))))

pub otherwise_done : {T E : Type 0} (r : Result T E) (s : State) (gives : Bool) (jump : Jump) (frame : CallFrame) → OnOk r ((m : Module) → IsEntered m s 1 gives jump jump.other frame)
    → OnOk r ((m : Module) → Leads (code_in m s) 0 (drop (s.frame.place + 1) (code_in m s)) jump → with_frame m s frame ≡ acted m s (act.Otherwise gives) 0)
otherwise_done r s gives jump frame h = on_ok_weaker r (λ k m leads. otherwise_made m s gives jump frame (k m) leads) h

-- the labels from a mark on
labels_at : {A B : Type 0} (f : A → B) (marks : List A) (depth : ℕ) (mark : A) → slice_get marks depth ≡ Some mark → drop depth (map f marks) ≡ f mark ∷ map f (drop (depth + 1) marks)
labels_at f [] depth mark e = absurd cc
labels_at f (x ∷ marks) zero mark e = let same : x ≡ mark = cc in ap (λ y. f y ∷ map f marks) same
labels_at f (x ∷ marks) (suc depth) mark e =
    let next : suc depth + 1 ≡ suc (depth + 1) = omega arith in
    labels_at f marks depth mark e ∙ ap (λ n. f mark ∷ map f (drop n (x ∷ marks))) (sym next)

no_labels : {A B : Type 0} (f : A → B) (marks : List A) (depth : ℕ) → slice_get marks depth ≡ None → drop depth (map f marks) ≡ []
no_labels f [] zero e = refl
no_labels f [] (suc depth) e = refl
no_labels f (x ∷ marks) zero e = absurd cc
no_labels f (x ∷ marks) (suc depth) e = no_labels f marks depth e

pub branch_made : (m : Module) (s : State) (count depth : ℕ) (mark : Mark) (frame : CallFrame) → slice_get s.frame.marks depth ≡ Some mark
    → call_of m frame ≡ branched (call_of m s.frame) (marked_label (code_in m s) mark) (labels_of m s.frame (drop (depth + 1) s.frame.marks)) (drop count s.frame.values)
    → with_frame m s frame ≡ acted m s (act.Branch count depth) 0
branch_made m s count depth mark frame e h =
    ap (λ call. with_call (config_of m s) call (callers_of m s.callers.items)) h
    ∙ sym (ap (going_out (config_of m s) (call_of m s.frame) (callers_of m s.callers.items) (drop count s.frame.values)) (labels_at (marked_label (code_in m s)) s.frame.marks depth mark e))

pub branch_done : {T E : Type 0} (r : Result T E) (s : State) (count depth : ℕ) (mark : Mark) (frame : CallFrame) → slice_get s.frame.marks depth ≡ Some mark
    → OnOk r ((m : Module) → call_of m frame ≡ branched (call_of m s.frame) (marked_label (code_in m s) mark) (labels_of m s.frame (drop (depth + 1) s.frame.marks)) (drop count s.frame.values))
    → OnOk r ((m : Module) → with_frame m s frame ≡ acted m s (act.Branch count depth) 0)
branch_done r s count depth mark frame e h = on_ok_weaker r (λ k m. branch_made m s count depth mark frame e (k m)) h

pub leave_made : (m : Module) (s : State) (mark : Mark) (frame : CallFrame) → slice_get s.frame.marks 0 ≡ Some mark
    → call_of m frame ≡ record (call_of m s.frame) { labels = labels_of m s.frame (drop 1 s.frame.marks); code = drop mark.target (code_in m s) }
    → with_frame m s frame ≡ acted m s act.Leave 0
leave_made m s mark frame e h =
    ap (λ call. with_call (config_of m s) call (callers_of m s.callers.items)) h
    ∙ sym (ap (left (config_of m s) (call_of m s.frame) (callers_of m s.callers.items)) (labels_at (marked_label (code_in m s)) s.frame.marks 0 mark e))

pub close_made : (m : Module) (s : State) (marks : List Mark) (frame : CallFrame) → s.frame.marks ≡ marks → length marks ≢ 0
    → call_of m frame ≡ record (call_of m s.frame) { labels = labels_of m s.frame (drop 1 s.frame.marks); code = drop 1 (call_of m s.frame).code }
    → with_frame m s frame ≡ acted m s act.End 0
close_made m s [] frame e some h = absurd (some refl)
close_made m s (mark ∷ marks) frame e some h =
    ap (λ call. with_call (config_of m s) call (callers_of m s.callers.items)) (h ∙ ap (λ l. record (call_of m s.frame) { labels = labels_of m s.frame (drop 1 l); code = drop 1 (call_of m s.frame).code }) e)
    ∙ sym (ap (λ l. closed (config_of m s) (call_of m s.frame) (callers_of m s.callers.items) (labels_of m s.frame l)) e)

out_made : (m : Module) (s new : State) (count depth : ℕ) → slice_get s.frame.marks depth ≡ None
    → config_of m new ≡ returned (config_of m s) (call_of m s.frame) (drop count s.frame.values) (callers_of m s.callers.items)
    → config_of m new ≡ acted m s (act.Branch count depth) 0
out_made m s new count depth e h =
    h ∙ sym (ap (going_out (config_of m s) (call_of m s.frame) (callers_of m s.callers.items) (drop count s.frame.values)) (no_labels (marked_label (code_in m s)) s.frame.marks depth e))

pub out_done : {T E : Type 0} (r : Result T E) (s new : State) (count depth : ℕ) → slice_get s.frame.marks depth ≡ None
    → OnOk r ((m : Module) → config_of m new ≡ returned (config_of m s) (call_of m s.frame) (drop count s.frame.values) (callers_of m s.callers.items))
    → OnOk r ((m : Module) → config_of m new ≡ acted m s (act.Branch count depth) 0)
out_done r s new count depth e h = on_ok_weaker r (λ k m. out_made m s new count depth e (k m)) h
