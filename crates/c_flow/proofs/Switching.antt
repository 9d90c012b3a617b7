-- A `switch`: its table of labels leads to where its parts go on.
use Rattle.std.proofs.Common.{◌≡◌, ℕ, suc, ◌+◌, List, [], ◌∷◌, ◌++◌, length, Option, Some, None, Bool, true, false, refl, ap, ◌∙◌, arith, length-append}
use Rattle.std.specs.Prelude.{◌==◌, ◌||◌, slice_get, if◌then◌else◌}
use Rattle.c_syntax.specs.Plain as plain
use Rattle.c_syntax.specs.Plain.{CValue, CDecl, CStmt, CParts}
use Rattle.c_types.specs.Census.{scope_behind}
use Rattle.c_eval.specs.State.{Value, Cell, Word, State, Gives, Run}
use Rattle.c_eval.specs.Run.{◌>>=◌, give}
use Rattle.c_eval.specs.Memory.{within}
use Rattle.c_eval.specs.Operators.{of_word}
use Rattle.c_eval.specs.Environment.{Environment, constant_in, declaring, past_first, behind, Case, Default, has_target, target_of}
use Rattle.c_eval.specs.Eval.{Flow, Next, Broke, Continued, Returned, behind_switch}
use Rattle.c_code.specs.Code as code
use Rattle.c_code.specs.Code.{Instruction, Site, Label, is_wanted, label_place, case_jump, case_jumps, labels_in, part_code}
use Rattle.c_code.specs.Machine.{Control, Handler, numbered, in_new_block, with_top, broken_off, continued, unwind, step_of}
use Rattle.c_flow.proofs.Leading.{Bounded, Leads, moved, leads_then, leads_give, leads_first, leads_skip}
use Rattle.c_flow.proofs.Standing.{Stands, stands_first, stands_rest, end_place}
use Rattle.c_flow.proofs.Landing.{Lands}
use Rattle.c_flow.proofs.Printing.{of_word_leads}
use Rattle.c_flow.proofs.Flowing.{goes, Goes, next_skipped, block_goes}

-- ---- the table

abbrev Onward : {A : Type 0} → Bounded → Control → ℕ → List Label → (otherwise start : ℕ) → Run A → (A → Run Control) → Type 0
Onward p c word ls otherwise start m h =
    (at : ℕ) → Stands p.program at (case_jumps ls otherwise) → start ≡ at + length (case_jumps ls otherwise) → Leads p (give (moved c (start + label_place (Case word) ls otherwise) c.stack)) m h →
    Leads p (give (moved c at (Word word ∷ c.stack))) m h

after_it : (at start rest : ℕ) → start ≡ at + suc rest → start ≡ suc at + rest
after_it at start rest e = omega (arith, e)

to_label : (at start place rest : ℕ) → start ≡ at + suc rest → suc at + (place + rest) ≡ start + place
to_label at start place rest e = omega (arith, e)

jumped : (p : Bounded) (c : Control) (word other count at : ℕ) (st : State) →
    step_of p.program (code.JumpAt other count) (moved c at (Word word ∷ c.stack)) st ≡ Gives (if other == word then moved c (suc at + count) c.stack else moved c (suc at) (Word word ∷ c.stack)) st
unfolding step_of with_top of_word give
jumped p c word other count at st = refl

word_leads : {A : Type 0} (p : Bounded) (c : Control) (word other place : ℕ) (ls : List Label) (otherwise at start : ℕ) (m : Run A) (h : A → Run Control) → Onward p c word ls otherwise start m h →
    Stands p.program at (code.JumpAt other (place + length (case_jumps ls otherwise)) ∷ case_jumps ls otherwise) → start ≡ at + suc (length (case_jumps ls otherwise)) → (b : Bool) → (other == word) ≡ b →
    Leads p (give (moved c (start + (if b then place else label_place (Case word) ls otherwise)) c.stack)) m h → Leads p (give (moved c at (Word word ∷ c.stack))) m h
word_leads p c word other place ls otherwise at start m h k s e true g t =
    let rest : ℕ = length (case_jumps ls otherwise) in
    leads_skip p (moved c at (Word word ∷ c.stack)) (moved c (start + place) c.stack) (code.JumpAt other (place + rest)) s.0
    (λ st. jumped p c word other (place + rest) at st ∙ (ap (λ b. Gives (if b then moved c (suc at + (place + rest)) c.stack else moved c (suc at) (Word word ∷ c.stack)) st) g ∙ ap (λ k. Gives (moved c k c.stack) st) (to_label at start place rest e))) t
word_leads p c word other place ls otherwise at start m h k s e false g t =
    let rest : ℕ = length (case_jumps ls otherwise) in
    leads_skip p (moved c at (Word word ∷ c.stack)) (moved c (suc at) (Word word ∷ c.stack)) (code.JumpAt other (place + rest)) s.0
    (λ st. jumped p c word other (place + rest) at st ∙ ap (λ b. Gives (if b then moved c (suc at + (place + rest)) c.stack else moved c (suc at) (Word word ∷ c.stack)) st) g) (k (suc at) s.1 (after_it at start rest e) t)

label_leads : {A : Type 0} (p : Bounded) (c : Control) (word : ℕ) (label : Option ℕ) (place : ℕ) (ls : List Label) (otherwise at start : ℕ) (m : Run A) (h : A → Run Control) → Onward p c word ls otherwise start m h →
    Stands p.program at (case_jump label (place + length (case_jumps ls otherwise)) ++ case_jumps ls otherwise) → start ≡ at + length (case_jump label (place + length (case_jumps ls otherwise)) ++ case_jumps ls otherwise) →
    Leads p (give (moved c (start + (if is_wanted (Case word) label then place else label_place (Case word) ls otherwise)) c.stack)) m h → Leads p (give (moved c at (Word word ∷ c.stack))) m h
label_leads p c word None place ls otherwise at start m h k s e t = k at s e t
label_leads p c word (Some other) place ls otherwise at start m h k s e t = word_leads p c word other place ls otherwise at start m h k s e (other == word) refl t

past_table : (at start otherwise : ℕ) → start ≡ at + 2 → suc (suc at) + otherwise ≡ start + otherwise
past_table at start otherwise e = omega (arith, e)

-- from a table the machine goes to the label of the value on top, and the value is dropped
pub table_leads : {A : Type 0} (p : Bounded) (c : Control) (word : ℕ) (labels : List Label) (otherwise start : ℕ) (m : Run A) (h : A → Run Control) → Onward p c word labels otherwise start m h
unfolding step_of with_top give
table_leads p c word [] otherwise start m h at s e t =
    leads_skip p (moved c at (Word word ∷ c.stack)) (moved c (suc at) c.stack) code.Drop s.0 (λ st. refl)
    (leads_skip p (moved c (suc at) c.stack) (moved c (start + otherwise) c.stack) (code.Jump otherwise) s.1.0 (λ st. ap (λ k. Gives (moved c k c.stack) st) (past_table at start otherwise e)) t)
table_leads p c word (l ∷ ls) otherwise start m h at s e t =
    label_leads p c word l.word l.at ls otherwise at start m h (λ at1 s1 e1 t1. table_leads p c word ls otherwise start m h at1 s1 e1 t1) s e t

-- ---- the target

-- behind a statement the scope is what types have behind it
first_scope : (here : Environment) (d : CDecl) (first : Option CValue) → (past_first first (declaring d here)).scope ≡ scope_behind here.scope (plain.Local d)
first_scope here d None = refl
first_scope here d (Some v) = refl

pub behind_scope : (t : CStmt) (here : Environment) → (behind t here).scope ≡ scope_behind here.scope t
behind_scope (plain.Local d) here = first_scope here d d.first
behind_scope t here = refl

choose_place : (t rest b : Bool) (at x y d : ℕ) → (t || rest) ≡ b → (rest ≡ b → x ≡ (if b then y else d)) → (if t then at else x) ≡ (if b then (if t then at else y) else d)
choose_place true rest true at x y d e k = refl
choose_place true rest false at x y d e k = absurd (cc e)
choose_place false rest b at x y d e k = k e

-- a value with a case goes there, and one without goes on
place_by : (word d past : ℕ) (ps : CParts) (free : ℕ) (site : Site) (here : Environment) (at : ℕ) (b : Bool) → has_target (Case word) here.scope ps ≡ b →
    label_place (Case word) (labels_in ps free site here at) d ≡ (if b then label_place (Case word) (labels_in ps free site here at) past else d)
place_by word d past plain.NoPart free site here at true e = absurd (cc e)
place_by word d past plain.NoPart free site here at false e = refl
place_by word d past (plain.MorePart (plain.Label pos (Some a)) ps) free site here at b e =
    choose_place (constant_in here.scope a == word) (has_target (Case word) here.scope ps) b at _ _ d e (λ f. place_by word d past ps free site here (at + 0) b f)
place_by word d past (plain.MorePart (plain.Label pos None) ps) free site here at b e = place_by word d past ps free site here (at + 0) b e
place_by word d past (plain.MorePart (plain.Item t) ps) free site here at b e =
    place_by word d past ps free site (behind t here) (at + length (part_code (plain.Item t) free site here)) b (ap (λ s. has_target (Case word) s ps) (behind_scope t here) ∙ e)

by_target : (word x : ℕ) (labels : List Label) (past : ℕ) (b : Bool) → x ≡ (if b then label_place (Case word) labels past else label_place Default labels past) → x ≡ label_place (if b then Case word else Default) labels past
by_target word x labels past true e = e
by_target word x labels past false e = e

pub target_place : (word : ℕ) (ps : CParts) (free : ℕ) (site : Site) (here : Environment) (at past : ℕ) →
    label_place (Case word) (labels_in ps free site here at) (label_place Default (labels_in ps free site here at) past) ≡ label_place (target_of word here.scope ps) (labels_in ps free site here at) past
target_place word ps free site here at past =
    by_target word _ (labels_in ps free site here at) past (has_target (Case word) here.scope ps) (place_by word (label_place Default (labels_in ps free site here at) past) past ps free site here at (has_target (Case word) here.scope ps) refl)

-- ---- the end

-- a `break` ends a `switch`
pub switch_left : (p : Bounded) (c : Control) (at end to : ℕ) → slice_get p.program.instructions end ≡ Some code.Done → suc end ≡ to → (flow : Flow) →
    Leads p (goes (record c { at = at; opened = Handler None to ∷ c.opened }) end flow) (give (behind_switch flow)) (goes c to)
unfolding goes broken_off continued unwind step_of give
switch_left p c at end to s e Next = next_skipped p (record c { at = end; opened = Handler None to ∷ c.opened }) c to code.Done s (λ st. ap (λ k. Gives (moved c k c.stack) st) e)
switch_left p c at end to s e Broke = leads_give p (goes (record c { at = at; opened = Handler None to ∷ c.opened }) end Broke) (goes c to) Next (λ st. refl)
switch_left p c at end to s e Continued = leads_give p (goes (record c { at = at; opened = Handler None to ∷ c.opened }) end Continued) (goes c to) Continued (λ st. refl)
switch_left p c at end to s e (Returned v) = leads_give p (goes (record c { at = at; opened = Handler None to ∷ c.opened }) end (Returned v)) (goes c to) (Returned v) (λ st. refl)

switch_place : (mid to j b : ℕ) → to ≡ mid + suc (suc (suc (j + (b + 2)))) → suc (suc mid) + (j + b + 3) ≡ to
switch_place mid to j b e = omega (arith, e)

end_of_switch : (mid to j b : ℕ) → to ≡ mid + suc (suc (suc (j + (b + 2)))) → suc (suc (suc (suc (suc mid)) + j + b)) ≡ to
end_of_switch mid to j b e = omega (arith, e)

-- the whole, given what its parts do from the label to which the table leads
pub switch_goes : (p : Bounded) (slots : List (Option ℕ)) (is : List Instruction) (m : Run Value) (new : List (List Cell)) (count : ℕ) (labels : List Label) (body : List Instruction) (parts : (word o : ℕ) → Run Flow) → Lands p slots is m →
    ((word o : ℕ) (c : Control) (start to : ℕ) → to ≡ start + length body → c.slots ≡ slots ++ numbered o count → Stands p.program start body →
    Leads p (give (moved c (start + label_place (Case word) labels (label_place Default labels (length body))) c.stack)) (parts word o) (goes c to)) →
    Goes p slots
    (is ++ (code.CheckWord ∷ code.Switch (length (case_jumps labels (label_place Default labels (length body))) + length body + 3) ∷ code.Enter new count ∷ (case_jumps labels (label_place Default labels (length body)) ++ (body ++ code.Leave ∷ code.Done ∷ []))))
    (m >>= λ v. of_word v (λ x. within new (λ o. parts x o) >>= λ flow. give (behind_switch flow)))
unfolding step_of with_top give
switch_goes p slots is m new count labels body parts t u c to e sl s =
    leads_then p (λ v. give (moved c mid (v ∷ c.stack))) (t c mid refl sl (stands_first p.program c.at is _ s))
    (λ v. leads_first p (moved c mid (v ∷ c.stack)) (of_word v (λ x. give (moved c (suc mid) (Word x ∷ c.stack)))) code.CheckWord behind.0 (λ st. refl)
    (of_word_leads p v (λ x. give (moved c (suc mid) (Word x ∷ c.stack))) _ (goes c to) (λ x. with_word x)))
  where
    jumps : List Instruction
    jumps = case_jumps labels (label_place Default labels (length body))

    mid : ℕ
    mid = c.at + length is

    start : ℕ
    start = suc (suc (suc mid)) + length jumps

    last : ℕ
    last = start + length body

    behind : Stands p.program mid (code.CheckWord ∷ code.Switch (length jumps + length body + 3) ∷ code.Enter new count ∷ (jumps ++ (body ++ code.Leave ∷ code.Done ∷ [])))
    behind = stands_rest p.program c.at mid is _ refl s

    bodied : Stands p.program start (body ++ code.Leave ∷ code.Done ∷ [])
    bodied = stands_rest p.program (suc (suc (suc mid))) start jumps _ refl behind.1.1.1

    ended : Stands p.program last (code.Leave ∷ code.Done ∷ [])
    ended = stands_rest p.program start last body _ refl bodied

    place : to ≡ mid + suc (suc (suc (length jumps + (length body + 2))))
    place =
        let f : to ≡ mid + suc (suc (suc (length (jumps ++ (body ++ code.Leave ∷ code.Done ∷ []))))) = end_place c.at to is _ e in
        let l : length (jumps ++ (body ++ code.Leave ∷ code.Done ∷ [])) ≡ length jumps + length (body ++ code.Leave ∷ code.Done ∷ []) = length-append jumps _ in
        let k : length (body ++ code.Leave ∷ code.Done ∷ []) ≡ length body + 2 = length-append body _ in
        omega (arith, f, l, k)

    inside : Control
    inside = record c { at = suc (suc mid); opened = Handler None to ∷ c.opened }

    with_word : (x : ℕ) → Leads p (give (moved c (suc mid) (Word x ∷ c.stack))) (within new (λ o. parts x o) >>= λ flow. give (behind_switch flow)) (goes c to)
    with_word x =
        leads_skip p (moved c (suc mid) (Word x ∷ c.stack)) (moved inside (suc (suc mid)) (Word x ∷ c.stack)) (code.Switch (length jumps + length body + 3)) behind.1.0
        (λ st. ap (λ k. Gives (record c { at = suc (suc mid); stack = Word x ∷ c.stack; opened = Handler None k ∷ c.opened }) st) (switch_place mid to (length jumps) (length body) place))
        (leads_then p (goes inside (suc last))
        (block_goes p (moved inside (suc (suc mid)) (Word x ∷ c.stack)) c.stack last (suc last) count new (parts x) behind.1.1.0 refl ended.0
        (λ o. table_leads p (in_new_block inside o count) x labels (label_place Default labels (length body)) start (parts x o) (goes (in_new_block inside o count) last) (suc (suc (suc mid))) (stands_first p.program (suc (suc (suc mid))) jumps _ behind.1.1.1) refl
        (u x o (in_new_block inside o count) start last refl (ap (λ xs. xs ++ numbered o count) sl) (stands_first p.program start body _ bodied))))
        (λ flow. switch_left p c (suc (suc mid)) (suc last) to ended.1.0 (end_of_switch mid to (length jumps) (length body) place) flow))
