-- Where labels are marked.
use Rattle.std.proofs.Common.{◌≡◌, ◌≢◌, ℕ, suc, ◌+◌, ◌<◌, ◌≤◌, Bool, true, false, cond, List, [], ◌∷◌, ◌++◌, length, map, take, get_or, Option, Some, None, refl, sym, ap, subst, ◌∙◌, arith}
use Rattle.std.specs.Prelude.{Vec, is_some, IsSome, ◌||◌}
use Rattle.std.specs.declared.alloc.Global.{Global}
use Rattle.std.specs.List.{AllByRecursion, list_any}
use Rattle.std.specs.Option.{option_map}
use Rattle.std.proofs.lemmas.List.{take_more, map-append, length-map, length-take-le}
use Rattle.ws_lang.specs.declared.instruction.Op.{Op}
use Rattle.ws_lang.specs.OpInstruction.{instruction_of}
use Rattle.ws_lang.specs.declared.fault.WsFault.TheVariants.{DuplicateLabel, UnknownLabel}
use Rattle.ws_lang.specs.Instruction.{Label, Instruction, Push, Duplicate, Swap, Discard, Copy, Slide, Add, Subtract, Multiply, Divide, Modulo, Store, Retrieve, Mark, Call, Jump, JumpIfZero, JumpIfNegative, Return, End, WriteCharacter, WriteNumber, ReadCharacter, ReadNumber, marks_of, uses_of}
use Rattle.ws_lang.specs.Step.{is_same_label, is_mark_of, place_of}
use Rattle.ws_lang.specs.Labels.{mark_of, found_with, found_at, HasMarks, target_of, first_place, LabelsRight, LabelsWrong}

-- labels that are the same are equal
pub same_labels : (x y : Label) → is_same_label x y ≡ true → x ≡ y
same_labels [] [] e = refl
same_labels [] (y ∷ ys) e = cc
same_labels (x ∷ xs) [] e = cc
same_labels (true ∷ xs) (true ∷ ys) e = ap (λ s. true ∷ s) (same_labels xs ys e)
same_labels (true ∷ xs) (false ∷ ys) e = cc
same_labels (false ∷ xs) (true ∷ ys) e = cc
same_labels (false ∷ xs) (false ∷ ys) e = ap (λ s. false ∷ s) (same_labels xs ys e)

pub same_label_itself : (x : Label) → is_same_label x x ≡ true
same_label_itself [] = refl
same_label_itself (true ∷ xs) = same_label_itself xs
same_label_itself (false ∷ xs) = same_label_itself xs

chosen : (b : Bool) (o : Option ℕ) (place : ℕ) → (b ≡ true → is_some o ≡ false) → cond b (Some place) o ≡ cond (is_some o) o (cond b (Some place) None)
chosen true None place h = refl
chosen true (Some k) place h = let e : true ≡ false = h refl in cc
chosen false None place h = refl
chosen false (Some k) place h = refl

kept : (b : Bool) (o : Option ℕ) (place : ℕ) → (b ≡ true → is_some o ≡ true) → o ≡ cond (is_some o) o (cond b (Some place) None)
kept true None place h = let e : false ≡ true = h refl in cc
kept false None place h = refl
kept true (Some k) place h = refl
kept false (Some k) place h = refl

-- the table after a label that it lacked was inserted
pub note_new : (entries : List (Vec Bool Global × ℕ)) (key label other : Vec Bool Global) (now : Option ℕ) (place : ℕ) → key.items ≡ label.items → is_some (found_at label entries) ≡ false → now ≡ cond (is_same_label key.items other.items) (Some place) (found_at other entries) → now ≡ cond (is_some (found_at other entries)) (found_at other entries) (cond (is_same_label label.items other.items) (Some place) None)
note_new entries key label other now place same absent e =
    e ∙ ap (λ l. cond (is_same_label l other.items) (Some place) (found_at other entries)) same
    ∙ chosen (is_same_label label.items other.items) (found_at other entries) place
    (λ h. ap (λ l. is_some (found_with l entries)) (sym (same_labels label.items other.items h)) ∙ absent)

-- the table where it has the label already
pub note_kept : (entries : List (Vec Bool Global × ℕ)) (label other : Vec Bool Global) (place : ℕ) → is_some (found_at label entries) ≡ true → found_at other entries ≡ cond (is_some (found_at other entries)) (found_at other entries) (cond (is_same_label label.items other.items) (Some place) None)
note_kept entries label other place present =
    kept (is_same_label label.items other.items) (found_at other entries) place
    (λ h. ap (λ l. is_some (found_with l entries)) (sym (same_labels label.items other.items h)) ∙ present)

first_of : (o : Option ℕ) (n : ℕ) (c : Bool) → option_map suc (cond (is_some o) o (cond c (Some n) None)) ≡ cond (is_some (option_map suc o)) (option_map suc o) (cond c (Some (suc n)) None)
first_of None n true = refl
first_of None n false = refl
first_of (Some k) n c = refl

mark_pushed : (b : Bool) (more o : Option ℕ) (n : ℕ) (c : Bool) → more ≡ cond (is_some o) o (cond c (Some n) None) → cond b (Some 0) (option_map suc more) ≡ cond (is_some (cond b (Some 0) (option_map suc o))) (cond b (Some 0) (option_map suc o)) (cond c (Some (suc n)) None)
mark_pushed true more o n c e = refl
mark_pushed false more o n c e = ap (option_map suc) e ∙ first_of o n c

-- one more instruction
pub mark_of-push : (label : Label) (code : List Instruction) (i : Instruction) → mark_of label (code ++ i ∷ []) ≡ cond (is_some (mark_of label code)) (mark_of label code) (cond (is_mark_of label i) (Some (length code)) None)
mark_of-push label [] i = refl
mark_of-push label (j ∷ code) i = mark_pushed (is_mark_of label j) (mark_of label (code ++ i ∷ [])) (mark_of label code) (length code) (is_mark_of label i) (mark_of-push label code i)

or_false : (b : Bool) → (b || false) ≡ b
or_false true = refl
or_false false = refl

-- what an instruction marks
pub is_mark_of-one : (i : Instruction) (label other : Label) → marks_of i ≡ label ∷ [] → is_mark_of other i ≡ is_same_label label other
is_mark_of-one i label other e = ap (list_any (λ marked. is_same_label marked other)) e ∙ or_false (is_same_label label other)

pub is_mark_of-none : (i : Instruction) (other : Label) → marks_of i ≡ [] → is_mark_of other i ≡ false
is_mark_of-none i other e = ap (list_any (λ marked. is_same_label marked other)) e

-- one more element of a list that is mapped
pub map-take_more : {A B : Type 0} (f : A → B) (xs : List A) (k : ℕ) (x : A) → k < length xs → x ≡ get_or xs k x → map f (take (k + 1) xs) ≡ map f (take k xs) ++ f x ∷ []
map-take_more f xs k x lt e = ap (map f) (take_more xs k x lt) ∙ map-append f (take k xs) (get_or xs k x ∷ []) ∙ ap (λ y. map f (take k xs) ++ f y ∷ []) (sym e)

pub length-map-take : {A B : Type 0} (f : A → B) (xs : List A) (k : ℕ) → k ≤ length xs → length (map f (take k xs)) ≡ k
length-map-take f xs k le = length-map (take k xs) f ∙ length-take-le k xs le

pushed_mark : (label : Label) (code : List Instruction) (i : Instruction) (place : ℕ) (old : Option ℕ) → length code ≡ place → old ≡ mark_of label code → mark_of label (code ++ i ∷ []) ≡ cond (is_some old) old (cond (is_mark_of label i) (Some place) None)
pushed_mark label code i place old e f = mark_of-push label code i ∙ ap (λ o. cond (is_some o) o (cond (is_mark_of label i) (Some (length code)) None)) (sym f) ∙ ap (λ n. cond (is_some old) old (cond (is_mark_of label i) (Some n) None)) e

own : (o : Option ℕ) → cond (is_some o) o None ≡ o
own None = refl
own (Some k) = refl

-- the table after an instruction that marks a label
pub table_mark : (ops : List Op) (place : ℕ) (op : Op) (label : Vec Bool Global) (old now : List (Vec Bool Global × ℕ)) → place < length ops → op ≡ get_or ops place op → marks_of (instruction_of op) ≡ label.items ∷ [] → HasMarks old (map instruction_of (take place ops)) → ((other : Vec Bool Global) → found_at other now ≡ cond (is_some (found_at other old)) (found_at other old) (cond (is_same_label label.items other.items) (Some place) None)) → HasMarks now (map instruction_of (take (place + 1) ops))
table_mark ops place op label old now lt at marks h new other =
    let code = map instruction_of (take place ops) in
    let i = instruction_of op in
    let le : place ≤ length ops = omega arith in
    new other
    ∙ ap (λ b. cond (is_some (found_at other old)) (found_at other old) (cond b (Some place) None)) (sym (is_mark_of-one i label.items other.items marks))
    ∙ sym (ap (mark_of other.items) (map-take_more instruction_of ops place op lt at) ∙ pushed_mark other.items code i place (found_at other old) (length-map-take instruction_of ops place le) (h other))

-- the table after an instruction that marks none
pub table_same : (ops : List Op) (place : ℕ) (op : Op) (old : List (Vec Bool Global × ℕ)) → place < length ops → op ≡ get_or ops place op → marks_of (instruction_of op) ≡ [] → HasMarks old (map instruction_of (take place ops)) → HasMarks old (map instruction_of (take (place + 1) ops))
table_same ops place op old lt at marks h other =
    let code = map instruction_of (take place ops) in
    let i = instruction_of op in
    let le : place ≤ length ops = omega arith in
    sym (ap (mark_of other.items) (map-take_more instruction_of ops place op lt at) ∙ pushed_mark other.items code i place (found_at other old) (length-map-take instruction_of ops place le) (h other)
    ∙ ap (λ b. cond (is_some (found_at other old)) (found_at other old) (cond b (Some place) None)) (is_mark_of-none i other.items marks)
    ∙ own (found_at other old))

-- no instruction marks a label and goes to one
marks_or_goes : (i : Instruction) (label other : Label) → marks_of i ≡ label ∷ [] → uses_of i ≡ []
marks_or_goes (Push n) label other e = refl
marks_or_goes Duplicate label other e = refl
marks_or_goes Swap label other e = refl
marks_or_goes Discard label other e = refl
marks_or_goes (Copy n) label other e = refl
marks_or_goes (Slide n) label other e = refl
marks_or_goes Add label other e = refl
marks_or_goes Subtract label other e = refl
marks_or_goes Multiply label other e = refl
marks_or_goes Divide label other e = refl
marks_or_goes Modulo label other e = refl
marks_or_goes Store label other e = refl
marks_or_goes Retrieve label other e = refl
marks_or_goes (Mark l) label other e = refl
marks_or_goes (Call l) label other e = absurd cc
marks_or_goes (Jump l) label other e = absurd cc
marks_or_goes (JumpIfZero l) label other e = absurd cc
marks_or_goes (JumpIfNegative l) label other e = absurd cc
marks_or_goes Return label other e = refl
marks_or_goes End label other e = refl
marks_or_goes WriteCharacter label other e = refl
marks_or_goes WriteNumber label other e = refl
marks_or_goes ReadCharacter label other e = refl
marks_or_goes ReadNumber label other e = refl

only_first : (P : Label → Type 0) (labels : List Label) (label : Label) → labels ≡ label ∷ [] → P label → AllByRecursion P labels
only_first P labels label e h = subst (AllByRecursion P) (sym e) (h, tt)

none_at_all : (P : Label → Type 0) (labels : List Label) → labels ≡ [] → AllByRecursion P labels
none_at_all P labels e = subst (AllByRecursion P) (sym e) tt

placed : (b : Bool) (o : Option ℕ) (n k : ℕ) → ((m : ℕ) → o ≡ Some m → n ≡ m) → cond b (Some 0) (option_map suc o) ≡ Some k → cond b 0 (suc n) ≡ k
placed true o n k h e = cc
placed false None n k h e = absurd cc
placed false (Some m) n k h e = let f : suc m ≡ k = cc in ap suc (h m refl) ∙ f

-- what the table has is the place
pub place_of-mark : (label : Label) (code : List Instruction) (k : ℕ) → mark_of label code ≡ Some k → place_of label code ≡ k
place_of-mark label [] k e = absurd cc
place_of-mark label (i ∷ code) k e = placed (is_mark_of label i) (mark_of label code) (place_of label code) k (λ n h. place_of-mark label code n h) e

-- the answers for an instruction that marks a label
pub right_mark : (entries : List (Vec Bool Global × ℕ)) (label : Vec Bool Global) (i : Instruction) (place : ℕ) (code : List Instruction) → HasMarks entries code → marks_of i ≡ label.items ∷ [] → found_at label entries ≡ Some place → (0 ≡ target_of code i) × LabelsRight code place i
right_mark entries label i place code h marks found =
    let none : uses_of i ≡ [] = marks_or_goes i label.items label.items marks in (
      sym (ap (λ labels. first_place labels code) none),
      record {
        first = only_first (λ l. mark_of l code ≡ Some place) (marks_of i) label.items marks (sym (h label) ∙ found);
        known = none_at_all (λ l. IsSome (mark_of l code)) (uses_of i) none;
      },
    )

pub wrong_mark : (entries : List (Vec Bool Global × ℕ)) (label : Vec Bool Global) (i : Instruction) (place start : ℕ) (code : List Instruction) → HasMarks entries code → marks_of i ≡ label.items ∷ [] → found_at label entries ≢ Some place → LabelsWrong code place start i (DuplicateLabel start)
wrong_mark entries label i place start code h marks found = (refl, (label.items, marks, λ e. found (h label ∙ e)))

some_there : (o : Option ℕ) (k : ℕ) → o ≡ Some k → IsSome o
some_there o k e = subst IsSome (sym e) refl

-- the answers for one that goes to a label
pub right_goal : (entries : List (Vec Bool Global × ℕ)) (label : Vec Bool Global) (i : Instruction) (place to : ℕ) (code : List Instruction) → HasMarks entries code → marks_of i ≡ [] → uses_of i ≡ label.items ∷ [] → found_at label entries ≡ Some to → (to ≡ target_of code i) × LabelsRight code place i
right_goal entries label i place to code h marks uses found =
    let there : mark_of label.items code ≡ Some to = sym (h label) ∙ found in (
      sym (ap (λ labels. first_place labels code) uses ∙ place_of-mark label.items code to there),
      record {
        first = none_at_all (λ l. mark_of l code ≡ Some place) (marks_of i) marks;
        known = only_first (λ l. IsSome (mark_of l code)) (uses_of i) label.items uses (some_there (mark_of label.items code) to there);
      },
    )

pub wrong_goal : (entries : List (Vec Bool Global × ℕ)) (label : Vec Bool Global) (i : Instruction) (place start : ℕ) (code : List Instruction) → HasMarks entries code → uses_of i ≡ label.items ∷ [] → found_at label entries ≡ None → LabelsWrong code place start i (UnknownLabel start)
wrong_goal entries label i place start code h uses found = (refl, (label.items, uses, sym (h label) ∙ found))
