-- What lines say is a good program: its blocks, its start and its words.
use Rattle.std.proofs.Common.{◌≡◌, ℕ, zero, suc, ◌+◌, ◌-◌, ◌^◌, ◌≤◌, Bool, true, false, not, ◌||◌, cond, if◌then◌else◌, List, [], ◌∷◌, ◌++◌, Option, Some, None, is_some, unwrap_or, length, take, map, position, codes, refl, sym, ap, ◌∙◌, subst, arith, append-nil, length-append}
use Rattle.std.specs.List.{AllByRecursion, list_any, position_or_len, flat_map}
use Rattle.std.specs.Option.{option_to_list}
use Rattle.std.specs.Str.{bytes_eq}
use Rattle.std.proofs.lemmas.Bool.{le-ltb, ne_eqb, or_parts, or_from}
use Rattle.std.proofs.lemmas.List.{length-map}
use Rattle.std.proofs.lemmas.List.Recursion.{or_push}
use Rattle.std.proofs.lemmas.List.Sums.{sum_by-cons}
use Rattle.eir_core.specs.declared.ops.Op.{Op}
use Rattle.eir_core.specs.Eir.{Eir, IsEir, HasGoodBlocks, size_of, is_empty, has_jump_inside}
use Rattle.eir_core.specs.Eir as eir
use Rattle.eir_line.specs.declared.words.BinaryOp.TheVariants as binary
use Rattle.eir_line.specs.Line.{Line, Statement, Binary, Long, Bytes}
use Rattle.eir_text.specs.Names.{defined_after}
use Rattle.eir_text.specs.Sections.{Placed, is_jump, is_operation, text_lines}
use Rattle.eir_text.specs.Blocks.{Current, first_block, behind_labels, behind_statement, block_labels, filled, ended_by, kept_by, blocks_from}
use Rattle.eir_text.specs.Layout.{word_count, data_end}
use Rattle.eir_text.specs.Spells.{wrapped, op_for, words_for, name_value, program_said}

all_append : {A : Type 0} (P : A → Type 0) (xs ys : List A) → AllByRecursion P xs → AllByRecursion P ys → AllByRecursion P (xs ++ ys)
all_append P [] ys g h = h
all_append P (x ∷ xs) ys g h = (g.0, all_append P xs ys g.1 h)

-- nothing is found where no element passes
prefix_all : {A : Type 0} (p : A → Bool) (xs : List A) → AllByRecursion (λ x. p x ≡ false) xs → position_or_len p xs ≡ length xs
prefix_all p [] h = refl
prefix_all p (x ∷ xs) h =
    let rest : position_or_len p xs ≡ length xs = prefix_all p xs h.1 in
    ap (λ b. cond (not b) (1 + position_or_len p xs) 0) h.0 ∙ (ap (λ n. 1 + n) rest ∙ (let e : 1 + length xs ≡ suc (length xs) = omega arith in e))

position_none : {A : Type 0} (p : A → Bool) (xs : List A) → AllByRecursion (λ x. p x ≡ false) xs → position p xs ≡ None
position_none p xs h =
    let e : position_or_len p xs ≡ length xs = prefix_all p xs h in
    let l : length xs ≤ position_or_len p xs = omega arith in
    ap (λ b. cond b (Some (position_or_len p xs)) None) (le-ltb (position_or_len p xs) (length xs) l)

-- the operation, if there is one, is a jump
abbrev jump_in : Option Op → Bool
jump_in None = false
jump_in (Some o) = eir.is_jump o

jumps_agree : (v : List ℕ → ℕ) (s : Statement) → jump_in (op_for v s) ≡ is_jump s
jumps_agree v (Binary binary.Mov r t) = refl
jumps_agree v (Binary binary.Add r t) = refl
jumps_agree v (Binary binary.Sub r t) = refl
jumps_agree v (Binary binary.Load r t) = refl
jumps_agree v (Binary binary.Store r t) = refl
jumps_agree v (Binary (binary.Set c) r t) = refl
jumps_agree v s = refl

ops_agree : (v : List ℕ → ℕ) (s : Statement) → is_some (op_for v s) ≡ is_operation s
ops_agree v (Binary binary.Mov r t) = refl
ops_agree v (Binary binary.Add r t) = refl
ops_agree v (Binary binary.Sub r t) = refl
ops_agree v (Binary binary.Load r t) = refl
ops_agree v (Binary binary.Store r t) = refl
ops_agree v (Binary (binary.Set c) r t) = refl
ops_agree v s = refl

abbrev NoJump : List Op → Type 0
NoJump ops = list_any eir.is_jump ops ≡ false

abbrev GoodBlock : List Op → Type 0
GoodBlock ops = (is_empty ops ≡ false) × (has_jump_inside ops ≡ false)

take_front : {A : Type 0} (xs ys : List A) → take (length xs) (xs ++ ys) ≡ xs
take_front [] ys = refl
take_front (x ∷ xs) ys = ap (λ zs. x ∷ zs) (take_front xs ys)

take_none : {A : Type 0} (p : A → Bool) (n : ℕ) (xs : List A) → list_any p xs ≡ false → list_any p (take n xs) ≡ false
take_none p zero xs h = refl
take_none p (suc n) [] h = refl
take_none p (suc n) (x ∷ xs) h = let q = or_parts (p x) (list_any p xs) h in or_from (p x) (list_any p (take n xs)) q.0 (take_none p n xs q.1)

last_good : (ops : List Op) (o : Op) → NoJump ops → GoodBlock (ops ++ o ∷ [])
last_good ops o h =
    let long : length (ops ++ o ∷ []) ≡ length ops + 1 = length-append ops (o ∷ []) in
    let front : length (ops ++ o ∷ []) - 1 ≡ length ops = omega arith in (
      ne_eqb (length (ops ++ o ∷ [])) 0 (λ e. omega arith),
      ap (λ n. list_any eir.is_jump (take n (ops ++ o ∷ []))) front ∙ (ap (list_any eir.is_jump) (take_front ops (o ∷ [])) ∙ h),
    )

filled_good : (ops : List Op) → NoJump ops → AllByRecursion GoodBlock (filled ops)
filled_good [] h = tt
filled_good (o ∷ ops) h = ((ne_eqb (length (o ∷ ops)) 0 (λ e. omega arith), take_none eir.is_jump (length (o ∷ ops) - 1) (o ∷ ops) h), tt)

ended_good : (labels : List (List ℕ)) (ops : List Op) → NoJump ops → AllByRecursion GoodBlock (ended_by labels ops)
ended_good [] ops h = tt
ended_good (l ∷ ls) ops h = filled_good ops h

kept_no_jump : (labels : List (List ℕ)) (ops : List Op) → NoJump ops → NoJump (kept_by labels ops)
kept_no_jump [] ops h = h
kept_no_jump (l ∷ ls) ops h = refl

grown_good : (ops : List Op) (o : Option Op) → NoJump ops → jump_in o ≡ true → GoodBlock (ops ++ option_to_list o)
grown_good ops None h e = absurd cc
grown_good ops (Some o) h e = last_good ops o h

grown_no_jump : (ops : List Op) (o : Option Op) → NoJump ops → jump_in o ≡ false → NoJump (ops ++ option_to_list o)
grown_no_jump ops None h e = ap (list_any eir.is_jump) (append-nil ops) ∙ h
grown_no_jump ops (Some o) h e = or_push (list_any eir.is_jump) eir.is_jump refl (λ _ _. refl) ops o ∙ or_from (list_any eir.is_jump ops) (eir.is_jump o) h e

behind_good : (ops : List Op) (o : Option Op) (jump : Bool) → NoJump ops → jump_in o ≡ jump
    → AllByRecursion GoodBlock (if jump then (ops ++ option_to_list o) ∷ [] else []) × NoJump (if jump then [] else ops ++ option_to_list o)
behind_good ops o true h e = ((grown_good ops o h e, tt), refl)
behind_good ops o false h e = (tt, grown_no_jump ops o h e)

blocks_good : (v : List ℕ → ℕ) (ops : List Op) (lines : List Line) → NoJump ops → AllByRecursion GoodBlock (blocks_from (op_for v) ops lines)
blocks_good v ops [] h = filled_good ops h
blocks_good v ops (line ∷ lines) h =
    let kept = kept_by line.labels ops in
    let grown = kept ++ option_to_list (op_for v line.statement) in
    let b = behind_good kept (op_for v line.statement) (is_jump line.statement) (kept_no_jump line.labels ops h) (jumps_agree v line.statement) in
    all_append GoodBlock (ended_by line.labels ops ++ (if is_jump line.statement then grown ∷ [] else [])) (blocks_from (op_for v) (if is_jump line.statement then [] else grown) lines)
    (all_append GoodBlock (ended_by line.labels ops) (if is_jump line.statement then grown ∷ [] else []) (ended_good line.labels ops h) b.0)
    (blocks_good v (if is_jump line.statement then [] else grown) lines b.1)

all_firsts : (xs : List (List Op)) → AllByRecursion GoodBlock xs → AllByRecursion (λ ops. is_empty ops ≡ false) xs
all_firsts [] h = tt
all_firsts (x ∷ xs) h = (h.0.0, all_firsts xs h.1)

all_seconds : (xs : List (List Op)) → AllByRecursion GoodBlock xs → AllByRecursion (λ ops. has_jump_inside ops ≡ false) xs
all_seconds [] h = tt
all_seconds (x ∷ xs) h = (h.0.1, all_seconds xs h.1)

-- the blocks that lines make, with whatever words and start
pub good_blocks : (v : List ℕ → ℕ) (lines : List Line) (p : Eir) → p.blocks ≡ blocks_from (op_for v) [] lines → HasGoodBlocks p
good_blocks v lines p e =
    let good = blocks_good v [] lines refl in
    record {
      filled = ap (position is_empty) e ∙ position_none is_empty (blocks_from (op_for v) [] lines) (all_firsts (blocks_from (op_for v) [] lines) good);
      jumps = ap (position has_jump_inside) e ∙ position_none has_jump_inside (blocks_from (op_for v) [] lines) (all_seconds (blocks_from (op_for v) [] lines) good);
    }

-- there is an operation
abbrev full : List Op → Bool
full [] = false
full (x ∷ xs) = true

full_more : (ops : List Op) (o : Option Op) → full (ops ++ option_to_list o) ≡ (full ops || is_some o)
full_more [] None = refl
full_more [] (Some o) = refl
full_more (x ∷ ops) o = refl

labels_number : (c : Current) (labels : List (List ℕ)) (ops : List Op) → c.has_operation ≡ full ops
    → ((behind_labels c labels).number ≡ c.number + length (ended_by labels ops)) × ((behind_labels c labels).has_operation ≡ full (kept_by labels ops))
labels_number c [] ops h = (let e : c.number ≡ c.number + 0 = omega arith in e, h)
labels_number c (l ∷ ls) [] h = (ap (λ b. if b then c.number + 1 else c.number) h ∙ (let e : c.number ≡ c.number + 0 = omega arith in e), refl)
labels_number c (l ∷ ls) (o ∷ ops) h = (ap (λ b. if b then c.number + 1 else c.number) h, refl)

statement_number : (here : Current) (jump operation : Bool) (ops : List Op) (o : Option Op) → here.has_operation ≡ full ops → is_some o ≡ operation
    → ((let next : Current = if jump then record { number = here.number + 1; has_operation = false } else record { number = here.number; has_operation = here.has_operation || operation } in next).number
    ≡ here.number + length (if jump then (ops ++ option_to_list o) ∷ [] else []))
    × ((let next : Current = if jump then record { number = here.number + 1; has_operation = false } else record { number = here.number; has_operation = here.has_operation || operation } in next).has_operation
    ≡ full (if jump then [] else ops ++ option_to_list o))
statement_number here true operation ops o h e = (refl, refl)
statement_number here false operation ops o h e =
    (let a : here.number ≡ here.number + 0 = omega arith in a, ap (λ b. b || operation) h ∙ (ap (λ b. full ops || b) (sym e) ∙ sym (full_more ops o)))

all_below : (b n : ℕ) (names : List (List ℕ)) → n ≤ b → AllByRecursion (λ (d : List ℕ × ℕ). d.1 ≤ b) (map (λ name. (name, n)) names)
all_below b n [] h = tt
all_below b n (name ∷ names) h = (h, all_below b n names h)

-- each label of the text section names a block, or the number behind the last
labels_below : (v : List ℕ → ℕ) (c : Current) (ops : List Op) (lines : List Line) → c.has_operation ≡ full ops
    → AllByRecursion (λ (d : List ℕ × ℕ). d.1 ≤ c.number + length (blocks_from (op_for v) ops lines)) (block_labels c lines)
labels_below v c ops [] h = tt
labels_below v c ops (line ∷ lines) h =
    let kept = kept_by line.labels ops in
    let grown = kept ++ option_to_list (op_for v line.statement) in
    let here : Current = behind_labels c line.labels in
    let next : Current = behind_statement here line.statement in
    let ended = ended_by line.labels ops in
    let middle = if is_jump line.statement then grown ∷ [] else [] in
    let rest = blocks_from (op_for v) (if is_jump line.statement then [] else grown) lines in
    let a = labels_number c line.labels ops h in
    let b = statement_number here (is_jump line.statement) (is_operation line.statement) kept (op_for v line.statement) a.1 (ops_agree v line.statement) in
    let here_is : here.number ≡ c.number + length ended = a.0 in
    let next_is : next.number ≡ here.number + length middle = b.0 in
    let all : length ((ended ++ middle) ++ rest) ≡ length (ended ++ middle) + length rest = length-append (ended ++ middle) rest in
    let front : length (ended ++ middle) ≡ length ended + length middle = length-append ended middle in
    let low : here.number ≤ c.number + length ((ended ++ middle) ++ rest) = omega arith in
    let same : next.number + length rest ≡ c.number + length ((ended ++ middle) ++ rest) = omega arith in
    all_append (λ (d : List ℕ × ℕ). d.1 ≤ c.number + length ((ended ++ middle) ++ rest)) (map (λ name. (name, here.number)) line.labels) (block_labels next lines)
    (all_below (c.number + length ((ended ++ middle) ++ rest)) here.number line.labels low)
    (subst (λ (n : ℕ). AllByRecursion (λ (d : List ℕ × ℕ). d.1 ≤ n) (block_labels next lines)) same (labels_below v next (if is_jump line.statement then [] else grown) lines b.1))

found_below : (b : ℕ) (found : Option ℕ) (ds : List (List ℕ × ℕ)) (name : List ℕ) → unwrap_or found 0 ≤ b → AllByRecursion (λ (d : List ℕ × ℕ). d.1 ≤ b) ds → unwrap_or (defined_after found ds name) 0 ≤ b
found_below b found [] name l h = l
found_below b found (d ∷ ds) name l h = found_below b (if bytes_eq name d.0 then Some d.1 else found) ds name (at (bytes_eq name d.0)) h.1 where
  at : (t : Bool) → unwrap_or (if t then Some d.1 else found) 0 ≤ b
  at true = h.0
  at false = l

pub start_below : (v : List ℕ → ℕ) (lines : List Line) (name : List ℕ) → unwrap_or (defined_after None (block_labels first_block lines) name) 0 ≤ length (blocks_from (op_for v) [] lines)
start_below v lines name =
    let b : 0 + length (blocks_from (op_for v) [] lines) ≡ length (blocks_from (op_for v) [] lines) = omega arith in
    let all = subst (λ (n : ℕ). AllByRecursion (λ (d : List ℕ × ℕ). d.1 ≤ n) (block_labels first_block lines)) b (labels_below v first_block [] lines refl) in
    found_below (length (blocks_from (op_for v) [] lines)) None (block_labels first_block lines) name (omega arith) all

words_count : (v : List ℕ → ℕ) (s : Statement) → length (words_for v s) ≡ word_count s
words_count v (Long t) = refl
words_count v (Bytes bytes) =
    let a : length (map wrapped bytes ++ wrapped 0 ∷ []) ≡ length (map wrapped bytes) + 1 = length-append (map wrapped bytes) (wrapped 0 ∷ []) in
    let b : length (map wrapped bytes) ≡ length bytes = length-map bytes wrapped in omega arith
words_count v s = refl

-- the data words end where the data ends
pub words_end : (v : List ℕ → ℕ) (lines : List Line) → length (flat_map (λ line. words_for v line.statement) lines) ≡ data_end lines
words_end v [] = refl
words_end v (line ∷ lines) =
    let a : length (words_for v line.statement ++ flat_map (λ l. words_for v l.statement) lines) ≡ length (words_for v line.statement) + length (flat_map (λ l. words_for v l.statement) lines)
    = length-append (words_for v line.statement) (flat_map (λ l. words_for v l.statement) lines) in
    let b : length (words_for v line.statement) ≡ word_count line.statement = words_count v line.statement in
    let d : length (flat_map (λ l. words_for v l.statement) lines) ≡ data_end lines = words_end v lines in
    let e : data_end (line ∷ lines) ≡ word_count line.statement + data_end lines = sum_by-cons (λ l. word_count l.statement) line lines in
    omega arith

-- what lines say is a program, unless it is too large
pub said_is_eir : (placed : List Placed) → size_of (program_said placed) ≤ 2 ^ 21 → IsEir (program_said placed)
said_is_eir placed small = record {
  blocks = good_blocks (name_value placed) (text_lines placed) (program_said placed) refl;
  start = start_below (name_value placed) (text_lines placed) (codes "main");
  size = small;
}
