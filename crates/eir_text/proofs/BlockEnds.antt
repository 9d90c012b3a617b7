-- Blocks hold the operations of the lines in order, and end at labels and behind jumps alone.
use Rattle.std.proofs.Common.{◌≡◌, ℕ, ◌<◌, Bool, true, false, ◌||◌, if◌then◌else◌, List, [], ◌∷◌, ◌++◌, length, Option, Some, None, is_some, refl, sym, ap, ◌∙◌, append_assoc, append-nil, arith}
use Rattle.std.specs.Option.{option_to_list}
use Rattle.std.specs.List.{AllByRecursion, list_any, flat_map}
use Rattle.std.proofs.lemmas.List.{length-append}
use Rattle.std.proofs.lemmas.List.Concat.{flat_map-append}
use Rattle.eir_core.specs.declared.ops.Op.{Op}
use Rattle.eir_line.specs.Line.{Line, Statement, Nothing, Binary, Putc, Getc, Exit, Jump, JumpIf, Dump, Text, Data, Long, Bytes, Note}
use Rattle.eir_text.specs.Sections.{is_jump, is_operation}
use Rattle.eir_text.specs.Blocks.{filled, ended_by, kept_by, blocks_from}
use Rattle.eir_text.specs.Laws.{operations_of, is_labelled, ends_block, Joined}
use Rattle.eir_text.proofs.TextLabels.{Operates, is_filled, filled_more, blocks_split}

-- blocks joined
abbrev joined : List (List Op) → List Op
joined blocks = flat_map (λ block. block) blocks

filled_all : (ops : List Op) → joined (filled ops) ≡ ops
filled_all [] = refl
filled_all (op ∷ ops) = append-nil (op ∷ ops)

ended_kept : (labels : List (List ℕ)) (ops : List Op) → joined (ended_by labels ops) ++ kept_by labels ops ≡ ops
ended_kept [] ops = refl
ended_kept (name ∷ names) ops = append-nil (joined (filled ops)) ∙ filled_all ops

regroup : (ended kept ops more rest behind : List Op) → ended ++ kept ≡ ops → behind ≡ (kept ++ more) ++ rest → ended ++ behind ≡ ops ++ (more ++ rest)
regroup ended kept ops more rest behind e f =
    ap (λ b. ended ++ b) (f ∙ append_assoc kept more rest) ∙ (sym (append_assoc ended kept (more ++ rest)) ∙ ap (λ p. p ++ (more ++ rest)) e)

-- the blocks joined are the operations
pub blocks_operations : (op_of : Statement → Option Op) (lines : List Line) (ops : List Op) → joined (blocks_from op_of ops lines) ≡ ops ++ operations_of op_of lines
blocks_operations op_of [] ops = filled_all ops ∙ sym (append-nil ops)
blocks_operations op_of (line ∷ lines) ops =
    ap joined (append_assoc (ended_by line.labels ops)
    (if is_jump line.statement then (kept_by line.labels ops ++ option_to_list (op_of line.statement)) ∷ [] else [])
    (blocks_from op_of (if is_jump line.statement then [] else kept_by line.labels ops ++ option_to_list (op_of line.statement)) lines))
    ∙ by (ended_by line.labels ops) (kept_by line.labels ops) (option_to_list (op_of line.statement)) (ended_kept line.labels ops) (λ more. blocks_operations op_of lines more) (is_jump line.statement)
  where
    by : (ended : List (List Op)) (kept here : List Op) → joined ended ++ kept ≡ ops
        → ((more : List Op) → joined (blocks_from op_of more lines) ≡ more ++ operations_of op_of lines) → (b : Bool)
        → joined (ended ++ ((if b then (kept ++ here) ∷ [] else []) ++ blocks_from op_of (if b then [] else kept ++ here) lines)) ≡ ops ++ (here ++ operations_of op_of lines)
    by ended kept here e h true =
        flat_map-append (λ (block : List Op). block) ended ((kept ++ here) ∷ blocks_from op_of [] lines)
        ∙ regroup (joined ended) kept ops here (operations_of op_of lines) ((kept ++ here) ++ joined (blocks_from op_of [] lines)) e (ap (λ r. (kept ++ here) ++ r) (h []))
    by ended kept here e h false =
        flat_map-append (λ (block : List Op). block) ended (blocks_from op_of (kept ++ here) lines)
        ∙ regroup (joined ended) kept ops here (operations_of op_of lines) (joined (blocks_from op_of (kept ++ here) lines)) e (h (kept ++ here))

-- a jump is an operation
jump_operates : (s : Statement) → is_jump s ≡ true → is_operation s ≡ true
jump_operates (Binary op r t) e = refl
jump_operates (Putc t) e = refl
jump_operates (Getc r) e = refl
jump_operates Exit e = refl
jump_operates (Jump target) e = refl
jump_operates (JumpIf c target r t) e = refl
jump_operates Nothing e = e
jump_operates Dump e = e
jump_operates Text e = e
jump_operates (Data n) e = e
jump_operates (Long t) e = e
jump_operates (Bytes bytes) e = e
jump_operates Note e = e

abbrev AllFilled : List (List Op) → Type 0
AllFilled blocks = AllByRecursion (λ block. 0 < length block) blocks

all_join : (xs ys : List (List Op)) → AllFilled xs → AllFilled ys → AllFilled (xs ++ ys)
all_join [] ys h k = k
all_join (x ∷ xs) ys h k = (h.0, all_join xs ys h.1 k)

filled_one : (ops : List Op) → AllFilled (filled ops)
filled_one [] = tt
filled_one (op ∷ ops) = (omega arith, tt)

ended_filled : (labels : List (List ℕ)) (ops : List Op) → AllFilled (ended_by labels ops)
ended_filled [] ops = tt
ended_filled (name ∷ names) ops = filled_one ops

more_filled : (ops : List Op) (op : Option Op) → is_some op ≡ true → 0 < length (ops ++ option_to_list op)
more_filled ops None e = grind (arith, e)
more_filled ops (Some op) e = simp length-append (omega arith)

-- no block is empty
pub blocks_filled : (op_of : Statement → Option Op) → Operates op_of → (lines : List Line) (ops : List Op) → AllFilled (blocks_from op_of ops lines)
blocks_filled op_of own [] ops = filled_one ops
blocks_filled op_of own (line ∷ lines) ops =
    let kept = kept_by line.labels ops in
    let jumped : List (List Op) = if is_jump line.statement then (kept ++ option_to_list (op_of line.statement)) ∷ [] else [] in
    let more : List Op = if is_jump line.statement then [] else kept ++ option_to_list (op_of line.statement) in
    all_join (ended_by line.labels ops ++ jumped) (blocks_from op_of more lines)
    (all_join (ended_by line.labels ops) jumped (ended_filled line.labels ops)
    (by kept (is_jump line.statement) (λ e. more_filled kept (op_of line.statement) (own line.statement ∙ jump_operates line.statement e))))
    (blocks_filled op_of own lines more)
  where
    by : (kept : List Op) (b : Bool) → (b ≡ true → 0 < length (kept ++ option_to_list (op_of line.statement))) → AllFilled (if b then (kept ++ option_to_list (op_of line.statement)) ∷ [] else [])
    by kept true g = (g refl, tt)
    by kept false g = tt

-- the blocks that lines end, and the operations of the block that they leave open
abbrev closed : (Statement → Option Op) → List Op → List Line → List (List Op)
closed op_of ops [] = []
closed op_of ops (line ∷ lines) =
    let grown = kept_by line.labels ops ++ option_to_list (op_of line.statement) in
    ended_by line.labels ops ++ (if is_jump line.statement then grown ∷ [] else []) ++ closed op_of (if is_jump line.statement then [] else grown) lines

abbrev left_open : (Statement → Option Op) → List Op → List Line → List Op
left_open op_of ops [] = ops
left_open op_of ops (line ∷ lines) = left_open op_of (if is_jump line.statement then [] else kept_by line.labels ops ++ option_to_list (op_of line.statement)) lines

cut : (op_of : Statement → Option Op) (before rest : List Line) (ops : List Op) → blocks_from op_of ops (before ++ rest) ≡ closed op_of ops before ++ blocks_from op_of (left_open op_of ops before) rest
cut op_of [] rest ops = refl
cut op_of (line ∷ before) rest ops =
    let grown = kept_by line.labels ops ++ option_to_list (op_of line.statement) in
    let ended = ended_by line.labels ops in
    let jumped : List (List Op) = if is_jump line.statement then grown ∷ [] else [] in
    let more : List Op = if is_jump line.statement then [] else grown in
    ap (λ bs. ended ++ jumped ++ bs) (cut op_of before rest more) ∙ simp append_assoc

cut_end : (op_of : Statement → Option Op) (before : List Line) (ops : List Op) → blocks_from op_of ops before ≡ closed op_of ops before ++ filled (left_open op_of ops before)
cut_end op_of before ops = ap (λ lines. blocks_from op_of ops lines) (sym (append-nil before)) ∙ cut op_of before [] ops

open_behind : (op_of : Statement → Option Op) (before : List Line) (x : Line) (ops : List Op)
    → left_open op_of ops (before ++ x ∷ []) ≡ (if is_jump x.statement then [] else kept_by x.labels (left_open op_of ops before) ++ option_to_list (op_of x.statement))
open_behind op_of [] x ops = refl
open_behind op_of (line ∷ before) x ops = open_behind op_of before x (if is_jump line.statement then [] else kept_by line.labels ops ++ option_to_list (op_of line.statement))

abbrev Quiet : List Line → Type 0
Quiet lines = AllByRecursion (λ (l : Line). is_operation l.statement ≡ false) lines

no_operation : (op : Option Op) → is_some op ≡ false → op ≡ None
no_operation None e = refl
no_operation (Some op) e = grind (arith, e)

no_jump : (s : Statement) → is_operation s ≡ false → is_jump s ≡ false
no_jump s e = at (is_jump s) (λ j. jump_operates s j) where
  at : (b : Bool) → (b ≡ true → is_operation s ≡ true) → b ≡ false
  at true h = sym (h refl) ∙ e
  at false h = refl

-- a line without an operation
quiet_line : (op_of : Statement → Option Op) → Operates op_of → (line : Line) (lines : List Line) (ops : List Op) → is_operation line.statement ≡ false
    → blocks_from op_of ops (line ∷ lines) ≡ ended_by line.labels ops ++ blocks_from op_of (kept_by line.labels ops) lines
quiet_line op_of own line lines ops e =
    rw (no_jump line.statement e, no_operation (op_of line.statement) (own line.statement ∙ e))
    (ap (λ ended. ended ++ blocks_from op_of (kept_by line.labels ops ++ []) lines) (append-nil (ended_by line.labels ops))
    ∙ ap (λ kept. ended_by line.labels ops ++ blocks_from op_of kept lines) (append-nil (kept_by line.labels ops)))

none_ended : (labels : List (List ℕ)) → ended_by {X = Op} labels [] ≡ []
none_ended [] = refl
none_ended (name ∷ names) = refl

none_kept : (labels : List (List ℕ)) → kept_by {X = Op} labels [] ≡ []
none_kept [] = refl
none_kept (name ∷ names) = refl

quiet_from_none : (op_of : Statement → Option Op) → Operates op_of → (between rest : List Line) → Quiet between → blocks_from op_of [] (between ++ rest) ≡ blocks_from op_of [] rest
quiet_from_none op_of own [] rest q = refl
quiet_from_none op_of own (line ∷ between) rest q =
    quiet_line op_of own line (between ++ rest) [] q.0
    ∙ rw (none_ended line.labels, none_kept line.labels) (quiet_from_none op_of own between rest q.1)

abbrev AnyLabelled : List Line → Bool
AnyLabelled lines = list_any (λ (l : Line). is_labelled l.labels) lines

-- a label ends the block
labels_end : (op_of : Statement → Option Op) → Operates op_of → (between after : List Line) (y : Line) (ops : List Op) → Quiet between → AnyLabelled (between ++ y ∷ []) ≡ true
    → blocks_from op_of ops (between ++ y ∷ after) ≡ filled ops ++ blocks_from op_of [] (y ∷ after)
labels_end op_of own [] after y ops q e = at y.labels refl e where
  at : (labels : List (List ℕ)) → y.labels ≡ labels → (is_labelled labels || false) ≡ true → blocks_from op_of ops (y ∷ after) ≡ filled ops ++ blocks_from op_of [] (y ∷ after)
  at [] l e = grind (arith, e)
  at (name ∷ names) l e = blocks_split op_of [] after ops y name names l
labels_end op_of own (line ∷ between) after y ops q e =
    quiet_line op_of own line (between ++ y ∷ after) ops q.0 ∙ at line.labels (λ k. labels_end op_of own between after y ops q.1 k) e
  where
    at : (labels : List (List ℕ)) → (AnyLabelled (between ++ y ∷ []) ≡ true → blocks_from op_of ops (between ++ y ∷ after) ≡ filled ops ++ blocks_from op_of [] (y ∷ after))
        → (is_labelled labels || AnyLabelled (between ++ y ∷ [])) ≡ true
        → ended_by labels ops ++ blocks_from op_of (kept_by labels ops) (between ++ y ∷ after) ≡ filled ops ++ blocks_from op_of [] (y ∷ after)
    at [] h e = h e
    at (name ∷ names) h e = ap (λ bs. filled ops ++ bs) (quiet_from_none op_of own between (y ∷ after) q.1)

-- without a label the block goes on
goes_on : (op_of : Statement → Option Op) → Operates op_of → (between after : List Line) (y : Line) (ops : List Op) → Quiet between → AnyLabelled (between ++ y ∷ []) ≡ false
    → (blocks_from op_of ops (between ++ y ∷ after) ≡ blocks_from op_of ops (y ∷ after)) × (y.labels ≡ [])
goes_on op_of own [] after y ops q e = (refl, at y.labels e) where
  at : (labels : List (List ℕ)) → (is_labelled labels || false) ≡ false → labels ≡ []
  at [] e = refl
  at (name ∷ names) e = grind (arith, e)
goes_on op_of own (line ∷ between) after y ops q e =
    let h = at line.labels (λ k. goes_on op_of own between after y ops q.1 k) e in
    (quiet_line op_of own line (between ++ y ∷ after) ops q.0 ∙ h.0, h.1)
  where
    at : (labels : List (List ℕ)) → (AnyLabelled (between ++ y ∷ []) ≡ false → (blocks_from op_of ops (between ++ y ∷ after) ≡ blocks_from op_of ops (y ∷ after)) × (y.labels ≡ []))
        → (is_labelled labels || AnyLabelled (between ++ y ∷ [])) ≡ false
        → (ended_by labels ops ++ blocks_from op_of (kept_by labels ops) (between ++ y ∷ after) ≡ blocks_from op_of ops (y ∷ after)) × (y.labels ≡ [])
    at [] h e = h e
    at (name ∷ names) h e = grind (arith, e)

-- what lines add to a block that has an operation, and the blocks behind it
record Grown (op_of : Statement → Option Op) (lines : List Line) : Type 0 where
  first : List Op
  rest : List (List Op)
  grows : (op : Op) (ops : List Op) → blocks_from op_of (op ∷ ops) lines ≡ (op ∷ (ops ++ first)) ∷ rest

grown_by : (op_of : Statement → Option Op) (lines : List Line) → Grown op_of lines
grown_by op_of [] = record { first = []; rest = []; grows = λ op ops. ap (λ p. (op ∷ p) ∷ []) (sym (append-nil ops)) }
grown_by op_of (line ∷ lines) = by line.labels (is_jump line.statement) refl refl (grown_by op_of lines) where
  by : (labels : List (List ℕ)) (b : Bool) → line.labels ≡ labels → is_jump line.statement ≡ b → Grown op_of lines → Grown op_of (line ∷ lines)
  by (name ∷ names) b l j g = record {
    first = [];
    rest = blocks_from op_of [] (line ∷ lines);
    grows = λ op ops. blocks_split op_of [] lines (op ∷ ops) line name names l ∙ ap (λ p. (op ∷ p) ∷ blocks_from op_of [] (line ∷ lines)) (sym (append-nil ops));
  }
  by [] true l j g = record {
    first = option_to_list (op_of line.statement);
    rest = blocks_from op_of [] lines;
    grows = λ op ops. rw (l, j) refl;
  }
  by [] false l j g = record {
    first = option_to_list (op_of line.statement) ++ g.first;
    rest = g.rest;
    grows = λ op ops. rw (l, j) (g.grows op (ops ++ option_to_list (op_of line.statement)) ∙ ap (λ p. (op ∷ p) ∷ g.rest) (append_assoc ops (option_to_list (op_of line.statement)) g.first));
  }

-- lines that begin with an operation and no label, behind operations and by themselves
record Meets (op_of : Statement → Option Op) (ops : List Op) (lines : List Line) : Type 0 where
  first : List Op
  rest : List (List Op)
  alone : blocks_from op_of [] lines ≡ first ∷ rest
  met : blocks_from op_of ops lines ≡ (ops ++ first) ∷ rest

meets : (op_of : Statement → Option Op) (after : List Line) (y : Line) (op : Op) (ops : List Op) → y.labels ≡ [] → is_some (op_of y.statement) ≡ true → Meets op_of (op ∷ ops) (y ∷ after)
meets op_of after y op ops l s = by (op_of y.statement) (is_jump y.statement) refl refl s where
  by : (here : Option Op) (b : Bool) → op_of y.statement ≡ here → is_jump y.statement ≡ b → is_some here ≡ true → Meets op_of (op ∷ ops) (y ∷ after)
  by None b o j s = grind (arith, s)
  by (Some own) true o j s = record { first = own ∷ []; rest = blocks_from op_of [] after; alone = rw (l, o, j) refl; met = rw (l, o, j) refl }
  by (Some own) false o j s =
      let g = grown_by op_of after in
      record {
        first = own ∷ g.first;
        rest = g.rest;
        alone = rw (l, o, j) (g.grows own []);
        met = rw (l, o, j) (g.grows op (ops ++ own ∷ []) ∙ ap (λ p. (op ∷ p) ∷ g.rest) (append_assoc ops (own ∷ []) g.first));
      }

-- the blocks of all lines, cut behind a line
cut_behind : (op_of : Statement → Option Op) (before rest : List Line) (x : Line)
    → blocks_from op_of [] (before ++ x ∷ rest) ≡ closed op_of [] (before ++ x ∷ []) ++ blocks_from op_of (left_open op_of [] (before ++ x ∷ [])) rest
cut_behind op_of before rest x = ap (λ lines. blocks_from op_of [] lines) (sym (append_assoc before (x ∷ []) rest)) ∙ cut op_of (before ++ x ∷ []) rest []

-- behind a jump or at a label a block ends
pub blocks_apart : (op_of : Statement → Option Op) → Operates op_of → (before between after : List Line) (x y : Line)
    → is_operation x.statement ≡ true → Quiet between → is_operation y.statement ≡ true → ends_block x (between ++ y ∷ []) ≡ true
    → blocks_from op_of [] (before ++ x ∷ (between ++ y ∷ after)) ≡ blocks_from op_of [] (before ++ x ∷ []) ++ blocks_from op_of [] (y ∷ after)
blocks_apart op_of own before between after x y hx q hy e =
    let front = before ++ x ∷ [] in
    let ops = left_open op_of [] front in
    cut_behind op_of before (between ++ y ∷ after) x
    ∙ (ap (λ bs. closed op_of [] front ++ bs) (at (is_jump x.statement) ops (open_behind op_of before x []) e)
    ∙ (sym (append_assoc (closed op_of [] front) (filled ops) (blocks_from op_of [] (y ∷ after)))
    ∙ ap (λ bs. bs ++ blocks_from op_of [] (y ∷ after)) (sym (cut_end op_of front []))))
  where
    at : (b : Bool) (ops : List Op) → ops ≡ (if b then [] else kept_by x.labels (left_open op_of [] before) ++ option_to_list (op_of x.statement)) → (b || AnyLabelled (between ++ y ∷ [])) ≡ true
        → blocks_from op_of ops (between ++ y ∷ after) ≡ filled ops ++ blocks_from op_of [] (y ∷ after)
    at true ops o e = rw o (quiet_from_none op_of own between (y ∷ after) q)
    at false ops o e = labels_end op_of own between after y ops q e

-- elsewhere a block goes on
pub blocks_together : (op_of : Statement → Option Op) → Operates op_of → (before between after : List Line) (x y : Line)
    → is_operation x.statement ≡ true → Quiet between → is_operation y.statement ≡ true → ends_block x (between ++ y ∷ []) ≡ false
    → Joined (blocks_from op_of [] (before ++ x ∷ [])) (blocks_from op_of [] (y ∷ after)) (blocks_from op_of [] (before ++ x ∷ (between ++ y ∷ after)))
blocks_together op_of own before between after x y hx q hy e =
    at (is_jump x.statement) (left_open op_of [] (before ++ x ∷ [])) refl (open_behind op_of before x []) e
  where
    with_open : (ops : List Op) → left_open op_of [] (before ++ x ∷ []) ≡ ops → is_filled ops ≡ true → AnyLabelled (between ++ y ∷ []) ≡ false
        → Joined (blocks_from op_of [] (before ++ x ∷ [])) (blocks_from op_of [] (y ∷ after)) (blocks_from op_of [] (before ++ x ∷ (between ++ y ∷ after)))
    with_open [] o f e = grind (arith, f)
    with_open (op ∷ ops) o f e =
        let on = goes_on op_of own between after y (op ∷ ops) q e in
        let m = meets op_of after y op ops on.1 (own y.statement ∙ hy) in
        record {
          init = closed op_of [] (before ++ x ∷ []);
          last = op ∷ ops;
          first = m.first;
          rest = m.rest;
          in_front = cut_end op_of (before ++ x ∷ []) [] ∙ ap (λ p. closed op_of [] (before ++ x ∷ []) ++ filled p) o;
          behind_it = m.alone;
          as_one = cut_behind op_of before (between ++ y ∷ after) x
              ∙ (ap (λ p. closed op_of [] (before ++ x ∷ []) ++ blocks_from op_of p (between ++ y ∷ after)) o
              ∙ ap (λ bs. closed op_of [] (before ++ x ∷ []) ++ bs) (on.0 ∙ m.met));
        }

    at : (b : Bool) (ops : List Op) → left_open op_of [] (before ++ x ∷ []) ≡ ops → left_open op_of [] (before ++ x ∷ []) ≡ (if b then [] else kept_by x.labels (left_open op_of [] before) ++ option_to_list (op_of x.statement))
        → (b || AnyLabelled (between ++ y ∷ [])) ≡ false
        → Joined (blocks_from op_of [] (before ++ x ∷ [])) (blocks_from op_of [] (y ∷ after)) (blocks_from op_of [] (before ++ x ∷ (between ++ y ∷ after)))
    at true ops o g e = grind (arith, e)
    at false ops o g e =
        with_open ops o
        (ap is_filled (sym o ∙ g) ∙ (filled_more (kept_by x.labels (left_open op_of [] before)) (op_of x.statement) ∙ some (is_filled (kept_by x.labels (left_open op_of [] before))) (is_some (op_of x.statement)) (own x.statement ∙ hx))) e
      where
        some : (a b : Bool) → b ≡ true → (a || b) ≡ true
        some true b e = refl
        some false b e = e
