-- The texts of lines and words.
use Rattle.std.proofs.Common.{◌≡◌, ℕ, ◌+◌, ◌-◌, ◌<◌, ◌≤◌, List, [], ◌∷◌, ◌++◌, length, take, drop, get_or, Some, slice_get, ℤ, pos, refl, sym, ap, ◌∙◌, append_assoc, append-nil, add-one, drop-cons, arith}
use Rattle.std.specs.List.{flat_map}
use Rattle.std.specs.Fmt.{decimal, signed_decimal}
use Rattle.std.proofs.lemmas.Grind.{flat_map-append}
use Rattle.word24.specs.Word.{number_of}
use Rattle.std.proofs.lemmas.List.{drop_all, take_all, length-drop}
use Rattle.word24.specs.declared.word.Word.{Word}
use Rattle.eir_core.specs.declared.ops.Op.{Op}
use Rattle.eir_core.specs.Eir.{Eir}
use Rattle.sq_back.specs.declared.line.Line.{Line}
use Rattle.sq_back.specs.Code.{go, op_cells, ops_cells, own_numbers, act_lines, op_lines, ops_lines, blocks_lines, rows_lines, place_after, first_lines, blocks_start}
use Rattle.sq_back.specs.Text.{line_text, lines_text, word_text, words_text, text_of}
use Rattle.mach_core.proofs.Lists.{next_of}
use Rattle.sq_back.proofs.Sizes.{following}

-- the text of no line
pub no_lines : lines_text [] ≡ []
unfolding lines_text
no_lines = refl

-- the text of lines and more lines
pub lines_text-append : (xs ys : List Line) → lines_text (xs ++ ys) ≡ lines_text xs ++ lines_text ys
unfolding lines_text
lines_text-append xs ys = flat_map-append line_text xs ys

pub lines_text-cons : (line : Line) (lines : List Line) → lines_text (line ∷ lines) ≡ line_text line ++ lines_text lines
unfolding lines_text
lines_text-cons line lines = refl

-- the elements that are left, with the next in front

pub lines_next : (lines : List Line) (i : ℕ) (d : Line) → i < length lines → lines_text (drop i lines) ≡ line_text (get_or lines i d) ++ lines_text (drop (i + 1) lines)
lines_next lines i d h =
    let e : drop i lines ≡ get_or lines i d ∷ drop (i + 1) lines = rw add-one (drop-cons lines i d h) in
    ap lines_text e ∙ lines_text-cons (get_or lines i d) (drop (i + 1) lines)

pub groups_next : {X : Type 0} (f : X → List Line) (groups : List X) (i : ℕ) (d : X) → i < length groups
    → lines_text (flat_map f (drop i groups)) ≡ lines_text (f (get_or groups i d)) ++ lines_text (flat_map f (drop (i + 1) groups))
groups_next f groups i d h =
    let e : drop i groups ≡ get_or groups i d ∷ drop (i + 1) groups = rw add-one (drop-cons groups i d h) in
    ap (λ gs. lines_text (flat_map f gs)) e ∙ lines_text-append (f (get_or groups i d)) (flat_map f (drop (i + 1) groups))

pub words_next : (words : List Word) (i : ℕ) (word : Word) → i < length words → word ≡ get_or words i word → words_text (drop i words) ≡ word_text word ++ words_text (drop (i + 1) words)
unfolding words_text
words_next words i word h is = ap words_text (next_of words i word h is)

-- behind the last element nothing is left

pub lines_done : (lines : List Line) (i : ℕ) → length lines ≤ i → lines_text (drop i lines) ≡ []
lines_done lines i h = ap lines_text (drop_all i lines h) ∙ no_lines

pub groups_done : {X : Type 0} (f : X → List Line) (groups : List X) (i : ℕ) → length groups ≤ i → lines_text (flat_map f (drop i groups)) ≡ []
groups_done f groups i h = ap (λ gs. lines_text (flat_map f gs)) (drop_all i groups h) ∙ no_lines

pub words_done : (words : List Word) (i : ℕ) → length words ≤ i → words_text (drop i words) ≡ []
unfolding words_text
words_done words i h = ap words_text (drop_all i words h)

-- the text of an operation from its parts
pub op_text : (n at : ℕ) (place : ℤ) (op : Op) (line : Line) (act : List Line) → line ≡ own_numbers at place op → act ≡ act_lines n at (at + 3) place op → line_text line ++ lines_text act ≡ lines_text (op_lines n at place op)
op_text n at place op line act p q =
    ap (λ (text : List ℕ). text ++ lines_text act) (ap line_text p) ∙ (ap (λ (text : List ℕ). line_text (own_numbers at place op) ++ text) (ap lines_text q) ∙ sym (lines_text-cons (own_numbers at place op) (act_lines n at (at + 3) place op)))

-- a slice to the end
pub rest_of : {X : Type 0} (xs : List X) (i : ℕ) → take (length xs - i) (drop i xs) ≡ drop i xs
rest_of xs i = take_all (length xs - i) (drop i xs) (omega (arith, length-drop i xs))

-- where an operation goes on, told by the operations behind it
pub place_is : (n k at i cells : ℕ) (ops : List Op) (op : Op) (z : ℤ) → z ≡ place_after n k (at + cells) (take (length ops - (i + 1)) (drop (i + 1) ops)) → cells ≡ op_cells op → z ≡ place_after n k (at + op_cells op) (drop (i + 1) ops)
place_is n k at i cells ops op z p q = p ∙ (ap (place_after n k (at + cells)) (rest_of ops (i + 1)) ∙ ap (λ m. place_after n k (at + m) (drop (i + 1) ops)) q)

-- the text of operations, without the next
pub ops_next : (n k here i : ℕ) (ops : List Op) (op : Op) → i < length ops → op ≡ get_or ops i op
    → lines_text (ops_lines n k here (drop i ops)) ≡ lines_text (op_lines n here (place_after n k (here + op_cells op) (drop (i + 1) ops)) op) ++ lines_text (ops_lines n k (here + op_cells op) (drop (i + 1) ops))
ops_next n k here i ops op h is =
    ap (λ rest. lines_text (ops_lines n k here rest)) (next_of ops i op h is)
    ∙ lines_text-append (op_lines n here (place_after n k (here + op_cells op) (drop (i + 1) ops)) op) (ops_lines n k (here + op_cells op) (drop (i + 1) ops))

pub ops_done : (n k here : ℕ) (ops : List Op) (i : ℕ) → length ops ≤ i → lines_text (ops_lines n k here (drop i ops)) ≡ []
ops_done n k here ops i h = ap (λ rest. lines_text (ops_lines n k here rest)) (drop_all i ops h) ∙ no_lines

pub ops_cells_next : (ops : List Op) (i : ℕ) (op : Op) → i < length ops → op ≡ get_or ops i op → ops_cells (drop i ops) ≡ op_cells op + ops_cells (drop (i + 1) ops)
ops_cells_next ops i op h is = ap ops_cells (next_of ops i op h is)

-- the text of blocks, without the next
pub blocks_next : (n k at : ℕ) (blocks : List (List Op)) (ops : List Op) → slice_get blocks k ≡ Some ops
    → lines_text (blocks_lines n k at (drop k blocks)) ≡ lines_text (ops_lines n (k + 1) at ops) ++ lines_text (blocks_lines n (k + 1) (at + ops_cells ops) (drop (k + 1) blocks))
blocks_next n k at blocks ops e =
    ap (λ rest. lines_text (blocks_lines n k at rest)) (following blocks k ops e)
    ∙ lines_text-append (ops_lines n (k + 1) at ops) (blocks_lines n (k + 1) (at + ops_cells ops) (drop (k + 1) blocks))

pub blocks_done : (n k at : ℕ) (blocks : List (List Op)) → length blocks ≤ k → lines_text (blocks_lines n k at (drop k blocks)) ≡ []
blocks_done n k at blocks h = ap (λ rest. lines_text (blocks_lines n k at rest)) (drop_all k blocks h) ∙ no_lines

-- the text of rows, without the next
pub rows_next : (k at : ℕ) (blocks : List (List Op)) (ops : List Op) → slice_get blocks k ≡ Some ops
    → lines_text (rows_lines at (drop k blocks)) ≡ line_text (go (pos (at + 3))) ++ lines_text (rows_lines (at + ops_cells ops) (drop (k + 1) blocks))
rows_next k at blocks ops e =
    ap (λ rest. lines_text (rows_lines at rest)) (following blocks k ops e) ∙ lines_text-cons (go (pos (at + 3))) (rows_lines (at + ops_cells ops) (drop (k + 1) blocks))

pub rows_done : (k at : ℕ) (blocks : List (List Op)) → length blocks ≤ k → lines_text (rows_lines at (drop k blocks)) ≡ []
rows_done k at blocks h = ap (λ rest. lines_text (rows_lines at rest)) (drop_all k blocks h) ∙ no_lines

-- the text of a program from its parts
pub program_text : (p : Eir) → lines_text (first_lines p) ++ (lines_text (rows_lines (blocks_start p) p.blocks) ++ (lines_text (blocks_lines (length p.blocks) 0 (blocks_start p) p.blocks) ++ words_text p.words)) ≡ text_of p
program_text p =
    let rows = rows_lines (blocks_start p) p.blocks in
    let blocks = blocks_lines (length p.blocks) 0 (blocks_start p) p.blocks in
    sym (ap (λ (text : List ℕ). text ++ words_text p.words) (lines_text-append (first_lines p) (rows ++ blocks) ∙ ap (λ (text : List ℕ). lines_text (first_lines p) ++ text) (lines_text-append rows blocks))
    ∙ (append_assoc (lines_text (first_lines p)) (lines_text rows ++ lines_text blocks) (words_text p.words)
    ∙ ap (λ (text : List ℕ). lines_text (first_lines p) ++ text) (append_assoc (lines_text rows) (lines_text blocks) (words_text p.words))))

-- the texts of a word and of a line from their pieces

pub word_bytes : (word : Word) (number : List ℕ) → number ≡ decimal (number_of word) → number ++ ((10 ∷ []) ++ []) ≡ word_text word
unfolding word_text
word_bytes word number is = ap (λ (bytes : List ℕ). bytes ++ 10 ∷ []) is

pub line_bytes : (line : Line) (x y z : List ℕ) → x ≡ signed_decimal line.from → y ≡ signed_decimal line.to → z ≡ signed_decimal line.next
    → x ++ ((32 ∷ []) ++ (y ++ ((32 ∷ []) ++ (z ++ ((10 ∷ []) ++ []))))) ≡ line_text line
unfolding line_text
line_bytes line x y z p q r =
    ap (λ (bytes : List ℕ). bytes ++ 32 ∷ (y ++ 32 ∷ (z ++ 10 ∷ []))) p
    ∙ (ap (λ (bytes : List ℕ). signed_decimal line.from ++ 32 ∷ (bytes ++ 32 ∷ (z ++ 10 ∷ []))) q
    ∙ ap (λ (bytes : List ℕ). signed_decimal line.from ++ 32 ∷ (signed_decimal line.to ++ 32 ∷ (bytes ++ 10 ∷ []))) r)

-- lines in groups

pub two_groups : (a b : List Line) {x y : List Line} → a ≡ x → b ≡ y → a ++ (b ++ []) ≡ x ++ y
two_groups a b {x} {y} p q = ap (λ (ls : List Line). a ++ ls) (append-nil b ∙ q) ∙ ap (λ (ls : List Line). ls ++ y) p

pub three_groups : (a b c : List Line) {x y z : List Line} → a ≡ x → b ≡ y → c ≡ z → a ++ (b ++ (c ++ [])) ≡ x ++ (y ++ z)
three_groups a b c {x} {y} {z} p q r = ap (λ (ls : List Line). a ++ ls) (two_groups b c q r) ∙ ap (λ (ls : List Line). ls ++ (y ++ z)) p
