-- One piece handed on after the other.
use Rattle.std.proofs.Common.{◌≡◌, ℕ, zero, suc, ◌+◌, ◌-◌, ◌*◌, ◌%◌, ◌^◌, ◌<◌, ◌≤◌, false, cond, nat_lt, List, [], ◌∷◌, ◌++◌, length, drop, Option, None, Some, Result, Ok, Err, slice_get, refl, sym, ap, subst, ◌∙◌, arith, append-nil, append_assoc, add-one, get_or}
use Rattle.std.specs.Io.KnownBytes.{Appends}
use Rattle.std.proofs.Math.Nat.{pow-le-pow_right}
use Rattle.std.proofs.lemmas.Bool.{lt-ltb}
use Rattle.std.proofs.lemmas.Bool.Decides.{nat_tests}
use Rattle.mach_core.specs.Outside.{Rose}
use Rattle.mach_core.specs.Put.{Passes, GotPrefix}
use Rattle.mach_core.proofs.Sent.{Passes-more, GotPrefix-after, GotPrefix-longer}
use Rattle.word24.specs.declared.word.Word.{Word}
use Rattle.eir_core.specs.declared.ops.Op.{Op}
use Rattle.eir_core.specs.Eir.{Eir}
use Rattle.sim_trait.specs.declared.backend.EmitFault.{EmitFault}
use Rattle.sim_trait.specs.declared.backend.EmitFault.TheVariants.{TooLarge, Write, Memory}
use Rattle.ws_lang.specs.Instruction.{Label, Instruction, Mark, Jump}
use Rattle.ws_back.specs.Code.{op_code, ops_code, words_code, branch_code, tree_code, blocks_code, branch_label, block_label, goal_label, dispatch_code, end_code, code_of}
use Rattle.ws_back.specs.Text.{text_of}
use Rattle.ws_back.specs.Pieces.{IsHanded}
use Rattle.mach_core.proofs.Lists.{next_is, next_of}
use Rattle.ws_back.proofs.Texts.{text_of-append}

-- the text of some code was handed on but for the text of what is left of it
pub record Ahead (before now : Option (List ℕ)) (old held : List ℕ) (all left : List Instruction) : Type 0 where
  pub done : List ℕ
  pub whole : done ++ text_of left ≡ text_of all
  pub passed : Passes before now (old ++ done) held

nothing_sent : (a : Option (List ℕ)) → Appends a a []
nothing_sent None = tt
nothing_sent (Some s) = sym (append-nil s)

pub ahead_start : (a : Option (List ℕ)) (old : List ℕ) (all : List Instruction) → Ahead a a old old all all
ahead_start a old all = record { done = []; whole = refl; passed = record { sent = []; appended = nothing_sent a; whole = sym (append-nil old) } }

split : (done : List ℕ) (x left all : List Instruction) → done ++ text_of (x ++ left) ≡ text_of all → (done ++ text_of x) ++ text_of left ≡ text_of all
split done x left all e = append_assoc done (text_of x) (text_of left) ∙ (ap (λ (bs : List ℕ). done ++ bs) (sym (text_of-append x left)) ∙ e)

-- one more piece
pub ahead_more : (a b c : Option (List ℕ)) (old held held' : List ℕ) (all x left : List Instruction) → Ahead a b old held all (x ++ left) → Passes b c (held ++ text_of x) held' → Ahead a c old held' all left
ahead_more a b c old held held' all x left p q = record {
  done = p.done ++ text_of x;
  whole = split p.done x left all p.whole;
  passed = subst (λ bs. Passes a c bs held') (append_assoc old p.done (text_of x)) (Passes-more a b c (old ++ p.done) (text_of x) held held' p.passed q);
}

-- a piece that fails after others
pub ahead_fails : (a b c : Option (List ℕ)) (old held : List ℕ) (all x left : List Instruction) → Ahead a b old held all (x ++ left) → GotPrefix b c (held ++ text_of x) → GotPrefix a c (old ++ text_of all)
ahead_fails a b c old held all x left p q =
    GotPrefix-longer a c ((old ++ p.done) ++ text_of x) (text_of left) (old ++ text_of all)
    (ap (λ (bs : List ℕ). bs ++ text_of left) (append_assoc old p.done (text_of x)) ∙ (append_assoc old (p.done ++ text_of x) (text_of left) ∙ ap (λ (bs : List ℕ). old ++ bs) (split p.done x left all p.whole)))
    (GotPrefix-after a b c (old ++ p.done) (text_of x) held p.passed q)

pub ahead_stops : (a b c : Option (List ℕ)) (old held held' held'' : List ℕ) (all x left : List Instruction) (rose rose' : Type 0) (e : EmitFault) → (rose → rose') → Ahead a b old held all (x ++ left)
    → IsHanded b c rose (held ++ text_of x) held' (Err e) → IsHanded a c rose' (old ++ text_of all) held'' (Err e)
ahead_stops a b c old held held' held'' all x left rose rose' (TooLarge n) rises p q = q
ahead_stops a b c old held held' held'' all x left rose rose' Write rises p q = (rises q.0, ahead_fails a b c old held all x left p q.1)
ahead_stops a b c old held held' held'' all x left rose rose' Memory rises p q = ahead_fails a b c old held all x left p q

pub ahead_stops_with : (a b c : Option (List ℕ)) (old held held' held'' : List ℕ) (all x left : List Instruction) (rose rose' : Type 0) (e : EmitFault) (r : Result (Unit {0}) EmitFault) → (rose → rose') → (f : EmitFault) × (r ≡ Err f) × (f ≡ e) → Ahead a b old held all (x ++ left)
    → IsHanded b c rose (held ++ text_of x) held' (Err e) → IsHanded a c rose' (old ++ text_of all) held'' r
ahead_stops_with a b c old held held' held'' all x left rose rose' e r rises is p q =
    subst (λ y. IsHanded a c rose' (old ++ text_of all) held'' y) (sym (is.1 ∙ ap (λ y. Err y) is.2)) (ahead_stops a b c old held held' held'' all x left rose rose' e rises p q)

-- all of it was handed on
pub ahead_done : (a b : Option (List ℕ)) (old held : List ℕ) (all : List Instruction) → Ahead a b old held all [] → Passes a b (old ++ text_of all) held
ahead_done a b old held all p = subst (λ bs. Passes a b (old ++ bs) held) (sym (append-nil p.done) ∙ p.whole) p.passed

-- with the last piece
pub ahead_last : (a b c : Option (List ℕ)) (old held held' : List ℕ) (all x : List Instruction) (rose rose' : Type 0) (r : Result (Unit {0}) EmitFault) → (rose → rose') → Ahead a b old held all x
    → IsHanded b c rose (held ++ text_of x) held' r → IsHanded a c rose' (old ++ text_of all) held' r
ahead_last a b c old held held' all x rose rose' (Ok u) rises p q =
    ahead_done a c old held' all (ahead_more a b c old held held' all x [] (record { done = p.done; whole = ap (λ (is : List Instruction). p.done ++ text_of is) (append-nil x) ∙ p.whole; passed = p.passed }) q)
ahead_last a b c old held held' all x rose rose' (Err e) rises p q =
    ahead_stops a b c old held held' held' all x [] rose rose' e rises (record { done = p.done; whole = ap (λ (is : List Instruction). p.done ++ text_of is) (append-nil x) ∙ p.whole; passed = p.passed }) q

-- a count that rose after others rose
pub rises_after : (a b c : ℕ) → a ≤ b → Rose b c → Rose a c
rises_after a b c le h = omega arith

-- the code that is left, without its first piece

pub words_more : (words : List Word) (a : ℕ) (w : Word) → a < length words → w ≡ get_or words a w → words_code a (drop a words) ≡ words_code a (w ∷ []) ++ words_code (a + 1) (drop (a + 1) words)
words_more words a w h is =
    ap (words_code a) (next_of words a w h is)

pub ops_more : (n : ℕ) (ops : List Op) (i : ℕ) (op : Op) → i < length ops → op ≡ get_or ops i op → ops_code n (drop i ops) ≡ op_code n op ++ ops_code n (drop (i + 1) ops)
ops_more n ops i op h is =
    ap (ops_code n) (next_of ops i op h is)

-- where a tree is parted, as the code has it
pub middle_is : (depth low : ℕ) → depth ≤ 22 → low + 1 * 2 ^ (depth - 1) % 4294967296 ≡ low + 2 ^ (depth - 1)
middle_is depth low few =
    let less : depth - 1 ≤ 22 = omega arith in
    let fits : 2 ^ (depth - 1) ≤ 2 ^ 22 = pow-le-pow_right (omega arith) less in
    omega arith

-- a tree whose middle is past the number of blocks has no numbers above it
pub tree_below : (n depth low middle : ℕ) → 0 < depth → middle ≡ low + 2 ^ (depth - 1) → n < middle → tree_code n depth low ≡ tree_code n (depth - 1) low
tree_below n zero low middle some is lt = absurd (omega arith)
tree_below n (suc d) low middle some is lt =
    let less : d ≡ suc d - 1 = omega arith in
    let same : low + 2 ^ d ≡ middle = ap (λ j. low + 2 ^ j) less ∙ sym is in
    let within : n < low + 2 ^ d = omega arith in
    ap (λ b. cond b (tree_code n d low) (branch_code (low + 2 ^ d) ++ (tree_code n d (low + 2 ^ d) ++ Mark (branch_label (low + 2 ^ d)) ∷ tree_code n d low))) (lt-ltb n (low + 2 ^ d) within)
    ∙ ap (λ j. tree_code n j low) less

-- the parts of another one
pub tree_parts : (n depth low middle : ℕ) → 0 < depth → middle ≡ low + 2 ^ (depth - 1) → middle ≤ n
    → tree_code n depth low ≡ branch_code middle ++ (tree_code n (depth - 1) middle ++ Mark (branch_label middle) ∷ tree_code n (depth - 1) low)
tree_parts n zero low middle some is le = absurd (omega arith)
tree_parts n (suc d) low middle some is le =
    let less : d ≡ suc d - 1 = omega arith in
    let same : low + 2 ^ d ≡ middle = ap (λ j. low + 2 ^ j) less ∙ sym is in
    let past : low + 2 ^ d ≤ n = omega arith in
    let test : nat_lt n (low + 2 ^ d) ≡ false = grind (arith, nat_tests) in
    let parts : ℕ → ℕ → List Instruction = λ j m. branch_code m ++ (tree_code n j m ++ Mark (branch_label m) ∷ tree_code n j low) in
    ap (λ b. cond b (tree_code n d low) (parts d (low + 2 ^ d))) test ∙ (ap (parts d) same ∙ ap (λ j. parts j middle) less)

pub blocks_more : (n : ℕ) (bs : List (List Op)) (k : ℕ) (ops : List Op) → slice_get bs k ≡ Some ops → blocks_code n k (drop k bs) ≡ (Mark (block_label k) ∷ ops_code n ops) ++ blocks_code n (k + 1) (drop (k + 1) bs)
blocks_more n bs k ops e = ap (blocks_code n k) (next_is bs k ops e) ∙ ap (λ j. (Mark (block_label k) ∷ ops_code n ops) ++ blocks_code n j (drop j bs)) (sym (add-one k))

-- the code of a program from its parts
pub code_parts : (p : Eir) (n start : ℕ) (words : List Word) (l : Label) → words ≡ p.words → n ≡ length p.blocks → start ≡ p.start → l ≡ goal_label n start
    → words_code 0 words ++ (Jump l ∷ (dispatch_code n ++ (blocks_code (length p.blocks) 0 p.blocks ++ end_code))) ≡ code_of p
code_parts p n start words l w e s is =
    let to : l ≡ goal_label (length p.blocks) p.start = is ∙ (ap (λ k. goal_label n k) s ∙ ap (λ m. goal_label m p.start) e) in
    let rest = blocks_code (length p.blocks) 0 p.blocks ++ end_code in
    ap (λ ws. words_code 0 ws ++ (Jump l ∷ (dispatch_code n ++ rest))) w
    ∙ (ap (λ x. words_code 0 p.words ++ (Jump x ∷ (dispatch_code n ++ rest))) to
    ∙ ap (λ m. words_code 0 p.words ++ (Jump (goal_label (length p.blocks) p.start) ∷ (dispatch_code m ++ rest))) e)
