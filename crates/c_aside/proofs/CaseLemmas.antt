-- The jumps to the labels of a `switch`, one after the other.
use Rattle.std.proofs.Common.{◌≡◌, ◌+◌, ◌<◌, ℕ, suc, List, [], ◌∷◌, ◌++◌, length, drop, map, refl, sym, ap, subst, ◌∙◌, append_assoc, length-append, arith}
use Rattle.std.specs.Prelude.{Bool, true, false, if◌then◌else◌, Option, Some, None, is_some, count_by}
use Rattle.std.specs.Option.{option_map}
use Rattle.std.specs.List.{filter}
use Rattle.std.proofs.lemmas.List.Sums.{length-filter}
use Rattle.word24.specs.declared.word.Word.{Word}
use Rattle.word24.specs.Word.{number_of}
use Rattle.c_eval.specs.Environment.{Default}
use Rattle.c_code.specs.Code as code
use Rattle.c_code.specs.Code.{case_jump, label_place}
use Rattle.c_emitted.specs.declared.emitter.Emitter.{Emitter}
use Rattle.c_emitted.specs.Emits.{Emits}
use Rattle.c_emitted.proofs.EmitLemmas.{nothing, later}
use Rattle.c_aside.specs.declared.cases.Label.{Label}
use Rattle.c_aside.specs.Cases.{label_of, labels_of, JumpsTo}

one_counted : (w : Option Word) (l : Label) (x : ℕ) (js : List code.Instruction) (fs : List Label) → length js ≡ length fs + 2 → length (case_jump (option_map number_of w) x ++ js) ≡ length (if is_some w then (l ∷ fs) else fs) + 2
one_counted None l x js fs e = e
one_counted (Some w) l x js fs e = omega (arith, e)

filtered : (ls : List Label) (otherwise : ℕ) → length (code.case_jumps (labels_of ls) otherwise) ≡ length (filter (λ (l : Label). is_some l.word) ls) + 2
filtered [] otherwise = refl
filtered (l ∷ ls) otherwise = one_counted l.word l (l.at + length (code.case_jumps (labels_of ls) otherwise)) (code.case_jumps (labels_of ls) otherwise) (filter (λ (x : Label). is_some x.word) ls) (filtered ls otherwise)

-- a jump for each case, and two instructions past them
pub jumps_counted : (ls : List Label) (otherwise : ℕ) → length (code.case_jumps (labels_of ls) otherwise) ≡ count_by (λ (l : Label). is_some l.word) ls + 2
jumps_counted ls otherwise = filtered ls otherwise ∙ ap (λ (n : ℕ). n + 2) (length-filter (λ (l : Label). is_some l.word) ls)

pub case_word : (w : Option Word) → is_some (option_map number_of w) ≡ is_some w
case_word (Some w) = refl
case_word None = refl

-- a label that is no default
pub case_passed : (w : Option ℕ) (at past : ℕ) (ls : List code.Label) → is_some w ≡ true → label_place Default (record { word = w; at = at } ∷ ls) past ≡ label_place Default ls past
case_passed (Some w) at past ls e = refl
case_passed None at past ls e = absurd cc

pub default_found : (w : Option ℕ) (at past : ℕ) (ls : List code.Label) → is_some w ≡ false → at ≡ label_place Default (record { word = w; at = at } ∷ ls) past
default_found (Some w) at past ls e = absurd cc
default_found None at past ls e = refl

-- the jump to one label
pub no_jump : (a : Emitter) (l : Label) (left : ℕ) → l.word ≡ None → JumpsTo a a l left left
no_jump a l left e =
    let none : case_jump (label_of l).word (l.at + left) ≡ [] = ap (λ (w : Option Word). case_jump (option_map number_of w) (l.at + left)) e in
    let long : length (case_jump (label_of l).word (l.at + left)) ≡ 0 = ap length none in
    record { emits = subst (λ (is : List code.Instruction). Emits a a is []) (sym none) (nothing a); left_behind = omega (arith, long) }

pub one_jump : (a b : Emitter) (l : Label) (w : Word) (left behind : ℕ) → l.word ≡ Some w → behind + 1 ≡ left → Emits a b (code.JumpAt (number_of w) (l.at + behind) ∷ []) [] → JumpsTo a b l left behind
one_jump a b l w left behind e count emits =
    let some : case_jump (label_of l).word (l.at + behind) ≡ code.JumpAt (number_of w) (l.at + behind) ∷ [] = ap (λ (v : Option Word). case_jump (option_map number_of v) (l.at + behind)) e in
    let long : length (case_jump (label_of l).word (l.at + behind)) ≡ 1 = ap length some in
    record { emits = subst (λ (is : List code.Instruction). Emits a b is []) (sym some) emits; left_behind = omega (arith, long, count) }

-- the jumps that are emitted so far, and how many instructions are left
pub record JumpsSoFar (a b : Emitter) (ls : List Label) (otherwise k left : ℕ) : Type 0 where
  pub is : List code.Instruction
  pub emits : Emits a b is []
  pub whole : code.case_jumps (labels_of ls) otherwise ≡ is ++ code.case_jumps (labels_of (drop k ls)) otherwise
  pub left_over : left ≡ length (code.case_jumps (labels_of (drop k ls)) otherwise)

pub jumps_begun : (a : Emitter) (ls : List Label) (otherwise left : ℕ) → left ≡ length (code.case_jumps (labels_of ls) otherwise) → JumpsSoFar a a ls otherwise 0 left
jumps_begun a ls otherwise left e = record { is = []; emits = nothing a; whole = refl; left_over = e }

pub jumps_left : (ls : List Label) (otherwise : ℕ) → 0 < length (code.case_jumps (labels_of ls) otherwise)
jumps_left ls otherwise = let e = jumps_counted ls otherwise in omega arith

case_length : (w : Option ℕ) (n : ℕ) → length (case_jump w n) ≡ length (case_jump w 0)
case_length None n = refl
case_length (Some w) n = refl

pub jump_more : (a b c : Emitter) (ls : List Label) (otherwise k left behind : ℕ) (l : Label) → JumpsSoFar a b ls otherwise k left → drop k ls ≡ l ∷ drop (k + 1) ls → JumpsTo b c l left behind → JumpsSoFar a c ls otherwise (k + 1) behind
jump_more a b c ls otherwise k left behind l h cut j =
    let rest = code.case_jumps (labels_of (drop (k + 1) ls)) otherwise in
    let split : code.case_jumps (labels_of (drop k ls)) otherwise ≡ case_jump (label_of l).word (l.at + length rest) ++ rest = ap (λ (x : List Label). code.case_jumps (labels_of x) otherwise) cut in
    let one : (n : ℕ) → length (case_jump (label_of l).word n) ≡ length (case_jump (label_of l).word 0) = λ n. case_length (label_of l).word n in
    let long : length (code.case_jumps (labels_of (drop k ls)) otherwise) ≡ length (case_jump (label_of l).word (l.at + length rest)) + length rest = ap length split ∙ length-append (case_jump (label_of l).word (l.at + length rest)) rest in
    let count : behind ≡ length rest = omega (arith, j.left_behind, h.left_over, long, one (l.at + length rest), one (l.at + behind)) in
    record {
      is = h.is ++ case_jump (label_of l).word (l.at + behind);
      emits = later h.emits j.emits;
      whole =
          h.whole ∙ (ap (λ (x : List code.Instruction). h.is ++ x) (split ∙ ap (λ (n : ℕ). case_jump (label_of l).word (l.at + n) ++ rest) (sym count))
          ∙ sym (append_assoc h.is (case_jump (label_of l).word (l.at + behind)) rest));
      left_over = count;
    }

-- the jump past all of them
pub jumps_done : (a b c : Emitter) (ls : List Label) (otherwise k left : ℕ) → JumpsSoFar a b ls otherwise k left → drop k ls ≡ [] → Emits b c (code.Drop ∷ code.Jump otherwise ∷ []) [] → Emits a c (code.case_jumps (labels_of ls) otherwise) []
jumps_done a b c ls otherwise k left h end more =
    let all : code.case_jumps (labels_of ls) otherwise ≡ h.is ++ (code.Drop ∷ code.Jump otherwise ∷ []) = h.whole ∙ ap (λ (x : List Label). h.is ++ code.case_jumps (labels_of x) otherwise) end in
    subst (λ (is : List code.Instruction). Emits a c is []) (sym all) (later h.emits more)
