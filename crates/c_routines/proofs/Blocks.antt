-- The blocks of code make a program.
use Rattle.std.proofs.Common.{◌≡◌, ℕ, suc, ◌-◌, Bool, true, false, not, List, [], ◌∷◌, ◌++◌, length, take, None, position, refl, ap, ◌∙◌, arith, le-ltb}
use Rattle.std.specs.List.{prefix_len, list_any}
use Rattle.word24.specs.declared.word.Word.{Word}
use Rattle.eir_core.specs.declared.ops.Op.{Op}
use Rattle.eir_core.specs.declared.ops.Op.TheVariants as eir
use Rattle.eir_core.specs.Eir.{Eir, HasGoodBlocks, is_jump, is_empty, has_jump_inside}
use Rattle.c_routines.specs.declared.item.Item.{Item}
use Rattle.c_routines.specs.declared.item.Item.TheVariants.{Does, Label, Jump, JumpIf, MoveLabel}
use Rattle.c_routines.specs.Items.{constant}
use Rattle.c_routines.specs.Cuts.{Cut, filled, blocks_of, cut_before, cut_items, program_of, block_at, linked}

-- the blocks, where some operations of the first one are there
abbrev pub glued : List Op → Cut → List (List Op)
glued xs c = filled (xs ++ c.head) c.rest

-- no block is empty, and none has a jump inside
abbrev AllFail : (List Op → Bool) → List (List Op) → Type 0
AllFail test [] = Unit {0}
AllFail test (x ∷ xs) = (test x ≡ false) × AllFail test xs

all_prefix : (test : List Op → Bool) (xs : List (List Op)) → AllFail test xs → prefix_len (λ x. not (test x)) xs ≡ length xs
all_prefix test [] h = refl
all_prefix test (x ∷ xs) h = rw h.0 (omega (arith, all_prefix test xs h.1))

none_found : (test : List Op → Bool) (xs : List (List Op)) → AllFail test xs → position test xs ≡ None
none_found test xs h = rw (all_prefix test xs h, le-ltb (length xs) (length xs) (omega arith)) refl

any_more : (o : Op) (ys : List Op) → is_jump o ≡ false → list_any is_jump ys ≡ false → list_any is_jump (o ∷ ys) ≡ false
any_more o ys e h = rw e h

inside_more : (o : Op) (b : List Op) → is_jump o ≡ false → has_jump_inside b ≡ false → has_jump_inside (o ∷ b) ≡ false
inside_more o [] e h = refl
inside_more o (x ∷ b) e h =
    let n : length (o ∷ x ∷ b) - 1 ≡ suc (length (x ∷ b) - 1) = omega arith in
    ap (λ k. list_any is_jump (take k (o ∷ x ∷ b))) n ∙ any_more o (take (length (x ∷ b) - 1) (x ∷ b)) e h

record IsGood (c : Cut) : Type 0 where
  head : has_jump_inside c.head ≡ false
  filled : AllFail is_empty c.rest
  jumps : AllFail has_jump_inside c.rest

good_filled : (xs : List Op) (bs : List (List Op)) → AllFail is_empty bs → AllFail is_empty (filled xs bs)
good_filled [] bs h = h
good_filled (x ∷ xs) bs h = (grind arith, h)

good_jumps : (xs : List Op) (bs : List (List Op)) → has_jump_inside xs ≡ false → AllFail has_jump_inside bs → AllFail has_jump_inside (filled xs bs)
good_jumps [] bs e h = h
good_jumps (x ∷ xs) bs e h = (e, h)

good_before : (t : Bool) (op : Op) (c : Cut) → is_jump op ≡ t → IsGood c → IsGood (cut_before t op c)
good_before true op c e h = record { head = refl; filled = good_filled c.head c.rest h.filled; jumps = good_jumps c.head c.rest h.head h.jumps }
good_before false op c e h = record { head = inside_more op c.head e h.head; filled = h.filled; jumps = h.jumps }

good : (at : ℕ → ℕ) (items : List Item) → IsGood (cut_items at items)
good at [] = record { head = refl; filled = tt; jumps = tt }
good at (Label l ∷ items) = let h = good at items in record { head = refl; filled = good_filled (cut_items at items).head (cut_items at items).rest h.filled; jumps = good_jumps (cut_items at items).head (cut_items at items).rest h.head h.jumps }
good at (Does op ∷ items) = good_before (is_jump op) op (cut_items at items) refl (good at items)
good at (Jump l ∷ items) = good_before true (eir.Jump (constant (at l))) (cut_items at items) refl (good at items)
good at (JumpIf test l r v ∷ items) = good_before true (eir.JumpIf test (constant (at l)) r v) (cut_items at items) refl (good at items)
good at (MoveLabel r l ∷ items) = good_before false (eir.Mov r (constant (at l))) (cut_items at items) refl (good at items)

pub good_blocks : (at : ℕ → ℕ) (items : List Item) (words : List Word) → HasGoodBlocks (program_of at items words)
good_blocks at items words =
    let h = good at items in
    let c = cut_items at items in
    record { filled = none_found is_empty (blocks_of c) (good_filled c.head c.rest h.filled); jumps = none_found has_jump_inside (blocks_of c) (good_jumps c.head c.rest h.head h.jumps) }

abbrev pub with_blocks : List (List Op) → List Word → Eir
with_blocks blocks words = record { blocks = blocks; words = words; start = 0 }

-- the program of these blocks is the linked one
pub linked_of : (at : ℕ → ℕ) (items : List Item) (words : List Word) (blocks : List (List Op)) → ((name : ℕ) → at name ≡ block_at items name) → blocks ≡ blocks_of (cut_items at items) → with_blocks blocks words ≡ linked items words
linked_of at items words blocks same is = ap (λ bs. with_blocks bs words) (is ∙ λ i. blocks_of (cut_items (λ name. same name i) items))
