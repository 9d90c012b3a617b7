-- The lowered blocks make a program, and how large it is.
use Rattle.std.proofs.Common.{◌≡◌, suc, ◌+◌, ◌-◌, ◌^◌, ◌≤◌, Bool, true, false, not, List, [], ◌∷◌, length, take, None, position, sum_by, refl, ap, ◌∙◌, arith, le-ltb, if◌then◌else◌}
use Rattle.std.specs.List.{prefix_len, list_any}
use Rattle.std.proofs.lemmas.List.Sums.{sum_by-cons}
use Rattle.eir_core.specs.declared.ops.Op.{Op}
use Rattle.eir_core.specs.Eir.{IsEir, size_of, is_jump, is_empty, has_jump_inside}
use Rattle.word24.specs.declared.word.Word.{Word}
use Rattle.c_place.specs.Code.{jumps, cut, put_first, IsClosed, program}
use Rattle.c_place.proofs.CutLemmas.{cut_length}

abbrev AllFail : (List Op → Bool) → List (List Op) → Type 0
AllFail test [] = Unit {0}
AllFail test (x ∷ xs) = (test x ≡ false) × AllFail test xs

all_prefix : (test : List Op → Bool) (xs : List (List Op)) → AllFail test xs → prefix_len (λ x. not (test x)) xs ≡ length xs
all_prefix test [] h = refl
all_prefix test (x ∷ xs) h = rw h.0 (omega (arith, all_prefix test xs h.1))

none_found : (test : List Op → Bool) (xs : List (List Op)) → AllFail test xs → position test xs ≡ None
none_found test xs h = rw (all_prefix test xs h, le-ltb (length xs) (length xs) (omega arith)) refl

-- a block of operations that are no jumps but for the last
put_empty : (o : Op) (bs : List (List Op)) → AllFail is_empty bs → AllFail is_empty (put_first o bs)
put_empty o [] h = (refl, tt)
put_empty o (b ∷ bs) h = (grind arith, h.1)

cut_filled : (ops : List Op) → AllFail is_empty (cut ops)
cut_filled [] = tt
cut_filled (o ∷ ops) = go (is_jump o) (cut_filled ops)
  where
    go : (b : Bool) → AllFail is_empty (cut ops) → AllFail is_empty (if b then (o ∷ []) ∷ cut ops else put_first o (cut ops))
    go true h = (refl, h)
    go false h = put_empty o (cut ops) h

any_more : (o : Op) (ys : List Op) → is_jump o ≡ false → list_any is_jump ys ≡ false → list_any is_jump (o ∷ ys) ≡ false
any_more o ys e h = rw e h

inside_more : (o : Op) (b : List Op) → is_jump o ≡ false → has_jump_inside b ≡ false → has_jump_inside (o ∷ b) ≡ false
inside_more o [] e h = refl
inside_more o (x ∷ b) e h =
    let n : length (o ∷ x ∷ b) - 1 ≡ suc (length (x ∷ b) - 1) = omega arith in
    ap (λ k. list_any is_jump (take k (o ∷ x ∷ b))) n ∙ any_more o (take (length (x ∷ b) - 1) (x ∷ b)) e h

put_inside : (o : Op) (bs : List (List Op)) → is_jump o ≡ false → AllFail has_jump_inside bs → AllFail has_jump_inside (put_first o bs)
put_inside o [] e h = (refl, tt)
put_inside o (b ∷ bs) e h = (inside_more o b e h.0, h.1)

cut_inside : (ops : List Op) → AllFail has_jump_inside (cut ops)
cut_inside [] = tt
cut_inside (o ∷ ops) = go (is_jump o) refl (cut_inside ops)
  where
    go : (b : Bool) → is_jump o ≡ b → AllFail has_jump_inside (cut ops) → AllFail has_jump_inside (if b then (o ∷ []) ∷ cut ops else put_first o (cut ops))
    go true e h = (refl, h)
    go false e h = put_inside o (cut ops) e h

put_count : (o : Op) (bs : List (List Op)) → sum_by length (put_first o bs) ≡ suc (sum_by length bs)
put_count o [] = refl
put_count o (b ∷ bs) = omega (arith, sum_by-cons length (o ∷ b) bs, sum_by-cons length b bs)

pub cut_count : (ops : List Op) → sum_by length (cut ops) ≡ length ops
cut_count [] = refl
cut_count (o ∷ ops) = go (is_jump o) (cut_count ops)
  where
    go : (b : Bool) → sum_by length (cut ops) ≡ length ops → sum_by length (if b then (o ∷ []) ∷ cut ops else put_first o (cut ops)) ≡ length (o ∷ ops)
    go true h = omega (arith, sum_by-cons length (o ∷ []) (cut ops), h)
    go false h = omega (arith, put_count o (cut ops), h)

-- closed code of this size makes a program
pub cut_size : (ops : List Op) (words : List Word) → IsClosed ops → size_of (program ops words) ≡ jumps ops + length ops + length words
cut_size ops words c = omega (arith, cut_length ops c, cut_count ops)

pub cut_is_eir : (ops : List Op) (words : List Word) → IsClosed ops → jumps ops + length ops + length words ≤ 2 ^ 21 → IsEir (program ops words)
cut_is_eir ops words c le = record {
  blocks = record { filled = none_found is_empty (cut ops) (cut_filled ops); jumps = none_found has_jump_inside (cut ops) (cut_inside ops) };
  start = omega arith;
  size = omega (arith, cut_size ops words c, le);
}
