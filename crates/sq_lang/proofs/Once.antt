-- A text spells one list of cells, or is refused for one reason.
use Rattle.std.proofs.Common.{◌≡◌, ℕ, Bool, true, false, List, [], ◌∷◌, ◌++◌, length, ◌-◌, ℤ, refl, sym, ap, subst, ◌∙◌, arith, FitsSigned, w64}
use Rattle.std.specs.List.{AllByRecursion}
use Rattle.sq_lang.specs.declared.text.SqFault.{SqFault}
use Rattle.sq_lang.specs.declared.text.SqFault.TheVariants.{BadNumber, NumberRange, Memory}
use Rattle.sq_lang.specs.Text.{is_separator, AreSeparators, IsPiece, IsParted, Begins, number_in, SpellsCell, BeginsWithCells, sq_spells}
use Rattle.sq_lang.specs.Answers.{IsWrong, IsRefused}

clash : (b : Bool) → b ≡ true → b ≡ false → ⊥
clash b p q = cc

abbrev NoSeparators : List ℕ → Type 0
NoSeparators xs = AllByRecursion (λ byte. is_separator byte ≡ false) xs

-- a piece is cut from what follows in one way
record SameCut (piece rest piece' rest' : List ℕ) : Type 0 where
  piece_is : piece ≡ piece'
  rest_is : rest ≡ rest'

heads : (x y : ℕ) (xs ys : List ℕ) → x ∷ xs ≡ y ∷ ys → x ≡ y
heads x y xs ys e = cc

tails : (x y : ℕ) (xs ys : List ℕ) → x ∷ xs ≡ y ∷ ys → xs ≡ ys
tails x y xs ys e = cc

starts_apart : (y : ℕ) (ys rest rest' : List ℕ) → NoSeparators (y ∷ ys) → IsParted rest → rest ≡ (y ∷ ys) ++ rest' → ⊥
starts_apart y ys [] rest' n p e = cc
starts_apart y ys (x ∷ xs) rest' n p e = clash (is_separator y) (rw (sym (heads x y xs (ys ++ rest') e)) p) n.0

same_piece : (piece rest piece' rest' : List ℕ) → NoSeparators piece → NoSeparators piece' → IsParted rest → IsParted rest' → piece ++ rest ≡ piece' ++ rest' → SameCut piece rest piece' rest'
same_piece [] rest [] rest' n n' p p' e = record { piece_is = refl; rest_is = e }
same_piece [] rest (y ∷ ys) rest' n n' p p' e = absurd (starts_apart y ys rest rest' n' p e)
same_piece (x ∷ xs) rest [] rest' n n' p p' e = absurd (starts_apart x xs rest' rest n p' (sym e))
same_piece (x ∷ xs) rest (y ∷ ys) rest' n n' p p' e =
    let more = same_piece xs rest ys rest' n.1 n'.1 p p' (tails x y (xs ++ rest) (ys ++ rest') e) in
    let first : x ≡ y = heads x y (xs ++ rest) (ys ++ rest') e in
    record { piece_is = rw (first, more.piece_is) refl; rest_is = more.rest_is }

abbrev StartsOther : List ℕ → Type 0
StartsOther [] = ⊥
StartsOther (x ∷ xs) = is_separator x ≡ false

piece_starts : (piece rest : List ℕ) → IsPiece piece → StartsOther (piece ++ rest)
piece_starts [] rest p = absurd (omega (arith, p.0))
piece_starts (x ∷ xs) rest p = p.1.0

-- separators are cut from what follows in one way
same_gap : (gap gap' xs xs' : List ℕ) → AreSeparators gap → AreSeparators gap' → StartsOther xs → StartsOther xs' → gap ++ xs ≡ gap' ++ xs' → xs ≡ xs'
same_gap [] [] xs xs' s s' o o' e = e
same_gap [] (y ∷ ys) [] xs' s s' o o' e = absurd o
same_gap [] (y ∷ ys) (x ∷ xs) xs' s s' o o' e = absurd (clash (is_separator y) s'.0 (rw (sym (heads x y xs (ys ++ xs') e)) o))
same_gap (y ∷ ys) [] xs [] s s' o o' e = absurd o'
same_gap (y ∷ ys) [] xs (x ∷ xs') s s' o o' e = absurd (clash (is_separator y) s.0 (rw (heads y x (ys ++ xs) xs' e) o'))
same_gap (x ∷ gap) (y ∷ gap') xs xs' s s' o o' e = same_gap gap gap' xs xs' s.1 s'.1 o o' (tails x y (gap ++ xs) (gap' ++ xs') e)

same_front : (text gap piece rest gap' piece' rest' : List ℕ) → Begins text gap piece rest → Begins text gap' piece' rest' → SameCut piece rest piece' rest'
same_front text gap piece rest gap' piece' rest' b b' =
    same_piece piece rest piece' rest' b.unbroken.1 b'.unbroken.1 b.parted b'.parted
    (same_gap gap gap' (piece ++ rest) (piece' ++ rest') b.separators b'.separators (piece_starts piece rest b.unbroken) (piece_starts piece' rest' b'.unbroken) (sym b.whole ∙ b'.whole))

gap_only : (gap xs : List ℕ) → StartsOther xs → AreSeparators (gap ++ xs) → ⊥
gap_only [] [] o s = o
gap_only [] (x ∷ xs) o s = clash (is_separator x) s.0 o
gap_only (y ∷ ys) xs o s = gap_only ys xs o s.1

-- a text of separators begins with no piece
no_piece : (text gap piece rest : List ℕ) → AreSeparators text → Begins text gap piece rest → ⊥
no_piece text gap piece rest s b = gap_only gap (piece ++ rest) (piece_starts piece rest b.unbroken) (rw b.whole at s)

-- the text begins with no cell
abbrev IsStuck : List ℕ → Type 0
IsStuck text = (gap piece rest : List ℕ) (cell : ℤ) → Begins text gap piece rest → SpellsCell piece cell → ⊥

record SameRead (cells : List ℤ) (tail : List ℕ) (cells' : List ℤ) (tail' : List ℕ) : Type 0 where
  cells_are : cells ≡ cells'
  tail_is : tail ≡ tail'

same_read : (text : List ℕ) (cells cells' : List ℤ) (tail tail' : List ℕ) → BeginsWithCells text cells tail → IsStuck tail → BeginsWithCells text cells' tail' → IsStuck tail' → SameRead cells tail cells' tail'
same_read text [] [] tail tail' p s p' s' = record { cells_are = refl; tail_is = sym p ∙ p' }
same_read text [] (c ∷ cells') tail tail' p s p' s' =
    let P : List ℕ → Type 0 = λ t. Begins t p'.0 p'.1 p'.2 in
    absurd (s p'.0 p'.1 p'.2 c (subst P p p'.3) p'.4)
same_read text (c ∷ cells) [] tail tail' p s p' s' =
    let P : List ℕ → Type 0 = λ t. Begins t p.0 p.1 p.2 in
    absurd (s' p.0 p.1 p.2 c (subst P p' p.3) p.4)
same_read text (c ∷ cells) (c' ∷ cells') tail tail' p s p' s' =
    let cut = same_front text p.0 p.1 p.2 p'.0 p'.1 p'.2 p.3 p'.3 in
    let P : List ℕ → Type 0 = λ t. BeginsWithCells t cells' tail' in
    let more = same_read p.2 cells cells' tail tail' p.5 s (subst P (sym cut.rest_is) p'.5) s' in
    let first : c ≡ c' = p.4.value ∙ (ap number_in cut.piece_is ∙ sym p'.4.value) in
    record { cells_are = rw (first, more.cells_are) refl; tail_is = more.tail_is }

stuck_end : (tail : List ℕ) → AreSeparators tail → IsStuck tail
stuck_end tail seps gap piece rest cell b s = no_piece tail gap piece rest seps b

-- a wrong piece spells no cell
wrong_spells_none : (piece : List ℕ) (place : ℕ) (fault : SqFault) (cell : ℤ) → IsWrong piece place fault → SpellsCell piece cell → ⊥
wrong_spells_none piece place (BadNumber at) cell w s = w.1 s.number
wrong_spells_none piece place (NumberRange at) cell w s =
    let P : ℤ → Type 0 = λ z. FitsSigned w64 z in
    w.2 (subst P s.value s.fits)
wrong_spells_none piece place Memory cell w s = w

stuck_wrong : (text : List ℕ) (fault : SqFault) (w : IsRefused text fault) → IsStuck w.tail
stuck_wrong text fault w gap piece rest cell b s =
    let cut = same_front w.tail w.gap w.piece w.rest gap piece rest w.begins b in
    let P : List ℕ → Type 0 = λ x. SpellsCell x cell in
    wrong_spells_none w.piece _ fault cell w.wrong (subst P (sym cut.piece_is) s)

pub spelled_once : (text : List ℕ) (cells others : List ℤ) → sq_spells text cells → sq_spells text others → cells ≡ others
spelled_once text cells others p q = (same_read text cells others p.0 q.0 p.1 (stuck_end p.0 p.2) q.1 (stuck_end q.0 q.2)).cells_are

-- a spelled text has no wrong piece
pub never_both : (text : List ℕ) (cells : List ℤ) (fault : SqFault) → sq_spells text cells → IsRefused text fault → ⊥
never_both text cells fault p w =
    let same = same_read text cells w.cells p.0 w.tail p.1 (stuck_end p.0 p.2) w.before (stuck_wrong text fault w) in
    let P : List ℕ → Type 0 = λ t. AreSeparators t in
    no_piece w.tail w.gap w.piece w.rest (subst P same.tail_is p.2) w.begins

one_fault : (piece : List ℕ) (place : ℕ) (fault other : SqFault) → IsWrong piece place fault → IsWrong piece place other → fault ≡ other
one_fault piece place (BadNumber a) (BadNumber b) w v = ap BadNumber (w.0 ∙ sym v.0)
one_fault piece place (BadNumber a) (NumberRange b) w v = absurd (w.1 v.1)
one_fault piece place (BadNumber a) Memory w v = absurd v
one_fault piece place (NumberRange a) (BadNumber b) w v = absurd (v.1 w.1)
one_fault piece place (NumberRange a) (NumberRange b) w v = ap NumberRange (w.0 ∙ sym v.0)
one_fault piece place (NumberRange a) Memory w v = absurd v
one_fault piece place Memory other w v = absurd w

pub refused_once : (text : List ℕ) (fault other : SqFault) → IsRefused text fault → IsRefused text other → fault ≡ other
refused_once text fault other w v =
    let same = same_read text w.cells v.cells w.tail v.tail w.before (stuck_wrong text fault w) v.before (stuck_wrong text other v) in
    let P : List ℕ → Type 0 = λ t. Begins t v.gap v.piece v.rest in
    let cut = same_front w.tail w.gap w.piece w.rest v.gap v.piece v.rest w.begins (subst P (sym same.tail_is) v.begins) in
    let Q : List ℕ → List ℕ → Type 0 = λ piece rest. IsWrong piece (length text - length (piece ++ rest)) other in
    let here : Q w.piece v.rest = subst (λ piece. Q piece v.rest) (sym cut.piece_is) v.wrong in
    one_fault w.piece (length text - length (w.piece ++ w.rest)) fault other w.wrong (subst (Q w.piece) (sym cut.rest_is) here)
