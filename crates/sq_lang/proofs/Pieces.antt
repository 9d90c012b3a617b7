-- Pieces at the front of a text.
use Rattle.std.proofs.Common.{◌≡◌, ℕ, suc, ◌+◌, ◌-◌, ◌<◌, ◌≤◌, Bool, true, false, not, cond, List, [], ◌∷◌, ◌++◌, length, take, drop, ℤ, refl, sym, ap, ◌∙◌, arith}
use Rattle.std.specs.Prelude.{⊤}
use Rattle.std.specs.List.{AllByRecursion, prefix_len}
use Rattle.std.proofs.lemmas.List.{take-append-drop, take_all, length-take, length-drop, length-append}
use Rattle.std.proofs.lemmas.List.Sums.{prefix_len-le-length}
use Rattle.sq_lang.specs.declared.text.SqFault.{SqFault}
use Rattle.sq_lang.specs.declared.text.SqFault.TheVariants.{BadNumber, NumberRange, Memory}
use Rattle.sq_lang.specs.Text.{is_separator, is_other, AreSeparators, IsParted, Begins, SpellsCell, BeginsWithCells, sq_spells}
use Rattle.sq_lang.specs.Answers.{IsWrong, IsRefused, IsRefusedFor}

suc_one : (n : ℕ) → 1 + n ≡ suc n
suc_one n = omega arith

-- what comes first passes the test
passes_first : (p : ℕ → Bool) (xs : List ℕ) → AllByRecursion (λ x. p x ≡ true) (take (prefix_len p xs) xs)
passes_first p [] = tt
passes_first p (x ∷ xs) =
    elim (p x) as (λ b. p x ≡ b → AllByRecursion (λ y. p y ≡ true) (take (cond b (1 + prefix_len p xs) 0) (x ∷ xs))) [
      | true ↦ λ e. rw (suc_one (prefix_len p xs)) (e, passes_first p xs)
      | false ↦ λ e. tt
    ] refl

-- the first element, if there is one, fails the test
abbrev FailsFirst : (ℕ → Bool) → List ℕ → Type 0
FailsFirst p [] = ⊤
FailsFirst p (x ∷ xs) = p x ≡ false

fails_next : (p : ℕ → Bool) (xs : List ℕ) → FailsFirst p (drop (prefix_len p xs) xs)
fails_next p [] = tt
fails_next p (x ∷ xs) =
    elim (p x) as (λ b. p x ≡ b → FailsFirst p (drop (cond b (1 + prefix_len p xs) 0) (x ∷ xs))) [
      | true ↦ λ e. rw (suc_one (prefix_len p xs)) (fails_next p xs)
      | false ↦ λ e. e
    ] refl

not_is : (b : Bool) → not b ≡ true → b ≡ false
not_is true e = cc
not_is false e = refl

not_not : (b : Bool) → not b ≡ false → b ≡ true
not_not true e = refl
not_not false e = cc

no_separators : (xs : List ℕ) → AllByRecursion (λ x. is_other x ≡ true) xs → AllByRecursion (λ x. is_separator x ≡ false) xs
no_separators [] p = tt
no_separators (x ∷ xs) p = (not_is (is_separator x) p.0, no_separators xs p.1)

parted : (xs : List ℕ) → FailsFirst is_other xs → IsParted xs
parted [] p = tt
parted (x ∷ xs) p = not_not (is_separator x) p

some_first : (xs : List ℕ) → FailsFirst is_separator xs → 0 < length xs → 0 < prefix_len is_other xs
some_first [] p h = absurd (omega arith)
some_first (x ∷ xs) p h = rw p (omega arith)

-- nothing but separators is left
pub only_separators : (left : List ℕ) (g : ℕ) → g ≡ prefix_len is_separator left → length (drop g left) ≡ 0 → AreSeparators left
only_separators left g eg none =
    let all : take g left ≡ left = rw (take_all g left (omega (arith, length-drop g left))) in
    rw (← all) (rw eg (passes_first is_separator left))

-- one more cell
pub BeginsWithCells-push : (text : List ℕ) (cells : List ℤ) (tail gap piece rest : List ℕ) (cell : ℤ) → BeginsWithCells text cells tail → Begins tail gap piece rest → SpellsCell piece cell → BeginsWithCells text (cells ++ cell ∷ []) rest
BeginsWithCells-push text [] tail gap piece rest cell e b s = (gap, piece, rest, rw e b, s, refl)
BeginsWithCells-push text (c ∷ cells) tail gap piece rest cell p b s = (p.0, p.1, p.2, p.3, p.4, BeginsWithCells-push p.2 cells tail gap piece rest cell p.5 b s)

pub length-Begins : (text gap piece rest : List ℕ) → Begins text gap piece rest → length gap + length piece + length rest ≡ length text
length-Begins text gap piece rest b = rw b.whole (simp length-append (omega arith))

pub length-tail-le : (text : List ℕ) (cells : List ℤ) (tail : List ℕ) → BeginsWithCells text cells tail → length tail ≤ length text
length-tail-le text [] tail e = rw e (omega arith)
length-tail-le text (c ∷ cells) tail p = omega (arith, length-tail-le p.2 cells tail p.5, length-Begins text p.0 p.1 p.2 p.3)

-- a wrong piece behind cells
pub refused : (text : List ℕ) (cells : List ℤ) (tail gap piece rest : List ℕ) (place : ℕ) (fault : SqFault) → BeginsWithCells text cells tail → Begins tail gap piece rest → place ≡ length text - length (piece ++ rest) → IsWrong piece place fault → IsRefused text fault
refused text cells tail gap piece rest place fault p b s w = record { cells = cells; tail = tail; before = p; gap = gap; piece = piece; rest = rest; begins = b; wrong = rw (← s) w }

-- and the answer that tells of it
pub refused_for : (text : List ℕ) (piece : List ℕ) (place : ℕ) (fault : SqFault) → IsWrong piece place fault → IsRefused text fault → IsRefusedFor text fault
refused_for text piece place (BadNumber at) w r = r
refused_for text piece place (NumberRange at) w r = r
refused_for text piece place Memory w r = tt

-- the front of what is left, and where it stands in the text
pub record Front (text left front piece rest : List ℕ) : Type 0 where
  pub gap : List ℕ
  pub begins : Begins left gap piece rest
  pub stands : length text - length front ≡ length text - length (piece ++ rest)
  pub shorter : length rest < length left

pub front_of : (text left front piece rest : List ℕ) (cells : List ℤ) → BeginsWithCells text cells left → front ≡ drop (prefix_len is_separator left) left → 0 < length front
    → piece ≡ take (prefix_len is_other front) front → rest ≡ drop (prefix_len is_other front) front → Front text left front piece rest
front_of text left front piece rest cells p fe some pe re =
    let g : ℕ = prefix_len is_separator left in
    let n : ℕ = prefix_len is_other front in
    let cut : take g left ++ front ≡ left = rw fe (take-append-drop g left) in
    let parts : piece ++ rest ≡ front = rw (pe, re) (take-append-drop n front) in
    let begins : Begins left (take g left) piece rest = record {
      whole = sym cut ∙ ap (λ (v : List ℕ). take g left ++ v) (sym parts);
      separators = passes_first is_separator left;
      unbroken = (filled front piece pe fe some, rw pe (no_separators _ (passes_first is_other front)));
      parted = rw re (parted _ (fails_next is_other front));
    } in
    let sizes : length piece + length rest ≡ length front = simp length-append at (ap length parts) in
    let within : length (take g left) + length front ≡ length left = simp length-append at (ap length cut) in
    record {
      gap = take g left;
      begins = begins;
      stands = ap (λ xs. length text - length xs) (sym parts);
      shorter = omega (arith, begins.unbroken.0);
    }
  where
    filled : (front piece : List ℕ) → piece ≡ take (prefix_len is_other front) front → front ≡ drop (prefix_len is_separator left) left → 0 < length front → 0 < length piece
    filled front piece pe fe some =
        let first : 0 < prefix_len is_other front = some_first front (rw fe (fails_next is_separator left)) some in
        rw (pe, length-take (prefix_len is_other front) front) (omega (arith, first, prefix_len-le-length is_other front))

-- all is read
pub all_read : (text left front : List ℕ) (cells : List ℤ) → BeginsWithCells text cells left → front ≡ drop (prefix_len is_separator left) left → length front ≡ 0 → sq_spells text cells
all_read text left front cells p fe none = (left, p, only_separators left (prefix_len is_separator left) refl (ap length (sym fe) ∙ none))

pub front_short : (text left front : List ℕ) (cells : List ℤ) → BeginsWithCells text cells left → front ≡ drop (prefix_len is_separator left) left → length front ≤ length text
front_short text left front cells p fe = rw fe (simp length-drop (omega (arith, length-tail-le text cells left p)))
