-- Which line a refusal names: the lowest with such a fault.
use Rattle.std.specs.Prelude.{◌≡◌, ℕ, ◌+◌, true, false, List, [], ◌∷◌, ◌++◌, map, length, Some}
use Rattle.std.specs.declared.option.Option.{Option}
use Rattle.std.specs.List.{AllByRecursion}
use Rattle.eir_line.specs.Line.{Line, is_in_range}
use Rattle.eir_text.specs.declared.fault.EirFault.{EirFault}
use Rattle.eir_text.specs.declared.section.Section.{Section}
use Rattle.eir_text.specs.Names.{names_of, is_among, repeats, are_known}
use Rattle.eir_text.specs.Sections.{Placed, may_stand, section_after, placed_from}
use Rattle.eir_text.specs.Refusals.{line_refusal, lines_refusal, first_repeat, first_unknown}

-- the line stands in a section where it may, and its numbers are in range
pub record IsFine (p : Placed) : Type 0 where
  pub stands : may_stand p.section p.line.statement ≡ true
  pub in_range : is_in_range p.line.statement ≡ true

-- the section behind lines
abbrev pub behind : Section → List Line → Section
behind s [] = s
behind s (line ∷ lines) = behind (section_after s line.statement) lines

-- all lines before one are fine, and this one, of the number that follows, is refused by itself
pub record IsLowestBad (s : Section) (first : ℕ) (forms : List (Option Line)) (fault : EirFault) : Type 0 where
  pub before : List Line
  pub form : Option Line
  pub after : List (Option Line)
  pub whole : forms ≡ map Some before ++ form ∷ after
  pub fine : AllByRecursion IsFine (placed_from s before)
  pub refused : line_refusal (behind s before) (first + length before) form ≡ Some fault

-- no label of the lines before one is defined again, and one of this line, of the number that follows, is
pub record IsLowestRepeat (known : List (List ℕ)) (first : ℕ) (lines : List Line) (k : ℕ) : Type 0 where
  pub before : List Line
  pub line : Line
  pub after : List Line
  pub whole : lines ≡ before ++ line ∷ after
  pub number : k ≡ first + length before
  pub apart : repeats known (names_of before) ≡ false
  pub again : repeats (known ++ names_of before) line.labels ≡ true

-- each label value of the lines before one is known, and one of this line, of the number that follows, isn't
pub record IsLowestUnknown (names : List (List ℕ)) (first : ℕ) (lines : List Line) (k : ℕ) : Type 0 where
  pub before : List Line
  pub line : Line
  pub after : List Line
  pub whole : lines ≡ before ++ line ∷ after
  pub number : k ≡ first + length before
  pub known : AllByRecursion (λ l. are_known names l.statement ≡ true) before
  pub unknown : are_known names line.statement ≡ false

-- a name stands among those before it
pub record IsTwice (known names : List (List ℕ)) : Type 0 where
  pub front : List (List ℕ)
  pub name : List ℕ
  pub back : List (List ℕ)
  pub whole : names ≡ front ++ name ∷ back
  pub twice : is_among (known ++ front) name ≡ true

-- the line that reading refuses by itself is the lowest one; the line with a label that was defined before, and that with an unknown label value, are too
pub record RefusalsNameTheLowestLine : Type 0 where
  pub bad : (s : Section) (first : ℕ) (forms : List (Option Line)) (fault : EirFault) → lines_refusal s first forms ≡ Some fault → IsLowestBad s first forms fault
  pub bad_back : (s : Section) (first : ℕ) (forms : List (Option Line)) (fault : EirFault) → IsLowestBad s first forms fault → lines_refusal s first forms ≡ Some fault
  pub repeated : (known : List (List ℕ)) (first : ℕ) (lines : List Line) (k : ℕ) → first_repeat known first lines ≡ Some k → IsLowestRepeat known first lines k
  pub repeated_back : (known : List (List ℕ)) (first : ℕ) (lines : List Line) (k : ℕ) → IsLowestRepeat known first lines k → first_repeat known first lines ≡ Some k
  pub unknown : (names : List (List ℕ)) (first : ℕ) (lines : List Line) (k : ℕ) → first_unknown names first lines ≡ Some k → IsLowestUnknown names first lines k
  pub unknown_back : (names : List (List ℕ)) (first : ℕ) (lines : List Line) (k : ℕ) → IsLowestUnknown names first lines k → first_unknown names first lines ≡ Some k
  pub twice : (known names : List (List ℕ)) → repeats known names ≡ true → IsTwice known names
