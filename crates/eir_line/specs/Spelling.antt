-- The grammar of a line by concatenation: which texts spell what.
use Rattle.std.specs.Prelude.{◌≡◌, ◌≢◌, ℕ, ◌<◌, ◌≤◌, ◌+◌, ◌*◌, ◌⊎◌, ◌↔◌, true, false, List, [], ◌∷◌, ◌++◌, length, Some, None}
use Rattle.std.specs.List.{list_all}
use Rattle.std.specs.Char.{is_ascii_digit, is_ascii_hexdigit, digit_value}
use Rattle.eir_core.specs.declared.ops.Reg.{Reg}
use Rattle.eir_line.specs.declared.words.Mnemonic.{Mnemonic}
use Rattle.eir_line.specs.declared.words.Mnemonic.TheVariants as mnemonic
use Rattle.eir_line.specs.Line.{Term, Statement, Line, Register, Number, Label, Nothing, Binary, Putc, Getc, Exit, Jump, JumpIf, Dump, Text, Data, Long, Bytes, Note}
use Rattle.eir_line.specs.Bytes.{quote, plus, comma, minus, colon, backslash, is_blank, starts_name, goes_on_name, is_octal_digit, begins, ends}
use Rattle.eir_line.specs.Numbers.{value_of}
use Rattle.eir_line.specs.Words.{register_of, mnemonic_of}
use Rattle.eir_line.specs.Grammar.{escaped_of, form_of}

-- a text of the first kind, and then one of the second
pub record Joined (P Q : List ℕ → Type 0) (text : List ℕ) : Type 0 where
  pub front : List ℕ
  pub back : List ℕ
  pub first : P front
  pub second : Q back
  pub whole : text ≡ front ++ back

infixr 5 ◌⨾◌
abbrev pub ◌⨾◌ : (List ℕ → Type 0) → (List ℕ → Type 0) → List ℕ → Type 0
P ⨾ Q = Joined P Q

-- nothing
abbrev pub IsNothing : List ℕ → Type 0
IsNothing text = text ≡ []

abbrev pub IsByte : ℕ → List ℕ → Type 0
IsByte b text = text ≡ b ∷ []

-- blanks, perhaps none
abbrev pub AreBlanks : List ℕ → Type 0
AreBlanks text = list_all is_blank text ≡ true

-- one blank or more
abbrev pub IsGap : List ℕ → Type 0
IsGap text = (begins is_blank text ≡ true) × AreBlanks text

abbrev pub IsComma : List ℕ → Type 0
IsComma = AreBlanks ⨾ IsByte comma ⨾ AreBlanks

abbrev pub IsName : List ℕ → Type 0
IsName text = (begins starts_name text ≡ true) × (list_all goes_on_name text ≡ true)

abbrev pub AreDigits : List ℕ → Type 0
AreDigits text = (begins is_ascii_digit text ≡ true) × (list_all is_ascii_digit text ≡ true)

abbrev pub IsRegister : Reg → List ℕ → Type 0
IsRegister r text = IsName text × (register_of text ≡ Some r)

-- a label's name
abbrev pub IsLabel : List ℕ → List ℕ → Type 0
IsLabel name text = (text ≡ name) × IsName name × (register_of name ≡ None)

abbrev pub SpellsNumber : ℕ → List ℕ → Type 0
SpellsNumber n text = AreDigits text × (n ≡ value_of 10 text)

abbrev pub SpellsTerm : Term → List ℕ → Type 0
SpellsTerm (Register r) text = IsRegister r text
SpellsTerm (Number true n) text = (IsByte minus ⨾ SpellsNumber n) text
SpellsTerm (Number false n) text = SpellsNumber n text
SpellsTerm (Label name addend) text = (IsLabel name text × (addend ≡ 0)) ⊎ (IsLabel name ⨾ AreBlanks ⨾ IsByte plus ⨾ AreBlanks ⨾ SpellsNumber addend) text

-- a term that is no register
abbrev pub SpellsConstant : Term → List ℕ → Type 0
SpellsConstant (Register r) text = ⊥
SpellsConstant term text = SpellsTerm term text

-- a byte that stands for itself
abbrev pub IsPlain : ℕ → List ℕ → Type 0
IsPlain b text = IsByte b text × (b ≢ quote) × (b ≢ backslash)

-- a backslash and a letter or a mark
pub record IsEscape (b : ℕ) (text : List ℕ) : Type 0 where
  pub mark : ℕ
  pub meaning : escaped_of mark ≡ Some b
  pub whole : text ≡ backslash ∷ mark ∷ []

-- a backslash, x and two hex digits
pub record IsHex (b : ℕ) (text : List ℕ) : Type 0 where
  pub high : ℕ
  pub low : ℕ
  pub first : is_ascii_hexdigit high ≡ true
  pub second : is_ascii_hexdigit low ≡ true
  pub value : b ≡ 16 * digit_value high + digit_value low
  pub whole : text ≡ backslash ∷ 120 ∷ high ∷ low ∷ []

-- a backslash and one to three octal digits of value at most 255, as many as there are where this follows
pub record IsOctal (b : ℕ) (after text : List ℕ) : Type 0 where
  pub digits : List ℕ
  pub each : list_all is_octal_digit digits ≡ true
  pub some : 0 < length digits
  pub few : length digits ≤ 3
  pub longest : begins is_octal_digit after ≡ true → length digits ≡ 3
  pub value : b ≡ value_of 8 digits
  pub small : b < 256
  pub whole : text ≡ backslash ∷ digits

-- what stands for a byte of a string, where this follows
abbrev pub SpellsByte : ℕ → List ℕ → List ℕ → Type 0
SpellsByte b after text = IsPlain b text ⊎ (IsEscape b text ⊎ (IsHex b text ⊎ IsOctal b after text))

-- what stands for the bytes of a string, with its closing quote
abbrev pub SpellsBytes : List ℕ → List ℕ → Type 0
SpellsBytes [] text = IsByte quote text
SpellsBytes (b ∷ bytes) text = (front back : List ℕ) × SpellsByte b back front × SpellsBytes bytes back × (text ≡ front ++ back)

-- the word of a mnemonic
abbrev pub IsWord : Mnemonic → List ℕ → Type 0
IsWord m text = IsName text × (mnemonic_of text ≡ Some m)

-- anything behind a blank, or nothing
abbrev pub IsNote : List ℕ → Type 0
IsNote text = IsNothing text ⊎ (begins is_blank text ≡ true)

abbrev pub SpellsStatement : Statement → List ℕ → Type 0
SpellsStatement Nothing = IsNothing
SpellsStatement (Binary op r t) = IsWord (mnemonic.Binary op) ⨾ IsGap ⨾ IsRegister r ⨾ IsComma ⨾ SpellsTerm t
SpellsStatement (Putc t) = IsWord mnemonic.Putc ⨾ IsGap ⨾ SpellsTerm t
SpellsStatement (Getc r) = IsWord mnemonic.Getc ⨾ IsGap ⨾ IsRegister r
SpellsStatement Exit = IsWord mnemonic.Exit
SpellsStatement (Jump t) = IsWord mnemonic.Jump ⨾ IsGap ⨾ SpellsTerm t
SpellsStatement (JumpIf c target r t) = IsWord (mnemonic.JumpIf c) ⨾ IsGap ⨾ SpellsTerm target ⨾ IsComma ⨾ IsRegister r ⨾ IsComma ⨾ SpellsTerm t
SpellsStatement Dump = IsWord mnemonic.Dump
SpellsStatement Text = IsWord mnemonic.Text
SpellsStatement (Data n) = λ text. (IsWord mnemonic.Data text × (n ≡ 0)) ⊎ (IsWord mnemonic.Data ⨾ IsGap ⨾ SpellsNumber n) text
SpellsStatement (Long t) = IsWord mnemonic.Long ⨾ IsGap ⨾ SpellsConstant t
SpellsStatement (Bytes bytes) = IsWord mnemonic.Bytes ⨾ IsGap ⨾ IsByte quote ⨾ SpellsBytes bytes
SpellsStatement Note = IsWord mnemonic.Note ⨾ IsNote

abbrev pub SpellsLabels : List (List ℕ) → List ℕ → Type 0
SpellsLabels [] = IsNothing
SpellsLabels (name ∷ names) = AreBlanks ⨾ IsLabel name ⨾ IsByte colon ⨾ SpellsLabels names

-- blanks, and then the line's end or a comment
abbrev pub IsEnd : List ℕ → Type 0
IsEnd text = ends text ≡ true

-- labels, a statement, and the line's end or a comment
abbrev pub SpellsLine : Line → List ℕ → Type 0
SpellsLine line = SpellsLabels line.labels ⨾ AreBlanks ⨾ SpellsStatement line.statement ⨾ IsEnd

-- a line has a form exactly where it spells it
abbrev pub FormsAreSpelled : Type 0
FormsAreSpelled = (bytes : List ℕ) (line : Line) → (form_of bytes ≡ Some line) ↔ SpellsLine line bytes
