-- The form of a line, read from the front. Each part is read with what follows it. A line is given without its line feed.
use Rattle.std.specs.Prelude.{ℕ, zero, suc, ◌+◌, ◌*◌, Bool, true, false, ◌&&◌, ◌==◌, nat_lt, List, [], ◌∷◌, length, take, drop, Option, Some, None, is_some, if◌then◌else◌}
use Rattle.std.specs.List.{take_while}
use Rattle.std.specs.Map.{lookup}
use Rattle.std.specs.Option.{option_map_or}
use Rattle.std.specs.Char.{is_ascii_hexdigit, digit_value}
use Rattle.eir_core.specs.declared.ops.Reg.{Reg}
use Rattle.eir_line.specs.declared.words.Mnemonic.{Mnemonic}
use Rattle.eir_line.specs.declared.words.Mnemonic.TheVariants as mnemonic
use Rattle.eir_line.specs.Line.{Term, Statement, Line, Register, Number, Label, Nothing, Binary, Putc, Getc, Exit, Jump, JumpIf, Dump, Text, Data, Long, Bytes, Note}
use Rattle.eir_line.specs.Bytes.{◌>>=◌, quote, plus, apostrophe, minus, colon, backslash, is_blank, starts_name, is_octal_digit, begins, past_blanks, ends, past_gap, past, past_comma, name_at, digits_at}
use Rattle.eir_line.specs.Numbers.{value_of}
use Rattle.eir_line.specs.Words.{register_of, mnemonic_of}

-- `NAME:`, where the name is no register's, and no blank parts the two
unfoldable pub label_at : List ℕ → Option (List ℕ × List ℕ)
label_at bytes = do
  name ← name_at bytes
  rest ← past colon name.1
  if is_some (register_of name.0) then None else Some (name.0, rest)

-- the labels, at most so many, with blanks before each
unfoldable pub labels_at : ℕ → List ℕ → List (List ℕ) × List ℕ
labels_at zero bytes = ([], bytes)
labels_at (suc most) bytes = option_map_or (λ label. (label.0 ∷ (labels_at most label.1).0, (labels_at most label.1).1)) (label_at (past_blanks bytes)) ([], bytes)

unfoldable pub register_at : List ℕ → Option (Reg × List ℕ)
register_at bytes = do
  name ← name_at bytes
  r ← register_of name.0
  Some (r, name.1)

-- digits in decimal
unfoldable pub number_at : List ℕ → Option (ℕ × List ℕ)
number_at bytes = do
  digits ← digits_at bytes
  Some (value_of 10 digits.0, digits.1)

-- digits, right behind a minus or by themselves
unfoldable pub signed_at : List ℕ → Option (Term × List ℕ)
signed_at bytes =
    if begins (λ b. b == minus) bytes
    then number_at (drop 1 bytes) >>= (λ n. Some (Number true n.0, n.1))
    else number_at bytes >>= (λ n. Some (Number false n.0, n.1))

-- the value of a name's label, with `+` and digits behind it or without
unfoldable pub label_value_at : List ℕ → List ℕ → Option (Term × List ℕ)
label_value_at name bytes =
    if begins (λ b. b == plus) (past_blanks bytes)
    then number_at (past_blanks (drop 1 (past_blanks bytes))) >>= (λ n. Some (Label name n.0, n.1))
    else Some (Label name 0, bytes)

-- a register or a label's value
unfoldable pub named_at : List ℕ → Option (Term × List ℕ)
named_at bytes = do
  name ← name_at bytes
  option_map_or (λ r. Some (Register r, name.1)) (register_of name.0) (label_value_at name.0 name.1)

-- a value: a register, a number or a label's value
unfoldable pub term_at : List ℕ → Option (Term × List ℕ)
term_at bytes = if begins starts_name bytes then named_at bytes else signed_at bytes

abbrev pub is_register : Term → Bool
is_register (Register r) = true
is_register _ = false

-- a number or a label's value
unfoldable pub constant_at : List ℕ → Option (Term × List ℕ)
constant_at bytes = do
  term ← term_at bytes
  if is_register term.0 then None else Some term

-- the letters a, b, f, n, r, t and v and three marks, with the bytes that they stand for behind a backslash
abbrev pub escapes : List (ℕ × ℕ)
escapes = (97, 7) ∷ (98, 8) ∷ (102, 12) ∷ (110, 10) ∷ (114, 13) ∷ (116, 9) ∷ (118, 11) ∷ (backslash, backslash) ∷ (quote, quote) ∷ (apostrophe, apostrophe) ∷ []

unfoldable pub escaped_of : ℕ → Option ℕ
escaped_of b = lookup (λ mark. b == mark) escapes

-- two hex digits
unfoldable pub hex_at : List ℕ → Option (ℕ × List ℕ)
hex_at (high ∷ low ∷ bytes) = if is_ascii_hexdigit high && is_ascii_hexdigit low then Some (16 * digit_value high + digit_value low, bytes) else None
hex_at _ = None

-- the longest run of at most three octal digits, of value at most 255
unfoldable pub octal_at : List ℕ → Option (ℕ × List ℕ)
octal_at bytes =
    let digits = take_while is_octal_digit (take 3 bytes) in
    if nat_lt (value_of 8 digits) 256 then Some (value_of 8 digits, drop (length digits) bytes) else None

-- the byte that an escape stands for, its backslash being passed
unfoldable pub escape_at : List ℕ → Option (ℕ × List ℕ)
escape_at [] = None
escape_at (b ∷ bytes) =
    if is_octal_digit b then octal_at (b ∷ bytes)
    else if b == 120 then hex_at bytes
    else escaped_of b >>= (λ c. Some (c, bytes))

-- a byte of a string
unfoldable pub byte_at : List ℕ → Option (ℕ × List ℕ)
byte_at [] = None
byte_at (b ∷ bytes) = if b == backslash then escape_at bytes else Some (b, bytes)

-- the bytes of a string up to its closing quote, at most so many; the opening one is passed
unfoldable pub string_at : ℕ → List ℕ → Option (List ℕ × List ℕ)
string_at zero bytes = None
string_at (suc most) bytes =
    option_map_or (λ rest. Some ([], rest)) (past quote bytes)
    (byte_at bytes >>= (λ b. string_at most b.1 >>= (λ more. Some (b.0 ∷ more.0, more.1))))

-- past a blank and a quote
abbrev pub inside_at : List ℕ → Option (List ℕ)
inside_at bytes = do
  first ← past_gap bytes
  past quote first

-- what stands behind a mnemonic, and the statement that it makes
unfoldable pub operands_at : Mnemonic → List ℕ → Option (Statement × List ℕ)
operands_at (mnemonic.Binary op) bytes = do
  first ← past_gap bytes
  r ← register_at first
  second ← past_comma r.1
  t ← term_at second
  Some (Binary op r.0 t.0, t.1)
operands_at mnemonic.Putc bytes = do
  first ← past_gap bytes
  t ← term_at first
  Some (Putc t.0, t.1)
operands_at mnemonic.Getc bytes = do
  first ← past_gap bytes
  r ← register_at first
  Some (Getc r.0, r.1)
operands_at mnemonic.Exit bytes = Some (Exit, bytes)
operands_at mnemonic.Dump bytes = Some (Dump, bytes)
operands_at mnemonic.Jump bytes = do
  first ← past_gap bytes
  t ← term_at first
  Some (Jump t.0, t.1)
operands_at (mnemonic.JumpIf c) bytes = do
  first ← past_gap bytes
  target ← term_at first
  second ← past_comma target.1
  r ← register_at second
  third ← past_comma r.1
  t ← term_at third
  Some (JumpIf c target.0 r.0 t.0, t.1)
operands_at mnemonic.Text bytes = Some (Text, bytes)
operands_at mnemonic.Data bytes =
    if ends bytes then Some (Data 0, bytes) else past_gap bytes >>= number_at >>= (λ n. Some (Data n.0, n.1))
operands_at mnemonic.Long bytes = do
  first ← past_gap bytes
  t ← constant_at first
  Some (Long t.0, t.1)
operands_at mnemonic.Bytes bytes = do
  inside ← inside_at bytes
  s ← string_at (length inside) inside
  Some (Bytes s.0, s.1)
-- a blank, and then anything
operands_at mnemonic.Note bytes = Some (Note, if begins is_blank bytes then [] else bytes)

-- the mnemonic at the front
abbrev pub mnemonic_at : List ℕ → Option (Mnemonic × List ℕ)
mnemonic_at bytes = do
  word ← name_at (past_blanks bytes)
  m ← mnemonic_of word.0
  Some (m, word.1)

-- a statement, or nothing
unfoldable pub statement_at : List ℕ → Option (Statement × List ℕ)
statement_at bytes =
    if ends bytes then Some (Nothing, bytes)
    else mnemonic_at bytes >>= (λ m. operands_at m.0 m.1)

-- the form of a line, if it has one: labels, a statement, and the line's end or a comment
unfoldable pub form_of : List ℕ → Option Line
form_of line =
    statement_at (labels_at (length line) line).1
    >>= (λ s. if ends s.1 then Some (record { labels = (labels_at (length line) line).0; statement = s.0 }) else None)
