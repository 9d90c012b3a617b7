-- What is read of a line, as its form.
use Rattle.std.specs.Prelude.{◌≡◌, Option, Some, None, Result, Ok, Err, map}
use Rattle.eir_line.specs.Line.{Term, Statement, Line, Register, Number, Label, Nothing, Binary, Putc, Getc, Exit, Jump, JumpIf, Dump, Text, Data, Long, Bytes, Note}
use Rattle.eir_line.specs.Numbers.{value_of}
use Rattle.eir_line.specs.declared.line.LineFault.{LineFault}
use Rattle.eir_line.specs.declared.line.LineFault.TheVariants as faults
use Rattle.eir_line.specs.declared.line.ReadTerm.{ReadTerm}
use Rattle.eir_line.specs.declared.line.ReadTerm.TheVariants as terms
use Rattle.eir_line.specs.declared.line.ReadStatement.{ReadStatement}
use Rattle.eir_line.specs.declared.line.ReadStatement.TheVariants as statements
use Rattle.eir_line.specs.declared.line.ReadLine.{ReadLine}

abbrev pub term_of : ReadTerm → Term
term_of (terms.Register r) = Register r
term_of (terms.Number minus digits) = Number minus (value_of 10 digits.now)
term_of (terms.Label name digits) = Label name.now (value_of 10 digits.now)

abbrev pub statement_of : ReadStatement → Statement
statement_of statements.Nothing = Nothing
statement_of (statements.Binary op r t) = Binary op r (term_of t)
statement_of (statements.Putc t) = Putc (term_of t)
statement_of (statements.Getc r) = Getc r
statement_of statements.Exit = Exit
statement_of (statements.Jump t) = Jump (term_of t)
statement_of (statements.JumpIf c target r t) = JumpIf c (term_of target) r (term_of t)
statement_of statements.Dump = Dump
statement_of statements.Text = Text
statement_of (statements.Data digits) = Data (value_of 10 digits.now)
statement_of (statements.Long t) = Long (term_of t)
statement_of (statements.Bytes bytes) = Bytes bytes.items
statement_of statements.Note = Note

-- the form that was read
abbrev pub line_of : ReadLine → Line
line_of line = record { labels = map (λ name. name.now) line.labels.items; statement = statement_of line.statement }

-- what was found, seen by view, is what the grammar says
abbrev pub Finds : {X Y : Type 0} → (X → Y) → Option X → Option Y → Type 0
Finds view (Some x) form = form ≡ Some (view x)
Finds view None form = form ≡ None

-- a line has no form; of want of memory nothing is said
abbrev pub Fails : {Y : Type 0} → LineFault → Option Y → Type 0
Fails faults.Memory form = Unit {0}
Fails faults.NoForm form = form ≡ None

-- what was read, seen by view, is what the grammar says, unless memory ran out
abbrev pub Gives : {X Y : Type 0} → (X → Y) → Result X LineFault → Option Y → Type 0
Gives view (Ok x) form = form ≡ Some (view x)
Gives view (Err e) form = Fails e form
