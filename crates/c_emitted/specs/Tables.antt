-- The tables of plain code, while they grow.
use Rattle.std.specs.Prelude.{◌≡◌, ℕ, List, [], ◌++◌}
use Rattle.c_code.specs.Code as code
use Rattle.c_store.specs.declared.kind.Kind.{Kind}
use Rattle.c_store.specs.Values.{Value, Literal}
use Rattle.c_plain.specs.declared.instruction.Instruction.{Instruction}
use Rattle.c_plain.specs.declared.instruction.Instruction.TheVariants as plain
use Rattle.c_plain.specs.Program.{Program}
use Rattle.c_resolved.specs.Means.{file_lengths, Means, MeansAll}
use Rattle.std.specs.Prelude.{Some, slice_get}

-- the tables of a program, with the names of its functions and how many cells each object of file scope has
pub record Tables : Type 0 where
  pub constants : List Value
  pub kinds : List Kind
  pub lengths : List ℕ
  pub bytes : List ℕ
  pub literals : List Literal
  pub names : List (List ℕ)
  pub files : List ℕ

abbrev pub tables_in : List (List ℕ) → Program → Tables
tables_in names p = record {
  constants = p.constants;
  kinds = p.kinds;
  lengths = p.lengths;
  bytes = p.bytes;
  literals = p.literals;
  names = names;
  files = file_lengths p;
}

-- none has an entry
abbrev pub no_tables : Tables
no_tables = record { constants = []; kinds = []; lengths = []; bytes = []; literals = []; names = []; files = [] }

-- a list begins with another one
pub record Begins {A : Type 0} (xs ys : List A) : Type 0 where
  pub rest : List A
  pub whole : ys ≡ xs ++ rest

-- tables that begin with others
pub record Extends (s t : Tables) : Type 0 where
  pub constants : Begins s.constants t.constants
  pub kinds : Begins s.kinds t.kinds
  pub lengths : Begins s.lengths t.lengths
  pub bytes : Begins s.bytes t.bytes
  pub literals : Begins s.literals t.literals
  pub names : Begins s.names t.names
  pub files : Begins s.files t.files

-- a plain instruction is one of C's code in each program that has these tables, and perhaps more behind them
pub record IsMeant (t : Tables) (i : code.Instruction) (j : Instruction) : Type 0 where
  pub means : (names : List (List ℕ)) (p : Program) → Extends t (tables_in names p) → Means names p i j

-- instructions one for one
pub record AreMeant (t : Tables) (is : List code.Instruction) (js : List Instruction) : Type 0 where
  pub means : (names : List (List ℕ)) (p : Program) → Extends t (tables_in names p) → MeansAll names p is js

-- a constant that is pushed is what C's code pushes
pub record IsPushed (t : Tables) (i : code.Instruction) (v : Value) : Type 0 where
  pub means : (names : List (List ℕ)) (p : Program) (k : ℕ) → Extends t (tables_in names p) → slice_get p.constants k ≡ Some v → Means names p i (plain.Push k)
