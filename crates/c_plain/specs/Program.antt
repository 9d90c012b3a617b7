-- Plain code as lists.
use Rattle.std.specs.Prelude.{ℕ, List, map, take, drop, Option}
use Rattle.c_store.specs.declared.kind.Kind.{Kind}
use Rattle.c_store.specs.Values.{Value, Cell, Literal}
use Rattle.c_store.specs.Shown.{value_of, cell_of}
use Rattle.c_plain.specs.declared.instruction.Span.{Span}
use Rattle.c_plain.specs.declared.instruction.Instruction.{Instruction}
use Rattle.c_plain.specs.declared.code.Entry.{Entry}
use Rattle.c_plain.specs.declared.code.Plain.{Plain}

pub record Program : Type 0 where
  pub instructions : List Instruction
  pub constants : List Value
  pub kinds : List Kind
  pub lengths : List ℕ
  pub bytes : List ℕ
  pub functions : List (Option Entry)
  pub literals : List Literal
  pub objects : List (List Cell)
  pub main : ℕ

abbrev pub program_of : Plain → Program
program_of p = record {
  instructions = p.instructions.items;
  constants = map value_of p.constants.items;
  kinds = p.kinds.items;
  lengths = p.lengths.items;
  bytes = p.bytes.items;
  functions = p.functions.items;
  literals = p.literals.items;
  objects = map (λ cells. map cell_of cells.items) p.objects.items;
  main = p.main;
}

-- the entries of a table that a span tells
abbrev pub in_span : {A : Type 0} → List A → Span → List A
in_span xs s = take s.count (drop s.first xs)
