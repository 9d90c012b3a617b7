-- The plain values that Rust's values are.
use Rattle.std.specs.Prelude.{Result, Ok, Err}
use Rattle.word24.specs.Word.{number_of}
use Rattle.c_store.specs.declared.act.Act.{Act}
use Rattle.c_store.specs.declared.value.Value as rust
use Rattle.c_store.specs.declared.value.Value.TheVariants as value
use Rattle.c_store.specs.declared.value.Cell as rust_cell
use Rattle.c_store.specs.declared.value.Cell.TheVariants as cell
use Rattle.c_store.specs.Values.{Value, Word, Null, Point, Letter, Function, Missing, Cell, Unset, Holds}

-- a pointer's place is left out
abbrev pub value_of : rust.Value → Value
value_of (value.Word w) = Word (number_of w)
value_of value.Null = Null
value_of (value.Point p) = Point p.object p.length p.offset
value_of (value.Letter l) = Letter l.literal l.offset
value_of (value.Function f) = Function f
value_of value.Missing = Missing

abbrev pub cell_of : rust_cell.Cell → Cell
cell_of cell.Unset = Unset
cell_of (cell.Holds v) = Holds (value_of v)

-- what is answered, a value or the act
abbrev pub shown : Result rust.Value Act → Result Value Act
shown (Ok v) = Ok (value_of v)
shown (Err act) = Err act
