-- The text of an image.
use Rattle.std.specs.Prelude.{ℕ, List, [], ◌∷◌, ◌++◌}
use Rattle.std.specs.List.{flat_map}
use Rattle.std.specs.Fmt.{decimal, signed_decimal}
use Rattle.word24.specs.declared.word.Word.{Word}
use Rattle.word24.specs.Word.{number_of}
use Rattle.eir_core.specs.Eir.{Eir}
use Rattle.sq_back.specs.declared.line.Line.{Line}
use Rattle.sq_back.specs.Code.{lines_of}

-- three numbers, parted by spaces, with a line feed behind them
unfoldable pub line_text : Line → List ℕ
line_text line = signed_decimal line.from ++ 32 ∷ (signed_decimal line.to ++ 32 ∷ (signed_decimal line.next ++ 10 ∷ []))

unfoldable pub lines_text : List Line → List ℕ
lines_text lines = flat_map line_text lines

-- a word, with a line feed behind it
unfoldable pub word_text : Word → List ℕ
word_text word = decimal (number_of word) ++ 10 ∷ []

unfoldable pub words_text : List Word → List ℕ
words_text words = flat_map word_text words

-- the text of the program: its lines, and then the data words
abbrev pub text_of : Eir → List ℕ
text_of p = lines_text (lines_of p) ++ words_text p.words
