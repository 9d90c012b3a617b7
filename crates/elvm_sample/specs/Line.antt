-- The line of a sample.
use Rattle.std.specs.Prelude.{ℕ, ◌*◌, ◌-◌, List, ◌++◌, length, None, Some, slice_get, codes, decimal}
use Rattle.std.specs.declared.option.Option.{Option}

-- the last of these bytes, if there is one
abbrev pub last_of : List ℕ → Option ℕ
last_of bytes = slice_get bytes (length bytes - 1)

-- a byte in decimal, or a dash for none
abbrev pub last_text : Option ℕ → List ℕ
last_text None = codes "-"
last_text (Some byte) = decimal byte

-- of a sample of n blocks, whose size is 6 n, which ends after 5 n steps and writes n bytes: the last of these bytes, the length of its Whitespace text, and how many steps that makes
abbrev pub sample_line : ℕ → Option ℕ → ℕ → ℕ → List ℕ
sample_line n last text_length moves =
    codes "sample " ++ decimal n
    ++ codes " size " ++ decimal (6 * n)
    ++ codes " steps " ++ decimal (5 * n)
    ++ codes " bytes " ++ decimal n
    ++ codes " last " ++ last_text last
    ++ codes " text " ++ decimal text_length
    ++ codes " moves " ++ decimal moves
    ++ codes " same\n"
