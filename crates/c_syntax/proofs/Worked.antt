-- Texts, and the tokens and refusals that the definitions give them.
use Rattle.std.proofs.Common.{◌≡◌, ℕ, true, false, [], ◌∷◌, ◌++◌, refl}
use Rattle.std.specs.Prelude.{Ok, Err, codes}
use Rattle.c_syntax.specs.declared.token.Kind.{Kind}
use Rattle.c_syntax.specs.declared.token.Kind.TheVariants as kind
use Rattle.c_syntax.specs.declared.token.Mark.TheVariants as mark
use Rattle.c_syntax.specs.declared.token.Token.{Token}
use Rattle.c_syntax.specs.declared.token.LexFault.TheVariants as fault
use Rattle.c_syntax.specs.Words.{key_of, mark_of}
use Rattle.c_syntax.specs.Front.{word_kind, mark_at, mark_front, is_hex, radix_of, prefix_of, number_kind, number_behind, number_at, escaped_of, byte_of, octal_at, hex_at, escape_at, character_at, string_front, constant_front, slash_front, front}
use Rattle.c_syntax.specs.Scan.{scan, raw_tokens}
use Rattle.c_syntax.specs.Header.{header_named, text_of, header_tokens}
use Rattle.c_syntax.specs.Lex.{begins_include, ends_include, header_at, lex_tokens}

abbrev token : Kind → ℕ → Token
token k p = record { kind = k; pos = p }

-- the longest mark, a comment as a blank, and a constant of hex digits
marks_row : lex_tokens (codes "a<<=b/**/+'\\x1f'") ≡ Ok (token (kind.Name (codes "a")) 0 ∷ token (kind.Mark mark.ShlAssign) 1 ∷ token (kind.Name (codes "b")) 4 ∷ token (kind.Mark mark.Plus) 9 ∷ token (kind.Number 31 false) 10 ∷ token kind.End 16 ∷ [])
unfolding key_of mark_of word_kind mark_at mark_front is_hex radix_of prefix_of number_kind number_behind number_at escaped_of byte_of octal_at hex_at escape_at character_at string_front constant_front slash_front front scan header_named text_of header_tokens begins_include ends_include header_at lex_tokens
marks_row = refl

-- neighbouring strings, also where a header without tokens stands between them
strings_row : lex_tokens (34 ∷ 97 ∷ 34 ∷ 10 ∷ codes "#include <stdio.h>" ++ 10 ∷ 34 ∷ 98 ∷ 34 ∷ []) ≡ Ok (token (kind.Str (codes "ab")) 0 ∷ token kind.End 26 ∷ [])
unfolding key_of mark_of word_kind mark_at mark_front is_hex radix_of prefix_of number_kind number_behind number_at escaped_of byte_of octal_at hex_at escape_at character_at string_front constant_front slash_front front scan header_named text_of header_tokens begins_include ends_include header_at lex_tokens
strings_row = refl

-- NULL, EOF and a number that is unsigned by its value
constants_row : lex_tokens (codes "NULL EOF 8388608") ≡ Ok (token kind.Null 0 ∷ token (kind.Number 16777215 false) 5 ∷ token (kind.Number 8388608 true) 9 ∷ token kind.End 16 ∷ [])
unfolding key_of mark_of word_kind mark_at mark_front is_hex radix_of prefix_of number_kind number_behind number_at escaped_of byte_of octal_at hex_at escape_at character_at string_front constant_front slash_front front scan header_named text_of header_tokens begins_include ends_include header_at lex_tokens
constants_row = refl

-- refusals
unclosed_row : lex_tokens (codes "x/* ") ≡ Err (fault.Unclosed 1)
unfolding key_of mark_of word_kind mark_at mark_front is_hex radix_of prefix_of number_kind number_behind number_at escaped_of byte_of octal_at hex_at escape_at character_at string_front constant_front slash_front front scan header_named text_of header_tokens begins_include ends_include header_at lex_tokens
unclosed_row = refl

range_row : lex_tokens (codes "16777216z") ≡ Err (fault.NumberRange 0)
unfolding key_of mark_of word_kind mark_at mark_front is_hex radix_of prefix_of number_kind number_behind number_at escaped_of byte_of octal_at hex_at escape_at character_at string_front constant_front slash_front front scan header_named text_of header_tokens begins_include ends_include header_at lex_tokens
range_row = refl

raw_range_row : raw_tokens (codes "16777216z") ≡ Err (fault.BadChar 8)
unfolding key_of mark_of word_kind mark_at mark_front is_hex radix_of prefix_of number_kind number_behind number_at escaped_of byte_of octal_at hex_at escape_at character_at string_front constant_front slash_front front scan raw_tokens
raw_range_row = refl

line_row : lex_tokens (codes "#include <stdio.h> /* ") ≡ Err (fault.BadChar 0)
unfolding key_of mark_of word_kind mark_at mark_front is_hex radix_of prefix_of number_kind number_behind number_at escaped_of byte_of octal_at hex_at escape_at character_at string_front constant_front slash_front front scan header_named text_of header_tokens begins_include ends_include header_at lex_tokens
line_row = refl
