-- Texts, and the tokens and refusals that the definitions give them.
use Rattle.std.proofs.Common.{◌≡◌, ℕ, false, [], ◌∷◌, ◌++◌, refl}
use Rattle.std.specs.Prelude.{Ok, Err, codes}
use Rattle.c_syntax.specs.declared.token.Kind.{Kind}
use Rattle.c_syntax.specs.declared.token.Kind.TheVariants as kind
use Rattle.c_syntax.specs.declared.token.Mark.TheVariants as mark
use Rattle.c_syntax.specs.declared.token.Token.{Token}
use Rattle.c_syntax.specs.Words.{key_of, mark_of}
use Rattle.c_syntax.specs.Front.{word_kind, mark_at, mark_front, is_hex, radix_of, prefix_of, number_kind, number_behind, number_at, escaped_of, byte_of, octal_at, hex_at, escape_at, character_at, string_front, constant_front, slash_front, front}
use Rattle.c_syntax.specs.Scan.{scan, raw_tokens}
use Rattle.c_prep.specs.declared.fault.PrepFault.TheVariants as fault
use Rattle.c_syntax.specs.Header.{header_named, text_of, header_tokens}
use Rattle.c_prep.specs.Macros.{expansion}
use Rattle.c_prep.specs.Directives.{name_at, lone_name, header_of, passed_over, taken_up, directive_at}
use Rattle.c_prep.specs.Lines.{defined, after_else, after_endif, line_step}
use Rattle.c_prep.specs.Prepared.{is_over, prepared}

abbrev token : Kind → ℕ → Token
token k p = record { kind = k; pos = p }

-- two macros that name one another: each is hidden while it is expanded
hidden_row : prepared (codes "#define A B 1" ++ 10 ∷ codes "#define B A 2" ++ 10 ∷ codes "A" ++ 10 ∷ [])
    ≡ Ok (token (kind.Name (codes "A")) 28 ∷ token (kind.Number 2 false) 28 ∷ token (kind.Number 1 false) 28 ∷ token kind.End 30 ∷ [])
unfolding key_of mark_of word_kind mark_at mark_front is_hex radix_of prefix_of number_kind number_behind number_at escaped_of byte_of octal_at hex_at escape_at character_at string_front constant_front slash_front front scan raw_tokens header_named text_of header_tokens expansion name_at lone_name header_of passed_over taken_up directive_at defined after_else after_endif line_step is_over prepared
hidden_row = refl

-- a name is hidden no more behind its expansion
shown_row : prepared (codes "#define A B" ++ 10 ∷ codes "#define B 7" ++ 10 ∷ codes "A B" ++ 10 ∷ []) ≡ Ok (token (kind.Number 7 false) 24 ∷ token (kind.Number 7 false) 26 ∷ token kind.End 28 ∷ [])
unfolding key_of mark_of word_kind mark_at mark_front is_hex radix_of prefix_of number_kind number_behind number_at escaped_of byte_of octal_at hex_at escape_at character_at string_front constant_front slash_front front scan raw_tokens header_named text_of header_tokens expansion name_at lone_name header_of passed_over taken_up directive_at defined after_else after_endif line_step is_over prepared
shown_row = refl

function_row : prepared (codes "#define F(x) x") ≡ Err (fault.BadDirective 9)
unfolding key_of mark_of word_kind mark_at mark_front is_hex radix_of prefix_of number_kind number_behind number_at escaped_of byte_of octal_at hex_at escape_at character_at string_front constant_front slash_front front scan raw_tokens header_named text_of header_tokens expansion name_at lone_name header_of passed_over taken_up directive_at defined after_else after_endif line_step is_over prepared
function_row = refl

if_row : prepared (codes "#if 1") ≡ Err (fault.BadDirective 0)
unfolding key_of mark_of word_kind mark_at mark_front is_hex radix_of prefix_of number_kind number_behind number_at escaped_of byte_of octal_at hex_at escape_at character_at string_front constant_front slash_front front scan raw_tokens header_named text_of header_tokens expansion name_at lone_name header_of passed_over taken_up directive_at defined after_else after_endif line_step is_over prepared
if_row = refl

endif_row : prepared (codes "#endif") ≡ Err (fault.Unbalanced 0)
unfolding key_of mark_of word_kind mark_at mark_front is_hex radix_of prefix_of number_kind number_behind number_at escaped_of byte_of octal_at hex_at escape_at character_at string_front constant_front slash_front front scan raw_tokens header_named text_of header_tokens expansion name_at lone_name header_of passed_over taken_up directive_at defined after_else after_endif line_step is_over prepared
endif_row = refl

open_row : prepared (codes "#ifdef A") ≡ Err (fault.Unbalanced 0)
unfolding key_of mark_of word_kind mark_at mark_front is_hex radix_of prefix_of number_kind number_behind number_at escaped_of byte_of octal_at hex_at escape_at character_at string_front constant_front slash_front front scan raw_tokens header_named text_of header_tokens expansion name_at lone_name header_of passed_over taken_up directive_at defined after_else after_endif line_step is_over prepared
open_row = refl

-- a number that is too large is refused where it stays, at the place of the name
wide_row : prepared (codes "#define N 16777216" ++ 10 ∷ codes "+N" ++ []) ≡ Err (fault.NumberRange 20)
unfolding key_of mark_of word_kind mark_at mark_front is_hex radix_of prefix_of number_kind number_behind number_at escaped_of byte_of octal_at hex_at escape_at character_at string_front constant_front slash_front front scan raw_tokens header_named text_of header_tokens expansion name_at lone_name header_of passed_over taken_up directive_at defined after_else after_endif line_step is_over prepared
wide_row = refl

unused_row : prepared (codes "#define N 16777216" ++ 10 ∷ codes "+" ++ 10 ∷ codes "#define N 16777216" ++ []) ≡ Err (fault.BadDirective 29)
unfolding key_of mark_of word_kind mark_at mark_front is_hex radix_of prefix_of number_kind number_behind number_at escaped_of byte_of octal_at hex_at escape_at character_at string_front constant_front slash_front front scan raw_tokens header_named text_of header_tokens expansion name_at lone_name header_of passed_over taken_up directive_at defined after_else after_endif line_step is_over prepared
unused_row = refl

-- the part that isn't taken stands for nothing, whatever it says
parts_row : prepared (codes "#define N" ++ 10 ∷ codes "#ifndef N" ++ 10 ∷ codes "#if (" ++ 10 ∷ codes "#else" ++ 10 ∷ codes "N;" ++ 10 ∷ codes "#endif" ++ [])
    ≡ Ok (token (kind.Mark mark.Semi) 33 ∷ token kind.End 41 ∷ [])
unfolding key_of mark_of word_kind mark_at mark_front is_hex radix_of prefix_of number_kind number_behind number_at escaped_of byte_of octal_at hex_at escape_at character_at string_front constant_front slash_front front scan raw_tokens header_named text_of header_tokens expansion name_at lone_name header_of passed_over taken_up directive_at defined after_else after_endif line_step is_over prepared
parts_row = refl
