-- What holds of the tokens of texts.
use Rattle.std.specs.Prelude.{◌≡◌, ℕ, ◌≤◌, List, length, Ok}
use Rattle.c_syntax.specs.declared.token.Token.{Token}
use Rattle.c_syntax.specs.Lex.{lex_tokens}
use Rattle.c_prep.specs.Prepared.{prepared}
use Rattle.c_parse.specs.Answer.{EndsInEnd}

-- what a text is prepared to ends in its end
abbrev pub PreparedTextsEnd : Type 0
PreparedTextsEnd = (text : List ℕ) (tokens : List Token) → prepared text ≡ Ok tokens → EndsInEnd tokens

-- so does what is read of one without directives, but for headers, where it is no longer than what a text is prepared to
abbrev pub ReadTextsEnd : Type 0
ReadTextsEnd = (text : List ℕ) (tokens : List Token) → lex_tokens text ≡ Ok tokens → length tokens ≤ 1000001 → EndsInEnd tokens
