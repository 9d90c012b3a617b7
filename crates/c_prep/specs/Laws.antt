-- What holds of expansion.
use Rattle.std.specs.Prelude.{◌≡◌, ℕ, ◌≤◌, suc, nat_lt, List, [], ◌∷◌, length, Some, Ok, Err, if◌then◌else◌}
use Rattle.std.specs.List.{flat_map}
use Rattle.c_syntax.specs.declared.token.Kind.TheVariants.{Name}
use Rattle.c_syntax.specs.declared.token.RawKind.{RawKind}
use Rattle.c_syntax.specs.declared.token.RawKind.TheVariants.{Plain}
use Rattle.c_syntax.specs.declared.token.Raw.{Raw}
use Rattle.c_syntax.specs.declared.token.Token.{Token}
use Rattle.c_syntax.specs.Lex.{lex_tokens}
use Rattle.c_prep.specs.declared.fault.PrepFault.TheVariants as fault
use Rattle.c_prep.specs.Lines.{lines, first_state, acts_in}
use Rattle.c_prep.specs.Prepared.{all_acts, prepared}
use Rattle.c_prep.specs.Macros.{Macros, Replaces, Gives, item_of, without, expansion}

-- a hidden name stays
abbrev pub HiddenNamesStay : Type 0
HiddenNamesStay = (most pos : ℕ) (name : List ℕ) (macros : Macros) → expansion most (without name macros) pos (Plain (Name name)) ≡ Gives (item_of (Plain (Name name)) pos) ∷ []

-- a kept name stands for what its tokens stand for with that name hidden, all at the name's place
abbrev pub KeptNamesAreReplaced : Type 0
KeptNamesAreReplaced = (most pos : ℕ) (name : List ℕ) (body : List RawKind) (macros : Macros) → macros name ≡ Some body
    → expansion (suc most) macros pos (Plain (Name name)) ≡ Replaces ∷ flat_map (expansion most (without name macros) pos) body

-- where the text is one that `lex` reads, it has no directive but `#include`, and stands for the same tokens, unless there are too many
abbrev pub AgreesWithLex : Type 0
AgreesWithLex = (text : List ℕ) (tokens : List Token) → lex_tokens text ≡ Ok tokens → prepared text ≡ (if nat_lt 1000001 (length tokens) then Err fault.TooLarge else Ok tokens)

-- a greater depth changes nothing: no more names are hidden in one another than the text has tokens
abbrev pub DepthIsEnough : Type 0
DepthIsEnough = (raws : List Raw) (most : ℕ) → length raws ≤ most → acts_in most first_state (lines raws) ≡ all_acts raws
