-- Names that are hidden, and names that are kept.
use Rattle.std.proofs.Common.{◌≡◌, ℕ, zero, suc, true, List, [], ◌∷◌, Option, Some, None, refl, ap}
use Rattle.std.specs.Prelude.{if◌then◌else◌}
use Rattle.std.specs.List.{flat_map}
use Rattle.std.specs.Option.{option_map_or}
use Rattle.std.specs.Str.{bytes_eq}
use Rattle.std.specs.Cmp.Lexicographic.{bytes_decides}
use Rattle.c_syntax.specs.declared.token.Kind.TheVariants.{Name}
use Rattle.c_syntax.specs.declared.token.RawKind.{RawKind}
use Rattle.c_syntax.specs.declared.token.RawKind.TheVariants.{Plain}
use Rattle.c_prep.specs.Macros.{Macros, Replaces, Gives, item_of, without, kept_at, expansion}
use Rattle.c_prep.specs.Laws.{HiddenNamesStay, KeptNamesAreReplaced}

-- a token that no macro has
pub stays : (most : ℕ) (m : Macros) (pos : ℕ) (k : RawKind) → kept_at k m ≡ None → expansion most m pos k ≡ Gives (item_of k pos) ∷ []
unfolding expansion
stays zero m pos k e = refl
stays (suc most) m pos k e = ap (λ o. option_map_or (λ x. Replaces ∷ flat_map (expansion most (without x.0 m) pos) x.1) o (Gives (item_of k pos) ∷ [])) e

-- a macro's name
pub begins : (most : ℕ) (m : Macros) (pos : ℕ) (k : RawKind) (x : List ℕ × List RawKind) → kept_at k m ≡ Some x → expansion (suc most) m pos k ≡ Replaces ∷ flat_map (expansion most (without x.0 m) pos) x.1
unfolding expansion
begins most m pos k x e = ap (λ o. option_map_or (λ x. Replaces ∷ flat_map (expansion most (without x.0 m) pos) x.1) o (Gives (item_of k pos) ∷ [])) e

-- a name with the tokens that are kept under it
abbrev pub kept_as : List ℕ → Option (List RawKind) → Option (List ℕ × List RawKind)
kept_as name o = option_map_or (λ body. Some (name, body)) o None

pub hidden_names_stay : HiddenNamesStay
hidden_names_stay = λ most pos name macros.
    let same : bytes_eq name name ≡ true = (bytes_decides name name).1 refl in
    let hidden : without name macros name ≡ None = ap (λ b. if b then None else macros name) same in
    stays most (without name macros) pos (Plain (Name name)) (ap (kept_as name) hidden)

pub kept_names_are_replaced : KeptNamesAreReplaced
kept_names_are_replaced = λ most pos name body macros e.
    begins most macros pos (Plain (Name name)) (name, body) (ap (kept_as name) e)
