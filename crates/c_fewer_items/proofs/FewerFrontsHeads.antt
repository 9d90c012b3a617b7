-- The parameters of a format's function.
use Rattle.std.proofs.Common.{◌≡◌, ℕ, suc, ◌+◌, ◌^◌, ◌<◌, ◌≤◌, List, [], ◌∷◌, length, Some, None, Bool, true, false, refl, sym, ap, ◌∙◌, subst, cond, arith, map}
use Rattle.std.specs.Prelude.{◌==◌, not, Ok, if◌then◌else◌}
use Rattle.std.specs.Option.{option_map_or}
use Rattle.std.specs.Str.{bytes_eq}
use Rattle.std.proofs.lemmas.Bool.{false_from_ne_true}
use Rattle.std.proofs.lemmas.Fmt.{decimal_injective, decimal_nonempty}
use Rattle.std.proofs.lemmas.Slice.Eq.{bytes_eq-Decides}
use Rattle.c_syntax.specs.Plain as plain
use Rattle.c_syntax.specs.Plain.{CDecl}
use Rattle.c_syntax.specs.Words.{meaning}
use Rattle.c_types.specs.declared.fault.TypeFault.TheVariants as fault
use Rattle.c_types.specs.Types as type
use Rattle.c_types.specs.Types.{CType, types}
use Rattle.c_types.specs.Refusals.{Judged, Rule, after, both, keeping}
use Rattle.c_types.specs.Scope.{Names, Scope, Object, entered, with_name, is_declared_here}
use Rattle.c_types.specs.Expressions.{written, parameter_type}
use Rattle.c_types.specs.Units.{Parameter, with_parameter, declared_parameter, parameter, parameter_scope_or, Parameters, all_parameters, signature}
use Rattle.c_helpers.specs.Terms.{declaration}
use Rattle.c_helpers.specs.Functions.{argument_name, conversion_type, arguments_from}
use Rattle.c_fewer_types.specs.Stands.{head_type}
use Rattle.c_products.specs.MovesFound.{declared_in}
use Rattle.c_formats.specs.Laws.{argument_type, parameters_from}
use Rattle.c_fewer_items.proofs.Typed.{block_from}

pub other_argument : (i j : ℕ) → i < 2 ^ 64 → j < 2 ^ 64 → (i ≡ j → ⊥) → bytes_eq (argument_name i) (argument_name j) ≡ false
other_argument i j few less apart =
    false_from_ne_true (bytes_eq (argument_name i) (argument_name j)) (λ e. apart (decimal_injective i j few less ((bytes_eq-Decides (argument_name i) (argument_name j)).0 e)))

-- a parameter with a name is declared
named_parameter : (p : Scope) (name : List ℕ) (t : CType) → 0 < length name → with_parameter p name t ≡ with_name p name (Object t)
named_parameter p [] t few = absurd (omega (arith, few))
named_parameter p (c ∷ cs) t few = refl

abbrev argument : ℕ → ℕ → CDecl
argument letter i = declaration (conversion_type letter) (argument_name i)

-- its type is of one word
typed_argument : (p : Scope) (letter i : ℕ) → declared_parameter p (argument letter i) ≡ Ok (head_type (conversion_type letter))
typed_argument p letter i = go (letter == 115) (letter == 100) (letter == 99)
  where
    go : (a b c : Bool) → after (written p 0 (if a then plain.Pointer plain.Char else if b then plain.Int else if c then plain.Int else plain.Unsigned)) (λ t. parameter_type 0 t) ≡ Ok (head_type (if a then plain.Pointer plain.Char else if b then plain.Int else if c then plain.Int else plain.Unsigned))
    go true b c = refl
    go false true c = refl
    go false false true = refl
    go false false false = refl

abbrev rules : Bool → List Rule
rules here = (not here, fault.Twice 0) ∷ (true, fault.Mismatch 0) ∷ []

abbrev told : Parameter → Judged Parameter
told x = Ok x

-- a parameter that isn't declared yet
argument_is : (p : Scope) (letter i : ℕ) → i < 2 ^ 64 → meaning p.block (argument_name i) ≡ None → parameter p (argument letter i) ≡ told (record { ty = head_type (conversion_type letter); scope = with_name p (argument_name i) (Object (head_type (conversion_type letter))) })
argument_is p letter i few fresh =
    ap (λ q. after q (λ t. keeping (rules (is_declared_here p (argument_name i))) (record { ty = t; scope = with_parameter p (argument_name i) t }))) (typed_argument p letter i)
    ∙ (ap (λ o. keeping (rules (option_map_or (λ entity. true) o false)) (record { ty = head_type (conversion_type letter); scope = with_parameter p (argument_name i) (head_type (conversion_type letter)) })) fresh
    ∙ ap (λ z. told (record { ty = head_type (conversion_type letter); scope = z })) (named_parameter p (argument_name i) (head_type (conversion_type letter)) (decimal_nonempty i few)))

abbrev given : Scope → List CDecl → Parameters
given p ds = record { types = types (map (λ (d : CDecl). head_type d.ty) ds); scope = record p { block = block_from ds p.block } }

abbrev joined : Parameter → Parameters → Judged Parameters
joined first rest = Ok (record { types = type.MoreType first.ty rest.types; scope = rest.scope })

arguments_are : (letters : List ℕ) (i : ℕ) (p : Scope) → i + length letters < 2 ^ 64 → ((j : ℕ) → i ≤ j → j < i + length letters → meaning p.block (argument_name j) ≡ None) → all_parameters p (arguments_from i letters) ≡ Ok (given p (arguments_from i letters))
arguments_are [] i p few fresh = refl
arguments_are (l ∷ ls) i p few fresh =
    let t : CType = head_type (conversion_type l) in
    let inner : Scope = with_name p (argument_name i) (Object t) in
    let first = argument_is p l i (omega (arith, few)) (fresh i (omega arith) (omega arith)) in
    let rest = arguments_are ls (suc i) inner (omega (arith, few)) (λ j le lt.
    ap (λ b. cond b (Some (Object t)) (meaning p.block (argument_name j))) (other_argument j i (omega (arith, few, lt)) (omega (arith, few)) (λ e. omega (arith, e, le))) ∙ fresh j (omega (arith, le)) (omega (arith, lt))) in
    ap (λ q. both q (all_parameters (parameter_scope_or p q) (arguments_from (suc i) ls)) joined) first ∙ ap (λ q. both {A = Parameter} {B = Parameters} (told (record { ty = t; scope = inner })) q joined) rest

pub signature_is : (s : Scope) (letters : List ℕ) (ds : List CDecl) → ds ≡ arguments_from 0 letters → length letters < 2 ^ 24
    → signature s 0 plain.Void ds ≡ Ok (record { result = type.Void; parameters = record { types = types (map (λ (d : CDecl). head_type d.ty) ds); scope = record (entered s) { block = block_from ds [] } } })
signature_is s letters ds e few =
    subst (λ ds. signature s 0 plain.Void ds ≡ Ok (record { result = type.Void; parameters = record { types = types (map (λ (d : CDecl). head_type d.ty) ds); scope = record (entered s) { block = block_from ds [] } } })) (sym e)
    (ap (λ q. both {A = CType} {B = Parameters} (Ok type.Void) q (λ t ps. Ok (record { result = t; parameters = ps }))) (arguments_are letters 0 (entered s) (omega (arith, few)) (λ j le lt. refl)))

-- ---- what they stand for

argument_same : (letter : ℕ) → head_type (conversion_type letter) ≡ argument_type letter
argument_same letter = go (letter == 115) (letter == 100) (letter == 99)
  where
    go : (a b c : Bool) → head_type (if a then plain.Pointer plain.Char else if b then plain.Int else if c then plain.Int else plain.Unsigned) ≡ (if a then type.Pointer type.Char else if b then type.Int else if c then type.Int else type.Unsigned)
    go true b c = refl
    go false true c = refl
    go false false true = refl
    go false false false = refl

pub block_same : (letters : List ℕ) (i : ℕ) (block : Names) → block_from (arguments_from i letters) block ≡ declared_in (parameters_from i letters) block
block_same [] i block = refl
block_same (l ∷ ls) i block = ap (λ t. block_from (arguments_from (suc i) ls) ((argument_name i, Object t) ∷ block)) (argument_same l) ∙ block_same ls (suc i) ((argument_name i, Object (argument_type l)) ∷ block)
