-- Types that are written.
use Rattle.std.proofs.Common.{◌≡◌, ℕ, zero, suc, ◌*◌, ◌≤◌, Bool, true, false, List, [], ◌∷◌, Option, Some, None, refl, arith, if◌then◌else◌}
use Rattle.std.specs.Prelude.{nat_le, Ok, Err}
use Rattle.std.specs.Option.{option_map_or}
use Rattle.std.proofs.lemmas.Bool.Decides.{nat_tests}
use Rattle.c_syntax.specs.Plain as plain
use Rattle.c_syntax.specs.Plain.{CTy, CTys}
use Rattle.c_syntax.specs.Words.{meaning}
use Rattle.c_types.specs.declared.fault.TypeFault.TheVariants as fault
use Rattle.c_types.specs.Types as type
use Rattle.c_types.specs.Types.{CType, CTypes, Layout, Tags, is_scalar, decayed, words_of, is_object_type}
use Rattle.c_types.specs.Refusals.{Judged, after, keeping}
use Rattle.c_types.specs.Scope.{Scope}
use Rattle.c_types.specs.Operands.{Operand}
use Rattle.c_types.specs.Expressions.{judged, written, array_of, sized_array, length_in, is_result_type, parameter_type, parameters}
use Rattle.c_types.specs.Census.{of_type}
use Rattle.c_types.specs.Limits.{most_words, is_over, wide_types, wide_types_in}
use Rattle.c_fitting.specs.Good.{IsGood, AreGood}
use Rattle.c_fitting.proofs.Judgement.{IfOk, Any, any_ok, after_ok, both_ok, keeping_one}

-- each array has objects as elements, and each function gives nothing or a word
abbrev mutual
  pub IsFormed : Tags → CType → Type 0
  IsFormed tags (type.Pointer t) = IsFormed tags t
  IsFormed tags (type.Array t n) = IsFormed tags t × (is_object_type tags t ≡ true)
  IsFormed tags (type.Function t ts) = IsFormed tags t × AreFormed tags ts × (is_result_type t ≡ true)
  IsFormed tags _ = Unit {0}

  pub AreFormed : Tags → CTypes → Type 0
  AreFormed tags type.NoType = Unit {0}
  AreFormed tags (type.MoreType t ts) = IsFormed tags t × AreFormed tags ts

pub short : (n : ℕ) → is_over n ≡ 0 → n ≤ most_words
short n h = by_test (nat_le n most_words) (λ t. grind (arith, nat_tests, t)) h
  where
    by_test : (b : Bool) → (b ≡ true → n ≤ most_words) → (if b then zero else suc zero) ≡ zero → n ≤ most_words
    by_test true f h = f refl
    by_test false f h = absurd (omega (arith, h))

mutual
  -- with no wide type in it a formed type is good
  pub good_formed : (tags : Tags) (t : CType) → IsFormed tags t → wide_types tags t ≡ 0 → IsGood tags t
  good_formed tags (type.Pointer t) f w = good_formed tags t f w
  good_formed tags (type.Array t n) f w = (good_formed tags t f.0 (omega (arith, w)), f.1, short (n * words_of tags t) (omega (arith, w)))
  good_formed tags (type.Function t ts) f w = (good_formed tags t f.0 (omega (arith, w)), all_good_formed tags ts f.1 (omega (arith, w)), f.2)
  good_formed tags (type.Struct tag) f w = tt
  good_formed tags type.Void f w = tt
  good_formed tags type.Int f w = tt
  good_formed tags type.Unsigned f w = tt
  good_formed tags type.Char f w = tt
  good_formed tags type.UChar f w = tt
  good_formed tags type.Null f w = tt

  pub all_good_formed : (tags : Tags) (ts : CTypes) → AreFormed tags ts → wide_types_in tags ts ≡ 0 → AreGood tags ts
  all_good_formed tags type.NoType f w = tt
  all_good_formed tags (type.MoreType t ts) f w = (good_formed tags t f.0 (omega (arith, w)), all_good_formed tags ts f.1 (omega (arith, w)))

pub decayed_formed : (tags : Tags) (t : CType) → IsFormed tags t → IsFormed tags (decayed t)
decayed_formed tags (type.Array t n) f = f.0
decayed_formed tags (type.Pointer t) f = f
decayed_formed tags (type.Function t ts) f = f
decayed_formed tags (type.Struct tag) f = f
decayed_formed tags type.Void f = f
decayed_formed tags type.Int f = f
decayed_formed tags type.Unsigned f = f
decayed_formed tags type.Char f = f
decayed_formed tags type.UChar f = f
decayed_formed tags type.Null f = f

struct_formed : (tags : Tags) (at : ℕ) (name : List ℕ) (o : Option Layout) → IfOk (IsFormed tags) (option_map_or (λ _. Ok (type.Struct name)) o (Err (fault.Unknown at)))
struct_formed tags at name None = tt
struct_formed tags at name (Some l) = tt

array_formed : (s : Scope) (at : ℕ) (t : CType) (n : ℕ) → IsFormed s.tags t → IfOk (IsFormed s.tags) (array_of s at t n)
array_formed s at t n f = keeping_one (IsFormed s.tags) (is_object_type s.tags t) (fault.Mismatch at) (type.Array t n) (λ o. (f, o))

element_formed : (s : Scope) (at : ℕ) (t : CType) (n : ℕ) → IfOk (λ _. is_object_type s.tags t ≡ true) (array_of s at t n)
element_formed s at t n = keeping_one (λ _. is_object_type s.tags t ≡ true) (is_object_type s.tags t) (fault.Mismatch at) (type.Array t n) (λ o. o)

sized_formed : (s : Scope) (at : ℕ) (t : CType) (a : Operand) → IsFormed s.tags t → IfOk (IsFormed s.tags) (sized_array s at t a)
sized_formed s at t a f =
    both_ok (λ _. is_object_type s.tags t ≡ true) Any (IsFormed s.tags) (array_of s at t 1) (length_in a.pos a.constant) (λ _ n. Ok (type.Array t n)) (element_formed s at t 1) (any_ok (length_in a.pos a.constant)) (λ u n _ _ o _. (f, o))

pub parameter_formed : (tags : Tags) (at : ℕ) (t : CType) → IsFormed tags t → IfOk (IsFormed tags) (parameter_type at t)
parameter_formed tags at t f = keeping_one (IsFormed tags) (is_scalar (decayed t)) (fault.Mismatch at) (decayed t) (λ _. decayed_formed tags t f)

mutual
  pub written_formed : (s : Scope) (at : ℕ) (t : CTy) → IfOk (IsFormed s.tags) (written s at t)
  written_formed s at plain.Void = tt
  written_formed s at plain.Int = tt
  written_formed s at plain.Unsigned = tt
  written_formed s at plain.Char = tt
  written_formed s at plain.UChar = tt
  written_formed s at (plain.Struct name) = struct_formed s.tags at name (meaning s.tags name)
  written_formed s at (plain.Pointer t) = after_ok (IsFormed s.tags) (IsFormed s.tags) (written s at t) (λ u. Ok (type.Pointer u)) (written_formed s at t) (λ u _ f. f)
  written_formed s at (plain.Array t) = after_ok (IsFormed s.tags) (IsFormed s.tags) (written s at t) (λ u. array_of s at u 0) (written_formed s at t) (λ u _ f. array_formed s at u 0 f)
  written_formed s at (plain.ArrayOf t n) =
      both_ok (IsFormed s.tags) Any (IsFormed s.tags) (written s at t) (judged s n) (λ u x. sized_array s at u x) (written_formed s at t) (any_ok (judged s n)) (λ u x _ _ f _. sized_formed s at u x f)
  written_formed s at (plain.Func t ts) =
      both_ok (IsFormed s.tags) (AreFormed s.tags) (IsFormed s.tags) (written s at t) (parameters s at ts) (λ u us. keeping ((is_result_type u, fault.Mismatch at) ∷ []) (type.Function u us)) (written_formed s at t) (parameters_formed s at ts)
      (λ u us _ _ f fs. keeping_one (IsFormed s.tags) (is_result_type u) (fault.Mismatch at) (type.Function u us) (λ r. (f, fs, r)))

  pub parameters_formed : (s : Scope) (at : ℕ) (ts : CTys) → IfOk (AreFormed s.tags) (parameters s at ts)
  parameters_formed s at plain.NoTy = tt
  parameters_formed s at (plain.MoreTy t ts) =
      both_ok (IsFormed s.tags) (AreFormed s.tags) (AreFormed s.tags) (written s at t) (parameters s at ts) (λ u us. after (parameter_type at u) (λ v. Ok (type.MoreType v us))) (written_formed s at t) (parameters_formed s at ts)
      (λ u us _ _ f fs. after_ok (IsFormed s.tags) (AreFormed s.tags) (parameter_type at u) (λ v. Ok (type.MoreType v us)) (parameter_formed s.tags at u f) (λ v _ g. (g, fs)))

pub good_ok : (tags : Tags) (r : Judged CType) → IfOk (IsFormed tags) r → of_type (λ t. wide_types tags t) r ≡ 0 → IfOk (IsGood tags) r
good_ok tags (Ok t) f w = good_formed tags t f w
good_ok tags (Err e) f w = tt

-- a written type without a wide one in it is good
pub good_written : (s : Scope) (at : ℕ) (t : CTy) → of_type (wide_types s.tags) (written s at t) ≡ 0 → IfOk (IsGood s.tags) (written s at t)
good_written s at t w = good_ok s.tags (written s at t) (written_formed s at t) w
