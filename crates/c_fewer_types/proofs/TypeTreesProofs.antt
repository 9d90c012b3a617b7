-- The tree of a type says that type.
use Rattle.std.proofs.Common.{◌≡◌, ℕ, zero, suc, ◌%◌, ◌^◌, ◌<◌, ◌≤◌, List, [], ◌∷◌, Option, Some, None, Bool, true, false, nat_lt, nat_le, refl, sym, ap, ap₂, ◌∙◌, subst, arith}
use Rattle.std.specs.Prelude.{◌&&◌, is_some, Ok, Err}
use Rattle.std.specs.Option.{option_map_or}
use Rattle.std.proofs.lemmas.Bool.{and_parts, lt-ltb, le-leb, ltb-true, leb-true}
use Rattle.c_syntax.specs.Plain as plain
use Rattle.c_syntax.specs.Plain.{CExpr, CTy, CTys}
use Rattle.c_syntax.specs.Words.{meaning}
use Rattle.c_types.specs.declared.fault.TypeFault.{TypeFault}
use Rattle.c_types.specs.declared.fault.TypeFault.TheVariants as fault
use Rattle.c_types.specs.Types as type
use Rattle.c_types.specs.Types.{CType, CTypes, NoType, MoreType, Layout, is_unsigned, is_scalar, decayed, is_object_type}
use Rattle.c_types.specs.Constants as constant
use Rattle.c_types.specs.Constants.{Constant}
use Rattle.c_types.specs.Refusals.{Judged, after, both, keeping}
use Rattle.c_types.specs.Scope.{Scope}
use Rattle.c_types.specs.Operands.{Operand}
use Rattle.c_types.specs.Expressions.{judged, written, parameters, parameter_type, is_result_type, struct_in, array_of, sized_array, length_in}
use Rattle.c_eval.specs.Environment.{type_in, constant_word, word_in, constant_in}
use Rattle.c_helpers.specs.Fewer.{array_tree, type_tree, type_trees, fewer_in_type, fewer_in_types}
use Rattle.c_fewer_types.specs.Written.{CanBeWritten, AreParameters}
use Rattle.c_fewer_types.specs.TypeTreesLaws.{TypesAreWrittenBack, FewerTypesAreTheSame}

-- a rule that is kept refuses nothing
kept : {A : Type 0} (b : Bool) (f : TypeFault) (a : A) → b ≡ true → keeping ((b, f) ∷ []) a ≡ Ok a
kept b f a e = ap (λ z. keeping ((z, f) ∷ []) a) e

scalar_decayed : (t : CType) → is_scalar t ≡ true → decayed t ≡ t
scalar_decayed type.Int e = refl
scalar_decayed type.Unsigned e = refl
scalar_decayed type.Char e = refl
scalar_decayed type.UChar e = refl
scalar_decayed (type.Pointer t) e = refl
scalar_decayed (type.Array t n) e = absurd (cc e)
scalar_decayed (type.Struct tag) e = refl
scalar_decayed type.Void e = refl
scalar_decayed type.Null e = refl
scalar_decayed (type.Function t ts) e = refl

-- a length from 1 to 2^22, as a number
length_told : (at pos n : ℕ) (unsigned : Bool) → 0 < n → n ≤ 2 ^ 22 → length_in at (constant.Value (n % 2 ^ 24)) ≡ Ok n
length_told at pos n unsigned some few =
    let whole : n % 2 ^ 24 ≡ n = omega (arith, few) in
    ap (λ z. length_in at (constant.Value z)) whole ∙ kept (nat_lt 0 n && nat_le n (2 ^ 22)) (fault.Mismatch at) n (ap₂ (λ a b. a && b) (lt-ltb 0 n some) (le-leb n (2 ^ 22) few))

-- an array of a number of elements
number_array : (s : Scope) (at : ℕ) (t : CTy) (u : CType) (n : ℕ) (unsigned : Bool) → is_object_type s.tags u ≡ true → 0 < n → n ≤ 2 ^ 22 → written s at t ≡ Ok u → written s at (plain.ArrayOf t (plain.Number 0 n unsigned)) ≡ Ok (type.Array u n)
number_array s at t u n unsigned o some few e =
    ap (λ r. both r (judged s (plain.Number 0 n unsigned)) (λ u x. sized_array s at u x)) e
    ∙ (ap (λ r. both r (length_in 0 (constant.Value (n % 2 ^ 24))) (λ _ n. Ok (type.Array u n))) (kept (is_object_type s.tags u) (fault.Mismatch at) (type.Array u 1) o)
    ∙ ap (λ r. both {A = CType} (Ok (type.Array u 1)) r (λ _ n. Ok (type.Array u n))) (length_told 0 0 n unsigned some few))

struct_told : (s : Scope) (at : ℕ) (tag : List ℕ) (o : Option Layout) → meaning s.tags tag ≡ o → is_some o ≡ true → struct_in s at tag ≡ Ok (type.Struct tag)
struct_told s at tag None e h = absurd (cc h)
struct_told s at tag (Some layout) e h = ap (λ z. option_map_or (λ _. Ok (type.Struct tag)) z (Err (fault.Unknown at))) e

array_told : (s : Scope) (at : ℕ) (t : CTy) (u : CType) (n : ℕ) → is_object_type s.tags u ≡ true → n ≤ 2 ^ 22 → written s at t ≡ Ok u → written s at (array_tree t n) ≡ Ok (type.Array u n)
array_told s at t u zero o few e = ap (λ r. after r (λ u. array_of s at u 0)) e ∙ kept (is_object_type s.tags u) (fault.Mismatch at) (type.Array u 0) o
array_told s at t u (suc n) o few e = number_array s at t u (suc n) false o (omega arith) few e

mutual
  pub tree_told : (s : Scope) (at : ℕ) (t : CType) → CanBeWritten s.tags t → written s at (type_tree t) ≡ Ok t
  tree_told s at type.Int c = refl
  tree_told s at type.Unsigned c = refl
  tree_told s at type.Char c = refl
  tree_told s at type.UChar c = refl
  tree_told s at type.Void c = refl
  tree_told s at type.Null c = absurd c
  tree_told s at (type.Struct tag) c = struct_told s at tag (meaning s.tags tag) refl c
  tree_told s at (type.Pointer t) c = ap (λ r. after r (λ u. Ok (type.Pointer u))) (tree_told s at t c)
  tree_told s at (type.Array t n) c = array_told s at (type_tree t) t n c.0 c.1 (tree_told s at t c.2)
  tree_told s at (type.Function t ts) c =
      let e = tree_told s at t c.1 in
      let f = trees_told s at ts c.2 in
      ap₂ (λ r q. both r q (λ u us. keeping ((is_result_type u, fault.Mismatch at) ∷ []) (type.Function u us))) e f ∙ kept (is_result_type t) (fault.Mismatch at) (type.Function t ts) c.0

  trees_told : (s : Scope) (at : ℕ) (ts : CTypes) → AreParameters s.tags ts → parameters s at (type_trees ts) ≡ Ok ts
  trees_told s at NoType c = refl
  trees_told s at (MoreType t ts) c =
      let e = tree_told s at t c.1 in
      let f = trees_told s at ts c.2 in
      let d : decayed t ≡ t = scalar_decayed t c.0 in
      ap₂ (λ r q. both r q (λ u us. after (parameter_type at u) (λ v. Ok (MoreType v us)))) e f
      ∙ (ap (λ r. after r (λ v. Ok (MoreType v ts))) (kept (is_scalar (decayed t)) (fault.Mismatch at) (decayed t) (ap is_scalar d ∙ c.0)) ∙ ap (λ z. Ok (MoreType z ts)) d)

pub types_are_written_back : TypesAreWrittenBack
types_are_written_back s at t c = tree_told s at t c

-- ---- lengths that became numbers

-- a refused part refuses the whole
after_told : {A B : Type 0} (r : Judged A) (f : A → Judged B) (b : B) → after r f ≡ Ok b → (a : A) × (r ≡ Ok a) × (f a ≡ Ok b)
after_told (Ok a) f b e = (a, refl, e)
after_told (Err x) f b e = absurd (cc e)

both_told : {A B C : Type 0} (r : Judged A) (q : Judged B) (f : A → B → Judged C) (c : C) → both r q f ≡ Ok c → (a : A) × ((b : B) × (r ≡ Ok a) × (q ≡ Ok b) × (f a b ≡ Ok c))
both_told (Ok a) (Ok b) f c e = (a, (b, refl, refl, e))
both_told (Ok a) (Err x) f c e = absurd (cc e)
both_told (Err x) (Ok b) f c e = absurd (cc e)
both_told (Err x) (Err y) f c e = absurd (cc e)

keeping_told : {A : Type 0} (b : Bool) (f : TypeFault) (a x : A) → keeping ((b, f) ∷ []) a ≡ Ok x → (b ≡ true) × (a ≡ x)
keeping_told true f a x e = let same : a ≡ x = cc e in (refl, same)
keeping_told false f a x e = absurd (cc e)

length_known : (at : ℕ) (c : Constant) (n : ℕ) → length_in at c ≡ Ok n → (c ≡ constant.Value n) × (0 < n) × (n ≤ 2 ^ 22)
length_known at constant.NotConstant n e = absurd (cc e)
length_known at (constant.Undefined pos) n e = absurd (cc e)
length_known at (constant.Value m) n e =
    let k = keeping_told (nat_lt 0 m && nat_le m (2 ^ 22)) (fault.Mismatch at) m n e in
    let p = and_parts (nat_lt 0 m) (nat_le m (2 ^ 22)) k.0 in
    (ap constant.Value k.1, subst (λ z. 0 < z) k.1 (ltb-true 0 m p.0), subst (λ z. z ≤ 2 ^ 22) k.1 (leb-true m (2 ^ 22) p.1))

mutual
  fewer_told : (s s' : Scope) (at : ℕ) (t : CTy) (u : CType) → s.tags ≡ s'.tags → written s at t ≡ Ok u → written s' at (fewer_in_type s t) ≡ Ok u
  fewer_told s s' at plain.Void u tags e = e
  fewer_told s s' at plain.Int u tags e = e
  fewer_told s s' at plain.Unsigned u tags e = e
  fewer_told s s' at plain.Char u tags e = e
  fewer_told s s' at plain.UChar u tags e = e
  fewer_told s s' at (plain.Struct name) u tags e = ap (λ z. option_map_or (λ _. Ok (type.Struct name)) (meaning z name) (Err (fault.Unknown at))) (sym tags) ∙ e
  fewer_told s s' at (plain.Pointer t) u tags e =
      let k = after_told (written s at t) (λ u. Ok (type.Pointer u)) u e in
      ap (λ r. after r (λ u. Ok (type.Pointer u))) (fewer_told s s' at t k.0 tags k.1) ∙ k.2
  fewer_told s s' at (plain.Array t) u tags e =
      let k = after_told (written s at t) (λ u. array_of s at u 0) u e in
      ap (λ r. after r (λ u. array_of s' at u 0)) (fewer_told s s' at t k.0 tags k.1) ∙ (ap (λ z. keeping ((is_object_type z k.0, fault.Mismatch at) ∷ []) (type.Array k.0 0)) (sym tags) ∙ k.2)
  fewer_told s s' at (plain.ArrayOf t n) u tags e =
      let k = both_told (written s at t) (judged s n) (λ u x. sized_array s at u x) u e in
      let v : CType = k.0 in
      let x : Operand = k.1.0 in
      let l = both_told (array_of s at v 1) (length_in x.pos x.constant) (λ _ n. Ok (type.Array v n)) u k.1.3 in
      let m : ℕ = l.1.0 in
      let known = length_known x.pos x.constant m l.1.2 in
      let object = keeping_told (is_object_type s.tags v) (fault.Mismatch at) (type.Array v 1) l.0 l.1.1 in
      let length : constant_in s n ≡ m = ap (λ r. word_in r) k.1.2 ∙ ap constant_word known.0 in
      subst (λ z. written s' at (plain.ArrayOf (fewer_in_type s t) (plain.Number 0 z (is_unsigned (type_in s n)))) ≡ Ok u) (sym length)
      (number_array s' at (fewer_in_type s t) v m (is_unsigned (type_in s n)) (ap (λ z. is_object_type z v) (sym tags) ∙ object.0) known.1 known.2 (fewer_told s s' at t v tags k.1.1) ∙ l.1.3)
  fewer_told s s' at (plain.Func t ts) u tags e =
      let k = both_told (written s at t) (parameters s at ts) (λ u us. keeping ((is_result_type u, fault.Mismatch at) ∷ []) (type.Function u us)) u e in
      let a = fewer_told s s' at t k.0 tags k.1.1 in
      let b = fewer_all_told s s' at ts k.1.0 tags k.1.2 in
      ap₂ (λ r q. both r q (λ u us. keeping ((is_result_type u, fault.Mismatch at) ∷ []) (type.Function u us))) a b ∙ k.1.3

  fewer_all_told : (s s' : Scope) (at : ℕ) (ts : CTys) (us : CTypes) → s.tags ≡ s'.tags → parameters s at ts ≡ Ok us → parameters s' at (fewer_in_types s ts) ≡ Ok us
  fewer_all_told s s' at plain.NoTy us tags e = e
  fewer_all_told s s' at (plain.MoreTy t ts) us tags e =
      let k = both_told (written s at t) (parameters s at ts) (λ u us. after (parameter_type at u) (λ v. Ok (MoreType v us))) us e in
      let a = fewer_told s s' at t k.0 tags k.1.1 in
      let b = fewer_all_told s s' at ts k.1.0 tags k.1.2 in
      ap₂ (λ r q. both r q (λ u us. after (parameter_type at u) (λ v. Ok (MoreType v us)))) a b ∙ k.1.3

pub fewer_types_are_the_same : FewerTypesAreTheSame
fewer_types_are_the_same s s' at t u tags e = fewer_told s s' at t u tags e
