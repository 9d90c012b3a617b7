-- Expressions and declarations in scopes that see the same names are the same with fewer operators.
use Rattle.std.proofs.Common.{◌≡◌, ℕ, List, [], ◌∷◌, ◌++◌, Option, Some, None, Bool, true, false, refl, sym, ap, ◌∙◌, subst, cond}
use Rattle.std.specs.Prelude.{not, Ok, codes}
use Rattle.std.specs.Option.{option_map, option_map_or}
use Rattle.std.specs.Str.{bytes_eq}
use Rattle.c_syntax.specs.Plain as plain
use Rattle.c_syntax.specs.Plain.{CExpr, CExprs, CTy, CTys, CValue, CValues, CDecl}
use Rattle.c_syntax.specs.declared.tree.UnOp.TheVariants as unary
use Rattle.c_syntax.specs.Words.{meaning}
use Rattle.c_types.specs.declared.fault.TypeFault.TheVariants as fault
use Rattle.c_types.specs.Types.{CType, is_unsigned, is_object_type, decayed}
use Rattle.c_types.specs.Refusals.{Judged, after, both, keeping}
use Rattle.c_types.specs.Scope.{Scope, Entity, Object, with_name, is_declared_here, entered}
use Rattle.c_types.specs.Operands.{Operand}
use Rattle.c_types.specs.Expressions.{judged, written, format_of}
use Rattle.c_types.specs.Declarations.{Site, Slots, first_slot, next_slots, slots_of, site_rules, object_rules, braces_rules, fitting, all_fitting, first_fitting, completed, declared_type, declared_object, declared}
use Rattle.c_types.specs.Statements.{maybe_judged}
use Rattle.c_eval.specs.Environment.{operand_type, type_in, word_in}
use Rattle.c_alike.specs.Alike.{NameIsAlike, EachName, EachNameOf, EachNameIn, EachNameInAll}
use Rattle.c_alike.proofs.Judged.{expressions_are_judged_alike, types_are_judged_alike}
use Rattle.c_helpers.specs.Fewer.{constant_tree, fewer_in_type, fewer_in_types, sign_of, counts_unsigned, helper_call, as_type, operator_tree, assignment_tree, step_tree, element_tree, named_call, call_tree, fewer, fewer_all, maybe_fewer, with_values, with_all_values, fewer_in_declaration}
use Rattle.c_fewer_types.proofs.Judged.{keeping_is, first_kept}
use Rattle.c_fewer_types.proofs.FewerTypedRules.{after_is, first_broken, kept_is}
use Rattle.c_fewer_meaning.specs.Seeing.{SeesAll}

-- ---- what holds of all names holds of those of a tree

module _ (Q : List ℕ → Type 0) (h : (name : List ℕ) → Q name) where
  mutual
    every : (e : CExpr) → EachName Q e
    every (plain.Number at n unsigned) = tt
    every (plain.Str at text) = tt
    every (plain.Null at) = tt
    every (plain.Var at name) = h name
    every (plain.Unary at op x) = every x
    every (plain.Step at op x) = every x
    every (plain.Binary at op x y) = (every x, every y)
    every (plain.Assign at op x y) = (every x, every y)
    every (plain.Cond at x y z) = (every x, every y, every z)
    every (plain.Comma at x y) = (every x, every y)
    every (plain.Cast at t x) = (every_in t, every x)
    every (plain.SizeTy at t) = every_in t
    every (plain.SizeOf at x) = every x
    every (plain.Index at x y) = (every x, every y)
    every (plain.Call at f es) = (every f, every_of es)
    every (plain.Member at x m) = every x
    every (plain.Arrow at x m) = every x

    every_of : (es : CExprs) → EachNameOf Q es
    every_of plain.NoExpr = tt
    every_of (plain.MoreExpr e es) = (every e, every_of es)

    every_in : (t : CTy) → EachNameIn Q t
    every_in plain.Void = tt
    every_in plain.Int = tt
    every_in plain.Unsigned = tt
    every_in plain.Char = tt
    every_in plain.UChar = tt
    every_in (plain.Struct name) = tt
    every_in (plain.Pointer t) = every_in t
    every_in (plain.Array t) = every_in t
    every_in (plain.ArrayOf t n) = (every_in t, every n)
    every_in (plain.Func t ts) = (every_in t, every_in_all ts)

    every_in_all : (ts : CTys) → EachNameInAll Q ts
    every_in_all plain.NoTy = tt
    every_in_all (plain.MoreTy t ts) = (every_in t, every_in_all ts)

-- ---- first values

module _ (f g : CExpr → CExpr) (h : (e : CExpr) → f e ≡ g e) where
  mutual
    values_same : (v : CValue) → with_values f v ≡ with_values g v
    values_same (plain.One e) = ap plain.One (h e)
    values_same (plain.Many vs) = ap plain.Many (all_values_same vs)

    all_values_same : (vs : CValues) → with_all_values f vs ≡ with_all_values g vs
    all_values_same plain.NoValue = refl
    all_values_same (plain.MoreValue v vs) = let e = values_same v in let k = all_values_same vs in λ i. plain.MoreValue (e i) (k i)

  first_same : (o : Option CValue) → option_map (with_values f) o ≡ option_map (with_values g) o
  first_same None = refl
  first_same (Some v) = ap Some (values_same v)

-- ---- trees

module _ (s z : Scope) (a : SeesAll s z) where
  pub judged_same : (e : CExpr) → judged s e ≡ judged z e
  judged_same e = expressions_are_judged_alike s z e a.tags (every (NameIsAlike s z) a.names e)

  pub maybe_judged_same : (e : Option CExpr) → maybe_judged s e ≡ maybe_judged z e
  maybe_judged_same None = refl
  maybe_judged_same (Some e) = ap (λ (r : Judged Operand). after {B = Option Operand} r (λ x. Ok (Some x))) (judged_same e)

  written_same : (at : ℕ) (t : CTy) → written s at t ≡ written z at t
  written_same at t = types_are_judged_alike s z at t a.tags (every_in (NameIsAlike s z) a.names t)

  type_same : (e : CExpr) → type_in s e ≡ type_in z e
  type_same e = ap operand_type (judged_same e)

  pub constant_same : (e : CExpr) → constant_tree s e ≡ constant_tree z e
  constant_same e = let k = judged_same e in λ i. plain.Number 0 (word_in (k i)) (is_unsigned (operand_type (k i)))

  mutual
    in_type_same : (t : CTy) → fewer_in_type s t ≡ fewer_in_type z t
    in_type_same plain.Void = refl
    in_type_same plain.Int = refl
    in_type_same plain.Unsigned = refl
    in_type_same plain.Char = refl
    in_type_same plain.UChar = refl
    in_type_same (plain.Struct name) = refl
    in_type_same (plain.Pointer t) = ap plain.Pointer (in_type_same t)
    in_type_same (plain.Array t) = ap plain.Array (in_type_same t)
    in_type_same (plain.ArrayOf t n) = let e = in_type_same t in let k = constant_same n in λ i. plain.ArrayOf (e i) (k i)
    in_type_same (plain.Func t ts) = let e = in_type_same t in let k = in_types_same ts in λ i. plain.Func (e i) (k i)

    in_types_same : (ts : CTys) → fewer_in_types s ts ≡ fewer_in_types z ts
    in_types_same plain.NoTy = refl
    in_types_same (plain.MoreTy t ts) = let e = in_type_same t in let k = in_types_same ts in λ i. plain.MoreTy (e i) (k i)

  called_same : (at : ℕ) (g : CExpr) (format : Option (List ℕ)) (es : CExprs) → call_tree s at g format es ≡ call_tree z at g format es
  called_same at (plain.Var pos name) format es = ap (λ o. named_call at pos name o format es) (a.names name).entity
  called_same at g format es = refl

  mutual
    pub fewer_same : (e : CExpr) → fewer s e ≡ fewer z e
    fewer_same (plain.Number at n unsigned) = refl
    fewer_same (plain.Str at text) = refl
    fewer_same (plain.Null at) = refl
    fewer_same (plain.Var at name) = refl
    fewer_same (plain.Unary at unary.Invert x) = let t = type_same (plain.Unary at unary.Invert x) in let e = fewer_same x in λ i. as_type at (t i) (helper_call at (codes "~") (e i ∷ []))
    fewer_same (plain.Unary at op x) = ap (plain.Unary at op) (fewer_same x)
    fewer_same (plain.Step at op x) = let t = type_same x in let e = fewer_same x in λ i. step_tree (a.tags i) at op (t i) (e i)
    fewer_same (plain.Binary at op x y) =
        let r = type_same (plain.Binary at op x y) in let t = type_same x in let u = type_same y in let e = fewer_same x in let f = fewer_same y in
        λ i. operator_tree (a.tags i) at (sign_of op (counts_unsigned op (decayed (t i)) (decayed (u i)))) op (r i) (decayed (t i)) (decayed (u i)) (e i) (f i)
    fewer_same (plain.Assign at None x y) = let e = fewer_same x in let f = fewer_same y in λ i. plain.Assign at None (e i) (f i)
    fewer_same (plain.Assign at (Some op) x y) =
        let t = type_same x in let u = type_same y in let e = fewer_same x in let f = fewer_same y in
        λ i. assignment_tree (a.tags i) at (sign_of op (counts_unsigned op (t i) (decayed (u i)))) op (t i) (decayed (u i)) (e i) (f i)
    fewer_same (plain.Cond at x y w) = let e = fewer_same x in let f = fewer_same y in let g = fewer_same w in λ i. plain.Cond at (e i) (f i) (g i)
    fewer_same (plain.Comma at x y) = let e = fewer_same x in let f = fewer_same y in λ i. plain.Comma at (e i) (f i)
    fewer_same (plain.Cast at t x) = let e = in_type_same t in let f = fewer_same x in λ i. plain.Cast at (e i) (f i)
    fewer_same (plain.SizeTy at t) = constant_same (plain.SizeTy at t)
    fewer_same (plain.SizeOf at x) = constant_same (plain.SizeOf at x)
    fewer_same (plain.Index at x y) = let t = type_same x in let u = type_same y in let e = fewer_same x in let f = fewer_same y in λ i. element_tree (a.tags i) at (decayed (t i)) (decayed (u i)) (e i) (f i)
    fewer_same (plain.Call at g es) = let e = fewer_same g in let k = fewer_all_same es in called_same at (fewer s g) (format_of es) (fewer_all s es) ∙ (λ i. call_tree z at (e i) (format_of es) (k i))
    fewer_same (plain.Member at x m) = ap (λ y. plain.Member at y m) (fewer_same x)
    fewer_same (plain.Arrow at x m) = ap (λ y. plain.Arrow at y m) (fewer_same x)

    fewer_all_same : (es : CExprs) → fewer_all s es ≡ fewer_all z es
    fewer_all_same plain.NoExpr = refl
    fewer_all_same (plain.MoreExpr e es) = let x = fewer_same e in let xs = fewer_all_same es in λ i. plain.MoreExpr (x i) (xs i)

  pub maybe_fewer_same : (e : Option CExpr) → maybe_fewer s e ≡ maybe_fewer z e
  maybe_fewer_same None = refl
  maybe_fewer_same (Some e) = ap Some (fewer_same e)

  -- ---- what a first value fits

  mutual
    fitting_same : (site : Site) (t : Option CType) (v : CValue) → fitting s site t v ≡ fitting z site t v
    fitting_same site t (plain.One e) = ap (λ r. after r (λ x. keeping (object_rules t e x ++ site_rules site.file e x) tt)) (judged_same e)
    fitting_same site t (plain.Many vs) =
        let e = all_fitting_same site (slots_of s.tags t) vs in
        ap (λ r. after r (λ _. keeping (braces_rules site.pos (slots_of s.tags t) vs) tt)) e ∙ ap (λ tags. after (all_fitting z site (slots_of tags t) vs) (λ _. keeping (braces_rules site.pos (slots_of tags t) vs) tt)) a.tags

    all_fitting_same : (site : Site) (slots : Slots) (vs : CValues) → all_fitting s site slots vs ≡ all_fitting z site slots vs
    all_fitting_same site slots plain.NoValue = refl
    all_fitting_same site slots (plain.MoreValue v vs) = let e = fitting_same site (first_slot slots) v in let f = all_fitting_same site (next_slots slots) vs in λ i. both (e i) (f i) (λ _ _. Ok tt)

  first_fitting_same : (site : Site) (t : CType) (o : Option CValue) → first_fitting s site t o ≡ first_fitting z site t o
  first_fitting_same site t None = refl
  first_fitting_same site t (Some v) = fitting_same site (Some t) v

  declared_type_same : (d : CDecl) → declared_type s d ≡ declared_type z d
  declared_type_same d = let e = written_same d.pos d.ty in λ i. after (e i) (λ t. keeping ((is_object_type (a.tags i) (completed t d.first), fault.Mismatch d.pos) ∷ []) (completed t d.first))

-- ---- scopes behind

pub entered_sees : (s z : Scope) → SeesAll s z → SeesAll (entered s) (entered z)
entered_sees s z a = record { tags = a.tags; names = λ name. record { entity = (a.names name).entity; defined = (a.names name).defined }; here = λ name e. refl }

-- a block sees what is around it
pub sees_entered : (s : Scope) → SeesAll s (entered s)
sees_entered s = record { tags = refl; names = λ name. record { entity = refl; defined = refl }; here = λ name e. refl }

name_sees : (s z : Scope) (n : List ℕ) (x : Entity) → SeesAll s z → SeesAll (with_name s n x) (with_name z n x)
name_sees s z n x a = record {
  tags = a.tags;
  names = λ name. record { entity = ap (λ o. cond (bytes_eq name n) (Some x) o) (a.names name).entity; defined = (a.names name).defined };
  here = λ name e. by_name (bytes_eq name n) (meaning s.block name) (meaning z.block name) (a.here name) e;
}
  where
    by_name : (b : Bool) (o p : Option Entity) → (option_map_or (λ _. true) o false ≡ false → option_map_or (λ _. true) p false ≡ false) → option_map_or (λ _. true) (cond b (Some x) o) false ≡ false → option_map_or (λ _. true) (cond b (Some x) p) false ≡ false
    by_name true o p f e = absurd (cc e)
    by_name false o p f e = f e

-- a declaration that is Ok in both, and the scopes behind it
pub record Declares (s z : Scope) (d : CDecl) (r : Scope) : Type 0 where
  pub other : Scope
  pub is : declared z false d ≡ Ok other
  pub sees : SeesAll r other

not_true : (b : Bool) → not b ≡ true → b ≡ false
not_true true e = absurd (cc e)
not_true false e = refl

pub local_declares : (s z : Scope) (d : CDecl) (r : Scope) → SeesAll s z → declared s false d ≡ Ok r → Declares s z d r
local_declares s z d r a e =
    let k = after_is (declared_type s d) (λ t. declared_object s false d t) r e in
    let t : CType = k.0 in
    let site : Site = record { file = false; pos = d.pos } in
    let inner : Scope = with_name s d.name (Object t) in
    let inner' : Scope = with_name z d.name (Object t) in
    let l = after_is (first_fitting inner site t d.first) (λ _. keeping ((not (is_declared_here s d.name), fault.Twice d.pos) ∷ []) inner) r k.2 in
    let m = keeping_is {A = Scope} ((not (is_declared_here s d.name), fault.Twice d.pos) ∷ []) inner r l.2 in
    let o = first_kept (not (is_declared_here s d.name)) (fault.Twice d.pos) [] m.0 in
    let once : not (is_declared_here z d.name) ≡ true = ap not (a.here d.name (not_true (is_declared_here s d.name) o.0)) in
    let sees : SeesAll inner inner' = name_sees s z d.name (Object t) a in
    record {
      other = inner';
      is =
          ap (λ q. after q (λ t. declared_object z false d t)) (sym (declared_type_same s z a d) ∙ k.1)
          ∙ (ap (λ q. after {A = Unit {0}} q (λ _. keeping ((not (is_declared_here z d.name), fault.Twice d.pos) ∷ []) inner')) (sym (first_fitting_same inner inner' sees site t d.first) ∙ l.1)
          ∙ kept_is {A = Scope} ((not (is_declared_here z d.name), fault.Twice d.pos) ∷ []) inner' (first_broken (not (is_declared_here z d.name)) (fault.Twice d.pos) [] once refl));
      sees = subst (λ x. SeesAll x inner') m.1 sees;
    }

-- its tree, the scopes behind it being known
pub declaration_same : (s z r r' : Scope) (d : CDecl) → SeesAll s z → SeesAll r r' → fewer_in_declaration z (fewer r') d ≡ fewer_in_declaration s (fewer r) d
declaration_same s z r r' d a b =
    let t = in_type_same s z a d.ty in
    let o = first_same (fewer r) (fewer r') (λ e. fewer_same r r' b e) d.first in
    λ i. record d { ty = sym t i; first = sym o i }
