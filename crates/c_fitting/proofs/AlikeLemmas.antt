-- Scopes in which each name stands for the same: what is fit in one is fit in the other.
use Rattle.std.proofs.Common.{◌≡◌, ℕ, List, [], ◌∷◌, ◌++◌, Option, Some, None, refl, sym, ap, subst, ◌∙◌}
use Rattle.std.specs.Prelude.{◌≤◌, ◌<◌, ◌^◌, Ok}
use Rattle.c_syntax.specs.Plain as plain
use Rattle.c_syntax.specs.Plain.{CExpr, CExprs, CTy, CTys, CValue, CValues, CDecl}
use Rattle.c_syntax.specs.Words.{meaning}
use Rattle.c_syntax.specs.declared.tree.UnOp.{UnOp}
use Rattle.c_syntax.specs.declared.tree.UnOp.TheVariants as unary
use Rattle.c_syntax.specs.declared.tree.BinOp.{BinOp}
use Rattle.c_syntax.specs.declared.tree.BinOp.TheVariants as binary
use Rattle.c_types.specs.declared.fault.TypeFault.TheVariants as fault
use Rattle.c_types.specs.Types.{CType, Int, decayed, words_of, is_object_type}
use Rattle.c_types.specs.Refusals.{after, both, keeping}
use Rattle.c_types.specs.Scope.{Scope, Entity, entity_of, is_function, with_name, entered}
use Rattle.c_types.specs.Expressions.{judged, written, names_function}
use Rattle.c_types.specs.Declarations.{Site, Slots, first_slot, next_slots, slots_of, object_rules, site_rules, braces_rules, fitting, all_fitting, first_fitting, completed, declared_type}
use Rattle.c_types.specs.Limits.{most_words}
use Rattle.c_eval.specs.Environment.{operand_type, type_in, value_type_in, pointee, member_offset, type_or_nothing}
use Rattle.c_eval.specs.Eval.{step_op}
use Rattle.c_pieces.specs.Counted.{AreCounted}
use Rattle.c_here.specs.Behind.{IsCountedBy}
use Rattle.c_fitting.specs.Fit.{IsPlaceUnless, IsAddressed, IsFit, AreFit}
use Rattle.c_fitting.specs.Whole.{IsShort, MaybeIsFit, ValueIsFit, ValuesAreFit, FirstIsFit}
use Rattle.c_alike.specs.Alike.{NameIsAlike, EachName, EachNameOf, EachNameIn, EachNameInAll}
use Rattle.c_alike.proofs.Judged.{judged_alike, written_alike}

-- ---- what holds of every name holds of each name of a tree

module _ (P : List ℕ → Type 0) (p : (name : List ℕ) → P name) where
  mutual
    pub every : (e : CExpr) → EachName P e
    every (plain.Number at n unsigned) = tt
    every (plain.Str at text) = tt
    every (plain.Null at) = tt
    every (plain.Var at name) = p name
    every (plain.Unary at op x) = every x
    every (plain.Step at op x) = every x
    every (plain.Binary at op x y) = (every x, every y)
    every (plain.Assign at op x y) = (every x, every y)
    every (plain.Cond at x y z) = (every x, every y, every z)
    every (plain.Comma at x y) = (every x, every y)
    every (plain.Cast at t x) = (every_in t, every x)
    every (plain.SizeTy at t) = every_in t
    every (plain.SizeOf at x) = every x
    every (plain.Index at x y) = (every x, every y)
    every (plain.Call at g es) = (every g, every_of es)
    every (plain.Member at x m) = every x
    every (plain.Arrow at x m) = every x

    pub every_of : (es : CExprs) → EachNameOf P es
    every_of plain.NoExpr = tt
    every_of (plain.MoreExpr e es) = (every e, every_of es)

    pub every_in : (t : CTy) → EachNameIn P t
    every_in plain.Void = tt
    every_in plain.Int = tt
    every_in plain.Unsigned = tt
    every_in plain.Char = tt
    every_in plain.UChar = tt
    every_in (plain.Struct name) = tt
    every_in (plain.Pointer t) = every_in t
    every_in (plain.Array t) = every_in t
    every_in (plain.ArrayOf t n) = (every_in t, every n)
    every_in (plain.Func t ts) = (every_in t, every_in_all ts)

    pub every_in_all : (ts : CTys) → EachNameInAll P ts
    every_in_all plain.NoTy = tt
    every_in_all (plain.MoreTy t ts) = (every_in t, every_in_all ts)

-- ---- scopes with the same names

-- the same tags, and each name stands for the same, in whatever block it is
pub record SameNames (s s' : Scope) : Type 0 where
  pub same : entered s ≡ entered s'

names_entered : (s : Scope) (name : List ℕ) → NameIsAlike s (entered s) name
names_entered s name = record { entity = refl; defined = refl }

judged_entered : (s : Scope) (e : CExpr) → judged s e ≡ judged (entered s) e
judged_entered s e = judged_alike s (entered s) e refl (every (NameIsAlike s (entered s)) (names_entered s) e)

written_entered : (s : Scope) (at : ℕ) (t : CTy) → written s at t ≡ written (entered s) at t
written_entered s at t = written_alike s (entered s) at t refl (every_in (NameIsAlike s (entered s)) (names_entered s) t)

pub tags_same : (s s' : Scope) → SameNames s s' → s.tags ≡ s'.tags
tags_same s s' a = ap (λ x. x.tags) a.same

pub judged_same : (s s' : Scope) → SameNames s s' → (e : CExpr) → judged s e ≡ judged s' e
judged_same s s' a e = judged_entered s e ∙ (ap (λ x. judged x e) a.same ∙ sym (judged_entered s' e))

pub written_same : (s s' : Scope) → SameNames s s' → (at : ℕ) (t : CTy) → written s at t ≡ written s' at t
written_same s s' a at t = written_entered s at t ∙ (ap (λ x. written x at t) a.same ∙ sym (written_entered s' at t))

pub entity_same : (s s' : Scope) → SameNames s s' → (name : List ℕ) → entity_of s name ≡ entity_of s' name
entity_same s s' a name = ap (λ x. meaning x.outer name) a.same

function_same : (s s' : Scope) → SameNames s s' → (e : CExpr) → names_function s e ≡ names_function s' e
function_same s s' a (plain.Var at name) = ap is_function (entity_same s s' a name)
function_same s s' a (plain.Number pos n unsigned) = refl
function_same s s' a (plain.Str pos text) = refl
function_same s s' a (plain.Null pos) = refl
function_same s s' a (plain.Unary pos op x) = refl
function_same s s' a (plain.Step pos op x) = refl
function_same s s' a (plain.Binary pos op x y) = refl
function_same s s' a (plain.Assign pos op x y) = refl
function_same s s' a (plain.Cond pos x y z) = refl
function_same s s' a (plain.Comma pos x y) = refl
function_same s s' a (plain.Cast pos t x) = refl
function_same s s' a (plain.SizeTy pos t) = refl
function_same s s' a (plain.SizeOf pos x) = refl
function_same s s' a (plain.Index pos x y) = refl
function_same s s' a (plain.Call pos f es) = refl
function_same s s' a (plain.Member pos x m) = refl
function_same s s' a (plain.Arrow pos x m) = refl

-- a name before all that stand around
abbrev with_outer : List ℕ → Entity → Scope → Scope
with_outer name x s = record s { outer = (name, x) ∷ s.outer }

-- ---- what is fit

counted_same : (s s' : Scope) → SameNames s s' → (op : BinOp) (e f : CExpr) → AreCounted s.tags op (value_type_in s e) (value_type_in s f) → AreCounted s'.tags op (value_type_in s' e) (value_type_in s' f)
counted_same s s' a op e f c =
    subst (λ tags. AreCounted tags op (value_type_in s' e) (value_type_in s' f)) (tags_same s s' a)
    (subst (λ r. AreCounted s.tags op (value_type_in s' e) (decayed (operand_type r))) (judged_same s s' a f)
    (subst (λ r. AreCounted s.tags op (decayed (operand_type r)) (value_type_in s f)) (judged_same s s' a e) c))

assigned_same : (s s' : Scope) → SameNames s s' → (op : Option BinOp) (e f : CExpr) → IsCountedBy s.tags op (type_in s e) (value_type_in s f) → IsCountedBy s'.tags op (type_in s' e) (value_type_in s' f)
assigned_same s s' a None e f c = tt
assigned_same s s' a (Some op) e f c =
    subst (λ tags. AreCounted tags op (type_in s' e) (value_type_in s' f)) (tags_same s s' a)
    (subst (λ r. AreCounted s.tags op (type_in s' e) (decayed (operand_type r))) (judged_same s s' a f)
    (subst (λ r. AreCounted s.tags op (operand_type r) (value_type_in s f)) (judged_same s s' a e) c))

stepped_same : (s s' : Scope) → SameNames s s' → (op : BinOp) (e : CExpr) → AreCounted s.tags op (type_in s e) Int → AreCounted s'.tags op (type_in s' e) Int
stepped_same s s' a op e c =
    subst (λ tags. AreCounted tags op (type_in s' e) Int) (tags_same s s' a) (subst (λ r. AreCounted s.tags op (operand_type r) Int) (judged_same s s' a e) c)

member_same : (s s' : Scope) → SameNames s s' → (e : CExpr) (m : List ℕ) → member_offset s.tags (type_in s e) m < 2 ^ 24 → member_offset s'.tags (type_in s' e) m < 2 ^ 24
member_same s s' a e m c =
    subst (λ tags. member_offset tags (type_in s' e) m < 2 ^ 24) (tags_same s s' a) (subst (λ r. member_offset s.tags (operand_type r) m < 2 ^ 24) (judged_same s s' a e) c)

arrow_same : (s s' : Scope) → SameNames s s' → (e : CExpr) (m : List ℕ) → member_offset s.tags (pointee (value_type_in s e)) m < 2 ^ 24 → member_offset s'.tags (pointee (value_type_in s' e)) m < 2 ^ 24
arrow_same s s' a e m c =
    subst (λ tags. member_offset tags (pointee (value_type_in s' e)) m < 2 ^ 24) (tags_same s s' a)
    (subst (λ r. member_offset s.tags (pointee (decayed (operand_type r))) m < 2 ^ 24) (judged_same s s' a e) c)

address_same : (s s' : Scope) → SameNames s s' → (op : UnOp) (e : CExpr) → IsAddressed s op e → IsAddressed s' op e
address_same s s' a unary.Address e f = subst (λ b. IsPlaceUnless b e) (function_same s s' a e) f
address_same s s' a unary.Deref e f = tt
address_same s s' a unary.Plus e f = tt
address_same s s' a unary.Minus e f = tt
address_same s s' a unary.Invert e f = tt
address_same s s' a unary.Not e f = tt

module _ (s s' : Scope) (a : SameNames s s') where
  mutual
    pub fit_same : (e : CExpr) → IsFit s e → IsFit s' e
    fit_same (plain.Number at n unsigned) f = tt
    fit_same (plain.Str at text) f = tt
    fit_same (plain.Null at) f = tt
    fit_same (plain.Var at name) f = tt
    fit_same (plain.Unary at op x) f = (fit_same x f.0, address_same s s' a op x f.1)
    fit_same (plain.Step at op x) f = (fit_same x f.0, f.1, stepped_same s s' a (step_op op) x f.2)
    fit_same (plain.Binary at op x y) f = (fit_same x f.0, fit_same y f.1, counted_same s s' a op x y f.2)
    fit_same (plain.Assign at op x y) f = (fit_same x f.0, fit_same y f.1, f.2, assigned_same s s' a op x y f.3)
    fit_same (plain.Cond at x y z) f = (fit_same x f.0, fit_same y f.1, fit_same z f.2)
    fit_same (plain.Comma at x y) f = (fit_same x f.0, fit_same y f.1)
    fit_same (plain.Cast at t x) f = fit_same x f
    fit_same (plain.SizeTy at t) f = tt
    fit_same (plain.SizeOf at x) f = tt
    fit_same (plain.Index at x y) f = (fit_same x f.0, fit_same y f.1, counted_same s s' a binary.Add x y f.2)
    fit_same (plain.Call at g es) f = (fit_same g f.0, all_same es f.1)
    fit_same (plain.Member at x m) f = (fit_same x f.0, f.1, member_same s s' a x m f.2)
    fit_same (plain.Arrow at x m) f = (fit_same x f.0, arrow_same s s' a x m f.1)

    pub all_same : (es : CExprs) → AreFit s es → AreFit s' es
    all_same plain.NoExpr f = tt
    all_same (plain.MoreExpr e es) f = (fit_same e f.0, all_same es f.1)

  pub short_same : (t : CType) → IsShort s t → IsShort s' t
  short_same t h = subst (λ tags. words_of tags t ≤ most_words) (tags_same s s' a) h

  mutual
    pub value_same : (t : CType) (v : CValue) → ValueIsFit s t v → ValueIsFit s' t v
    value_same t (plain.One e) f = fit_same e f
    value_same t (plain.Many vs) f = subst (λ tags. ValuesAreFit s' (slots_of tags (Some t)) vs) (tags_same s s' a) (values_same (slots_of s.tags (Some t)) vs f)

    pub values_same : (slots : Slots) (vs : CValues) → ValuesAreFit s slots vs → ValuesAreFit s' slots vs
    values_same slots plain.NoValue f = tt
    values_same slots (plain.MoreValue v vs) f = (short_same (type_or_nothing (first_slot slots)) f.0, value_same (type_or_nothing (first_slot slots)) v f.1, values_same (next_slots slots) vs f.2)

  pub first_same : (t : CType) (v : Option CValue) → FirstIsFit s t v → FirstIsFit s' t v
  first_same t None f = tt
  first_same t (Some v) f = value_same t v f

  -- ---- declarations

  mutual
    fitting_same : (site : Site) (t : Option CType) (v : CValue) → fitting s site t v ≡ fitting s' site t v
    fitting_same site t (plain.One e) = ap (λ r. after r (λ x. keeping (object_rules t e x ++ site_rules site.file e x) tt)) (judged_same s s' a e)
    fitting_same site t (plain.Many vs) =
        let e = all_fitting_same site (slots_of s.tags t) vs in
        ap (λ r. after r (λ _. keeping (braces_rules site.pos (slots_of s.tags t) vs) tt)) e
        ∙ ap (λ tags. after (all_fitting s' site (slots_of tags t) vs) (λ _. keeping (braces_rules site.pos (slots_of tags t) vs) tt)) (tags_same s s' a)

    all_fitting_same : (site : Site) (slots : Slots) (vs : CValues) → all_fitting s site slots vs ≡ all_fitting s' site slots vs
    all_fitting_same site slots plain.NoValue = refl
    all_fitting_same site slots (plain.MoreValue v vs) = let e = fitting_same site (first_slot slots) v in let f = all_fitting_same site (next_slots slots) vs in λ i. both (e i) (f i) (λ _ _. Ok tt)

  pub first_fitting_same : (site : Site) (t : CType) (v : Option CValue) → first_fitting s site t v ≡ first_fitting s' site t v
  first_fitting_same site t None = refl
  first_fitting_same site t (Some v) = fitting_same site (Some t) v

  pub type_same : (d : CDecl) → declared_type s d ≡ declared_type s' d
  type_same d =
      let e = written_same s s' a d.pos d.ty in let t = tags_same s s' a in
      λ i. after (e i) (λ u. keeping ((is_object_type (t i) (completed u d.first), fault.Mismatch d.pos) ∷ []) (completed u d.first))

  pub named_same : (name : List ℕ) (x : Entity) → SameNames (with_name s name x) (with_name s' name x)
  named_same name x = record { same = ap (with_outer name x) a.same }

pub self_same : (s : Scope) → SameNames s s
self_same s = record { same = refl }

pub entered_same : (s : Scope) → SameNames s (entered s)
entered_same s = record { same = refl }
