-- Parameters, one after the other.
use Rattle.std.proofs.Common.{◌≡◌, ℕ, suc, ◌+◌, ◌<◌, ◌≤◌, get_or, drop-cons, add-one, List, [], ◌∷◌, ◌++◌, length, drop, Option, Some, None, refl, sym, ap, subst, ◌∙◌}
use Rattle.std.specs.Prelude.{Result, Ok, Err, slice_get}
use Rattle.std.specs.Option.{option_map_or}
use Rattle.std.specs.Result.{result_err}
use Rattle.std.proofs.lemmas.List.{drop_all}
use Rattle.std.specs.Prelude.{Vec}
use Rattle.std.specs.declared.alloc.Global.{Global}
use Rattle.c_syntax.specs.Plain.{CDecl}
use Rattle.c_syntax.specs.View.{decl_of, decls_of}
use Rattle.c_syntax.specs.declared.tree.Decl.{Decl}
use Rattle.c_types.specs.declared.fault.TypeFault.{TypeFault}
use Rattle.c_types.specs.Types.{CType, CTypes, NoType, MoreType}
use Rattle.c_types.specs.Refusals.{Judged, Rule, after, both, keeping, broken}
use Rattle.c_types.specs.Scope.{Scope}
use Rattle.c_types.specs.Units as plain
use Rattle.c_types.specs.Units.{Parameters, all_parameters}
use Rattle.c_types.specs.Known.{Known, OneType, Grows}
use Rattle.c_types.specs.Table.{Table, known}
use Rattle.c_operands.specs.Seen.{IsJudged}
use Rattle.c_operands.proofs.OperandLemmas.{grows_then}
use Rattle.c_operands.specs.Arguments.{merged}
use Rattle.c_operands.proofs.LeastLemmas.{merged_none}
use Rattle.c_operands.specs.declared.declarations.Declarations.{Declarations}
use Rattle.c_operands.specs.Scoped.{AreNames}
use Rattle.c_operands.proofs.NameLemmas.{names_kept}
use Rattle.c_declared.specs.Held.{Holds, IsAround}
use Rattle.c_declared.specs.Told.{told_behind}
use Rattle.c_declared.proofs.ToldLemmas.{behind_together}
use Rattle.c_signatures.specs.declared.parameters.Parameter.{Parameter}
use Rattle.c_signatures.specs.Parameters.{Entries, with_entry, with_entries, AreTyped, IsAdded, AreParameters, parameter_rules}

-- what is left of a list begins with the element that comes next
pub drop_at : {X : Type 0} (xs : List X) (i : ℕ) (x : X) → i < length xs → x ≡ get_or xs i x → drop i xs ≡ x ∷ drop (i + 1) xs
drop_at xs i x h e = rw (add-one, drop-cons xs i x) (ap (λ y. y ∷ drop (suc i) xs) (sym e))

-- ---- types

abbrev joined : List CType → CTypes → CTypes
joined [] us = us
joined (t ∷ ts) us = MoreType t (joined ts us)

joined_more : (ts : List CType) (t : CType) (us : CTypes) → joined (ts ++ t ∷ []) us ≡ joined ts (MoreType t us)
joined_more [] t us = refl
joined_more (x ∷ ts) t us = ap (MoreType x) (joined_more ts t us)

abbrev AreTypedBy : List Known → List Parameter → List CType → Type 0
AreTypedBy all [] [] = Unit {0}
AreTypedBy all (p ∷ parameters) (t ∷ ts) = (slice_get all p.ty ≡ Some (OneType t)) × AreTypedBy all parameters ts
AreTypedBy all _ _ = ⊥

typed_more : (all : List Known) (parameters : List Parameter) (ts : List CType) (q : Parameter) (t : CType) → AreTypedBy all parameters ts → slice_get all q.ty ≡ Some (OneType t)
    → AreTypedBy all (parameters ++ q ∷ []) (ts ++ t ∷ [])
typed_more all [] [] q t h is = (is, tt)
typed_more all (p ∷ parameters) (x ∷ ts) q t h is = (h.0, typed_more all parameters ts q t h.1 is)
typed_more all [] (x ∷ ts) q t h is = absurd h
typed_more all (p ∷ parameters) [] q t h is = absurd h

typed_kept : (old new : List Known) (parameters : List Parameter) (ts : List CType) → Grows old new → AreTypedBy old parameters ts → AreTypedBy new parameters ts
typed_kept old new [] [] grows h = h
typed_kept old new (p ∷ parameters) (t ∷ ts) grows h = (grows p.ty (OneType t) h.0, typed_kept old new parameters ts grows h.1)
typed_kept old new [] (t ∷ ts) grows h = absurd h
typed_kept old new (p ∷ parameters) [] grows h = absurd h

all_typed : (all : List Known) (parameters : List Parameter) (ts : List CType) → AreTypedBy all parameters ts → AreTyped all parameters (joined ts NoType)
all_typed all [] [] h = h
all_typed all (p ∷ parameters) (t ∷ ts) h = (h.0, all_typed all parameters ts h.1)
all_typed all [] (t ∷ ts) h = absurd h
all_typed all (p ∷ parameters) [] h = absurd h

-- ---- names

entries_more : (block : Entries) (parameters : List Parameter) (q : Parameter) → with_entries block (parameters ++ q ∷ []) ≡ with_entry (with_entries block parameters) q.name.now q.ty
entries_more block [] q = refl
entries_more block (p ∷ parameters) q = entries_more (with_entry block p.name.now p.ty) parameters q

entry_named : (table : Table) (block : Entries) (s : Scope) (name : List ℕ) (ty : ℕ) (t : CType) → AreNames table block s.block → slice_get (known table) ty ≡ Some (OneType t)
    → AreNames table (with_entry block name ty) (plain.with_parameter s name t).block
entry_named table block s [] ty t h is = h
entry_named table block s (b ∷ name) ty t h is = (refl, is, h)

parameter_tags : (s : Scope) (name : List ℕ) (t : CType) → (plain.with_parameter s name t).tags ≡ s.tags
parameter_tags s [] t = refl
parameter_tags s (b ∷ name) t = refl

parameter_defined : (s : Scope) (name : List ℕ) (t : CType) → (plain.with_parameter s name t).defined ≡ s.defined
parameter_defined s [] t = refl
parameter_defined s (b ∷ name) t = refl

-- ---- judgements

abbrev more : plain.Parameter → Parameters → Judged Parameters
more first rest = Ok (record { types = MoreType first.ty rest.types; scope = rest.scope })

-- the parameters behind those of these types
abbrev prefixed : List CType → Judged Parameters → Judged Parameters
prefixed ts p = after p (λ r. Ok (record { types = joined ts r.types; scope = r.scope }))

prefixed_ok : (ts : List CType) (first : plain.Parameter) (rest : Judged Parameters) → prefixed ts (both (Ok first) rest more) ≡ prefixed (ts ++ first.ty ∷ []) rest
prefixed_ok ts first (Ok r) = ap (λ (us : CTypes). Ok (record { types = us; scope = r.scope })) (sym (joined_more ts first.ty r.types))
prefixed_ok ts first (Err e) = refl

prefixed_err : (ts : List CType) (e : TypeFault) (rest : Judged Parameters) → prefixed ts (both {A = plain.Parameter} (Err e) rest more) ≡ told_behind (Some e) (prefixed ts rest)
prefixed_err ts e (Ok r) = refl
prefixed_err ts e (Err f) = refl

prefixed_none : (p : Judged Parameters) → p ≡ prefixed [] p
prefixed_none (Ok r) = refl
prefixed_none (Err e) = refl

first_is : (a b : plain.Parameter) (p : Judged plain.Parameter) → p ≡ Ok a → p ≡ Ok b → a ≡ b
first_is a b p e f = cc

-- the scope behind a parameter that isn't refused
scope_is : (s : Scope) (name : List ℕ) (o : Judged CType) (rules : List Rule) (first : plain.Parameter)
    → after o (λ t. keeping rules (record { ty = t; scope = plain.with_parameter s name t })) ≡ Ok first → first.scope ≡ plain.with_parameter s name first.ty
scope_is s name (Ok t) rules first h = by (broken rules) h where
  by : (k : Option TypeFault) → option_map_or (λ e. Err e) k (Ok (record { ty = t; scope = plain.with_parameter s name t })) ≡ Ok first → first.scope ≡ plain.with_parameter s name first.ty
  by None g =
      let same : record { ty = t; scope = plain.with_parameter s name t } ≡ first = first_is (record { ty = t; scope = plain.with_parameter s name t }) first (Ok (record { ty = t; scope = plain.with_parameter s name t })) refl g in
      subst (λ (f : plain.Parameter). f.scope ≡ plain.with_parameter s name f.ty) same refl
  by (Some e) g = absurd cc
scope_is s name (Err e) rules first h = absurd cc

-- ---- all parameters

pub record AreJudged (now : Table) (d e : Declarations) (s : Scope) (parameters : List Parameter) (told : Option TypeFault) (left all : List CDecl) : Type 0 where
  pub scope : Scope
  pub ts : List CType
  pub holds : Holds now e scope
  pub typed : AreTypedBy (known now) parameters ts
  pub block : AreNames now (with_entries d.names.block parameters) scope.block
  pub tags : scope.tags ≡ s.tags
  pub defined : scope.defined ≡ s.defined
  pub is : all_parameters s all ≡ told_behind told (prefixed ts (all_parameters scope left))

pub record Going (old now : Table) (d e : Declarations) (parameters : List Parameter) (told : Option TypeFault) (left all : List CDecl) : Type 0 where
  pub grows : Grows (known old) (known now)
  pub tags : now.tags ≡ old.tags
  pub around : IsAround d e
  pub so_far : (s : Scope) → Holds old d s → AreJudged now d e s parameters told left all

pub begun : (table : Table) (d : Declarations) (parameters : List Parameter) (all : List CDecl) → parameters ≡ [] → Going table table d d parameters None all all
begun table d parameters all none = record {
  grows = λ n k h. h;
  tags = refl;
  around = record { outer = refl; layouts = refl; defined = refl };
  so_far = λ s holds.
      subst (λ (l : List Parameter). AreJudged table d d s l None all all) (sym none)
      (record { scope = s; ts = []; holds = holds; typed = tt; block = holds.fits.block; tags = refl; defined = refl; is = prefixed_none (all_parameters s all) });
}

around_then : (d e f : Declarations) → IsAround d e → IsAround e f → IsAround d f
around_then d e f h k = record { outer = k.outer ∙ h.outer; layouts = k.layouts ∙ h.layouts; defined = k.defined ∙ h.defined }

step : (t1 t2 : Table) (d e f : Declarations) (s : Scope) (parameters new : List Parameter) (told r new_told : Option TypeFault) (x : Decl) (left : List CDecl) (all : List CDecl)
    → Grows (known t1) (known t2) → new_told ≡ merged told r → (k : AreJudged t1 d e s parameters told (decl_of x ∷ left) all)
    → (j : Judged plain.Parameter) → plain.parameter k.scope (decl_of x) ≡ j → IsAdded t2 f parameters new k.scope x r (plain.parameter k.scope (decl_of x)) → AreJudged t2 d f s new new_told left all
step t1 t2 d e f s parameters new told r new_told x left all grows is k (Ok first) h a =
    let q = a.added first h in
    let scope : first.scope ≡ plain.with_parameter k.scope x.name first.ty = scope_is k.scope x.name (plain.declared_parameter k.scope (decl_of x)) (parameter_rules k.scope (decl_of x)) first h in
    let none : r ≡ None = a.told ∙ ap result_err h in
    let names = names_kept t1 t2 (with_entries d.names.block parameters) k.scope.block grows k.block in
    let block : AreNames t2 (with_entry (with_entries d.names.block parameters) q.0.name.now q.0.ty) (plain.with_parameter k.scope q.0.name.now first.ty).block =
    entry_named t2 (with_entries d.names.block parameters) k.scope q.0.name.now q.0.ty first.ty names q.2.ty in
    subst (λ (o : Option TypeFault). AreJudged t2 d f s new o left all) (sym (is ∙ ap (merged told) none))
    (subst (λ (o : Option TypeFault). AreJudged t2 d f s new o left all) (sym (merged_none told))
    (subst (λ (l : List Parameter). AreJudged t2 d f s l told left all) (sym q.1) (record {
      scope = first.scope;
      ts = k.ts ++ first.ty ∷ [];
      holds = subst (λ (p : Judged plain.Parameter). Holds t2 f (plain.parameter_scope_or k.scope p)) h a.holds;
      typed = typed_more (known t2) parameters k.ts q.0 first.ty (typed_kept (known t1) (known t2) parameters k.ts grows k.typed) q.2.ty;
      block =
          subst (λ (l : Entries). AreNames t2 l first.scope.block) (sym (entries_more d.names.block parameters q.0))
          (subst (λ (z : Scope). AreNames t2 (with_entry (with_entries d.names.block parameters) q.0.name.now q.0.ty) z.block) (sym scope)
          (subst (λ (n : List ℕ). AreNames t2 (with_entry (with_entries d.names.block parameters) q.0.name.now q.0.ty) (plain.with_parameter k.scope n first.ty).block) q.2.name block));
      tags = ap (λ (z : Scope). z.tags) scope ∙ (parameter_tags k.scope x.name first.ty ∙ k.tags);
      defined = ap (λ (z : Scope). z.defined) scope ∙ (parameter_defined k.scope x.name first.ty ∙ k.defined);
      is =
          k.is
          ∙ (ap (λ (p : Judged plain.Parameter). told_behind told (prefixed k.ts (both p (all_parameters (plain.parameter_scope_or k.scope p) left) more))) h
          ∙ ap (told_behind told) (prefixed_ok k.ts first (all_parameters first.scope left)));
    })))
step t1 t2 d e f s parameters new told r new_told x left all grows is k (Err g) h a =
    let some : r ≡ Some g = a.told ∙ ap result_err h in
    subst (λ (o : Option TypeFault). AreJudged t2 d f s new o left all) (sym (is ∙ ap (merged told) some))
    (subst (λ (l : List Parameter). AreJudged t2 d f s l (merged told (Some g)) left all) (sym (a.kept g h)) (record {
      scope = k.scope;
      ts = k.ts;
      holds = subst (λ (p : Judged plain.Parameter). Holds t2 f (plain.parameter_scope_or k.scope p)) h a.holds;
      typed = typed_kept (known t1) (known t2) parameters k.ts grows k.typed;
      block = names_kept t1 t2 (with_entries d.names.block parameters) k.scope.block grows k.block;
      tags = k.tags;
      defined = k.defined;
      is =
          k.is
          ∙ (ap (λ (p : Judged plain.Parameter). told_behind told (prefixed k.ts (both p (all_parameters (plain.parameter_scope_or k.scope p) left) more))) h
          ∙ (ap (told_behind told) (prefixed_err k.ts g (all_parameters k.scope left)) ∙ behind_together told (Some g) (prefixed k.ts (all_parameters k.scope left))));
    }))

pub goes_on : (t0 t1 t2 : Table) (d e f : Declarations) (parameters new : List Parameter) (told r new_told : Option TypeFault) (items : List Decl) (i : ℕ) (x : Decl) (all : List CDecl)
    → Going t0 t1 d e parameters told (decls_of (drop i items)) all → drop i items ≡ x ∷ drop (i + 1) items
    → ((s : Scope) → Holds t1 e s → IsAdded t2 f parameters new s x r (plain.parameter s (decl_of x)))
    → Grows (known t1) (known t2) → t2.tags ≡ t1.tags → IsAround e f → new_told ≡ merged told r
    → Going t0 t2 d f new new_told (decls_of (drop (i + 1) items)) all
goes_on t0 t1 t2 d e f parameters new told r new_told items i x all g next add grows tags around is = record {
  grows = grows_then (known t0) (known t1) (known t2) g.grows grows;
  tags = tags ∙ g.tags;
  around = around_then d e f g.around around;
  so_far = λ s holds.
      let k = subst (λ (l : List Decl). AreJudged t1 d e s parameters told (decls_of l) all) next (g.so_far s holds) in
      step t1 t2 d e f s parameters new told r new_told x (decls_of (drop (i + 1) items)) all grows is k (plain.parameter k.scope (decl_of x)) refl (add k.scope k.holds);
}

pub done : (t0 t1 : Table) (d e : Declarations) (v : Vec Parameter Global) (told : Option TypeFault) (items : List Decl) (i : ℕ) (all : List CDecl) (r : Result (Vec Parameter Global) TypeFault) (s : Scope)
    → Going t0 t1 d e v.items told (decls_of (drop i items)) all → length items ≤ i → Holds t0 d s → (told ≡ None → r ≡ Ok v) → ((f : TypeFault) → told ≡ Some f → r ≡ Err f)
    → IsJudged (AreParameters t1 d s) r (all_parameters s all)
done t0 t1 d e v told items i all r s g past holds ok err =
    let k = g.so_far s holds in
    let whole : Parameters = record { types = joined k.ts NoType; scope = k.scope } in
    let is : all_parameters s all ≡ told_behind told (Ok whole) = k.is ∙ ap (λ (l : List Decl). told_behind told (prefixed k.ts (all_parameters k.scope (decls_of l)))) (drop_all i items past) in
    subst (λ (p : Judged Parameters). IsJudged (AreParameters t1 d s) r p) (sym is) (by told refl ok err (record {
      typed = all_typed (known t1) v.items k.ts k.typed;
      block = k.block;
      tags = k.tags;
      defined = k.defined;
    }))
  where
    by : {whole : Parameters} → (o : Option TypeFault) → told ≡ o → (told ≡ None → r ≡ Ok v) → ((f : TypeFault) → told ≡ Some f → r ≡ Err f) → AreParameters t1 d s v whole
        → IsJudged (AreParameters t1 d s) r (told_behind told (Ok whole))
    by {whole} None e one other are =
        subst (λ (o : Option TypeFault). IsJudged (AreParameters t1 d s) r (told_behind o (Ok whole))) (sym e) (subst (λ (j : Result (Vec Parameter Global) TypeFault). IsJudged (AreParameters t1 d s) j (Ok whole)) (sym (one e)) are)
    by {whole} (Some f) e one other are =
        subst (λ (o : Option TypeFault). IsJudged (AreParameters t1 d s) r (told_behind o (Ok whole))) (sym e) (subst (λ (j : Result (Vec Parameter Global) TypeFault). IsJudged (AreParameters t1 d s) j (Err f)) (sym (other f e)) refl)
