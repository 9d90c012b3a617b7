-- Signatures of functions, and the scopes of their bodies.
use Rattle.std.proofs.Common.{◌≡◌, ℕ, zero, suc, true, ◌≤◌, List, [], ◌∷◌, ◌++◌, length, drop, refl, sym, ap, subst, ◌∙◌}
use Rattle.std.specs.Prelude.{Some, Vec, slice_get}
use Rattle.std.specs.declared.alloc.Global.{Global}
use Rattle.std.proofs.lemmas.List.{drop_all}
use Rattle.c_types.specs.Types.{CType, CTypes, NoType, MoreType}
use Rattle.c_types.specs.Scope.{Scope, entered, contains}
use Rattle.c_types.specs.Units as plain
use Rattle.c_types.specs.Units.{type_of, body_scope, with_function}
use Rattle.c_types.specs.declared.shape.Shape.TheVariants as shape
use Rattle.c_types.specs.Known.{Known, OneType, TypeList, says, Grows}
use Rattle.c_types.specs.Table.{Table, known, texts}
use Rattle.c_operands.proofs.OperandLemmas.{grows_then}
use Rattle.c_operands.specs.Arguments.{HasList}
use Rattle.c_operands.specs.declared.declarations.Declarations.{Declarations}
use Rattle.c_layouts.specs.Layouts.{AreLayouts}
use Rattle.c_operands.specs.Scoped.{AreNames, AreNumbered}
use Rattle.c_declared.specs.Slots.{AreOrdered}
use Rattle.c_operands.proofs.NameLemmas.{names_kept}
use Rattle.c_forms.proofs.WrittenLemmas.{more_known}
use Rattle.c_declared.specs.Held.{Holds, IsAround}
use Rattle.c_signatures.specs.declared.parameters.Parameter.{Parameter}
use Rattle.c_signatures.specs.declared.signature.Signature.{Signature}
use Rattle.c_signatures.specs.Parameters.{Entries, with_entries, AreTyped, AreParameters}
use Rattle.c_signatures.specs.Signatures.{HasParts, IsSignature}

-- ---- the list of parameters' types, the last one first

pub record Listed (old now : Table) (parameters : List Parameter) (list : ℕ) (n : ℕ) : Type 0 where
  pub grows : Grows (known old) (known now)
  pub tags : now.tags ≡ old.tags
  pub are : (ts : CTypes) → AreTyped (known old) (drop n parameters) ts → HasList now list ts

-- a list that begins with a type
typed_more : (all : List Known) (p : Parameter) (parameters : List Parameter) (ts : CTypes) → AreTyped all (p ∷ parameters) ts
    → (t : CType) × (us : CTypes) × (ts ≡ MoreType t us) × (slice_get all p.ty ≡ Some (OneType t)) × AreTyped all parameters us
typed_more all p parameters (MoreType t us) h = (t, us, refl, h.0, h.1)
typed_more all p parameters NoType h = absurd h

-- parameters of some types have some from each place on
pub typed_behind : (all : List Known) (parameters : List Parameter) (ts : CTypes) (n : ℕ) → AreTyped all parameters ts → (us : CTypes) × AreTyped all (drop n parameters) us
typed_behind all parameters ts zero h = (ts, h)
typed_behind all [] ts (suc n) h = (ts, h)
typed_behind all (p ∷ parameters) (MoreType t us) (suc n) h = typed_behind all parameters us n h.1
typed_behind all (p ∷ parameters) NoType (suc n) h = absurd h

-- one more may be numbered
pub one_says : (old now : Table) (parameters : List Parameter) (list n m : ℕ) (p : Parameter) (ts : CTypes) → Listed old now parameters list n → drop m parameters ≡ p ∷ drop n parameters → AreTyped (known old) (drop m parameters) ts
    → says now.tags (known now) (shape.MoreType p.ty list) ≡ Some (TypeList ts)
one_says old now parameters list n m p ts l next h =
    let k = typed_more (known old) p (drop n parameters) ts (subst (λ (q : List Parameter). AreTyped (known old) q ts) next h) in
    more_known now.tags (known now) p.ty list k.0 k.1 (l.grows p.ty (OneType k.0) k.3) (l.are k.1 k.4)
    ∙ ap (λ (us : CTypes). Some (TypeList us)) (sym k.2)

pub list_goes_on : (t0 t1 t2 : Table) (parameters : List Parameter) (list new n m : ℕ) (p : Parameter) → Listed t0 t1 parameters list n → drop m parameters ≡ p ∷ drop n parameters
    → slice_get (known t2) new ≡ says t1.tags (known t1) (shape.MoreType p.ty list) → Grows (known t1) (known t2) → t2.tags ≡ t1.tags → Listed t0 t2 parameters new m
list_goes_on t0 t1 t2 parameters list new n m p l next made grows tags = record {
  grows = grows_then (known t0) (known t1) (known t2) l.grows grows;
  tags = tags ∙ l.tags;
  are = λ ts h. made ∙ one_says t0 t1 parameters list n m p ts l next h;
}

-- ---- joined

typed_kept : (old new : List Known) (parameters : List Parameter) (ts : CTypes) → Grows old new → AreTyped old parameters ts → AreTyped new parameters ts
typed_kept old new [] NoType grows h = h
typed_kept old new (p ∷ parameters) (MoreType t ts) grows h = (grows p.ty (OneType t) h.0, typed_kept old new parameters ts grows h.1)
typed_kept old new [] (MoreType t ts) grows h = absurd h
typed_kept old new (p ∷ parameters) NoType grows h = absurd h

pub parts_typed : (old new : Table) (parameters : List Parameter) (ts : CTypes) → Grows (known old) (known new) → AreTyped (known old) parameters ts → AreTyped (known new) parameters ts
parts_typed old new parameters ts grows h = typed_kept (known old) (known new) parameters ts grows h

pub signature_made : (old new : Table) (d : Declarations) (s : Scope) (f : Signature) (v : Vec Parameter Global) (t : CType) (ps : plain.Parameters) → d.names.block ≡ [] → Grows (known old) (known new)
    → HasParts new f v t ps.types → AreParameters old d (entered s) v ps → IsSignature new s f (record { result = t; parameters = ps })
signature_made old new d s f v t ps empty grows h are =
    let block : AreNames old (with_entries [] v.items) ps.scope.block = subst (λ (l : Entries). AreNames old (with_entries l v.items) ps.scope.block) empty are.block in
    record {
      result = h.result;
      ty = h.ty;
      typed = subst (λ (w : Vec Parameter Global). AreTyped (known new) w.items ps.types) (sym h.parameters) h.typed;
      block = subst (λ (w : Vec Parameter Global). AreNames new (with_entries [] w.items) ps.scope.block) (sym h.parameters) (names_kept old new (with_entries [] v.items) ps.scope.block grows block);
      tags = are.tags;
      defined = are.defined;
    }

-- ---- the scope of a body

-- its parameters, over the names of the file
pub body_held : (table : Table) (d e : Declarations) (s : Scope) (name : List ℕ) (v : Signature) (f : plain.Signature) → IsSignature table s v f
    → e.names.block ≡ with_entries [] v.parameters.items → IsAround d e → Holds table d (entered (with_function s name (type_of f) true)) → Holds table e (body_scope s name f)
body_held table d e s name v f is block around h = record {
  fits = record {
    layouts = subst (λ g. AreLayouts table e.layouts.items g) (sym is.tags) (subst (λ (w : _). AreLayouts table w.items s.tags) (sym around.layouts) h.fits.layouts);
    numbered = subst (λ g. AreNumbered table g) (sym is.tags) h.fits.numbered;
    block = subst (λ (names : Entries). AreNames table names f.parameters.scope.block) (sym block) is.block;
    outer = subst (λ (names : Entries). AreNames table names ((with_function s name (type_of f) true).block ++ s.outer)) (sym around.outer) h.fits.outer;
    defined = λ n. ap (λ w. contains (texts w.keys) n) around.defined ∙ (h.fits.defined n ∙ ap (λ (names : List (List ℕ)). contains names n) (sym is.defined));
  };
  ordered = subst (λ g. AreOrdered table e.layouts.items g) (sym is.tags) (subst (λ (w : _). AreOrdered table w.items s.tags) (sym around.layouts) h.ordered);
  distinct = h.distinct;
}
