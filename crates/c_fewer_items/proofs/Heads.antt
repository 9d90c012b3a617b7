-- The heads of functions: results and parameters are the same with numbers as lengths.
use Rattle.std.proofs.Common.{◌≡◌, ℕ, List, [], ◌∷◌, Bool, true, false, refl, sym, ap, ap₂, ◌∙◌, subst}
use Rattle.std.specs.Prelude.{not, is_none, IfOk, Ok}
use Rattle.std.specs.Option.{option_map, option_map_or}
use Rattle.c_syntax.specs.Plain.{CTy, CDecl}
use Rattle.c_syntax.specs.Words.{meaning}
use Rattle.c_types.specs.declared.fault.TypeFault.TheVariants as fault
use Rattle.c_types.specs.Types as type
use Rattle.c_types.specs.Types.{CType, CTypes, NoType, MoreType, Tags, is_scalar, decayed}
use Rattle.c_types.specs.Refusals.{Judged, Rule, after, both, keeping}
use Rattle.c_types.specs.Scope.{Names, Scope, Object, Routine, BuiltIn, Printf, entered, is_declared_here}
use Rattle.c_types.specs.Expressions.{written, parameter_type, is_result_type}
use Rattle.c_types.specs.Units.{Parameter, with_parameter, declared_parameter, parameter, parameter_scope_or, Parameters, all_parameters, Signature, type_of, result_type, signature}
use Rattle.c_fewer_types.specs.Written.{CanBeWritten, AreParameters}
use Rattle.c_fewer_types.proofs.TypeTreesProofs.{fewer_types_are_the_same}
use Rattle.c_fewer_types.proofs.Can.{types_can_be_written}
use Rattle.c_helpers.specs.Fewer.{with_values, fewer_in_type, fewer_in_declaration, fewer_in_parameters}
use Rattle.c_fewer_types.proofs.Judged.{keeping_is, first_kept}
use Rattle.c_fewer_types.specs.Standing.{IsTextName, ScopesStand}
use Rattle.c_fewer_types.proofs.FewerTypedRules.{after_is, both_is, kept_is}
use Rattle.c_fewer_types.proofs.Scopes.{object_behind, entered_stand}
use Rattle.c_fewer_items.specs.Kept.{EachIsNamed}
use Rattle.c_fewer_items.proofs.Structs.{same, none_too}

-- names of parameters, whose types can be written
abbrev pub Heads : Tags → Names → Type 0
Heads tags [] = Unit {0}
Heads tags ((name, Object t) ∷ xs) = IsTextName name × CanBeWritten tags t × Heads tags xs
Heads tags (x ∷ xs) = ⊥

-- a scope with these names in a block of its own
abbrev pub within : Scope → Names → Scope
within s block = record (entered s) { block = block }

-- where both know the same parameters they stand for each other as before
pub within_stands : (P : List ℕ → Type 0) (s s' : Scope) → ScopesStand P s s' → (block : Names) → Heads s.tags block → ScopesStand P (within s block) (within s' block)
within_stands P s s' a [] h = entered_stand P s s' a
within_stands P s s' a ((name, Object t) ∷ xs) h = object_behind P (within s xs) (within s' xs) name t h.0 (within_stands P s s' a xs h.2) h.1
within_stands P s s' a ((name, Routine t begun) ∷ xs) h = absurd h
within_stands P s s' a ((name, BuiltIn t) ∷ xs) h = absurd h
within_stands P s s' a ((name, Printf) ∷ xs) h = absurd h

-- ---- parameters

decayed_can : (tags : Tags) (t : CType) → CanBeWritten tags t → CanBeWritten tags (decayed t)
decayed_can tags (type.Array t n) c = c.2
decayed_can tags type.Void c = tt
decayed_can tags type.Int c = tt
decayed_can tags type.Unsigned c = tt
decayed_can tags type.Char c = tt
decayed_can tags type.UChar c = tt
decayed_can tags type.Null c = c
decayed_can tags (type.Struct tag) c = c
decayed_can tags (type.Pointer t) c = c
decayed_can tags (type.Function t ts) c = c

abbrev parameter_rules : Bool → Bool → ℕ → List Rule
parameter_rules here none at = (not here, fault.Twice at) ∷ (none, fault.Mismatch at) ∷ []

-- the type of a parameter, wherever the same tags and the same names in the block are
record Declares (s s' : Scope) (d : CDecl) (r : Parameter) : Type 0 where
  ty : CType
  can : CanBeWritten s.tags ty
  scalar : is_scalar ty ≡ true
  there : r ≡ record { ty = ty; scope = with_parameter s d.name ty }
  too : parameter s' (fewer_in_declaration s same d) ≡ Ok (record { ty = ty; scope = with_parameter s' d.name ty })

parameter_declares : (s s' : Scope) (d : CDecl) (r : Parameter) → s.tags ≡ s'.tags → s.block ≡ s'.block → parameter s d ≡ Ok r → Declares s s' d r
parameter_declares s s' d r tags block e =
    let k = after_is (declared_parameter s d) (λ t. keeping (parameter_rules (is_declared_here s d.name) (is_none d.first) d.pos) (record { ty = t; scope = with_parameter s d.name t })) r e in
    let w = after_is (written s d.pos d.ty) (λ t. parameter_type d.pos t) k.0 k.1 in
    let o = keeping_is {A = CType} ((is_scalar (decayed w.0), fault.Mismatch d.pos) ∷ []) (decayed w.0) k.0 w.2 in
    let l = keeping_is {A = Parameter} (parameter_rules (is_declared_here s d.name) (is_none d.first) d.pos) (record { ty = k.0; scope = with_parameter s d.name k.0 }) r k.2 in
    let c : CanBeWritten s.tags w.0 = subst (λ q. IfOk q (CanBeWritten s.tags)) w.1 (types_can_be_written s d.pos d.ty) in
    let alike : parameter_rules (is_declared_here s' d.name) (is_none (option_map (with_values same) d.first)) d.pos ≡ parameter_rules (is_declared_here s d.name) (is_none d.first) d.pos =
    ap₂ (λ x y. parameter_rules x y d.pos) (ap (λ z. option_map_or (λ entity. true) (meaning z d.name) false) (sym block)) (none_too d.first) in
    record {
      ty = k.0;
      can = subst (λ z. CanBeWritten s.tags z) o.1 (decayed_can s.tags w.0 c);
      scalar = ap is_scalar (sym o.1) ∙ (first_kept (is_scalar (decayed w.0)) (fault.Mismatch d.pos) [] o.0).0;
      there = sym l.1;
      too =
          ap (λ q. after (after q (λ t. parameter_type d.pos t)) (λ t. keeping (parameter_rules (is_declared_here s' d.name) (is_none (option_map (with_values same) d.first)) d.pos) (record { ty = t; scope = with_parameter s' d.name t }))) (fewer_types_are_the_same s s' d.pos d.ty w.0 tags w.1)
          ∙ (ap (λ q. after q (λ t. keeping (parameter_rules (is_declared_here s' d.name) (is_none (option_map (with_values same) d.first)) d.pos) (record { ty = t; scope = with_parameter s' d.name t }))) w.2
          ∙ (ap (λ rules. keeping rules (record { ty = k.0; scope = with_parameter s' d.name k.0 })) alike ∙ kept_is {A = Parameter} (parameter_rules (is_declared_here s d.name) (is_none d.first) d.pos) (record { ty = k.0; scope = with_parameter s' d.name k.0 }) l.0));
    }

-- a parameter's name stands first in the block, if it has one
record Adds (tags : Tags) (block : Names) (s : Scope) (name : List ℕ) (t : CType) : Type 0 where
  names : Names
  heads : Heads tags names
  is : (z : Scope) → z.block ≡ block → with_parameter z name t ≡ record z { block = names }

adds : (tags : Tags) (block : Names) (s : Scope) (name : List ℕ) (t : CType) → Heads tags block → IsTextName name → CanBeWritten tags t → Adds tags block s name t
adds tags block s [] t h n c = record { names = block; heads = h; is = λ z e. ap (λ xs. record z { block = xs }) e }
adds tags block s (c ∷ cs) t h n d = record { names = (c ∷ cs, Object t) ∷ block; heads = (n, d, h); is = λ z e. ap (λ xs. record z { block = (c ∷ cs, Object t) ∷ xs }) e }

pub record Heading (s s' : Scope) (r : Parameters) (q : Judged Parameters) : Type 0 where
  pub block : Names
  pub heads : Heads s.tags block
  pub there : r.scope ≡ record s { block = block }
  pub is : q ≡ Ok (record { types = r.types; scope = record s' { block = block } })
  pub types : AreParameters s.tags r.types

abbrev named : CTypes → Scope → Judged Parameters
named ts s = Ok (record { types = ts; scope = s })

abbrev joined : Parameter → Parameters → Judged Parameters
joined first rest = Ok (record { types = MoreType first.ty rest.types; scope = rest.scope })

pub parameters_too : (s s' : Scope) (ds : List CDecl) (r : Parameters) → s.tags ≡ s'.tags → s.block ≡ s'.block → Heads s.tags s.block → EachIsNamed ds → all_parameters s ds ≡ Ok r → Heading s s' r (all_parameters s' (fewer_in_parameters s ds))
parameters_too s s' [] r tags block h n e =
    let is : record { types = NoType; scope = s } ≡ r = cc e in
    subst (λ (z : Parameters). Heading s s' z (named NoType s')) is
    (record { block = s.block; heads = h; there = refl; is = ap (λ xs. named NoType (record s' { block = xs })) (sym block); types = tt })
parameters_too s s' (d ∷ ds) r tags block h n e =
    let k = both_is (parameter s d) (all_parameters (parameter_scope_or s (parameter s d)) ds) joined r e in
    let p = parameter_declares s s' d k.0 tags block k.1.1 in
    let b = adds s.tags s.block s d.name p.ty h n.0 p.can in
    let inner : Scope = record s { block = b.names } in
    let inner' : Scope = record s' { block = b.names } in
    let first : Parameter = record { ty = p.ty; scope = inner } in
    let first_is : parameter s d ≡ Ok first = k.1.1 ∙ (ap Ok p.there ∙ ap (λ z. Ok (record { ty = p.ty; scope = z })) (b.is s refl)) in
    let rest : all_parameters inner ds ≡ Ok k.1.0 = subst (λ q. all_parameters (parameter_scope_or s q) ds ≡ Ok k.1.0) first_is k.1.2 in
    let m = parameters_too inner inner' ds k.1.0 tags refl b.heads n.1 rest in
    let there : parameter s' (fewer_in_declaration s same d) ≡ Ok (record { ty = p.ty; scope = inner' }) = p.too ∙ ap (λ z. Ok (record { ty = p.ty; scope = z })) (b.is s' (sym block)) in
    let is : record { types = MoreType p.ty k.1.0.types; scope = k.1.0.scope } ≡ r = ap (λ (z : Parameter). record { types = MoreType z.ty k.1.0.types; scope = k.1.0.scope }) (sym p.there) ∙ cc k.1.3 in
    subst (λ (z : Parameters). Heading s s' z (all_parameters s' (fewer_in_parameters s (d ∷ ds)))) is
    (record {
      block = m.block;
      heads = m.heads;
      there = m.there;
      is =
          ap (λ q. both (parameter s' (fewer_in_declaration s same d)) (all_parameters (parameter_scope_or s' (parameter s' (fewer_in_declaration s same d))) (fewer_in_parameters (parameter_scope_or s q) ds)) joined) first_is
          ∙ (ap (λ q. both q (all_parameters (parameter_scope_or s' q) (fewer_in_parameters inner ds)) joined) there
          ∙ ap (λ q. both {A = Parameter} {B = Parameters} (Ok (record { ty = p.ty; scope = inner' })) q joined) m.is);
      types = (p.scalar, p.can, m.types);
    })

-- ---- the whole head

pub record Signs (s s' : Scope) (f : Signature) (q : Judged Signature) : Type 0 where
  pub block : Names
  pub heads : Heads s.tags block
  pub there : f.parameters.scope ≡ within s block
  pub is : q ≡ Ok (record { result = f.result; parameters = record { types = f.parameters.types; scope = within s' block } })
  pub can : CanBeWritten s.tags (type_of f)

abbrev signed : CType → Parameters → Judged Signature
signed t ps = Ok (record { result = t; parameters = ps })

pub signature_too : (s s' : Scope) (at : ℕ) (result : CTy) (params : List CDecl) (f : Signature) → s.tags ≡ s'.tags → EachIsNamed params → signature s at result params ≡ Ok f → Signs s s' f (signature s' at (fewer_in_type s result) (fewer_in_parameters (entered s) params))
signature_too s s' at result params f tags n e =
    let k = both_is (result_type s at result) (all_parameters (entered s) params) signed f e in
    let w = after_is (written s at result) (λ u. keeping ((is_result_type u, fault.Mismatch at) ∷ []) u) k.0 k.1.1 in
    let o = keeping_is {A = CType} ((is_result_type w.0, fault.Mismatch at) ∷ []) w.0 k.0 w.2 in
    let c : CanBeWritten s.tags w.0 = subst (λ q. IfOk q (CanBeWritten s.tags)) w.1 (types_can_be_written s at result) in
    let given : is_result_type k.0 ≡ true = ap is_result_type (sym o.1) ∙ (first_kept (is_result_type w.0) (fault.Mismatch at) [] o.0).0 in
    let m = parameters_too (entered s) (entered s') params k.1.0 tags refl tt n k.1.2 in
    let there : result_type s' at (fewer_in_type s result) ≡ Ok k.0 = ap (λ q. after q (λ u. keeping ((is_result_type u, fault.Mismatch at) ∷ []) u)) (fewer_types_are_the_same s s' at result w.0 tags w.1) ∙ w.2 in
    let is : record { result = k.0; parameters = k.1.0 } ≡ f = cc k.1.3 in
    subst (λ (z : Signature). Signs s s' z (signature s' at (fewer_in_type s result) (fewer_in_parameters (entered s) params))) is
    (record {
      block = m.block;
      heads = m.heads;
      there = m.there;
      is = ap₂ (λ x y. both x y signed) there m.is;
      can = (given, subst (λ z. CanBeWritten s.tags z) o.1 c, m.types);
    })
