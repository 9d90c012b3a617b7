-- Typed statements in a scope for which another stands, and their parts.
use Rattle.std.proofs.Common.{◌≡◌, ℕ, List, [], ◌∷◌, ◌++◌, Option, Some, Bool, true, sym, ap, ◌∙◌, subst}
use Rattle.std.specs.Prelude.{Ok}
use Rattle.c_syntax.specs.Plain as plain
use Rattle.c_syntax.specs.Plain.{CExpr, CStmt, CStmts, CParts}
use Rattle.c_types.specs.Scope.{Scope}
use Rattle.c_types.specs.Operands.{Operand}
use Rattle.c_types.specs.Expressions.{judged}
use Rattle.c_types.specs.Declarations.{scope_or}
use Rattle.c_types.specs.Statements.{Around, maybe_judged, stated, all_stated, CaseLabel, PartJudged, part_scope_or, part_judged, all_parts}
use Rattle.c_types.specs.Census.{scope_behind}
use Rattle.c_valid.specs.Limited.{ExprIsLimited, MaybeIsLimited, StmtIsLimited, StmtsAreLimited, PartsAreLimited}
use Rattle.c_alike.specs.Alike.{EachName}
use Rattle.c_fewer_types.specs.Written.{StringsAreShort}
use Rattle.c_helpers.specs.Fewer.{fewer, maybe_fewer, fewer_in, fewer_in_all, fewer_in_parts}
use Rattle.c_fewer_types.specs.Standing.{ScopesStand, MaybeHas, StmtHas, StmtsHave, PartsHave, IsDeclaration, AnyDeclaration}
use Rattle.c_fewer_types.proofs.FewerTypedRules.{after_is, both_is}
use Rattle.c_fewer_types.proofs.Behind.{stated_behind}
use Rattle.c_fewer_types.proofs.FewerLiteralsProofs.{stand_behind}
use Rattle.c_fewer_meaning.specs.Ordinary.{IsOrdinary}
use Rattle.c_fewer_meaning.specs.FewerStatementsOrdinary.{MaybeIsOrdinary, StmtIsOrdinary, StmtsAreOrdinary, PartsAreOrdinary}

pub record ExprFits (P : List ℕ → Type 0) (s s' : Scope) (e : CExpr) : Type 0 where
  pub stand : ScopesStand P s s'
  pub short : StringsAreShort e
  pub limited : ExprIsLimited e
  pub ordinary : IsOrdinary s e
  pub names : EachName P (fewer s e)
  pub operand : Operand
  pub is : judged s e ≡ Ok operand

pub record MaybeFits (P : List ℕ → Type 0) (s s' : Scope) (e : Option CExpr) : Type 0 where
  pub stand : ScopesStand P s s'
  pub short : MaybeHas StringsAreShort e
  pub limited : MaybeIsLimited e
  pub ordinary : MaybeIsOrdinary s e
  pub names : MaybeHas (EachName P) (maybe_fewer s e)
  pub operand : Option Operand
  pub is : maybe_judged s e ≡ Ok operand

pub record StmtFits (P : List ℕ → Type 0) (s s' : Scope) (t : CStmt) : Type 0 where
  pub stand : ScopesStand P s s'
  pub short : StmtHas StringsAreShort IsDeclaration t
  pub limited : StmtIsLimited s t
  pub ordinary : StmtIsOrdinary s t
  pub names : StmtHas (EachName P) AnyDeclaration (fewer_in s t)
  pub around : Around
  pub scope : Scope
  pub is : stated s around t ≡ Ok scope

pub record StmtsFit (P : List ℕ → Type 0) (s s' : Scope) (ss : CStmts) : Type 0 where
  pub stand : ScopesStand P s s'
  pub short : StmtsHave StringsAreShort IsDeclaration ss
  pub limited : StmtsAreLimited s ss
  pub ordinary : StmtsAreOrdinary s ss
  pub names : StmtsHave (EachName P) AnyDeclaration (fewer_in_all s ss)
  pub around : Around
  pub scope : Scope
  pub is : all_stated s around ss ≡ Ok scope

pub record PartsFit (P : List ℕ → Type 0) (s s' : Scope) (ps : CParts) : Type 0 where
  pub stand : ScopesStand P s s'
  pub short : PartsHave StringsAreShort IsDeclaration ps
  pub limited : PartsAreLimited s ps
  pub ordinary : PartsAreOrdinary s ps
  pub names : PartsHave (EachName P) AnyDeclaration (fewer_in_parts s ps)
  pub around : Around
  pub labels : List CaseLabel
  pub is : all_parts s around ps ≡ Ok labels

-- the expression of one that may be missing
pub some_fits : (P : List ℕ → Type 0) (s s' : Scope) (e : CExpr) → MaybeFits P s s' (Some e) → ExprFits P s s' e
some_fits P s s' e a =
    let k = after_is (judged s e) (λ x. Ok (Some x)) a.operand a.is in
    record { stand = a.stand; short = a.short; limited = a.limited; ordinary = a.ordinary; names = a.names; operand = k.0; is = k.1 }

module _ (test : List ℕ → Bool) where
  abbrev P : List ℕ → Type 0
  P name = test name ≡ true

  -- ---- statements of a block

  pub first_fits : (s s' : Scope) (t : CStmt) (ts : CStmts) → StmtsFit P s s' (plain.MoreStmt t ts) → StmtFits P s s' t
  first_fits s s' t ts a =
      let l = both_is (stated s a.around t) (all_stated (scope_or s (stated s a.around t)) a.around ts) (λ _ inner. Ok inner) a.scope a.is in
      record { stand = a.stand; short = a.short.0; limited = a.limited.0; ordinary = a.ordinary.0; names = a.names.0; around = a.around; scope = l.0; is = l.1.1 }

  -- the scopes behind a statement stand for each other
  pub stands_behind : (s s' : Scope) (t : CStmt) → StmtFits P s s' t → ScopesStand P (scope_behind s t) (scope_behind s' (fewer_in s t))
  stands_behind s s' t a = stand_behind test s s' a.around t a.scope a.stand a.short a.names a.is

  pub rest_fits : (s s' : Scope) (t : CStmt) (ts : CStmts) → StmtsFit P s s' (plain.MoreStmt t ts) → StmtsFit P (scope_behind s t) (scope_behind s' (fewer_in s t)) ts
  rest_fits s s' t ts a =
      let l = both_is (stated s a.around t) (all_stated (scope_or s (stated s a.around t)) a.around ts) (λ _ inner. Ok inner) a.scope a.is in
      let inner : all_stated (scope_behind s t) a.around ts ≡ Ok l.1.0 = subst (λ z. all_stated z a.around ts ≡ Ok l.1.0) (ap (λ q. scope_or s q) l.1.1 ∙ sym (stated_behind s a.around t l.0 l.1.1)) l.1.2 in
      record { stand = stands_behind s s' t (first_fits s s' t ts a); short = a.short.1; limited = a.limited.1; ordinary = a.ordinary.1; names = a.names.1; around = a.around; scope = l.1.0; is = inner }

  -- ---- parts of a `switch`

  pub label_rest : (s s' : Scope) (at : ℕ) (x : Option CExpr) (qs : CParts) → PartsFit P s s' (plain.MorePart (plain.Label at x) qs) → PartsFit P s s' qs
  label_rest s s' at x qs a =
      let l = both_is (part_judged s a.around (plain.Label at x)) (all_parts (part_scope_or s (part_judged s a.around (plain.Label at x))) a.around qs) (λ part labels. Ok (part.labels ++ labels)) a.labels a.is in
      let k = after_is (maybe_judged s x) (λ v. Ok (record { scope = s; labels = record { pos = at; value = v } ∷ [] })) l.0 l.1.1 in
      let part : PartJudged = l.0 in
      let same : record { scope = s; labels = record { pos = at; value = k.0 } ∷ [] } ≡ part = cc k.2 in
      let scope : part_scope_or s (part_judged s a.around (plain.Label at x)) ≡ s = ap (λ q. part_scope_or s q) l.1.1 ∙ sym (ap (λ (z : PartJudged). z.scope) same) in
      record { stand = a.stand; short = a.short.1; limited = a.limited.1; ordinary = a.ordinary.1; names = a.names.1; around = a.around; labels = l.1.0; is = subst (λ z. all_parts z a.around qs ≡ Ok l.1.0) scope l.1.2 }

  pub item_first : (s s' : Scope) (t : CStmt) (qs : CParts) → PartsFit P s s' (plain.MorePart (plain.Item t) qs) → StmtFits P s s' t
  item_first s s' t qs a =
      let l = both_is (part_judged s a.around (plain.Item t)) (all_parts (part_scope_or s (part_judged s a.around (plain.Item t))) a.around qs) (λ part labels. Ok (part.labels ++ labels)) a.labels a.is in
      let k = after_is (stated s a.around t) (λ inner. Ok (record { scope = inner; labels = [] })) l.0 l.1.1 in
      record { stand = a.stand; short = a.short.0; limited = a.limited.0; ordinary = a.ordinary.0; names = a.names.0; around = a.around; scope = k.0; is = k.1 }

  pub item_rest : (s s' : Scope) (t : CStmt) (qs : CParts) → PartsFit P s s' (plain.MorePart (plain.Item t) qs) → PartsFit P (scope_behind s t) (scope_behind s' (fewer_in s t)) qs
  item_rest s s' t qs a =
      let l = both_is (part_judged s a.around (plain.Item t)) (all_parts (part_scope_or s (part_judged s a.around (plain.Item t))) a.around qs) (λ part labels. Ok (part.labels ++ labels)) a.labels a.is in
      let k = after_is (stated s a.around t) (λ inner. Ok (record { scope = inner; labels = [] })) l.0 l.1.1 in
      let part : PartJudged = l.0 in
      let same : record { scope = k.0; labels = [] } ≡ part = cc k.2 in
      let scope : part_scope_or s (part_judged s a.around (plain.Item t)) ≡ scope_behind s t = ap (λ q. part_scope_or s q) l.1.1 ∙ (sym (ap (λ (z : PartJudged). z.scope) same) ∙ sym (stated_behind s a.around t k.0 k.1)) in
      record {
        stand = stands_behind s s' t (item_first s s' t qs a);
        short = a.short.1;
        limited = a.limited.1;
        ordinary = a.ordinary.1;
        names = a.names.1;
        around = a.around;
        labels = l.1.0;
        is = subst (λ z. all_parts z a.around qs ≡ Ok l.1.0) scope l.1.2;
      }
