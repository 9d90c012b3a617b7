-- A block with fewer operators has the objects that it had.
use Rattle.std.proofs.Common.{◌≡◌, ℕ, zero, suc, ◌<◌, List, [], ◌∷◌, ◌++◌, length, Bool, true, false, refl, sym, ap, ap₂, ◌∙◌, subst, replicate}
use Rattle.std.proofs.lemmas.List.{length-replicate}
use Rattle.c_syntax.specs.Plain as plain
use Rattle.c_syntax.specs.Plain.{CExpr, CDecl, CStmt, CStmts, CParts}
use Rattle.c_types.specs.Types.{words_of}
use Rattle.c_types.specs.Scope.{Scope}
use Rattle.c_types.specs.Expressions.{written}
use Rattle.c_types.specs.Declarations.{completed, object_type, declared_type, declared_object}
use Rattle.c_types.specs.Census.{scope_behind}
use Rattle.c_eval.specs.State.{Cell, Unset}
use Rattle.c_eval.specs.Environment.{type_or_void, object_type_in, objects_in, block_objects, parts_objects}
use Rattle.c_valid.specs.Valid.{most_cells, CellsAreValid}
use Rattle.c_valid.specs.Limited.{StmtIsLimited, StmtsAreLimited, PartsAreLimited}
use Rattle.c_valid.proofs.Objects.{NewAreValid}
use Rattle.c_helpers.specs.Fewer.{fewer, fewer_in, fewer_in_all, fewer_in_parts, fewer_in_declaration}
use Rattle.c_fewer_types.proofs.FewerTypedRules.{after_is}
use Rattle.c_fewer_types.proofs.Declared.{of_type}
use Rattle.c_fewer_types.proofs.Texts.{given_too}
use Rattle.c_fewer_meaning.proofs.Fits.{StmtFits, StmtsFit, PartsFit, first_fits, rest_fits, label_rest, item_first, item_rest}

-- ---- new objects are valid

unset_valid : (n : ℕ) → CellsAreValid (replicate n Unset)
unset_valid zero = tt
unset_valid (suc n) = (tt, unset_valid n)

objects_valid : (s : Scope) (t : CStmt) → StmtIsLimited s t → NewAreValid (objects_in s t)
objects_valid s (plain.Local d) l = ((unset_valid (words_of s.tags (object_type_in s d)), subst (λ n. n < most_cells) (sym (length-replicate (words_of s.tags (object_type_in s d)) Unset)) l.0), tt)
objects_valid s t l = tt

all_new : (new more : List (List Cell)) → NewAreValid new → NewAreValid more → NewAreValid (new ++ more)
all_new [] more a b = b
all_new (cells ∷ new) more a b = (a.0, all_new new more a.1 b)

pub block_valid : (s : Scope) (ss : CStmts) → StmtsAreLimited s ss → NewAreValid (block_objects s ss)
block_valid s plain.NoStmt l = tt
block_valid s (plain.MoreStmt t ts) l = all_new (objects_in s t) (block_objects (scope_behind s t) ts) (objects_valid s t l.0) (block_valid (scope_behind s t) ts l.1)

pub parts_valid : (s : Scope) (ps : CParts) → PartsAreLimited s ps → NewAreValid (parts_objects s ps)
parts_valid s plain.NoPart l = tt
parts_valid s (plain.MorePart (plain.Label at e) ps) l = parts_valid s ps l.1
parts_valid s (plain.MorePart (plain.Item t) ps) l = all_new (objects_in s t) (parts_objects (scope_behind s t) ps) (objects_valid s t l.0) (parts_valid (scope_behind s t) ps l.1)

-- ---- they are those of the text

module _ (test : List ℕ → Bool) where
  abbrev P : List ℕ → Type 0
  P name = test name ≡ true

  -- a declared object has the type that it had
  pub type_same : (s s' : Scope) (d : CDecl) → StmtFits P s s' (plain.Local d) → object_type_in s' (fewer_in_declaration s (fewer (scope_behind s (plain.Local d))) d) ≡ object_type_in s d
  type_same s s' d a =
      let f : CExpr → CExpr = fewer (scope_behind s (plain.Local d)) in
      let k = after_is (declared_type s d) (λ t. declared_object s false d t) a.scope a.is in
      let w = after_is (written s d.pos d.ty) (λ t. object_type s d.pos (completed t d.first)) k.0 k.1 in
      ap type_or_void (of_type P s s' a.stand false d f w.0 k.0 (λ e t. given_too (scope_behind s (plain.Local d)) e t) w.1 w.2 ∙ sym k.1)

  objects_same : (t : CStmt) (s s' : Scope) → StmtFits P s s' t → objects_in s' (fewer_in s t) ≡ objects_in s t
  objects_same (plain.Local d) s s' a = λ i. replicate (words_of (sym a.stand.tags i) (type_same s s' d a i)) Unset ∷ []
  objects_same t s s' a = refl

  pub block_same : (ss : CStmts) (s s' : Scope) → StmtsFit P s s' ss → block_objects s' (fewer_in_all s ss) ≡ block_objects s ss
  block_same plain.NoStmt s s' a = refl
  block_same (plain.MoreStmt t ts) s s' a = ap₂ (λ x y. x ++ y) (objects_same t s s' (first_fits test s s' t ts a)) (block_same ts (scope_behind s t) (scope_behind s' (fewer_in s t)) (rest_fits test s s' t ts a))

  pub parts_same : (ps : CParts) (s s' : Scope) → PartsFit P s s' ps → parts_objects s' (fewer_in_parts s ps) ≡ parts_objects s ps
  parts_same plain.NoPart s s' a = refl
  parts_same (plain.MorePart (plain.Label at x) qs) s s' a = parts_same qs s s' (label_rest test s s' at x qs a)
  parts_same (plain.MorePart (plain.Item t) qs) s s' a = ap₂ (λ x y. x ++ y) (objects_same t s s' (item_first test s s' t qs a)) (parts_same qs (scope_behind s t) (scope_behind s' (fewer_in s t)) (item_rest test s s' t qs a))
