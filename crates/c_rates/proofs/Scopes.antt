-- Scopes of statements: their names and their tags.
use Rattle.std.proofs.Common.{◌≡◌, ℕ, Bool, true, false, List, [], ◌∷◌, Option, Some, None, refl, sym, ap, ◌∙◌, subst, cond}
use Rattle.std.specs.Prelude.{Ok, Err, not}
use Rattle.std.specs.Option.{option_map, option_map_or}
use Rattle.std.specs.List.{list_any}
use Rattle.std.specs.Str.{bytes_eq}
use Rattle.std.proofs.lemmas.Slice.Eq.{bytes_eq-Decides}
use Rattle.c_syntax.specs.Plain as plain
use Rattle.c_syntax.specs.Plain.{CExpr, CDecl, CStmt, CStmts}
use Rattle.c_types.specs.declared.fault.TypeFault.{TypeFault}
use Rattle.c_types.specs.declared.fault.TypeFault.TheVariants as fault
use Rattle.c_types.specs.Types.{CType, is_object_type}
use Rattle.c_types.specs.Refusals.{Judged, Rule, after, broken, keeping}
use Rattle.c_types.specs.Scope.{Scope, Object, entity_of, entered, with_name, is_declared_here}
use Rattle.c_types.specs.Operands.{Operand}
use Rattle.c_types.specs.Expressions.{written}
use Rattle.c_types.specs.Declarations.{first_fitting, completed, object_type, declared_type, declared_object, scope_or}
use Rattle.c_types.specs.Statements.{Around, stated, all_stated, part_scope_or}
use Rattle.c_types.specs.Census.{scope_behind, scope_behind_all}
use Rattle.c_eval.specs.Environment.{Environment, past_maybe}
use Rattle.c_helpers.specs.Laws.{is_strange}
use Rattle.c_helpers.specs.Fewer.{with_values, fewer_in_declaration}
use Rattle.c_fewer_types.specs.Written.{StringsAreShort}
use Rattle.c_fewer_types.proofs.TypeTreesProofs.{fewer_types_are_the_same}
use Rattle.c_fewer_types.specs.Standing.{IsTextName, StmtHas, StmtsHave, IsDeclaration}
use Rattle.c_fewer_types.proofs.FewerTypedRules.{after_is, both_is}
use Rattle.c_fewer_types.proofs.Declared.{Given, completed_too}
use Rattle.c_fewer_types.proofs.Behind.{stated_behind}
use Rattle.c_fewer_names.specs.FewerKnownLaws.{NamesAreOfText}

-- ---- what holds of the scope behind a declaration, by the two that it may be

of_local : (P : Scope → Type 0) (s : Scope) (d : CDecl) → P s → ((t : CType) → P (with_name s d.name (Object t))) → P (scope_behind s (plain.Local d))
of_local P s d a b = of_type (declared_type s d)
  where
    of_rule : (o : Option TypeFault) (t : CType) → P (scope_or s (option_map_or (λ e. Err e) o (Ok (with_name s d.name (Object t)))))
    of_rule None t = b t
    of_rule (Some f) t = a

    of_first : (r : Judged (Unit {0})) (rules : List Rule) (t : CType) → P (scope_or s (after r (λ _. keeping rules (with_name s d.name (Object t)))))
    of_first (Ok u) rules t = of_rule (broken rules) t
    of_first (Err f) rules t = a

    of_type : (r : Judged CType) → P (scope_or s (after r (λ t. declared_object s false d t)))
    of_type (Ok t) = of_first (first_fitting (with_name s d.name (Object t)) (record { file = false; pos = d.pos }) t d.first) ((not (is_declared_here s d.name), fault.Twice d.pos) ∷ []) t
    of_type (Err f) = a

-- ---- names

pub in_text : (s : Scope) → NamesAreOfText s → NamesAreOfText (entered s)
in_text s a name x e = a name x e

pub behind_name : (s : Scope) (n : List ℕ) (t : CType) → IsTextName n → NamesAreOfText s → NamesAreOfText (with_name s n (Object t))
behind_name s n t text a name x e = go (bytes_eq name n) refl e
  where
    go : (b : Bool) → bytes_eq name n ≡ b → cond b (Some (Object t)) (entity_of s name) ≡ Some x → IsTextName name
    go true k e = ap (λ z. list_any is_strange z) ((bytes_eq-Decides name n).0 k) ∙ text
    go false k e = a name x e

pub behind_stmt : (s : Scope) (t : CStmt) → StmtHas StringsAreShort IsDeclaration t → NamesAreOfText s → NamesAreOfText (scope_behind s t)
behind_stmt s (plain.Local d) h a = of_local NamesAreOfText s d a (λ t. behind_name s d.name t h.0.0 a)
behind_stmt s t h a = a

pub behind_all_stmts : (s : Scope) (ss : CStmts) → StmtsHave StringsAreShort IsDeclaration ss → NamesAreOfText s → NamesAreOfText (scope_behind_all s ss)
behind_all_stmts s plain.NoStmt h a = a
behind_all_stmts s (plain.MoreStmt t ts) h a = behind_all_stmts (scope_behind s t) ts h.1 (behind_stmt s t h.0 a)

pub all_stated_behind : (ss : CStmts) (s : Scope) (w : Around) (r : Scope) → all_stated s w ss ≡ Ok r → scope_behind_all s ss ≡ r
all_stated_behind plain.NoStmt s w r e = cc e
all_stated_behind (plain.MoreStmt t ts) s w r e =
    let l = both_is (stated s w t) (all_stated (scope_or s (stated s w t)) w ts) (λ _ inner. Ok inner) r e in
    let inner : all_stated (scope_behind s t) w ts ≡ Ok l.1.0 = subst (λ z. all_stated z w ts ≡ Ok l.1.0) (ap (λ q. scope_or s q) l.1.1 ∙ sym (stated_behind s w t l.0 l.1.1)) l.1.2 in
    let same : l.1.0 ≡ r = cc l.1.3 in
    all_stated_behind ts (scope_behind s t) w l.1.0 inner ∙ same

-- ---- tags

pub tags_behind : (s : Scope) (t : CStmt) → (scope_behind s t).tags ≡ s.tags
tags_behind s (plain.Local d) = of_local (λ z. z.tags ≡ s.tags) s d refl (λ t. refl)
tags_behind s (plain.Block ss) = refl
tags_behind s (plain.Do_expr e) = refl
tags_behind s plain.Empty = refl
tags_behind s (plain.If e t) = refl
tags_behind s (plain.IfElse e t u) = refl
tags_behind s (plain.While e t) = refl
tags_behind s (plain.Do t e) = refl
tags_behind s (plain.For first test step t) = refl
tags_behind s (plain.Return at e) = refl
tags_behind s (plain.Break at) = refl
tags_behind s (plain.Continue at) = refl
tags_behind s (plain.Switch e ps) = refl

pub tags_behind_all : (s : Scope) (ss : CStmts) → (scope_behind_all s ss).tags ≡ s.tags
tags_behind_all s plain.NoStmt = refl
tags_behind_all s (plain.MoreStmt t ts) = tags_behind_all (scope_behind s t) ts ∙ tags_behind s t

-- a declared object has its type where the tags are the same
pub typed_there : (s z : Scope) (d : CDecl) (f : CExpr → CExpr) (t : CType) → Given f → s.tags ≡ z.tags → declared_type s d ≡ Ok t → declared_type z (fewer_in_declaration s f d) ≡ Ok t
typed_there s z d f t g tags e =
    let w = after_is (written s d.pos d.ty) (λ t. object_type s d.pos (completed t d.first)) t e in
    ap (λ r. after r (λ t. object_type z d.pos (completed t (option_map (with_values f) d.first)))) (fewer_types_are_the_same s z d.pos d.ty w.0 tags w.1)
    ∙ (ap (λ t. object_type z d.pos t) (completed_too f g w.0 d.first) ∙ (ap (λ y. keeping ((is_object_type y (completed w.0 d.first), fault.Mismatch d.pos) ∷ []) (completed w.0 d.first)) (sym tags) ∙ w.2))

-- ---- places

maybe_scope : (e : Option CExpr) (here : Environment) → (past_maybe e here).scope ≡ here.scope
maybe_scope None here = refl
maybe_scope (Some e) here = refl

pub last_scope : (test step : Option CExpr) (here : Environment) → (past_maybe step (past_maybe test here)).scope ≡ here.scope
last_scope test step here = maybe_scope step (past_maybe test here) ∙ maybe_scope test here

pub label_same : (s : Scope) (at : ℕ) (r : Judged (Option Operand)) → part_scope_or s (after r (λ a. Ok (record { scope = s; labels = record { pos = at; value = a } ∷ [] }))) ≡ s
label_same s at (Ok o) = refl
label_same s at (Err e) = refl

pub item_same : (s : Scope) (r : Judged Scope) (inner : Scope) → r ≡ Ok inner → part_scope_or s (after r (λ inner. Ok (record { scope = inner; labels = [] }))) ≡ inner
item_same s r inner e = ap (λ q. part_scope_or s (after q (λ inner. Ok (record { scope = inner; labels = [] })))) e
