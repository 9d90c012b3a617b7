-- Bodies and functions.
use Rattle.std.proofs.Common.{◌≡◌, ℕ, Bool, true, false, List, [], ◌∷◌, Option, Some, None, refl, sym, ap, subst, ◌∙◌, if◌then◌else◌}
use Rattle.std.specs.Prelude.{Result, Ok, Err, is_some}
use Rattle.std.specs.Result.{result_err}
use Rattle.c_syntax.specs.Plain as tree
use Rattle.c_syntax.specs.Plain.{CStmt, CStmts}
use Rattle.c_syntax.specs.View.{stmt_of, maybe_stmt}
use Rattle.c_syntax.specs.declared.tree.Stmt.{Stmt, Block', Local, Expr as ExprStmt, Empty, If', While', Do', For', Return, Break, Continue, Switch', None' as NoElse', Some' as Else', out-Stmt, roll-Stmt, roll-out-Stmt}
use Rattle.c_syntax.specs.declared.tree.Stmts.{Stmts}
use Rattle.c_syntax.specs.declared.tree.Stmt.TheVariants as stmt
use Rattle.c_syntax.specs.Words.{meaning}
use Rattle.c_types.specs.declared.fault.TypeFault.{TypeFault}
use Rattle.c_types.specs.declared.fault.TypeFault.TheVariants as fault
use Rattle.c_types.specs.Types.{CType, CTypes}
use Rattle.c_types.specs.Refusals.{Judged, Rule, after, keeping, broken}
use Rattle.c_types.specs.Scope.{Scope}
use Rattle.c_types.specs.Declarations.{scope_or}
use Rattle.c_types.specs.Statements as statements
use Rattle.c_types.specs.Statements.{stated, all_stated}
use Rattle.c_types.specs.Units as plain
use Rattle.c_types.specs.Units.{body_judged, body_scope, around_body, may_declare, with_function, type_of, declared_function}
use Rattle.c_types.specs.Known.{OneType, Grows}
use Rattle.c_types.specs.Table.{Table, known}
use Rattle.c_operands.proofs.NameLemmas.{names_kept}
use Rattle.c_declared.specs.Told.{first_told}
use Rattle.c_declared.proofs.ToldLemmas.{after_refused}
use Rattle.c_declarations.proofs.ObjectLemmas.{object_scope}
use Rattle.c_signatures.specs.declared.signature.Signature.{Signature}
use Rattle.c_signatures.specs.Parameters.{with_entries}
use Rattle.c_signatures.specs.Signatures.{IsSignature}
use Rattle.c_signatures.proofs.SignatureLemmas.{parts_typed}
use Rattle.c_check.specs.Bodies.{block_in}

pub some_block : (s : Scope) (w : statements.Around) (t : CStmt) (all : CStmts) → Some all ≡ block_in t → all_stated s w all ≡ body_judged s w (Some t)
some_block s w (tree.Block ss) all h = let same : all ≡ ss = cc in ap (all_stated s w) same
some_block s w tree.Empty all h = absurd cc
some_block s w _ all h = absurd cc

pub no_block : (s : Scope) (w : statements.Around) (t : CStmt) → None ≡ block_in t → stated s w t ≡ body_judged s w (Some t)
no_block s w (tree.Block ss) h = absurd cc
no_block s w tree.Empty h = refl
no_block s w _ h = refl

-- a statement that is no block
pub other_than_block : (t : Stmt) → ((all : Stmts) → t ≡ stmt.Block all → ⊥) → None ≡ block_in (stmt_of t)
unfolding roll-Stmt out-Stmt denote.Hole.Carrier.roll denote.Hole.Carrier.out
other_than_block (Block' shape row) h = absurd (h _ (sym (roll-out-Stmt (Block' shape row)) ∙ sym (stmt.rolls-Block _)))
other_than_block (Local d) h = refl
other_than_block (ExprStmt e) h = refl
other_than_block Empty h = refl
other_than_block (If' e p t NoElse') h = refl
other_than_block (If' e p t (Else' q u)) h = refl
other_than_block (While' e p t) h = refl
other_than_block (Do' p t e) h = refl
other_than_block (For' p first test step q t) h = refl
other_than_block (Return at e) h = refl
other_than_block (Break at) h = refl
other_than_block (Continue at) h = refl
other_than_block (Switch' e shape row) h = refl

-- a signature while the table grows
pub signature_kept : (old new : Table) (s : Scope) (v : Signature) (f : plain.Signature) → Grows (known old) (known new) → IsSignature old s v f → IsSignature new s v f
signature_kept old new s v f grows h = record {
  result = grows v.result (OneType f.result) h.result;
  ty = grows v.ty (OneType (type_of f)) h.ty;
  typed = parts_typed old new v.parameters.items f.parameters.types grows h.typed;
  block = names_kept old new (with_entries [] v.parameters.items) f.parameters.scope.block grows h.block;
  tags = h.tags;
  defined = h.defined;
}

pub some_body : (o : Option Stmt) (b : Bool) → b ≡ is_some o → b ≡ is_some (maybe_stmt o)
some_body None b h = h
some_body (Some t) b h = h

-- the refusal of a function, by that of its body
pub function_told : (r parts own : Option TypeFault) (s : Scope) (name : List ℕ) (at : ℕ) (body : Option CStmt) (f : plain.Signature) (kept defines : Bool) → r ≡ first_told parts own
    → parts ≡ result_err (body_judged (body_scope s name f) (around_body f) body) → own ≡ broken ((kept, fault.Twice at) ∷ []) → kept ≡ may_declare (meaning s.block name) (type_of f) defines → defines ≡ is_some body
    → r ≡ result_err (declared_function s name at body f)
function_told r parts own s name at body f kept defines h p o k e =
    let q = body_judged (body_scope s name f) (around_body f) body in
    let rules : Bool → List Rule = λ b. (b, fault.Twice at) ∷ [] in
    let same : kept ≡ may_declare (meaning s.block name) (type_of f) (is_some body) = k ∙ ap (may_declare (meaning s.block name) (type_of f)) e in
    h ∙ (ap (λ (x : Option TypeFault). first_told x own) p
    ∙ (ap (first_told (result_err q)) (o ∙ ap (λ (b : Bool). broken (rules b)) same)
    ∙ sym (after_refused q (rules (may_declare (meaning s.block name) (type_of f) (is_some body))) (λ _. with_function s name (type_of f) (is_some body)))))

-- the scope behind it
pub function_scope : (r : Option TypeFault) (s : Scope) (name : List ℕ) (at : ℕ) (body : Option CStmt) (f : plain.Signature) (defines : Bool) → r ≡ result_err (declared_function s name at body f) → defines ≡ is_some body
    → (if is_some r then s else with_function s name (type_of f) defines) ≡ scope_or s (declared_function s name at body f)
function_scope r s name at body f defines h e =
    ap (λ (b : Bool). if is_some r then s else with_function s name (type_of f) b) e
    ∙ object_scope r s (with_function s name (type_of f) (is_some body)) (body_judged (body_scope s name f) (around_body f) body) ((may_declare (meaning s.block name) (type_of f) (is_some body), fault.Twice at) ∷ []) h
