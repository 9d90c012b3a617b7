-- Declarations stand where they stood.
use Rattle.std.proofs.Common.{refl}
use Rattle.c_syntax.specs.Plain as plain
use Rattle.c_syntax.specs.Plain.{CStmt, CStmts, CPart, CParts}
use Rattle.c_types.specs.Scope.{Scope, entered}
use Rattle.c_types.specs.Census.{scope_behind, scope_behind_head, scope_behind_part}
use Rattle.c_fitting.specs.Blocks.{IsNoDeclaration, DeclaresInBlocks, AllDeclareInBlocks, PartDeclaresInBlocks, PartsDeclareInBlocks}
use Rattle.c_helpers.specs.Fewer.{fewer_in, fewer_in_all, fewer_in_part, fewer_in_parts}
use Rattle.c_fitting.specs.FewerBlocksLaws.{StatementsStayInBlocks}

no_declaration : (s : Scope) (t : CStmt) → IsNoDeclaration t → IsNoDeclaration (fewer_in s t)
no_declaration s (plain.Block ss) h = refl
no_declaration s (plain.Local d) h = absurd (cc h)
no_declaration s (plain.Do_expr e) h = refl
no_declaration s plain.Empty h = refl
no_declaration s (plain.If e t) h = refl
no_declaration s (plain.IfElse e t u) h = refl
no_declaration s (plain.While e t) h = refl
no_declaration s (plain.Do t e) h = refl
no_declaration s (plain.For first test step t) h = refl
no_declaration s (plain.Return at e) h = refl
no_declaration s (plain.Break at) h = refl
no_declaration s (plain.Continue at) h = refl
no_declaration s (plain.Switch e ps) h = refl

mutual
  pub stays : (s : Scope) (t : CStmt) → DeclaresInBlocks t → DeclaresInBlocks (fewer_in s t)
  stays s (plain.Block ss) h = all_stay (entered s) ss h
  stays s (plain.Local d) h = tt
  stays s (plain.Do_expr e) h = tt
  stays s plain.Empty h = tt
  stays s (plain.If e t) h = (stays s t h.0, no_declaration s t h.1)
  stays s (plain.IfElse e t u) h = ((stays s t h.0.0, no_declaration s t h.0.1), (stays s u h.1.0, no_declaration s u h.1.1))
  stays s (plain.While e t) h = (stays s t h.0, no_declaration s t h.1)
  stays s (plain.Do t e) h = (stays s t h.0, no_declaration s t h.1)
  stays s (plain.For first test step t) h =
      let inner = scope_behind_head s first in
      ((stays s first h.0.0, no_declaration s first h.0.1), (stays inner t h.1.0, no_declaration inner t h.1.1))
  stays s (plain.Return at e) h = tt
  stays s (plain.Break at) h = tt
  stays s (plain.Continue at) h = tt
  stays s (plain.Switch e ps) h = parts_stay (entered s) ps h

  pub all_stay : (s : Scope) (ts : CStmts) → AllDeclareInBlocks ts → AllDeclareInBlocks (fewer_in_all s ts)
  all_stay s plain.NoStmt h = tt
  all_stay s (plain.MoreStmt t ts) h = (stays s t h.0, all_stay (scope_behind s t) ts h.1)

  part_stays : (s : Scope) (p : CPart) → PartDeclaresInBlocks p → PartDeclaresInBlocks (fewer_in_part s p)
  part_stays s (plain.Label at e) h = tt
  part_stays s (plain.Item t) h = stays s t h

  parts_stay : (s : Scope) (ps : CParts) → PartsDeclareInBlocks ps → PartsDeclareInBlocks (fewer_in_parts s ps)
  parts_stay s plain.NoPart h = tt
  parts_stay s (plain.MorePart p ps) h = (part_stays s p h.0, parts_stay (scope_behind_part s p) ps h.1)

pub statements_stay_in_blocks : StatementsStayInBlocks
statements_stay_in_blocks = stays
