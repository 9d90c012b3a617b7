-- Bodies of functions, and what is declared behind them.
use Rattle.std.proofs.Common.{◌≡◌, true, false, refl, ◌∙◌}
use Rattle.c_syntax.specs.Plain as plain
use Rattle.c_syntax.specs.Plain.{CStmt}
use Rattle.c_types.specs.Scope.{Scope}
use Rattle.c_types.specs.Table.{Table, texts}
use Rattle.c_operands.specs.declared.declarations.Declarations.{Declarations}
use Rattle.c_signatures.specs.Blocks.{IsInBody, IsSame}
use Rattle.c_signatures.proofs.BlockLemmas.{body_then, same_holds}
use Rattle.c_statements.proofs.KeepLemmas.{no_block}
use Rattle.c_helpers.specs.Fewer.{fewer_in, fewer_in_body}
use Rattle.c_fewer_operators.specs.declared.here.Here.{Here}
use Rattle.c_fewer_parts.specs.Going.{Goes, Stays}

-- a body that is no block
pub body_other : (s : Scope) (t : CStmt) → no_block t → fewer_in s t ≡ fewer_in_body s t
body_other s (plain.Block ss) h = absurd h
body_other s plain.Empty h = refl
body_other s _ h = refl

-- what is declared behind a body is what was declared before it
pub stays_behind : {a b : Table} {g k : Here} (h : Here) (e : Declarations) → Goes a b g k → texts g.tags.items ≡ texts h.tags.items → IsInBody h.declared g.declared
    → (IsInBody h.declared k.declared → IsSame h.declared e) → Stays a b h (record { declared = e; tags = k.tags })
stays_behind {a} {b} {g} {k} h e f names inside left =
    let same = left (body_then h.declared g.declared k.declared inside f.around) in
    record {
      goes = record {
        grows = f.grows;
        tags = f.tags;
        around = record { outer = same.outer; layouts = same.layouts; defined = same.defined };
        names = f.names ∙ names;
      };
      holds = λ s before. same_holds a b h.declared e s f.grows f.tags same before;
    }

pub never : false ≡ true → ⊥
never h = cc
