-- Code one piece behind another, and the places that are reached.
use Rattle.std.proofs.Common.{◌≡◌, ℕ, ◌+◌, List, [], ◌++◌, length, refl, sym, subst}
use Rattle.std.specs.Prelude.{Result, Ok, Err, IfOk, OnOk}
use Rattle.std.specs.declared.alloc.AllocError.{AllocError}
use Rattle.eir_core.specs.declared.ops.Op.{Op}
use Rattle.c_syntax.specs.Plain.{CStmt}
use Rattle.c_eval.specs.Environment.{Environment, past_stmt, behind}
use Rattle.c_eval.specs.LiteralsIn.{stmt_literals}
use Rattle.c_cells.specs.declared.structs.StructKinds.{StructKinds}
use Rattle.c_cells.proofs.StructLemmas.{struct_kinds_kept}
use Rattle.c_declared.specs.Held.{HoldsSome}
use Rattle.c_fitting.specs.Blocks.{IsNoDeclaration}
use Rattle.c_lowered.specs.Locations.{Linking}
use Rattle.c_lowered.specs.Counts.{stmt_jumps}
use Rattle.c_lowered.specs.Statements as definition
use Rattle.c_lowered.specs.Statements.{stmt_code}
use Rattle.c_counted.specs.Numbers.{IsNumber}
use Rattle.c_addressing.specs.declared.here.Here.{Here}
use Rattle.c_addressing.specs.declared.here.Output.{Output}
use Rattle.c_addressing.specs.Here.{IsHere, Emits}
use Rattle.c_applied.specs.Leads.{Leads, Keeps}
use Rattle.c_applied.proofs.LeadsLemmas.{leads, leads_then, leads_piece, piece_leads, literals_lead}
use Rattle.c_lower_blocks.specs.declared.blocks.Block.{Block}
use Rattle.c_lower_blocks.specs.Blocks.{IsSame}
use Rattle.c_lower_blocks.proofs.StandingLemmas.{goes_on, stands_still, stands_on, stands_same}
use Rattle.c_lower_statements.specs.declared.targets.Targets.{Targets}
use Rattle.c_lower_statements.specs.Lowered.{AreTargets, IsPlaced, Reaches, Lowers}
use Rattle.c_lower_statements.proofs.PlaceLemmas.{past_is}

-- ---- places

pub placed_still : {h : Here} {kinds : StructKinds} {a b : Output} {k : Block} {w : Linking} {env : Environment} {n : ℕ} {code : List Op} → Emits a b code 0 → IsPlaced h kinds a k w env n → IsPlaced h kinds b k w env n
placed_still {h} {kinds} {a} {b} {k} {w} {env} e p = record { stands = stands_still e p.stands; structs = struct_kinds_kept a.types b.types kinds env.scope.tags e.tags p.structs }

pub placed_on : {h : Here} {kinds : StructKinds} {a b : Output} {k : Block} {w : Linking} {env : Environment} {n m : ℕ} {code : List Op} → Emits a b code m → IsPlaced h kinds a k w env n → IsPlaced h kinds b k w (record env { literals_before = env.literals_before + m }) n
placed_on {h} {kinds} {a} {b} {k} {w} {env} e p = record { stands = stands_on e p.stands; structs = struct_kinds_kept a.types b.types kinds env.scope.tags e.tags p.structs }

-- behind a block that has ended
pub placed_same : {h e : Here} {kinds : StructKinds} {a b : Output} {k : Block} {w : Linking} {env : Environment} {n m : ℕ} {code : List Op} → IsSame h e → Emits a b code m → IsPlaced h kinds a k w env n → IsPlaced e kinds b k w (record env { literals_before = env.literals_before + m }) n
placed_same {h} {e} {kinds} {a} {b} {k} {w} {env} {n} same emits p = record { stands = stands_same h e a b k w env n same emits p.stands; structs = struct_kinds_kept a.types b.types kinds env.scope.tags emits.tags p.structs }

pub placed_at : {h : Here} {kinds : StructKinds} {a : Output} {k : Block} {w : Linking} {p q : Environment} {n : ℕ} → p ≡ q → IsPlaced h kinds a k w p n → IsPlaced h kinds a k w q n
placed_at {h} {kinds} {a} {k} {w} {p} {q} {n} same is = subst (λ (x : Environment). IsPlaced h kinds a k w x n) same is

-- ---- pieces

pub reach_as : {a b : Output} {e : Here} {kinds : StructKinds} {l : Block} {w : Linking} {p q : Environment} {n i j t x y : ℕ} {is js : List Op} → p ≡ q → is ≡ js → i ≡ j → x ≡ y → Reaches a b e kinds l w p n is i t x → Reaches a b e kinds l w q n js j t y
reach_as {a} {b} {e} {kinds} {l} {w} {p} {q} {n} {i} {j} {t} {x} {y} {is} {js} place code count end r =
    subst (λ (z : Environment). Reaches a b e kinds l w z n js j t y) place
    (subst (λ (z : List Op). Reaches a b e kinds l w p n z j t y) code
    (subst (λ (z : ℕ). Reaches a b e kinds l w p n is z t y) count (subst (λ (z : ℕ). Reaches a b e kinds l w p n is i t z) end r)))

pub reach_then : {a b c : Output} {e f : Here} {kinds : StructKinds} {l j : Block} {w : Linking} {p q : Environment} {n i k t u x y : ℕ} {is js : List Op} → Reaches a b e kinds l w p n is i t x → Reaches b c f kinds j w q n js k u y
    → Reaches a c f kinds j w q n (is ++ js) (i + k) u y
reach_then r s = record { leads = leads_then r.leads s.leads; placed = s.placed }

pub leads_reach : {a b c : Output} {f : Here} {kinds : StructKinds} {j : Block} {w : Linking} {q : Environment} {n i k t u x y : ℕ} {is js : List Op} → Leads a b is i t x → Reaches b c f kinds j w q n js k u y → Reaches a c f kinds j w q n (is ++ js) (i + k) u y
leads_reach r s = record { leads = leads_then r s.leads; placed = s.placed }

pub piece_reach : {a b c : Output} {f : Here} {kinds : StructKinds} {j : Block} {w : Linking} {q : Environment} {n k u y : ℕ} {is js : List Op} → Emits a b is 0 → Reaches b c f kinds j w q n js k u y → Reaches a c f kinds j w q n (is ++ js) k u y
piece_reach e s = record { leads = piece_leads e s.leads; placed = s.placed }

-- literals are passed before
pub literals_reach : {a b c : Output} {f : Here} {kinds : StructKinds} {j : Block} {w : Linking} {q : Environment} {n i k u y : ℕ} {js : List Op} → Emits a b [] i → Reaches b c f kinds j w q n js k u y → Reaches a c f kinds j w q n js (i + k) u y
literals_reach e s = record { leads = literals_lead e s.leads; placed = s.placed }

-- the last piece, behind which a block begins
pub reach_piece : {a b c : Output} {e : Here} {kinds : StructKinds} {l : Block} {w : Linking} {p : Environment} {n i t u x y : ℕ} {is js : List Op} → Reaches a b e kinds l w p n is i t x → Emits b c js 0 → IsNumber u y → Reaches a c e kinds l w p n (is ++ js) i u y
reach_piece r e told = record { leads = leads (leads_piece r.leads e).emits told; placed = placed_still e r.placed }

pub reached_by : {a b : Output} {e : Here} {kinds : StructKinds} {l : Block} {w : Linking} {env : Environment} {n i u y : ℕ} {is : List Op} → Emits a b is i → IsPlaced e kinds a l w env n → IsNumber u y → Reaches a b e kinds l w (record env { literals_before = env.literals_before + i }) n is i u y
reached_by e p told = record { leads = leads e told; placed = placed_on e p }

-- behind a body, which declares nothing
pub reach_past : {a b : Output} {e : Here} {kinds : StructKinds} {l : Block} {w : Linking} {n i u y : ℕ} {is : List Op} (env : Environment) (t : CStmt) → IsNoDeclaration t → Reaches a b e kinds l w (behind t env) n is i u y → Reaches a b e kinds l w (past_stmt t env) n is i u y
reach_past env t none r = reach_as (past_is t env none) refl refl refl r

-- ---- statements of expressions alone

simple_now : (old new : Output) (h : Here) (kinds : StructKinds) (k : Block) (t : CStmt) (to : Targets) (first told : ℕ) → Keeps old new → HoldsSome old.types h.declared → IsNoDeclaration t
    → ((w : Linking) (env : Environment) (n m : ℕ) (p : definition.Targets) → IsHere h old w env → IsNumber first m → IsNumber k.free n → AreTargets to p → Leads old new (stmt_code t w env m n p) (length (stmt_literals env.scope t)) told (m + stmt_jumps t)) → Lowers old new h h kinds k k t to first told
simple_now old new h kinds k t to first told keeps some none code = record {
  goes = goes_on old new h k keeps some;
  code = λ w env n m p placed hm ht in_blocks.
      let f = code w env n m p placed.stands.here hm placed.stands.free ht in
      record { leads = f; placed = placed_at (sym (past_is t env none)) (placed_on f.emits placed) };
}

pub simple_on : (r : Result ℕ AllocError) (old new : Output) (h : Here) (kinds : StructKinds) (k : Block) (t : CStmt) (to : Targets) (first : ℕ) → OnOk r (Keeps old new) → HoldsSome old.types h.declared → IsNoDeclaration t
    → ((w : Linking) (env : Environment) (n m : ℕ) (p : definition.Targets) → IsHere h old w env → IsNumber first m → IsNumber k.free n → AreTargets to p → IfOk r (λ told. Leads old new (stmt_code t w env m n p) (length (stmt_literals env.scope t)) told (m + stmt_jumps t)))
    → IfOk r (λ told. Lowers old new h h kinds k k t to first told)
simple_on (Ok x) old new h kinds k t to first keeps some none code = simple_now old new h kinds k t to first x keeps some none code
simple_on (Err x) old new h kinds k t to first keeps some none code = tt

pub lowers_as : (r : Result ℕ AllocError) (old new : Output) (h e : Here) (kinds : StructKinds) (k l : Block) (x y : CStmt) (to : Targets) (first : ℕ) → x ≡ y → IfOk r (λ told. Lowers old new h e kinds k l x to first told) → IfOk r (λ told. Lowers old new h e kinds k l y to first told)
lowers_as r old new h e kinds k l x y to first is c = subst (λ (t : CStmt). IfOk r (λ told. Lowers old new h e kinds k l t to first told)) is c
