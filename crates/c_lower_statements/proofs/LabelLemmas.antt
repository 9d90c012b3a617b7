-- Labels, and statements without code.
use Rattle.std.proofs.Common.{◌≡◌, ◌+◌, ℕ, sym, subst, arith}
use Rattle.std.specs.Prelude.{Result, Ok, Err, IfOk, OnOk, Option}
use Rattle.std.specs.declared.alloc.AllocError.{AllocError}
use Rattle.c_syntax.specs.Plain as plain
use Rattle.c_syntax.specs.Plain.{CExpr, CPart}
use Rattle.c_eval.specs.Environment.{Environment}
use Rattle.c_cells.specs.declared.structs.StructKinds.{StructKinds}
use Rattle.c_declared.specs.Held.{HoldsSome}
use Rattle.c_lowered.specs.Locations.{Linking}
use Rattle.c_lowered.specs.Statements.{jump_to}
use Rattle.c_counted.specs.Numbers.{IsNumber}
use Rattle.c_addressing.specs.declared.here.Here.{Here}
use Rattle.c_addressing.specs.declared.here.Output.{Output}
use Rattle.c_applied.specs.Leads.{Leads, Keeps}
use Rattle.c_applied.proofs.LeadsLemmas.{keeps_none, leads, nothing, told_block}
use Rattle.c_lower_blocks.specs.declared.blocks.Block.{Block}
use Rattle.c_lower_blocks.proofs.StandingLemmas.{goes_on}
use Rattle.c_lower_statements.specs.declared.targets.Targets.{Targets}
use Rattle.c_lower_statements.specs.Lowered.{IsPlaced, Lowers, LowersPart}
use Rattle.c_lower_statements.proofs.PlaceLemmas.{same_place}
use Rattle.c_lower_statements.proofs.ReachLemmas.{placed_at}
use Rattle.c_lower_statements.proofs.FormLemmas.{label_lowers}

pub label_on : (r : Result ℕ AllocError) (a b : Output) (h : Here) (kinds : StructKinds) (k : Block) (at : ℕ) (e : Option CExpr) (x : CPart) (to : Targets) (first : ℕ) → x ≡ plain.Label at e → OnOk r (Keeps a b) → HoldsSome a.types h.declared
    → ((w : Linking) (env : Environment) (n m : ℕ) → IsPlaced h kinds a k w env n → IsNumber first m → IfOk r (λ told. Leads a b (jump_to (m + 1)) 0 told (m + 1))) → IfOk r (λ told. LowersPart a b h h kinds k k x to first told)
label_on (Ok y) a b h kinds k at e x to first is keeps some code = subst (λ (z : CPart). LowersPart a b h h kinds k k z to first y) (sym is) (label_lowers a b h kinds k at e to first y (goes_on a b h k keeps some) code)
label_on (Err y) a b h kinds k at e x to first is keeps some code = tt

none_more : (m : ℕ) → m ≡ m + 0
none_more m = omega arith

pub none_added : (out : Output) (h : Here) (kinds : StructKinds) (k : Block) (to : Targets) (first : ℕ) → HoldsSome out.types h.declared → Lowers out out h h kinds k k plain.Empty to first first
none_added out h kinds k to first some = record {
  goes = goes_on out out h k (keeps_none out) some;
  code = λ w env n m p placed hm ht fit. record { leads = leads (nothing out) (told_block (none_more m) hm); placed = placed_at (sym (same_place env)) placed };
}
