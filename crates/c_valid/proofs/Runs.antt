-- Whole runs keep states valid.
use Rattle.std.proofs.Common.{ℕ, zero, suc, List, [], ◌∷◌, Option, Some, None, Bool, true, false, arith}
use Rattle.std.specs.Prelude.{codes, cond}
use Rattle.std.specs.List.{find}
use Rattle.std.specs.Str.{bytes_eq}
use Rattle.c_types.specs.Types.{CType}
use Rattle.c_eval.specs.State as state
use Rattle.c_eval.specs.State.{Value, Missing, Run}
use Rattle.c_eval.specs.Eval.{World, Flow, Next, Broke, Continued, Returned}
use Rattle.c_eval.specs.Text.{Definition, Text, text_of, function_named}
use Rattle.c_eval.specs.Meaning.{argument_objects, result_of, body_environment, runs, Rules, world_of, charged_run, call_by, calls_to, opening, run_of, eval, own_rules}
use Rattle.c_valid.specs.Valid.{AreBytes, IsValid, AreValid}
use Rattle.c_valid.specs.Limited.{StmtIsLimited}
use Rattle.c_valid.specs.Laws.{FunctionsAreLimited, RunsStayValid}
use Rattle.c_valid.proofs.Keeping.{Keeps, bind_keeps, give_keeps, undefined_keeps, exit_keeps, stop_keeps, paid_keeps, charged_keeps}
use Rattle.c_valid.proofs.Objects.{IfSome, NewAreValid, within_keeps}
use Rattle.c_valid.proofs.Operators.{converted_valid}
use Rattle.c_valid.proofs.Meanings.{CallsKeep, WorldKeeps, FlowIsValid, does_keeps}

result_of_keeps : (t : CType) (flow : Flow) → FlowIsValid flow → Keeps IsValid (result_of t flow)
unfolding result_of
result_of_keeps t Next a = give_keeps Missing tt
result_of_keeps t Broke a = give_keeps Missing tt
result_of_keeps t Continued a = give_keeps Missing tt
result_of_keeps t (Returned v) a = give_keeps _ (converted_valid t v a)

arguments_valid : (names : List (List ℕ)) (vs : List Value) → AreValid vs → NewAreValid (argument_objects names vs)
arguments_valid [] vs a = tt
arguments_valid (name ∷ names) [] a = tt
arguments_valid (name ∷ names) (v ∷ vs) a = (((a.0, tt), omega arith), arguments_valid names vs a.1)

pub runs_keep : (f : Definition) (names : List (List ℕ × Option ℕ)) (n : ℕ) (w : World) (vs : List Value) → StmtIsLimited f.scope f.body → WorldKeeps w → AreValid vs → Keeps IsValid (runs f names n w vs)
unfolding runs
runs_keep f names n w vs l t a = bind_keeps (within_keeps _ (arguments_valid f.params vs a) (λ o. does_keeps f.body n w (body_environment f names vs o) l t)) (λ flow b. result_of_keeps f.result flow b)

-- ---- calls

-- what helper functions do keeps states valid
abbrev pub HelpKeeps : Option (List Value → Run Value) → Type 0
HelpKeeps None = Unit {0}
HelpKeeps (Some f) = (vs : List Value) → AreValid vs → Keeps IsValid (f vs)

abbrev pub RulesKeep : Rules → Type 0
RulesKeep rules = (name : List ℕ) → HelpKeeps (rules.helps name)

either : (b : Bool) (f g : Option Definition) → IfSome (λ f. StmtIsLimited f.scope f.body) f → IfSome (λ f. StmtIsLimited f.scope f.body) g → IfSome (λ f. StmtIsLimited f.scope f.body) (cond b f g)
either true f g k l = k
either false f g k l = l

-- a function that is found is one of the text
found_limited : (name : List ℕ) (fs : List Definition) → FunctionsAreLimited fs → IfSome (λ f. StmtIsLimited f.scope f.body) (find (λ f. bytes_eq name f.name) fs)
found_limited name [] l = tt
found_limited name (f ∷ fs) l = either (bytes_eq name f.name) (Some f) (find (λ g. bytes_eq name g.name) fs) l.0 (found_limited name fs l.1)

charged_run_keeps : (rules : Rules) (t : Text) (input : List ℕ) (calls : List ℕ → List Value → Run Value) (n : ℕ) (name : List ℕ) (f : Option Definition) (vs : List Value) →
    AreBytes input → CallsKeep calls → IfSome (λ f. StmtIsLimited f.scope f.body) f → AreValid vs → Keeps IsValid (charged_run rules t input calls n name f vs)
unfolding charged_run
charged_run_keeps rules t input calls n name None vs bytes c l a = undefined_keeps state.OutsideObject
charged_run_keeps rules t input calls n name (Some f) vs bytes c l a =
    charged_keeps _ (runs_keep f t.names n (world_of t input name calls) vs l (record { input = bytes; calls = c }) a)

call_by_keeps : (help : Option (List Value → Run Value)) (vs : List Value) {m : Run Value} → HelpKeeps help → AreValid vs → Keeps IsValid m → Keeps IsValid (call_by help vs m)
unfolding call_by
call_by_keeps None vs h a t = paid_keeps false t
call_by_keeps (Some f) vs h a t = h vs a

pub calls_keep : (n : ℕ) (rules : Rules) (t : Text) (input : List ℕ) → RulesKeep rules → FunctionsAreLimited t.functions → AreBytes input → CallsKeep (calls_to n rules t input)
unfolding calls_to
calls_keep zero rules t input h l bytes name vs a = stop_keeps
calls_keep (suc n) rules t input h l bytes name vs a =
    call_by_keeps (rules.helps name) vs (h name) a
    (charged_run_keeps rules t input (calls_to n rules t input) n name (function_named t name) vs bytes (calls_keep n rules t input h l bytes) (found_limited name t.functions l) a)

pub run_keeps : (rules : Rules) (t : Text) (input : List ℕ) (fuel : ℕ) → RulesKeep rules → FunctionsAreLimited t.functions → AreBytes input → Keeps IsValid (run_of rules t input fuel)
unfolding run_of
run_keeps rules t input fuel h l bytes =
    bind_keeps
    (charged_run_keeps rules t input (calls_to (suc fuel) rules t input) (suc fuel) (codes "main") (function_named t (codes "main")) [] bytes (calls_keep (suc fuel) rules t input h l bytes)
    (found_limited (codes "main") t.functions l) tt)
    (λ v _. exit_keeps)

pub runs_stay_valid : RunsStayValid
unfolding eval
runs_stay_valid u input fuel limited bytes = (run_keeps (own_rules u) (text_of u) input fuel (λ name. tt) limited.functions bytes).keeps (opening (text_of u) fuel) limited.objects
