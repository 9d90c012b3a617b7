-- A whole program follows its text.
use Rattle.std.proofs.Common.{◌≡◌, inr, ◌≢◌, ℕ, zero, suc, ◌+◌, ◌*◌, ◌%◌, ◌^◌, ◌<◌, ◌≤◌, Bool, false, cond, List, [], ◌∷◌, length, Option, Some, None, refl, sym, ap, ◌∙◌, subst, arith}
use Rattle.std.specs.Prelude.{codes, nat_lt}
use Rattle.std.proofs.lemmas.Bool.{lt-ltb}
use Rattle.mach_core.specs.declared.machine.Status.TheVariants as status
use Rattle.mach_core.specs.Rule.{Moment, run, run_from, at_start}
use Rattle.mach_core.proofs.Runs.{run_from-over}
use Rattle.eir_core.specs.Memory.{word_at, with_word}
use Rattle.eir_core.proofs.WordAt.{word_at-with_word_same}
use Rattle.eir_core.specs.Step.{Regs, Config, eir_rule, eir_start}
use Rattle.eir_core.specs.declared.ops.Reg.TheVariants.{A, BP}
use Rattle.eir_core.specs.declared.ops.Operand.TheVariants.{Reg as register}
use Rattle.eir_core.specs.declared.ops.Op.{Op}
use Rattle.eir_core.specs.declared.ops.Op.TheVariants.{Mov, Store}
use Rattle.c_eval.specs.State.{Value, State, OutsideObject, Outcome, Gives, Ended, Going, Undefined, Run}
use Rattle.c_eval.specs.Run.{exit, most_charge}
use Rattle.c_eval.specs.Environment.{Callee}
use Rattle.c_eval.specs.Eval.{World}
use Rattle.c_eval.specs.Text.{Definition, Text, function_named}
use Rattle.c_eval.specs.Meaning.{Rules, world_of, runs, charged_run, calls_to, opening, run_of, eval, seen, meaning_in}
use Rattle.c_eval.specs.Meaning as end
use Rattle.c_place.specs.Place.{Place, front, behind_all, Machine, made_all}
use Rattle.c_place.proofs.Running.{one_jump}
use Rattle.c_lowered.specs.Operations.{constant}
use Rattle.c_memory.specs.Follows.{Fuel, fuel_of, worth, here, Comes}
use Rattle.c_memory.proofs.Lying.{lies_over, post_over}
use Rattle.c_memory.proofs.Following.{Claim, worth_more, worth_none, outer_less, comes_one, comes_quiet, comes_then, first_then, then_follows, wider, undefined_follows, exit_follows, charged_follows}
use Rattle.c_landing.specs.Landing.{Setting, Ready, Reached, InA}
use Rattle.c_landing.proofs.Landing.{F, letters_later}
use Rattle.c_valued.specs.Calls.{UnitPays}
use Rattle.c_followed.specs.Bodies.{at_file}
use Rattle.c_followed.proofs.Bodies.{body_lands}
use Rattle.c_followed.specs.Framed.{outside, called, MayCall, FramesFit, IsOwn, TextStands, UsesLand}
use Rattle.c_followed.proofs.Calls.{agrees_at, function_at, text_calls}
use Rattle.c_followed.specs.Faithful.{IsFaithful}
use Rattle.c_followed.specs.Followed.{Opens, first_memory}

-- ---- what units pay for

worth_times : (d u : ℕ) → worth d u ≡ d * u
worth_times d zero = omega (arith, worth_none d)
worth_times d (suc u) = let r = worth_times d u in omega (arith, worth_more d u, r)

worth_above : (d u : ℕ) → 1 ≤ d → u ≤ worth d u
worth_above d zero h = omega arith
worth_above d (suc u) h = let r = worth_above d u h in omega (arith, worth_more d u, r, h)

-- ---- the opening call

module _ (S : Setting) (t : Text) (rules : Rules) (first u rate fuel : ℕ) (may : Callee → Bool) (some : 1 ≤ rate) (fit : FramesFit S first) (can : MayCall S may) (text : TextStands S t rules u rate may) (uses : UsesLand (outside S rate) rules u may) (opens : Opens S t rules first) where
  abbrev V : Setting
  V = outside S rate

  abbrev main : List ℕ
  main = codes "main"

  abbrev st0 : State
  st0 = opening t fuel

  abbrev x0 : Fuel
  x0 = fuel_of st0

  abbrev zeros : Regs
  zeros = record { a = 0; b = 0; c = 0; d = 0; sp = 0; bp = 0 }

  abbrev m0 : Machine
  m0 = record { regs = zeros; memory = first_memory S.program }

  abbrev main_machine : ℕ → Machine
  main_machine bp = record { regs = record zeros { a = 1; bp = bp }; memory = with_word (first_memory S.program) bp 1 }

  abbrev m1 : Machine
  m1 = main_machine first

  abbrev entry : ℕ
  entry = S.ground.entry main

  -- the premises, where a unit pays at this rate
  fit1 : FramesFit V first
  fit1 = record { level = fit.level; top = fit.top }

  can1 : MayCall V may
  can1 = record { direct = can.direct; built_in = can.built_in; format = can.format; bytes = can.bytes }

  text1 : TextStands V t rules u rate may
  text1 = record {
    names = text.names;
    agrees = λ name f calls is. (let a = text.agrees name f calls is in record {
      input = a.input;
      owner = a.owner;
      reach = a.reach;
      entries = a.entries;
      blocks = a.blocks;
      stands = a.stands;
      own = a.own;
      functions_apart = a.functions_apart;
      literals = a.literals;
      letters = a.letters;
      letters_apart = a.letters_apart;
    });
    there = λ name f is. (let h = text.there name f is in record { code = h.code; small = h.small });
    is = λ name f calls is. (let h = text.is name f calls is in record { body = h.body; declares = h.declares; breaks = h.breaks; framed = h.framed; paid = h.paid });
  }

  pays : UnitPays V.mode false rate
  pays l n = outer_less rate l n

  opens_main : entry < 2 ^ 24 → Comes S.program S.input V.mode (here (front 0) m0 st0) x0 4 (here (front entry) m1 st0) x0
  opens_main lt =
      let ops : List Op = Mov BP (constant first) ∷ Mov A (constant 1) ∷ Store A (register BP) ∷ [] in
      let whole : first % 2 ^ 24 ≡ first = omega (arith, fit.top) in
      let made : made_all ops m0 ≡ m1 = ap main_machine whole in
      let aim : entry % 2 ^ 24 ≡ entry = omega (arith, lt) in
      let p3 = behind_all (front 0) ops in
      let P : Machine → Type 0 = λ z. Comes S.program S.input V.mode (here (front 0) m0 st0) x0 3 (here p3 z st0) x0 in
      comes_then S.program S.input V.mode 3 1 4 (subst P made (comes_quiet S.program S.input V.mode (front 0) m0 st0 ops x0 (tt, (tt, (tt, tt))) (opens.code.0, (opens.code.1.0, (opens.code.1.1.0, tt)))))
      (comes_one S.program S.input V.mode x0 (one_jump S.program S.input p3 m1 st0.taken st0.output (constant entry) opens.code.1.1.1.0 ∙ ap (λ z. here (front z) m1 st0) aim)) (omega arith)

  -- `main` returns to the second block
  abbrev Home : Claim Value
  Home v st s m = s ≡ front 1

  module _ (f : Definition) (is : IsOwn S t rules may main f) (le : 0 + rules.charge main ≤ most_charge) where
    abbrev charge : ℕ
    charge = rules.charge main

    abbrev S1 : Setting
    S1 = called V (suc fuel) (first + charge)

    abbrev world : World
    world = world_of t S.input main (calls_to (suc fuel) rules t S.input)

    abbrev st1 : State
    st1 = record st0 { charge = 0 + charge }

    ready : Ready (at_file S1) opens.bases st1 m1 0 charge
    ready = record {
      lies = lies_over first 1 (first + 0) opens.lies (omega arith) (omega arith);
      letters = letters_later S.ground opens.bases opens.bases t.objects t.objects (first_memory S.program) m1.memory first first (omega arith) (post_over opens.bases t.objects (first_memory S.program) first 1 (omega arith)) opens.letters;
      names = opens.file first;
      file = opens.file;
      room = omega arith;
      under = let e = fit.level (0 + charge) 0 in omega (arith, e, le);
      fits = omega (arith, fit.top, le);
      fuelled = omega arith;
    }

    main_follows : F V (here (front 0) m0 st0) x0 (rate + 4) (runs f t.names (suc fuel) world [] st1) Home
    main_follows =
        let there = text1.there main f is in
        let lands = body_lands S1 world u rate may f entry charge (agrees_at V t rules first u rate may pays fit1 can1 text1 uses (suc fuel) (first + charge) main f is) pays (text_calls V t rules first u rate may pays fit1 can1 text1 uses (suc fuel) (first + charge) main f is) (function_at V t rules first u rate may pays fit1 can1 text1 uses (suc fuel) (first + charge) main f is) there.small there.code in
        let body0 = lands.at [] opens.bases st1 m1 ready tt in
        let Q1 : Claim Value = Reached S1 opens.bases st1 m1.memory first 0 (front (word_at m1.memory first)) (InA S1) in
        let body1 : F V (here (front entry) m1 st1) x0 rate (runs f t.names (suc fuel) world [] st1) Q1 = subst (λ z. F V (here (front entry) m1 st1) x0 rate (runs f z (suc fuel) world [] st1) Q1) text.names body0 in
        let home : ◌≡◌ {A = ℕ} (word_at m1.memory first) 1 = word_at-with_word_same (first_memory S.program) first 1 in
        first_then S.program S.input V.mode 4 rate (rate + 4) (runs f t.names (suc fuel) world [] st1) Home (opens_main (omega (arith, there.small)))
        (wider S.program S.input V.mode (here (front entry) m1 st1) x0 rate rate (runs f t.names (suc fuel) world [] st1) Q1 Home body1 (λ v st s m q. q.place ∙ ap front home) (omega arith)) (omega arith)

  abbrev main_run : Option Definition → Run Value
  main_run x = charged_run rules t S.input (calls_to (suc fuel) rules t S.input) (suc fuel) main x []

  call_follows : (x : Option Definition) → function_named t main ≡ x → F V (here (front 0) m0 st0) x0 (rate + 4) (main_run x st0) Home
  unfolding charged_run
  call_follows None e = undefined_follows S.program S.input V.mode OutsideObject (front 0) m0 st0 x0 (rate + 4) Home
  call_follows (Some f) e = charged_follows S.program S.input V.mode (rules.charge main) (runs f t.names (suc fuel) (world_of t S.input main (calls_to (suc fuel) rules t S.input)) []) (front 0) m0 st0 (rate + 4) Home (λ le. main_follows f (inr refl, opens.main, e) le)

  abbrev Over : Claim Value
  Over v st s m = length S.program.blocks ≤ s.block

  whole_follows : F V (here (front 0) m0 st0) x0 (rate + 5) (eval rules t S.input fuel) Over
  unfolding run_of eval
  whole_follows =
      then_follows S.program S.input V.mode (here (front 0) m0 st0) x0 (rate + 4) 1 (rate + 5) (main_run (function_named t main)) st0 (λ v. exit {A = Value}) Home Over (call_follows (function_named t main) refl)
      (λ v st s m le q. subst (λ z. F V (here z m st) (fuel_of st) 1 (exit {A = Value} st) Over) (sym q) (exit_follows S.program S.input V.mode (front 1) m st Over opens.code.1.1.1.1.0)) (omega arith)

  -- ---- what the program shows

  abbrev start : Moment Config
  start = at_start (eir_start S.program)

  start_is : start ≡ here (front 0) m0 st0
  start_is = ap (λ (z : ℕ). at_start (record { block = z; index = 0; regs = zeros; memory = first_memory S.program })) opens.start

  bounded : (count left : ℕ) → count + worth rate left ≤ (rate + 5) + worth rate fuel → count + left ≤ (rate + 5) * (fuel + 1)
  bounded count left h = omega (arith, h, worth_above rate left some, worth_times rate fuel)

  over : (s : Place) (m : Machine) (st : State) → length S.program.blocks ≤ s.block → (eir_rule S.program).standing (here s m st).config ≡ status.Ended
  over s m st le = ap (λ b. cond b status.Going status.Ended) (test s.block (length S.program.blocks) le)
    where
      test : (a b : ℕ) → b ≤ a → nat_lt a b ≡ false
      test a b le = grind (arith, le)

  inside_still : (s : Place) (m : Machine) (st : State) → s.block < length S.program.blocks → (eir_rule S.program).standing (here s m st).config ≡ status.Going
  inside_still s m st lt = ap (λ b. cond b status.Going status.Ended) (lt-ltb s.block (length S.program.blocks) lt)

  is_over : (s : Place) (m : Machine) (st : State) → Comes S.program S.input V.mode start x0 (rate + 5) (here s m st) (fuel_of st) → length S.program.blocks ≤ s.block → IsFaithful S.program S.input fuel ((rate + 5) * (fuel + 1)) (seen end.Ended st)
  is_over s m st c le =
      let n = c.count + st.left in
      let still : (eir_rule S.program).standing (run_from (eir_rule S.program) S.input start c.count).config ≢ status.Going =
      λ g. (let e : status.Ended ≡ status.Going = sym (over s m st le) ∙ (ap (λ (x : Moment Config). (eir_rule S.program).standing x.config) (sym c.ends) ∙ g) in cc e) in
      let same : run (eir_rule S.program) (eir_start S.program) S.input n ≡ here s m st = run_from-over (eir_rule S.program) S.input start c.count n (omega arith) still ∙ c.ends in (
        n,
        omega (arith, c.spent),
        bounded c.count st.left c.paid,
        record { output = ap (λ (x : Moment Config). x.output) same; taken = ap (λ (x : Moment Config). x.taken) same },
        ap (λ (x : Moment Config). (eir_rule S.program).standing x.config) same ∙ over s m st le,
      )

  shown : (r : Outcome Value) → F V start x0 (rate + 5) r Over → IsFaithful S.program S.input fuel ((rate + 5) * (fuel + 1)) (meaning_in r)
  shown (Gives v st) (s, m, c, le) = is_over s m st c le
  shown (Ended st) (s, m, c, le) = is_over s m st c le
  shown (Going st) (s, m, i, c, lt) =
      let b = bounded c.count 0 c.paid in (
        c.count,
        omega (arith, c.spent),
        omega (arith, b),
        record { output = ap (λ (x : Moment Config). x.output) c.ends; taken = ap (λ (x : Moment Config). x.taken) c.ends },
        ap (λ (x : Moment Config). (eir_rule S.program).standing x.config) c.ends ∙ inside_still s m st lt,
      )
  shown (Undefined act st) (s, m, y, c) =
      let b = bounded c.count y.left c.paid in (
        c.count,
        tt,
        omega (arith, b),
        record { output = ap (λ (x : Moment Config). x.output) c.ends; taken = ap (λ (x : Moment Config). x.taken) c.ends },
        tt,
      )

  pub faithful : IsFaithful S.program S.input fuel ((rate + 5) * (fuel + 1)) (meaning_in (eval rules t S.input fuel))
  faithful = shown (eval rules t S.input fuel) (subst (λ z. F V z x0 (rate + 5) (eval rules t S.input fuel) Over) (sym start_is) whole_follows)
