-- Uses of functions that print.
use Rattle.std.proofs.Common.{◌≡◌, inl, inr, ℕ, zero, suc, ◌+◌, ◌^◌, ◌<◌, ◌≤◌, Bool, false, List, [], ◌∷◌, length, Option, Some, refl, sym, ap, subst, arith}
use Rattle.mach_core.specs.Rule.{Moment}
use Rattle.eir_core.specs.Eir.{Eir}
use Rattle.eir_core.specs.Step.{Config}
use Rattle.eir_core.specs.Memory.{Memory, word_at}
use Rattle.eir_core.specs.declared.ops.Op.{Op}
use Rattle.c_syntax.specs.Plain.{MoreStmt, Block}
use Rattle.c_eval.specs.State.{Value, Word, Null, Point, Letter, Function, Missing, Object, State, Act, Outcome, Gives, Ended, Going, Undefined, Run}
use Rattle.c_eval.specs.Run.{give, paid}
use Rattle.c_eval.specs.Environment.{Callee}
use Rattle.c_eval.specs.Eval.{World}
use Rattle.c_eval.specs.Text.{Definition, Text, function_named}
use Rattle.c_eval.specs.Meaning.{runs}
use Rattle.c_eval.specs.Helpers.{Helpers, leaving, behind_use, helped, own_charged, helper_world, helper_runs, helper_calls, guarded, use_depth, helps_to}
use Rattle.c_helpers.specs.Functions.{unit_name, spend_unit}
use Rattle.c_place.specs.Place.{Place, behind_all, Machine, moment}
use Rattle.c_lowered.specs.Locations.{Linking}
use Rattle.c_memory.specs.Follows.{Fuel, fuel_of, worth, outer, here, Comes, Follows}
use Rattle.c_memory.specs.Lies.{Extent, Ground, Means, Whole, reached}
use Rattle.c_memory.proofs.Entering.{into_helper}
use Rattle.c_memory.proofs.Following.{Claim, comes_here, looser, comes_one, first_then, wider}
use Rattle.c_landing.specs.Landing.{Names, Setting, Ready, Reached, InA}
use Rattle.c_landing.specs.Few.{words_there, Agrees}
use Rattle.c_landing.proofs.Landing.{F}
use Rattle.c_valued.specs.Calls.{WordsMean}
use Rattle.c_stated.specs.Statements.{DeclaresNothing, stmt_need}
use Rattle.c_followed.specs.Bodies.{inside, beginning, BodyLands, PerformedBy}
use Rattle.c_followed.proofs.Bodies.{performed_lands}
use Rattle.c_followed.specs.Framed.{outside, OpensFrame, CallLands, calling, called, FramesFit, StandsThere}
use Rattle.c_followed.specs.Used.{in_helper_by}
use Rattle.c_followed.proofs.Helping.{Helped, helper_follows}
use Rattle.c_followed.proofs.Uses.{worth_times, words_into}
use Rattle.c_failing.specs.Failing.{Fails, FailsSince, IsArgument, AreArguments, own_run, FailsAlike}
use Rattle.c_followed.specs.Printed.{in_pieces, PrinterIs, PiecesLand}
use Rattle.c_followed.proofs.Pieces.{unit_pays, unit_is, pieces_called}
use Rattle.c_followed.proofs.Printers.{printer_performed}

-- ---- a use, seen from outside: its first second fuel is paid for at once

module _ (p : Eir) (input : List ℕ) (d h r : ℕ) where
  pieces_outside : {a b : Moment Config} {x y : Fuel} (c spare n : ℕ) → Comes p input (in_pieces d h r) a (record { left = x.left; spare = spare }) c b y → Comes p input (outer d) a x (c + worth h spare) b (record { left = y.left; spare = n })
  pieces_outside c spare n f = record { count = f.count; ends = f.ends; spent = f.spent; less = f.less; down = f.less; paid = omega (arith, f.paid) }

  outside_follows : {A : Type 0} (c : ℕ) (a : Moment Config) (st : State) (o : Outcome A) (Q : Claim A) → Follows p input (in_pieces d h r) a (record { left = st.left; spare = r }) c o (λ v after s m. Q v (behind_use st after) s m) → Follows p input (outer d) a (fuel_of st) (c + worth h r) (leaving (behind_use st) o) Q
  unfolding leaving
  outside_follows c a st (Gives v after) Q (s, m, g, q) = (s, m, pieces_outside {x = fuel_of st} c r st.spare g, q)
  outside_follows c a st (Ended after) Q (s, m, g, q) = (s, m, pieces_outside {x = fuel_of st} c r st.spare g, q)
  outside_follows c a st (Going after) Q (s, m, n, g, q) = (s, m, n, pieces_outside {x = fuel_of st} c r n g, q)
  outside_follows c a st (Undefined act after) Q (s, m, z, g) = (s, m, z, pieces_outside {x = fuel_of st} c r z.spare g)

abbrev failed : Act → State → Outcome Value
failed act st = Undefined act st

-- ---- a use's arguments

value_is_argument : (g : Ground) (bs : List Extent) (os : List Object) (v : Value) (n : ℕ) → reached g.reach bs ≤ length os → Means g bs v n → IsArgument os v
value_is_argument g bs os (Word w) n le means = means.1
value_is_argument g bs os (Point o k) n le means = omega (arith, le, means.0)
value_is_argument g bs os Null n le means = tt
value_is_argument g bs os (Letter f i text k) n le means = tt
value_is_argument g bs os (Function f) n le means = tt
value_is_argument g bs os Missing n le means = tt

words_are_arguments : (g : Ground) (bs : List Extent) (mem : Memory) (a : ℕ) (os : List Object) (vs : List Value) → reached g.reach bs ≤ length os → WordsMean g bs mem a vs → AreArguments os vs
words_are_arguments g bs mem a os [] le means = tt
words_are_arguments g bs mem a os (v ∷ vs) le means = (value_is_argument g bs os v (word_at mem a) le means.0, words_are_arguments g bs mem (suc a) os vs le means.1)

-- ---- a use

module _ (S : Setting) (t : Text) (h : Helpers) (file rate spare_rate pieces u : ℕ) (may : Callee → Bool) (whole : S.ground.reach ≡ Whole) (fit : FramesFit S file) (land : PiecesLand S t h rate spare_rate pieces may) (le : 3 + worth spare_rate h.ration ≤ u)
    (deep roof : ℕ) (linking : Linking) (coded named : Names) (name : List ℕ) (f : Definition) (operator : List Value → Run Value) (is : PrinterIs S t h pieces rate may name f) (agreeing : (calls : List ℕ → List Value → Run Value) → Agrees (inside S f) (helper_world t S.input name calls)) (there : StandsThere S name f) (fails : FailsAlike h t S.input name operator) where
  abbrev V : Setting
  V = calling (outside S rate) deep roof linking coded named

  abbrev charge : ℕ
  charge = h.charge name

  abbrev frame : ℕ
  frame = h.charge name + words_there name

  abbrev world : ℕ → World
  world depth = helper_world t S.input name (helper_calls depth h t S.input)

  -- its code in its frame
  module _ (first bottom : ℕ) (top : bottom + 1024 < 2 ^ 24) (depth : ℕ) where
    abbrev P : Setting
    P = in_helper_by (in_pieces rate spare_rate h.ration) S first bottom

    agrees_at : (roof : ℕ) → Agrees (inside (called P depth roof) f) (world depth)
    agrees_at roof = let a = agreeing (helper_calls depth h t S.input) in record {
      input = a.input;
      owner = a.owner;
      reach = λ e. absurd (cc e);
      entries = a.entries;
      blocks = a.blocks;
      stands = a.stands;
      own = a.own;
      functions_apart = a.functions_apart;
      literals = a.literals;
      letters = a.letters;
      letters_apart = a.letters_apart;
    }

    spends : (deep : ℕ) (st : State) → P.mode.gauge (fuel_of st) < deep → helper_calls deep h t S.input unit_name [] st ≡ paid false (give Missing) st
    spends zero st lt = absurd (omega (arith, lt))
    spends (suc k) st lt = ap (λ run. run st) (unit_is S t h rate spare_rate pieces may land first bottom top k [])

    performed : (roof : ℕ) → PerformedBy (inside (called P depth roof) f) (world depth) 1 (Block (MoreStmt spend_unit is.rest)) (beginning (called P depth roof) f)
    performed roof =
        printer_performed (inside (called P depth roof) f) (world depth) (agrees_at roof) pieces rate may (pieces_called S t h rate spare_rate pieces may land first bottom top depth roof name f (agrees_at roof)) (unit_pays S t h rate spare_rate pieces may land first bottom top) (spends depth)
        is.rest (beginning (called P depth roof) f) is.straight (is.is (helper_calls depth h t S.input)) is.paid

    body : (roof : ℕ) → BodyLands (called P depth roof) (world depth) f (S.ground.entry name) frame 3
    body roof =
        let S1 = called P depth roof in
        let same : Block (MoreStmt spend_unit is.rest) ≡ f.body = sym is.body in
        let performed1 = subst (λ z. PerformedBy (inside S1 f) (world depth) 1 z (beginning S1 f)) same (performed roof) in
        let framed1 = subst (λ z. suc (length f.params) + stmt_need z (beginning S1 f) ≤ frame) same is.framed in
        let declares1 = subst (λ z. DeclaresNothing z) same tt in
        performed_lands S1 (world depth) f (S.ground.entry name) frame 1 3 (agrees_at roof) performed1 declares1 is.breaks framed1 (omega arith) there.small there.code

  module _ (code : List Op) (c d room : ℕ) (vs : List Value) (s : Place) (bs : List Extent) (st : State) (m : Machine) (o : OpensFrame S.program S.input code s m d (S.ground.entry name) c) (r : Ready V bs st m d room) (args : WordsMean S.ground bs m.memory (m.regs.bp + suc d) vs) (words : words_there name ≤ room) where
    abbrev depth : ℕ
    depth = use_depth h.ration st.left

    abbrev Q : Claim Value
    Q = Reached V bs st m.memory m.regs.bp d (behind_all s code) (InA V)

    abbrev ran : Option Definition → Run Value
    ran x = helper_runs h t S.input (helper_calls depth h t S.input) depth name x vs

    use_follows : F V (here s m st) (fuel_of st) (c + 2 + u) (helped h.ration (ran (Some f)) st) Q
    unfolding helped helper_runs
    use_follows =
        let st2 : State = record st { spare = h.ration; words = 0 } in
        let bottom = m.regs.bp + d + room in
        let mode = in_pieces rate spare_rate h.ration in
        let run = own_charged charge (runs f [] depth (world depth) vs) in
        let level = fit.level st.charge st.words in
        let top : bottom + 1024 < 2 ^ 24 = omega (arith, r.room, r.under, level, fit.top) in
        let all = ap (λ z. reached z bs) whole in
        let depth_is = worth_times (suc h.ration) st.left in
        let inner = helper_follows S mode (length bs) bottom depth name f (world depth) charge frame 3 (body (length bs) bottom top depth) code c d vs s S.ground.reach bs st2 m o
        (into_helper S.ground bs st.objects m.memory (m.regs.bp + d) whole r.lies) r.letters (words_into S.ground bs m.memory (m.regs.bp + suc d) vs whole args) r.lies.seen (omega (arith, all)) (omega (arith, words)) top (omega (arith, depth_is)) in
        let claimed = wider S.program S.input mode (here o.next o.moved st2) (fuel_of st2) (c + (3 + 1)) (c + (3 + 1)) (run st2) (Helped S.ground bs st2 m d (behind_all s code)) (λ v after s1 m1. Q v (behind_use st after) s1 m1) inner
        (λ v st4 s4 m4 q. record { place = q.place; bases = q.bases; left = record { framed = q.framed; lies = q.lies; post = q.post; charge = q.charge; words = refl }; means = q.means }) (omega arith) in
        first_then S.program S.input V.mode 1 (c + (3 + 1) + worth spare_rate h.ration) (c + 2 + u) (leaving (behind_use st) (run st2)) Q (comes_one S.program S.input V.mode (fuel_of st) (o.step st))
        (outside_follows S.program S.input rate spare_rate h.ration (c + (3 + 1)) (here o.next o.moved st) st (run st2) Q claimed) (omega (arith, le))

    -- where the operator is undefined the run comes as far
    fails_too : (act other : Act) (st1 st2 : State) → st1.taken ≡ st2.taken → st1.output ≡ st2.output → F V (here s m st) (fuel_of st) (c + 2 + u) (failed other st2) Q → F V (here s m st) (fuel_of st) (c + 2 + u) (failed act st1) Q
    fails_too act other st1 st2 e g (s1, m1, y, k) =
        (s1, m1, y, subst (λ z. Comes S.program S.input V.mode (here s m st) (fuel_of st) (c + 2 + u) (moment s1 m1 z st1.output) y) (sym e) (subst (λ z. Comes S.program S.input V.mode (here s m st) (fuel_of st) (c + 2 + u) (moment s1 m1 st2.taken z) y) (sym g) k))

    -- its function's run fails alike
    run_fails_too : (act : Act) (st1 : State) (x : Outcome Value) → Fails st1.taken st1.output x → F V (here s m st) (fuel_of st) (c + 2 + u) (leaving (behind_use st) x) Q → F V (here s m st) (fuel_of st) (c + 2 + u) (failed act st1) Q
    unfolding leaving
    run_fails_too act st1 (Undefined other st2) a k = fails_too act other st1 (behind_use st st2) (sym a.0) (sym a.1) k
    run_fails_too act st1 (Gives v st2) a k = absurd a
    run_fails_too act st1 (Ended st2) a k = absurd a
    run_fails_too act st1 (Going st2) a k = absurd a

    -- it has shown nothing, or its function's run fails alike
    undefined_too : (act : Act) (st1 : State) → FailsSince st (failed act st1) (own_run h t S.input name vs st) → F V (here s m st) (fuel_of st) (c + 2 + u) (leaving (behind_use st) (own_run h t S.input name vs st)) Q → F V (here s m st) (fuel_of st) (c + 2 + u) (failed act st1) Q
    undefined_too act st1 (inl same) k = fails_too act act st1 st same.0 same.1 (s, m, fuel_of st, looser S.program S.input V.mode 0 (c + 2 + u) (comes_here S.program S.input V.mode (here s m st) (fuel_of st)) (omega arith))
    undefined_too act st1 (inr a) k = run_fails_too act st1 (own_run h t S.input name vs st) a k

    are_arguments : AreArguments st.objects vs
    are_arguments = words_are_arguments S.ground bs m.memory (m.regs.bp + suc d) st.objects vs (omega (arith, r.lies.seen, r.lies.count)) args

    guard : (x : Outcome Value) → operator vs st ≡ x → F V (here s m st) (fuel_of st) (c + 2 + u) (helped h.ration (ran (function_named t name)) st) Q → F V (here s m st) (fuel_of st) (c + 2 + u) (guarded x (helped h.ration (ran (function_named t name)) st)) Q
    unfolding guarded helped
    guard (Gives v st1) e k = k
    guard (Ended st1) e k = k
    guard (Going st1) e k = k
    guard (Undefined act st1) e k = undefined_too act st1 (subst (λ z. FailsSince st z (own_run h t S.input name vs st)) e (fails vs st are_arguments)) k

    whole_use : F V (here s m st) (fuel_of st) (c + 2 + u) (helps_to h t S.input name operator vs st) Q
    unfolding helps_to
    whole_use = guard (operator vs st) refl (subst (λ z. F V (here s m st) (fuel_of st) (c + 2 + u) (helped h.ration (ran z) st) Q) (sym is.found) use_follows)

  pub printer_lands : CallLands V name u (helps_to h t S.input name operator)
  printer_lands = record { at = λ code c d n vs s bs st m standing o r args words. whole_use code c d n vs s bs st m o r args words }
