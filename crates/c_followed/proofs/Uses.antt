-- Uses of helper functions land, and the calls in them, by induction on how deep they go.
use Rattle.std.proofs.Common.{◌≡◌, inl, inr, ℕ, zero, suc, ◌+◌, ◌*◌, ◌^◌, ◌<◌, ◌≤◌, Bool, true, false, List, [], ◌∷◌, length, Option, Some, None, refl, sym, ap, ◌∙◌, subst, arith}
use Rattle.eir_core.specs.Memory.{Memory, word_at}
use Rattle.eir_core.specs.declared.ops.Op.{Op}
use Rattle.c_types.specs.Types.{CTypes}
use Rattle.c_eval.specs.State.{Value, Word, Null, Point, Letter, Function, Missing, State, OutsideObject, Outcome, Gives, Ended, Going, Undefined, Run}
use Rattle.c_eval.specs.Run.{undefined, paid}
use Rattle.c_eval.specs.Environment.{Callee, Direct}
use Rattle.c_eval.specs.Eval.{World}
use Rattle.c_eval.specs.Text.{Definition, Text, function_named}
use Rattle.c_eval.specs.Meaning.{runs}
use Rattle.c_eval.specs.Helpers.{Helpers, behind_use, helped, own_charged, helper_world, helper_runs, known_or, helper_calls, guarded, use_depth, helps_to}
use Rattle.c_place.specs.Place.{Place, behind_all, Machine, moment}
use Rattle.c_lowered.specs.Locations.{Linking}
use Rattle.c_memory.specs.Follows.{Fuel, fuel_of, worth, here, Comes}
use Rattle.c_memory.specs.Lies.{Extent, Whole, Before, reached, Ground, Means}
use Rattle.c_memory.proofs.Entering.{into_helper}
use Rattle.c_memory.proofs.Following.{Claim, worth_more, worth_none, comes_here, comes_one, looser, first_then, wider, undefined_follows, unit_then, spare_follows, helped_follows}
use Rattle.c_landing.specs.Landing.{Names, Setting, Ready, Reached, InA}
use Rattle.c_landing.proofs.Landing.{F}
use Rattle.c_valued.specs.Calls.{WordsMean, CallsLand}
use Rattle.c_valued.proofs.Built.{paid_undefined}
use Rattle.c_followed.specs.Bodies.{inside}
use Rattle.c_followed.specs.Framed.{outside, OpensFrame, CallLands, calling, called, MayCall, MayBeCalled, FramesFit}
use Rattle.c_followed.proofs.Calls.{calls_by}
use Rattle.c_followed.specs.Used.{in_helper, IsCalled, HelpersStand, UndefinedIsSilent}
use Rattle.c_followed.proofs.Helping.{Helped, helper_follows, spare_pays, agrees_at, helper_body}

-- ---- arguments, where pointers reach the objects that are there

means_into : (g : Ground) (bs : List Extent) (v : Value) (w : ℕ) → g.reach ≡ Whole → Means g bs v w → Means (record g { reach = Before (length bs) }) bs v w
means_into g bs (Word n) w whole h = h
means_into g bs Null w whole h = h
means_into g bs (Point o k) w whole h = (omega (arith, h.0, ap (λ r. reached r bs) whole), h.1, h.2)
means_into g bs (Letter f i text k) w whole h = h
means_into g bs (Function name) w whole h = h
means_into g bs Missing w whole h = tt

pub words_into : (g : Ground) (bs : List Extent) (mem : Memory) (a : ℕ) (vs : List Value) → g.reach ≡ Whole → WordsMean g bs mem a vs → WordsMean (record g { reach = Before (length bs) }) bs mem a vs
words_into g bs mem a [] whole h = tt
words_into g bs mem a (v ∷ vs) whole h = (means_into g bs v (word_at mem a) whole h.0, words_into g bs mem (suc a) vs whole h.1)

pub worth_times : (d u : ℕ) → worth d u ≡ d * u
worth_times d zero = omega (arith, worth_none d)
worth_times d (suc u) = let r = worth_times d u in omega (arith, worth_more d u, r)

module _ (S : Setting) (t : Text) (h : Helpers) (rate spare_rate : ℕ) (may : Callee → Bool) (can : MayCall S may) (stand : HelpersStand S t h spare_rate may) where
  -- ---- calls by helper functions

  abbrev world : ℕ → List ℕ → World
  world deep name = helper_world t S.input name (helper_calls deep h t S.input)

  module _ (first bottom : ℕ) (top : bottom + 1024 < 2 ^ 24) where
    abbrev I : Setting
    I = in_helper S rate spare_rate h.ration first bottom

    module _ (n : ℕ) (below : (roof : ℕ) (name : List ℕ) (f : Definition) → IsCalled t may name f → CallsLand (inside (called I n roof) f) (world n name) 0 may) (roof : ℕ) (linking : Linking) (coded named : Names) (name : List ℕ) where
      abbrev T : Setting
      T = calling I (suc n) roof linking coded named

      own_follows : (f : Definition) → IsCalled t may name f → (code : List Op) (c d room : ℕ) (vs : List Value) (s : Place) (bs : List Extent) (st : State) (m : Machine) → OpensFrame S.program S.input code s m d (S.ground.entry name) c → Ready T bs st m d room → WordsMean I.ground bs m.memory (m.regs.bp + suc d) vs
          → F T (here s m st) (fuel_of st) (c + 2 + 0) (paid true (own_charged (h.charge name) (runs f [] n (world n name) vs)) st) (Reached T bs st m.memory m.regs.bp d (behind_all s code) (InA T))
      own_follows f is code c d room vs s bs st m o r args =
          let run = own_charged (h.charge name) (runs f [] n (world n name) vs) in
          let Q : Claim Value = Reached T bs st m.memory m.regs.bp d (behind_all s code) (InA T) in
          spare_follows S.program S.input I.mode run s m st (c + 2 + 0) Q (λ i left.
          let st2 : State = record st { spare = i } in
          let x : Fuel = record { left = st.left; spare = suc i } in
          let y : Fuel = record { left = st.left; spare = i } in
          let one = spare_pays S t h rate spare_rate may stand first bottom st.left i in
          let less : I.mode.gauge y < I.mode.gauge (fuel_of st) = subst (λ z. I.mode.gauge y < I.mode.gauge (record { left = st.left; spare = z })) (sym left) one.gauge in
          let helped = helper_follows S I.mode first bottom n name f (world n name) (h.charge name) (h.charge name) spare_rate (λ roof. helper_body S t h rate spare_rate may stand first bottom n roof name f (helper_calls n h t S.input) is (below roof name f is)) code c d vs s (Before first) bs st2 m o r.lies r.letters args r.lies.seen (omega arith) (omega (arith, r.room, r.under)) top (omega (arith, less, r.fuelled)) in
          let follows = wider S.program S.input I.mode (here o.next o.moved st2) y (c + (spare_rate + 1)) (c + (spare_rate + 1)) (run st2) (Helped I.ground bs st2 m d (behind_all s code)) Q helped
          (λ v st4 s4 m4 q. record { place = q.place; bases = q.bases; left = record { framed = q.framed; lies = q.lies; post = q.post; charge = q.charge; words = q.words }; means = q.means }) (omega arith) in
          let go = unit_then S.program S.input I.mode (here s m st) (here o.next o.moved st) x y spare_rate (c + (spare_rate + 1)) (c + 2 + 0) (run st2) Q (o.step st) one follows (omega arith) in
          subst (λ z. F T (here s m st) (record { left = st.left; spare = z }) (c + 2 + 0) (run st2) Q) (sym left) go)

      next : MayBeCalled I may name → CallLands T name 0 (λ vs. helper_calls (suc n) h t S.input name vs)
      unfolding helper_runs known_or helper_calls
      next (inr (params, e, some)) = absurd (let f : true ≡ false = sym e ∙ stand.through params in cc f)
      next (inl (params, e)) = by (h.known name) (stand.unknown name params e) (function_named t name) refl
        where
          by : (x : Option (List Value → Run Value)) → x ≡ None → (y : Option Definition) → function_named t name ≡ y → CallLands T name 0 (λ vs. known_or x vs (paid true (helper_runs h t S.input (helper_calls n h t S.input) n name y vs)))
          by (Some z) e y f = absurd (cc e)
          by None e None f = record { at = λ code c d room vs s bs st m standing o r args words. paid_undefined T s m st _ standing true OutsideObject (c + 2 + 0) }
          by None e2 (Some g) f = record { at = λ code c d room vs s bs st m standing o r args words. own_follows g ((params, e), f) code c d room vs s bs st m o r args }

    calls_in : (deep : ℕ) → ((roof : ℕ) (linking : Linking) (coded named : Names) (name : List ℕ) → MayBeCalled I may name → CallLands (calling I deep roof linking coded named) name 0 (λ vs. helper_calls deep h t S.input name vs)) → (roof : ℕ) (name : List ℕ) (f : Definition) → IsCalled t may name f
        → CallsLand (inside (called I deep roof) f) (world deep name) 0 may
    calls_in deep lands roof name f is =
        let T1 = inside (called I deep roof) f in
        calls_by T1 (world deep name) 0 spare_rate may (agrees_at S t h rate spare_rate may stand first bottom deep roof name f (helper_calls deep h t S.input) is) (spare_pays S t h rate spare_rate may stand first bottom) (record { direct = can.direct; built_in = can.built_in; format = can.format; bytes = can.bytes })
        (λ bases coded named other may_be. lands roof (record T1.linking { bases = bases }) coded named other may_be)

    pub nested : (deep roof : ℕ) (linking : Linking) (coded named : Names) (name : List ℕ) → MayBeCalled I may name → CallLands (calling I deep roof linking coded named) name 0 (λ vs. helper_calls deep h t S.input name vs)
    nested zero roof linking coded named name may_be = record { at = λ code c d room vs s bs st m standing o r args words. absurd (omega (arith, r.fuelled)) }
    nested (suc n) roof linking coded named name may_be = next n (calls_in n (nested n)) roof linking coded named name may_be

  -- ---- uses

  module _ (file u : ℕ) (whole : S.ground.reach ≡ Whole) (fit : FramesFit S file) (le : spare_rate + worth spare_rate h.ration ≤ u) (deep roof : ℕ) (linking : Linking) (coded named : Names) (name : List ℕ) (params : CTypes) (operator : List Value → Run Value) (may_be : may (Direct name params) ≡ true) (silent : UndefinedIsSilent operator) where
    abbrev V : Setting
    V = calling (outside S rate) deep roof linking coded named

    module _ (code : List Op) (c d room : ℕ) (vs : List Value) (s : Place) (bs : List Extent) (st : State) (m : Machine) (o : OpensFrame S.program S.input code s m d (S.ground.entry name) c) (r : Ready V bs st m d room) (args : WordsMean S.ground bs m.memory (m.regs.bp + suc d) vs) where
      abbrev depth : ℕ
      depth = use_depth h.ration st.left

      abbrev Q : Claim Value
      Q = Reached V bs st m.memory m.regs.bp d (behind_all s code) (InA V)

      abbrev used : Option Definition → Run Value
      used x = helped h.ration (helper_runs h t S.input (helper_calls depth h t S.input) depth name x vs)

      own_use : (f : Definition) → function_named t name ≡ Some f → F V (here s m st) (fuel_of st) (c + 2 + u) (used (Some f) st) Q
      unfolding helper_runs
      own_use f is =
          let st2 : State = record st { spare = h.ration; words = 0 } in
          let bottom = m.regs.bp + d in
          let run = own_charged (h.charge name) (runs f [] depth (world depth name) vs) in
          let level = fit.level st.charge st.words in
          let top : bottom + 1024 < 2 ^ 24 = omega (arith, r.room, r.under, level, fit.top) in
          let all = ap (λ z. reached z bs) whole in
          let here_is : IsCalled t may name f = ((params, may_be), is) in
          let depth_is = worth_times (suc h.ration) st.left in
          let inner = helper_follows S (in_helper S rate spare_rate h.ration (length bs) bottom).mode (length bs) bottom depth name f (world depth name) (h.charge name) (h.charge name) spare_rate (λ roof. helper_body S t h rate spare_rate may stand (length bs) bottom depth roof name f (helper_calls depth h t S.input) here_is (calls_in (length bs) bottom top depth (nested (length bs) bottom top depth) roof name f here_is)) code c d vs s S.ground.reach bs st2 m o
          (into_helper S.ground bs st.objects m.memory bottom whole r.lies) r.letters (words_into S.ground bs m.memory (m.regs.bp + suc d) vs whole args) r.lies.seen (omega (arith, all)) (omega arith) top (omega (arith, depth_is)) in
          let claimed = wider S.program S.input (in_helper S rate spare_rate h.ration (length bs) bottom).mode (here o.next o.moved st2) (fuel_of st2) (c + (spare_rate + 1)) (c + (spare_rate + 1)) (run st2) (Helped S.ground bs st2 m d (behind_all s code)) (λ v after s1 m1. Q v (behind_use st after) s1 m1) inner
          (λ v st4 s4 m4 q. record { place = q.place; bases = q.bases; left = record { framed = q.framed; lies = q.lies; post = q.post; charge = q.charge; words = refl }; means = q.means }) (omega arith) in
          first_then S.program S.input V.mode 1 (c + (spare_rate + 1) + worth spare_rate h.ration) (c + 2 + u) (helped h.ration run st) Q (comes_one S.program S.input V.mode (fuel_of st) (o.step st))
          (helped_follows S.program S.input rate spare_rate h.ration (c + (spare_rate + 1)) run (here o.next o.moved st) st Q claimed) (omega (arith, le))

      any_use : (x : Option Definition) → function_named t name ≡ x → F V (here s m st) (fuel_of st) (c + 2 + u) (used x st) Q
      unfolding helper_runs
      any_use (Some f) is = own_use f is
      any_use None is =
          let claimed : Claim Value = λ v after s1 m1. Q v (behind_use st after) s1 m1 in
          let st2 : State = record st { spare = h.ration; words = 0 } in
          let inner = undefined_follows S.program S.input (in_helper S rate spare_rate h.ration 0 0).mode {A = Value} OutsideObject s m st2 (fuel_of st2) 0 claimed in
          wider S.program S.input V.mode (here s m st) (fuel_of st) (0 + worth spare_rate h.ration) (c + 2 + u) (helped h.ration (undefined OutsideObject) st) Q Q (helped_follows S.program S.input rate spare_rate h.ration 0 (undefined OutsideObject) (here s m st) st Q inner) (λ v st4 s4 m4 q. q) (omega (arith, le))

      guard : (x : Outcome Value) → operator vs st ≡ x → (y : Outcome Value) → F V (here s m st) (fuel_of st) (c + 2 + u) y Q → F V (here s m st) (fuel_of st) (c + 2 + u) (guarded x y) Q
      unfolding guarded
      guard (Gives v st1) e y f = f
      guard (Ended st1) e y f = f
      guard (Going st1) e y f = f
      guard (Undefined act st1) e y f =
          let same = silent vs st st1 act e in
          let x = fuel_of st in
          let stays = looser S.program S.input V.mode 0 (c + 2 + u) (comes_here S.program S.input V.mode (here s m st) x) (omega arith) in
          (s, m, x, subst (λ z. Comes S.program S.input V.mode (here s m st) x (c + 2 + u) (moment s m z st1.output) x) (sym same.0) (subst (λ z. Comes S.program S.input V.mode (here s m st) x (c + 2 + u) (moment s m st.taken z) x) (sym same.1) stays))

      use_follows : F V (here s m st) (fuel_of st) (c + 2 + u) (helps_to h t S.input name operator vs st) Q
      unfolding helps_to
      use_follows = guard (operator vs st) refl (used (function_named t name) st) (any_use (function_named t name) refl)

    use_there : CallLands V name u (helps_to h t S.input name operator)
    use_there = record { at = λ code c d room vs s bs st m standing o r args words. use_follows code c d room vs s bs st m o r args }

pub use_lands : (S : Setting) (t : Text) (h : Helpers) (first rate spare_rate u : ℕ) (may : Callee → Bool) → S.ground.reach ≡ Whole → FramesFit S first → MayCall S may → HelpersStand S t h spare_rate may → spare_rate + worth spare_rate h.ration ≤ u
    → (deep roof : ℕ) (linking : Linking) (coded named : Names) (name : List ℕ) (params : CTypes) (operator : List Value → Run Value) → may (Direct name params) ≡ true → UndefinedIsSilent operator → CallLands (calling (outside S rate) deep roof linking coded named) name u (helps_to h t S.input name operator)
use_lands S t h first rate spare_rate u may whole fit can stand le deep roof linking coded named name params operator is silent = use_there S t h rate spare_rate may can stand first u whole fit le deep roof linking coded named name params operator is silent
