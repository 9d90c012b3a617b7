-- Calls land, by induction on how deep they go.
use Rattle.std.proofs.Common.{◌≡◌, inl, inr, ℕ, zero, suc, ◌+◌, ◌<◌, ◌≤◌, Bool, true, false, List, length, Option, Some, None, refl, sym, ap, ◌∙◌, subst, arith}
use Rattle.c_eval.specs.State.{Value, State, OutsideObject, Run}
use Rattle.c_eval.specs.Run.{most_charge, paid, charged}
use Rattle.c_eval.specs.Environment.{Callee}
use Rattle.c_eval.specs.Eval.{World}
use Rattle.c_eval.specs.Text.{Definition, Text, function_named}
use Rattle.c_eval.specs.Meaning.{Rules, world_of, runs, charged_run, call_by, calls_to}
use Rattle.eir_core.specs.Memory.{word_at}
use Rattle.eir_core.specs.declared.ops.Op.{Op}
use Rattle.c_place.specs.Place.{Place, front, behind_all, Machine}
use Rattle.c_lowered.specs.Locations.{Location, Linking}
use Rattle.c_lowered.specs.Operations.{call_at, call_through_at}
use Rattle.c_memory.specs.Follows.{Fuel, fuel_of, Mode, here, Comes}
use Rattle.c_memory.specs.Lies.{Extent}
use Rattle.c_memory.proofs.Lying.{lies_up}
use Rattle.c_memory.proofs.Following.{Claim, first_then, more_behind, unit_then, unit_follows, charged_follows}
use Rattle.c_landing.specs.Landing.{Names, Setting, Ready, Reached, InA}
use Rattle.c_landing.specs.Few.{Agrees}
use Rattle.c_landing.proofs.Landing.{F}
use Rattle.c_valued.specs.Calls.{WordsMean, UnitPays, with_names, CallsLand}
use Rattle.c_valued.proofs.Built.{paid_undefined}
use Rattle.c_followed.specs.Bodies.{at_file, inside, FunctionIs}
use Rattle.c_followed.proofs.Bodies.{body_lands}
use Rattle.c_followed.specs.Framed.{OpensFrame, CallLands, calling, called, MayCall, MayBeCalled, FramesFit, IsOwn, TextStands, UsesLand}
use Rattle.c_followed.proofs.Opening.{direct_opens, through_opens}
use Rattle.c_followed.proofs.Entered.{word_back, lies_opened, letters_opened, arguments_opened, post_closed}

-- ---- all calls, where those of functions land

pays_nothing : (mode : Mode) (inner : Bool) (worth_one : ℕ) → UnitPays mode inner worth_one → UnitPays mode inner 0
pays_nothing mode false worth_one h = λ l n. (let o = h l n in record { left = o.left; less = o.less; gauge = o.gauge; paid = omega (arith, o.paid) })
pays_nothing mode true worth_one h = λ l n. (let o = h l n in record { left = o.left; less = o.less; gauge = o.gauge; paid = omega (arith, o.paid) })

pub calls_by : (S : Setting) (w : World) (u worth_one : ℕ) (may : Callee → Bool) → Agrees S w → UnitPays S.mode w.inner worth_one → MayCall S may → ((bases : List Location) (coded named : Names) (name : List ℕ) → MayBeCalled S may name → CallLands (with_names S bases coded named) name u (λ vs. w.calls name vs)) → CallsLand S w u may
calls_by S w u worth_one may agrees unit can lands = record {
  direct = λ bases coded named name params block d n is known words lt. record {
    at = λ vs s bs st m e stands r h.
        (lands bases coded named name (inl (params, is))).at (call_at d (suc block) (S.linking.entry name)) 3 d n vs s bs st m stands.0.inside
        (direct_opens S.program S.input s m d (omega (arith, r.room, r.fits)) (suc block) (S.linking.entry name) (S.ground.entry name) (ap suc (sym e)) lt (sym (agrees.entries name)) (agrees.blocks name) stands) r h words;
  };
  known = λ bases coded named name params block d n is known. absurd (let e : true ≡ false = sym known ∙ can.direct name params is in cc e);
  through = λ bases coded named name params block d n is some lt. record {
    at = λ vs s bs st m e stands r h.
        (lands bases coded named name (inr (params, is, some))).at (call_through_at d (suc block)) 4 d n vs s bs st m stands.0.inside
        (through_opens S.program S.input s m d (omega (arith, r.room, r.fits)) (suc block) (S.ground.entry name) (ap suc (sym e)) lt h.0 stands) r h.1 (let none = agrees.own name some in omega (arith, none));
  };
  built_in = λ name params is. (pays_nothing S.mode w.inner worth_one unit, can.built_in name params is);
  format = can.format;
  bytes = can.bytes;
}

-- ---- the functions of a text

module _ (S : Setting) (t : Text) (rules : Rules) (first u worth_one : ℕ) (may : Callee → Bool) (unit : UnitPays S.mode false worth_one) (fit : FramesFit S first) (can : MayCall S may) (text : TextStands S t rules u worth_one may) (uses : UsesLand S rules u may) where
  abbrev world : ℕ → List ℕ → World
  world deep name = world_of t S.input name (calls_to deep rules t S.input)

  pub agrees_at : (deep roof : ℕ) (name : List ℕ) (f : Definition) → IsOwn S t rules may name f → Agrees (inside (called S deep roof) f) (world deep name)
  agrees_at deep roof name f is = let a = text.agrees name f (calls_to deep rules t S.input) is in record {
    input = a.input;
    owner = a.owner;
    reach = a.reach;
    entries = a.entries;
    blocks = a.blocks;
    stands = a.stands;
    own = a.own;
    functions_apart = a.functions_apart;
    literals = a.literals;
    letters = a.letters;
    letters_apart = a.letters_apart;
  }

  pub function_at : (deep roof : ℕ) (name : List ℕ) (f : Definition) → IsOwn S t rules may name f → FunctionIs (called S deep roof) (world deep name) u may (rules.charge name) worth_one f
  function_at deep roof name f is = let h = text.is name f (calls_to deep rules t S.input) is in record { body = h.body; declares = h.declares; breaks = h.breaks; framed = h.framed; paid = h.paid }

  module _ (n : ℕ) (below : (roof : ℕ) (name : List ℕ) (f : Definition) → IsOwn S t rules may name f → CallsLand (inside (called S n roof) f) (world n name) u may) (roof : ℕ) (linking : Linking) (coded named : Names) (name : List ℕ) (f : Definition) (is : IsOwn S t rules may name f) (code : List Op) (c d room : ℕ) (vs : List Value) (s : Place) (bs : List Extent) (st : State) (m : Machine) (standing : s.block < length S.program.blocks)
      (o : OpensFrame S.program S.input code s m d (S.ground.entry name) c) (r : Ready (calling S (suc n) roof linking coded named) bs st m d room) (args : WordsMean S.ground bs m.memory (m.regs.bp + suc d) vs) where
    abbrev T : Setting
    T = calling S (suc n) roof linking coded named

    abbrev charge : ℕ
    charge = rules.charge name

    abbrev run : Run Value
    run = runs f t.names n (world n name) vs

    abbrev Q : Claim Value
    Q = Reached T bs st m.memory m.regs.bp d (behind_all s code) (InA T)

    module _ (l : ℕ) (fuel : st.left ≡ suc l) (le : st.charge + charge ≤ most_charge) where
      abbrev roof1 : ℕ
      roof1 = first + (st.charge + charge)

      abbrev S1 : Setting
      S1 = called S n roof1

      abbrev st2 : State
      st2 = record st { left = l }

      abbrev st3 : State
      st3 = record st2 { charge = st.charge + charge }

      below_roof : roof ≤ first + st.charge
      below_roof = let e = fit.level st.charge st.words in omega (arith, r.under, e, le)

      less : S.mode.gauge (fuel_of st2) < n
      less =
          let one = unit l st.spare in
          let more : S.mode.gauge (fuel_of st2) < S.mode.gauge (fuel_of st) = subst (λ z. S.mode.gauge (fuel_of st2) < S.mode.gauge (record { left = z; spare = st.spare })) (sym fuel) one.gauge in
          omega (arith, more, r.fuelled)

      ready : Ready (at_file S1) bs st3 o.opened 0 charge
      ready = record {
        lies = lies_opened S.program S.input code s m d (S.ground.entry name) c o S.ground bs st.objects r.lies;
        letters = letters_opened S.program S.input code s m d (S.ground.entry name) c o S.ground bs st.objects r.letters;
        names = r.file o.opened.regs.bp;
        file = r.file;
        room = omega (arith, o.framed, r.room, below_roof);
        under = let e = fit.level (st.charge + charge) st.words in omega (arith, e, le);
        fits = omega (arith, fit.top, le);
        fuelled = less;
      }

      abbrev Q1 : Claim Value
      Q1 = Reached S1 bs st3 o.opened.memory o.opened.regs.bp 0 (front (word_at o.opened.memory o.opened.regs.bp)) (InA S1)

      abbrev R : Claim Value
      R v st4 s4 m4 = Q v (record st4 { charge = st.charge }) s4 m4

      body : F S (here (front (S.ground.entry name)) o.opened st3) (fuel_of st3) worth_one (run st3) Q1
      body =
          let lands = body_lands S1 (world n name) u worth_one may f (S.ground.entry name) charge (agrees_at n roof1 name f is) unit (below roof1 name f is) (function_at n roof1 name f is) (text.there name f is).small (text.there name f is).code in
          let args1 = arguments_opened S.program S.input code s m d (S.ground.entry name) c o S.ground bs st.objects vs args in
          subst (λ z. F S (here (front (S.ground.entry name)) o.opened st3) (fuel_of st3) worth_one (runs f z n (world n name) vs st3) Q1) text.names (lands.at vs bs st3 o.opened ready args1)

      -- the frame is closed, and the charge is as it was
      home : (v : Value) (st4 : State) (s4 : Place) (m4 : Machine) → Q1 v st4 s4 m4 → (s5 : Place) × (m5 : Machine) × Comes S.program S.input S.mode (here s4 m4 st4) (fuel_of st4) 1 (here s5 m5 st4) (fuel_of st4) × R v st4 s5 m5
      home v st4 s4 m4 q =
          let at : s4 ≡ front o.back = q.place ∙ ap front (word_back S.program S.input code s m d (S.ground.entry name) c o) in
          let m5 : Machine = record m4 { regs = record m4.regs { bp = m.regs.bp } } in (
            behind_all s code,
            m5,
            subst (λ z. Comes S.program S.input S.mode (here z m4 st4) (fuel_of st4) 1 (here (behind_all s code) m5 st4) (fuel_of st4)) (sym at) (o.closed S.mode m4 st4 (fuel_of st4) (q.left.framed ∙ o.framed)),
            record {
              place = refl;
              bases = q.bases;
              left = record {
                framed = refl;
                lies = lies_up (m.regs.bp + d) q.left.lies (omega (arith, o.framed));
                post = post_closed S.program S.input code s m d (S.ground.entry name) c o S.ground bs st.objects q.bases st4.objects m4.memory q.left.post;
                charge = refl;
                words = q.left.words;
              };
              means = q.means;
            },
          )

      charged_part : F S (here o.next o.moved st2) (fuel_of st2) (c + (worth_one + 1)) (run st3) R
      charged_part =
          first_then S.program S.input S.mode c (worth_one + 1) (c + (worth_one + 1)) (run st3) R (o.rest S.mode st2 (fuel_of st2))
          (more_behind S.program S.input S.mode (here (front (S.ground.entry name)) o.opened st2) (fuel_of st2) worth_one 1 (worth_one + 1) (run st3) Q1 R body home (omega arith)) (omega arith)

    own_follows : F S (here s m st) (fuel_of st) (c + 2 + u) (paid false (charged charge run) st) Q
    own_follows =
        unit_follows S.program S.input S.mode (charged charge run) s m st (c + 2 + u) Q standing (λ l fuel.
        let st2 : State = record st { left = l } in
        let x : Fuel = record { left = suc l; spare = st.spare } in
        let y : Fuel = record { left = l; spare = st.spare } in
        let go = unit_then S.program S.input S.mode (here s m st) (here o.next o.moved st) x y worth_one (c + (worth_one + 1)) (c + 2 + u) (charged charge run st2) Q (o.step st) (unit l st.spare)
        (charged_follows S.program S.input S.mode charge run o.next o.moved st2 (c + (worth_one + 1)) Q (λ le. charged_part l fuel le)) (omega arith) in
        subst (λ z. F S (here s m st) (record { left = z; spare = st.spare }) (c + 2 + u) (charged charge run st2) Q) (sym fuel) go)

  -- a function of the text, or a helper function, or none
  next : (n : ℕ) → ((roof : ℕ) (name : List ℕ) (f : Definition) → IsOwn S t rules may name f → CallsLand (inside (called S n roof) f) (world n name) u may) → (roof : ℕ) (linking : Linking) (coded named : Names) (name : List ℕ) → MayBeCalled S may name
      → CallLands (calling S (suc n) roof linking coded named) name u (λ vs. calls_to (suc n) rules t S.input name vs)
  unfolding charged_run call_by calls_to
  next n below roof linking coded named name may_be = by (rules.helps name) refl (function_named t name) refl
    where
      by : (h : Option (List Value → Run Value)) → rules.helps name ≡ h → (x : Option Definition) → function_named t name ≡ x → CallLands (calling S (suc n) roof linking coded named) name u (λ vs. call_by h vs (charged_run rules t S.input (calls_to n rules t S.input) n name x vs))
      by (Some help) e x f = uses (suc n) roof linking coded named name help may_be e
      by None e None f = record { at = λ code c d room vs s bs st m standing o r args words. paid_undefined (calling S (suc n) roof linking coded named) s m st _ standing false OutsideObject (c + 2 + u) }
      by None e (Some g) f = record { at = λ code c d room vs s bs st m standing o r args words. own_follows n below roof linking coded named name g (inl may_be, e, f) code c d room vs s bs st m standing o r args }

  -- what a function calls
  calls_of : (deep : ℕ) → ((roof : ℕ) (linking : Linking) (coded named : Names) (name : List ℕ) → MayBeCalled S may name → CallLands (calling S deep roof linking coded named) name u (λ vs. calls_to deep rules t S.input name vs)) → (roof : ℕ) (name : List ℕ) (f : Definition) → IsOwn S t rules may name f
      → CallsLand (inside (called S deep roof) f) (world deep name) u may
  calls_of deep lands roof name f is =
      let T = inside (called S deep roof) f in
      calls_by T (world deep name) u worth_one may (agrees_at deep roof name f is) unit (record { direct = can.direct; built_in = can.built_in; format = can.format; bytes = can.bytes }) (λ bases coded named other may_be. lands roof (record T.linking { bases = bases }) coded named other may_be)

  calls_follow : (deep roof : ℕ) (linking : Linking) (coded named : Names) (name : List ℕ) → MayBeCalled S may name → CallLands (calling S deep roof linking coded named) name u (λ vs. calls_to deep rules t S.input name vs)
  calls_follow zero roof linking coded named name may_be = record { at = λ code c d room vs s bs st m standing o r args words. absurd (omega (arith, r.fuelled)) }
  calls_follow (suc n) roof linking coded named name may_be = next n (calls_of n (calls_follow n)) roof linking coded named name may_be

  pub text_calls : (deep roof : ℕ) (name : List ℕ) (f : Definition) → IsOwn S t rules may name f → CallsLand (inside (called S deep roof) f) (world deep name) u may
  text_calls deep roof name f is = calls_of deep (calls_follow deep) roof name f is
