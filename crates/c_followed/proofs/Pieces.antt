-- What functions that print call.
use Rattle.std.proofs.Common.{◌≡◌, ℕ, zero, suc, ◌+◌, ◌%◌, ◌^◌, ◌<◌, ◌≤◌, Bool, true, false, ◌||◌, List, [], ◌∷◌, ◌++◌, refl, sym, ap, ◌∙◌, subst, arith}
use Rattle.std.specs.Str.{bytes_eq}
use Rattle.std.proofs.lemmas.Slice.Eq.{bytes_eq-Decides}
use Rattle.mach_core.specs.Rule.{Moment, applied}
use Rattle.eir_core.specs.Eir.{Eir}
use Rattle.eir_core.specs.Step.{Config, eir_rule, with_reg}
use Rattle.eir_core.specs.declared.ops.Reg.TheVariants.{A}
use Rattle.eir_core.specs.declared.ops.Operand.TheVariants.{Reg as register}
use Rattle.eir_core.specs.declared.ops.Op.{Op}
use Rattle.eir_core.specs.declared.ops.Op.TheVariants.{Mov, Putc}
use Rattle.c_types.specs.Types.{CTypes}
use Rattle.c_eval.specs.State.{Value, Word, Null, Point, Letter, Function, Missing, State, Outcome, Gives, Ended, Going, Undefined}
use Rattle.c_eval.specs.Run.{◌>>=◌, after, give, undefined, paid, put}
use Rattle.c_eval.specs.Operators.{of_word}
use Rattle.c_eval.specs.Environment.{Callee, Direct}
use Rattle.c_eval.specs.Text.{Definition, Text, function_named}
use Rattle.c_eval.specs.Helpers.{Helpers, refill, helper_world, helper_runs, known_or, helper_calls}
use Rattle.c_helpers.specs.Functions.{unit_name, refill_name, piece_name}
use Rattle.c_helpers.specs.Meanings.{of_one, piece_put}
use Rattle.c_place.specs.Place.{Place, behind, Has, Machine, moment}
use Rattle.c_place.proofs.Running.{one_quiet, one_put}
use Rattle.c_lowered.specs.Counts.{is_known_to_helpers}
use Rattle.c_lowered.specs.Locations.{Linking}
use Rattle.c_lowered.specs.Operations.{constant, call_at}
use Rattle.c_lowered.specs.Expressions.{known_code}
use Rattle.c_memory.specs.Follows.{Fuel, fuel_of, in_use, here, Comes, Follows}
use Rattle.c_memory.specs.Lies.{Extent}
use Rattle.c_memory.proofs.Lying.{post_here}
use Rattle.c_memory.proofs.Following.{Claim, worth_more, worth_grows, comes_here, looser, wider}
use Rattle.c_landing.specs.Landing.{Names, Setting, Ready, Reached, Goes, InA}
use Rattle.c_landing.specs.Few.{Agrees}
use Rattle.c_landing.proofs.Landing.{F}
use Rattle.c_valued.specs.Calls.{FirstInA, UnitPays, CallsLand}
use Rattle.c_valued.proofs.Built.{paid_follows}
use Rattle.c_followed.specs.Bodies.{inside}
use Rattle.c_followed.specs.Framed.{CallLands, calling, called}
use Rattle.c_followed.proofs.Opening.{direct_opens}
use Rattle.c_followed.specs.Used.{in_helper_by, in_helper}
use Rattle.c_followed.specs.Printed.{in_pieces, PiecesLand}

-- ---- the two ways to count

module _ (p : Eir) (input : List ℕ) (d h r : ℕ) where
  piece_comes : {a b : Moment Config} {x y : Fuel} (c1 c : ℕ) → c1 ≤ c → Comes p input (in_use d h r) a x c1 b y → Comes p input (in_pieces d h r) a x c b y
  piece_comes {x = x} {y = y} c1 c le f = record { count = f.count; ends = f.ends; spent = f.spent; less = f.less; down = omega (arith, f.down, worth_grows (suc r) y.left x.left f.less); paid = omega (arith, f.paid, le) }

  -- a call in a use, seen from a function that prints
  piece_follows : {A : Type 0} (a : Moment Config) (x : Fuel) (c1 c : ℕ) → c1 ≤ c → (o : Outcome A) (Q : Claim A) → Follows p input (in_use d h r) a x c1 o Q → Follows p input (in_pieces d h r) a x c o Q
  piece_follows a x c1 c le (Gives v st) Q (s, m, f, q) = (s, m, piece_comes c1 c le f, q)
  piece_follows a x c1 c le (Ended st) Q (s, m, f, q) = (s, m, piece_comes c1 c le f, q)
  piece_follows a x c1 c le (Going st) Q (s, m, n, f, q) = (s, m, n, piece_comes c1 c le f, q)
  piece_follows a x c1 c le (Undefined act st) Q (s, m, y, f) = (s, m, y, piece_comes c1 c le f)

module _ (S : Setting) (t : Text) (h : Helpers) (rate spare_rate pieces : ℕ) (may : Callee → Bool) (land : PiecesLand S t h rate spare_rate pieces may) (first bottom : ℕ) (top : bottom + 1024 < 2 ^ 24) where
  abbrev I : Setting
  I = in_helper S rate spare_rate h.ration first bottom

  abbrev P : Setting
  P = in_helper_by (in_pieces rate spare_rate h.ration) S first bottom

  pub unit_pays : UnitPays P.mode false rate
  unit_pays l n = record { left = omega arith; less = omega arith; gauge = omega (arith, worth_more (suc h.ration) l); paid = omega (arith, worth_more rate l) }

  unit_moves : UnitPays P.mode false 0
  unit_moves l n = record { left = omega arith; less = omega arith; gauge = omega (arith, worth_more (suc h.ration) l); paid = omega (arith, worth_more rate l) }

  -- ---- calls of helper functions

  call_lands : (deep roof : ℕ) (linking : Linking) (coded named : Names) (name : List ℕ) (params : CTypes) → may (Direct name params) ≡ true → is_known_to_helpers name ≡ false → CallLands (calling P deep roof linking coded named) name pieces (λ vs. helper_calls deep h t S.input name vs)
  call_lands deep roof linking coded named name params is known = record {
    at = λ code c d n vs s bs st m standing o r args words.
        (let V = calling I deep roof linking coded named in
        let W = calling P deep roof linking coded named in
        let r1 : Ready V bs st m d n = record { lies = r.lies; letters = r.letters; names = r.names; file = r.file; room = r.room; under = r.under; fits = r.fits; fuelled = omega (arith, r.fuelled) } in
        let f = (land.calls name params is known first bottom top deep roof linking coded named).at code c d n vs s bs st m standing o r1 args words in
        let g = piece_follows S.program S.input rate spare_rate h.ration (here s m st) (fuel_of st) (c + 2 + 0) (c + 2 + pieces) (omega arith) (helper_calls deep h t S.input name vs st) _ f in
        wider S.program S.input W.mode (here s m st) (fuel_of st) (c + 2 + pieces) (c + 2 + pieces) (helper_calls deep h t S.input name vs st) _ _ g
        (λ v st1 s1 m1 q. record { place = q.place; bases = q.bases; left = record { framed = q.left.framed; lies = q.left.lies; post = q.left.post; charge = q.left.charge; words = q.left.words }; means = q.means }) (omega arith));
  }

  -- ---- what helper functions alone know

  module _ (deep roof : ℕ) (linking : Linking) (coded named : Names) (block d n : ℕ) where
    abbrev W : Setting
    W = calling P deep roof linking coded named

    abbrev nothing : Op
    nothing = Mov A (constant 0)

    abbrev R : Place → List Extent → State → Machine → Claim Value
    R to bs st m = Reached W bs st m.memory m.regs.bp d to (InA W)

    -- what is left where nothing of the objects has changed
    still : (bs : List Extent) (st st1 : State) (m m1 : Machine) (to : Place) → Ready W bs st m d n → st1.objects ≡ st.objects → st1.charge ≡ st.charge → st1.words ≡ st.words → m1.memory ≡ m.memory → m1.regs.bp ≡ m.regs.bp → R to bs st m Missing st1 to m1
    still bs st st1 m m1 to r eo ec ew em eb = record {
      place = refl;
      bases = bs;
      left = record { framed = eb; lies = rw (eo, em) r.lies; post = rw (eo, em) (post_here (m.regs.bp + d) bs st.objects m.memory); charge = ec; words = ew };
      means = tt;
    }

    -- a unit takes an operation
    unit_follows_here : (s : Place) (bs : List Extent) (st : State) (m : Machine) → Has S.program s nothing → Ready W bs st m d n → F W (here s m st) (fuel_of st) (1 + pieces) (paid false (give Missing) st) (R (behind s nothing) bs st m)
    unfolding give
    unit_follows_here s bs st m has r =
        let m1 : Machine = record m { regs = with_reg m.regs A 0 } in
        let s1 = behind s nothing in
        paid_follows W s m st (R s1 bs st m) has.inside false unit_moves (give Missing) (here s1 m1 st) 0 (1 + pieces) (one_quiet S.program S.input s m st.taken st.output nothing tt has)
        (λ l i. let st1 : State = record st { left = l; spare = i } in (s1, m1, comes_here S.program S.input W.mode (here s1 m1 st1) (record { left = l; spare = i }), still bs st st1 m m1 s1 r refl refl refl refl refl)) (omega arith)

    -- the second fuel begins anew, and is paid for
    refilled : (s : Place) (m : Machine) (st : State) (b : Moment Config) → applied (eir_rule S.program) S.input (here s m st) ≡ b → Comes S.program S.input W.mode (here s m st) (fuel_of st) (1 + pieces) b (record { left = st.left; spare = h.ration })
    refilled s m st b e = record { count = 1; ends = e; spent = omega arith; less = omega arith; down = omega arith; paid = omega (arith, land.paid) }

    refill_follows_here : (s : Place) (bs : List Extent) (st : State) (m : Machine) → Has S.program s nothing → Ready W bs st m d n → F W (here s m st) (fuel_of st) (1 + pieces) ((refill h.ration >>= λ _. give Missing) st) (R (behind s nothing) bs st m)
    unfolding refill ◌>>=◌ after give
    refill_follows_here s bs st m has r =
        let m1 : Machine = record m { regs = with_reg m.regs A 0 } in
        let s1 = behind s nothing in
        let st1 : State = record st { spare = h.ration } in
        (s1, m1, refilled s m st (here s1 m1 st1) (one_quiet S.program S.input s m st.taken st.output nothing tt has), still bs st st1 m m1 s1 r refl refl refl refl refl)

    -- and a character is written
    abbrev written : Op
    written = Putc (register A)

    piece_follows_here : (vs : List Value) (s : Place) (bs : List Extent) (st : State) (m : Machine) → Has S.program s written → Ready W bs st m d n → FirstInA W vs bs m → F W (here s m st) (fuel_of st) (1 + pieces) (of_one (piece_put h.ration) vs st) (R (behind s written) bs st m)
    unfolding of_one piece_put refill of_word put ◌>>=◌ after give undefined
    piece_follows_here (Word c ∷ []) s bs st m has r a =
        let s1 = behind s written in
        let st1 : State = record st { spare = h.ration; output = st.output ++ c % 2 ^ 8 ∷ [] } in
        (s1, m, refilled s m st (here s1 m st1) (one_put S.program S.input s m st.taken st.output (register A) has ∙ ap (λ z. moment s1 m st.taken (st.output ++ z % 2 ^ 8 ∷ [])) a.0), still bs st st1 m m s1 r refl refl refl refl refl)
    piece_follows_here [] s bs st m has r a = (s, m, fuel_of st, looser S.program S.input W.mode 0 (1 + pieces) (comes_here S.program S.input W.mode (here s m st) (fuel_of st)) (omega arith))
    piece_follows_here (Null ∷ []) s bs st m has r a = (s, m, fuel_of st, looser S.program S.input W.mode 0 (1 + pieces) (comes_here S.program S.input W.mode (here s m st) (fuel_of st)) (omega arith))
    piece_follows_here (Point o k ∷ []) s bs st m has r a = (s, m, fuel_of st, looser S.program S.input W.mode 0 (1 + pieces) (comes_here S.program S.input W.mode (here s m st) (fuel_of st)) (omega arith))
    piece_follows_here (Letter f i text k ∷ []) s bs st m has r a = (s, m, fuel_of st, looser S.program S.input W.mode 0 (1 + pieces) (comes_here S.program S.input W.mode (here s m st) (fuel_of st)) (omega arith))
    piece_follows_here (Function name ∷ []) s bs st m has r a = (s, m, fuel_of st, looser S.program S.input W.mode 0 (1 + pieces) (comes_here S.program S.input W.mode (here s m st) (fuel_of st)) (omega arith))
    piece_follows_here (Missing ∷ []) s bs st m has r a = (s, m, fuel_of st, looser S.program S.input W.mode 0 (1 + pieces) (comes_here S.program S.input W.mode (here s m st) (fuel_of st)) (omega arith))
    piece_follows_here (v ∷ x ∷ vs) s bs st m has r a = (s, m, fuel_of st, looser S.program S.input W.mode 0 (1 + pieces) (comes_here S.program S.input W.mode (here s m st) (fuel_of st)) (omega arith))

  -- what a call of them does
  pub unit_is : (k : ℕ) (vs : List Value) → helper_calls (suc k) h t S.input unit_name vs ≡ paid false (give Missing)
  unfolding helper_calls known_or
  unit_is k vs = ap (λ z. known_or z vs (paid true (helper_runs h t S.input (helper_calls k h t S.input) k unit_name (function_named t unit_name) vs))) (land.known unit_name)

  refill_is : (k : ℕ) (vs : List Value) → helper_calls (suc k) h t S.input refill_name vs ≡ (refill h.ration >>= λ _. give Missing)
  unfolding helper_calls known_or
  refill_is k vs = ap (λ z. known_or z vs (paid true (helper_runs h t S.input (helper_calls k h t S.input) k refill_name (function_named t refill_name) vs))) (land.known refill_name)

  piece_is : (k : ℕ) (vs : List Value) → helper_calls (suc k) h t S.input piece_name vs ≡ of_one (piece_put h.ration) vs
  unfolding helper_calls known_or
  piece_is k vs = ap (λ z. known_or z vs (paid true (helper_runs h t S.input (helper_calls k h t S.input) k piece_name (function_named t piece_name) vs))) (land.known piece_name)

  abbrev GoesSo : (deep roof : ℕ) → Linking → (coded named : Names) → (block d n : ℕ) → List ℕ → Type 0
  GoesSo deep roof linking coded named block d n z = Goes (calling P deep roof linking coded named) (known_code z) block d n (1 + pieces) (λ vs. helper_calls deep h t S.input z vs) (FirstInA (calling P deep roof linking coded named)) (InA (calling P deep roof linking coded named))

  unit_goes : (k roof : ℕ) (linking : Linking) (coded named : Names) (block d n : ℕ) → GoesSo (suc k) roof linking coded named block d n unit_name
  unit_goes k roof linking coded named block d n = record {
    at = λ vs s bs st m e stands r a. subst (λ run. F (calling P (suc k) roof linking coded named) (here s m st) (fuel_of st) (1 + pieces) (run st) (R (suc k) roof linking coded named block d n (behind s (Mov A (constant 0))) bs st m)) (sym (unit_is k vs))
        (unit_follows_here (suc k) roof linking coded named block d n s bs st m stands.0 r);
  }

  refill_goes : (k roof : ℕ) (linking : Linking) (coded named : Names) (block d n : ℕ) → GoesSo (suc k) roof linking coded named block d n refill_name
  refill_goes k roof linking coded named block d n = record {
    at = λ vs s bs st m e stands r a. subst (λ run. F (calling P (suc k) roof linking coded named) (here s m st) (fuel_of st) (1 + pieces) (run st) (R (suc k) roof linking coded named block d n (behind s (Mov A (constant 0))) bs st m)) (sym (refill_is k vs))
        (refill_follows_here (suc k) roof linking coded named block d n s bs st m stands.0 r);
  }

  piece_goes : (k roof : ℕ) (linking : Linking) (coded named : Names) (block d n : ℕ) → GoesSo (suc k) roof linking coded named block d n piece_name
  piece_goes k roof linking coded named block d n = record {
    at = λ vs s bs st m e stands r a. subst (λ run. F (calling P (suc k) roof linking coded named) (here s m st) (fuel_of st) (1 + pieces) (run st) (R (suc k) roof linking coded named block d n (behind s (Putc (register A))) bs st m)) (sym (piece_is k vs))
        (piece_follows_here (suc k) roof linking coded named block d n vs s bs st m stands.0 r a);
  }

  known_goes : (deep roof : ℕ) (linking : Linking) (coded named : Names) (name : List ℕ) (block d n : ℕ) → is_known_to_helpers name ≡ true → GoesSo deep roof linking coded named block d n name
  known_goes zero roof linking coded named name block d n known = record { at = λ vs s bs st m e stands r a. absurd (omega (arith, r.fuelled)) }
  known_goes (suc k) roof linking coded named name block d n known = pick (bytes_eq name unit_name) refl (bytes_eq name refill_name) refl (bytes_eq name piece_name) refl known
    where
      pick : (x : Bool) → bytes_eq name unit_name ≡ x → (y : Bool) → bytes_eq name refill_name ≡ y → (z : Bool) → bytes_eq name piece_name ≡ z → (x || y || z) ≡ true → GoesSo (suc k) roof linking coded named block d n name
      pick true e y f z g is = subst (GoesSo (suc k) roof linking coded named block d n) (sym ((bytes_eq-Decides name unit_name).0 e)) (unit_goes k roof linking coded named block d n)
      pick false e true f z g is = subst (GoesSo (suc k) roof linking coded named block d n) (sym ((bytes_eq-Decides name refill_name).0 f)) (refill_goes k roof linking coded named block d n)
      pick false e false f true g is = subst (GoesSo (suc k) roof linking coded named block d n) (sym ((bytes_eq-Decides name piece_name).0 g)) (piece_goes k roof linking coded named block d n)
      pick false e false f false g is = absurd (cc is)

  -- ---- all calls of a function that prints

  pub pieces_called : (deep roof : ℕ) (name : List ℕ) (f : Definition) → Agrees (inside (called P deep roof) f) (helper_world t S.input name (helper_calls deep h t S.input)) → CallsLand (inside (called P deep roof) f) (helper_world t S.input name (helper_calls deep h t S.input)) pieces may
  pieces_called deep roof name f agrees =
      let T = inside (called P deep roof) f in
      record {
        direct = λ bases coded named other params block d n is known words lt. record {
          at = λ vs s bs st m e stands r a.
              (call_lands deep roof (record T.linking { bases = bases }) coded named other params is known).at (call_at d (suc block) (T.linking.entry other)) 3 d n vs s bs st m stands.0.inside
              (direct_opens S.program S.input s m d (omega (arith, r.room, r.fits)) (suc block) (T.linking.entry other) (S.ground.entry other) (ap suc (sym e)) lt (sym (agrees.entries other)) (agrees.blocks other) stands) r a words;
        };
        known = λ bases coded named other params block d n is known. known_goes deep roof (record T.linking { bases = bases }) coded named other block d n known;
        through = λ bases coded named other params block d n is some lt. absurd (let e : true ≡ false = sym is ∙ land.through params in cc e);
        built_in = λ other params is. absurd (let e : true ≡ false = sym is ∙ land.built_in other params in cc e);
        format = land.format;
        bytes = land.bytes;
      }
