-- What the whole asks of a program holds of the one to which a text is lowered.
use Rattle.std.proofs.Common.{◌≡◌, inl, inr, ℕ, zero, suc, ◌+◌, ◌*◌, ◌^◌, ◌<◌, ◌≤◌, Bool, true, false, List, [], ◌∷◌, Option, Some, None, refl, sym, ap, ◌∙◌, subst, take-append-drop, arith, if◌then◌else◌}
use Rattle.std.specs.Prelude.{codes, nat_lt, not, ◌||◌, ◌++◌, take, drop, length}
use Rattle.std.specs.List.{find, list_any}
use Rattle.std.specs.Option.{option_map, option_map_or}
use Rattle.std.specs.Str.{bytes_eq}
use Rattle.std.proofs.lemmas.Bool.{and_parts}
use Rattle.std.proofs.lemmas.Bool.Decides.{nat_tests}
use Rattle.std.proofs.lemmas.Slice.Eq.{bytes_eq-Decides}
use Rattle.c_syntax.specs.Plain.{CUnit}
use Rattle.c_types.specs.Operands.{conversions_of}
use Rattle.c_eval.specs.State.{Value, OutsideObject, Run}
use Rattle.c_eval.specs.Run.{paid}
use Rattle.c_eval.specs.Eval.{World}
use Rattle.c_eval.specs.Text.{Definition, Text, text_of, function_named}
use Rattle.c_eval.specs.Meaning.{Rules, world_of, eval, meaning_in}
use Rattle.c_eval.specs.Helpers.{Helpers, helper_world, helper_runs, known_or, helper_calls, helps_to}
use Rattle.c_helpers.specs.Laws.{is_strange}
use Rattle.c_helpers.specs.Functions.{unit_name, refill_name, piece_name}
use Rattle.c_helpers.specs.Meanings.{is_format, known_to_helpers}
use Rattle.c_lowered.specs.Counts.{is_known_to_helpers}
use Rattle.c_lowered.specs.Locations.{Linking}
use Rattle.c_lowered.specs.Whole.{frames, lowered}
use Rattle.c_place.specs.Place.{behind_all}
use Rattle.c_memory.specs.Follows.{fuel_of, here}
use Rattle.c_landing.specs.Landing.{Names, Setting, Reached, InA}
use Rattle.c_landing.specs.Few.{Agrees}
use Rattle.c_landing.proofs.Landing.{F}
use Rattle.c_valued.proofs.Built.{paid_undefined}
use Rattle.c_followed.specs.Bodies.{inside}
use Rattle.c_followed.specs.Framed.{CallLands, calling, FramesFit, StandsThere, TextStands, UsesLand}
use Rattle.c_followed.specs.Used.{in_helper, HelpersStand}
use Rattle.c_followed.proofs.Uses.{nested, use_lands}
use Rattle.c_followed.specs.Printed.{PiecesLand}
use Rattle.c_followed.proofs.PrintedUses.{printer_lands}
use Rattle.c_followed.proofs.Spellers.{speller_lands}
use Rattle.c_laid.specs.Laid.{CodeIsLaidIn}
use Rattle.c_laid.proofs.Placed.{laid}
use Rattle.c_laid.specs.Data.{file_extents, DataLies}
use Rattle.c_laid.proofs.First.{data_lies}
use Rattle.c_followed.specs.Faithful.{IsFaithful}
use Rattle.c_followed.specs.Followed.{Opens}
use Rattle.c_followed.proofs.Whole.{faithful}
use Rattle.c_followed.specs.Lowered.{setting_of, rules_of, UseLands, PieceLands, Rates, Called, TextIs}

-- what is found by a name has it
named_so : (name : List ℕ) (fs : List Definition) (f : Definition) → find (λ g. bytes_eq name g.name) fs ≡ Some f → name ≡ f.name
named_so name [] f e = absurd (cc e)
named_so name (g ∷ fs) f e = go (λ e1. named_so name fs f e1) (bytes_eq name g.name) refl e
  where
    go : (find (λ x. bytes_eq name x.name) fs ≡ Some f → name ≡ f.name) → (b : Bool) → bytes_eq name g.name ≡ b → (if b then Some g else find (λ x. bytes_eq name x.name) fs) ≡ Some f → name ≡ f.name
    go next true same e = let is : g ≡ f = cc e in (bytes_eq-Decides name g.name).0 same ∙ ap (λ (z : Definition). z.name) is
    go next false same e = next e

-- a name of a text doesn't begin as those of formats
denied : (b : Bool) → not b ≡ true → b ≡ false
denied true e = absurd (cc e)
denied false e = refl

no_format : (name : List ℕ) → list_any is_strange name ≡ false → (b : Bool) → is_format name ≡ b → b ≡ false
no_format name n false e = refl
no_format name n true e =
    let first : take 7 name ≡ codes "printf " = (bytes_eq-Decides (take 7 name) (codes "printf ")).0 e in
    let whole : codes "printf " ++ drop 7 name ≡ name = ap (λ z. z ++ drop 7 name) (sym first) ∙ take-append-drop 7 name in
    let strange : list_any is_strange name ≡ true = subst (λ z. list_any is_strange z ≡ true) whole refl in
    absurd (cc (sym n ∙ strange))

positive : (n : ℕ) → nat_lt 0 n ≡ true → 1 ≤ n
positive n e = grind (arith, nat_tests, e)

-- a function that a text hasn't got isn't run
module _ (S : Setting) (t : Text) (h : Helpers) (rate spare_rate : ℕ) (known : (name : List ℕ) → h.known name ≡ known_to_helpers h.ration name) (name : List ℕ) (own : is_known_to_helpers name ≡ false) (none : function_named t name ≡ None) where
  unknown : h.known name ≡ None
  unknown = known name ∙ by (bytes_eq name unit_name) refl (bytes_eq name refill_name) refl (bytes_eq name piece_name) refl own
    where
      by : (x : Bool) → bytes_eq name unit_name ≡ x → (y : Bool) → bytes_eq name refill_name ≡ y → (z : Bool) → bytes_eq name piece_name ≡ z → (x || y || z) ≡ false → known_to_helpers h.ration name ≡ None
      by false e false g false k e1 = rw (e, g, k) refl
      by true e y g z k e1 = absurd (one y z e1)
        where
          one : (y z : Bool) → (true || y || z) ≡ false → ⊥
          one y z e = cc e
      by false e true g z k e1 = absurd (cc e1)
      by false e false g true k e1 = absurd (cc e1)

  absent : (first bottom : ℕ) (deep roof : ℕ) (linking : Linking) (coded named : Names) → CallLands (calling (in_helper S rate spare_rate h.ration first bottom) deep roof linking coded named) name 0 (λ vs. helper_calls deep h t S.input name vs)
  unfolding helper_runs known_or helper_calls
  absent first bottom zero roof linking coded named = record { at = λ code c d room vs s bs st m standing o r args words. absurd (omega (arith, r.fuelled)) }
  absent first bottom (suc k) roof linking coded named =
      let T = calling (in_helper S rate spare_rate h.ration first bottom) (suc k) roof linking coded named in
      record {
        at = λ code c d room vs s bs st m standing o r args words.
            subst (λ z. F T (here s m st) (fuel_of st) (c + 2 + 0) (known_or z vs (paid true (helper_runs h t S.input (helper_calls k h t S.input) k name (function_named t name) vs)) st) (Reached T bs st m.memory m.regs.bp d (behind_all s code) (InA T))) (sym unknown)
            (subst (λ z. F T (here s m st) (fuel_of st) (c + 2 + 0) (paid true (helper_runs h t S.input (helper_calls k h t S.input) k name z vs) st) (Reached T bs st m.memory m.regs.bp d (behind_all s code) (InA T))) (sym none) (paid_undefined T s m st _ standing true OutsideObject (c + 2 + 0)));
      }

module _ (u : CUnit) (h : Helpers) (input : List ℕ) (n : Rates) (c : Called) (is : TextIs u h input n c) where
  abbrev S : Setting
  S = setting_of u input n.rate

  abbrev t : Text
  t = text_of u

  abbrev rules : Rules
  rules = rules_of u h input

  code : CodeIsLaidIn u
  code = laid u

  first_memory : DataLies u
  first_memory = data_lies u is.memory

  -- a function's code agrees with a world that has its input and is its own
  agrees : (name : List ℕ) (f : Definition) (w : World) → function_named t name ≡ Some f → w.input ≡ input → w.owner ≡ Some name → Agrees (inside S f) w
  agrees name f w e same own = record {
    input = same;
    owner = own ∙ ap Some (named_so name t.functions f e);
    reach = λ inner. refl;
    entries = λ other. refl;
    blocks = λ other. (let b = code.entries other in omega (arith, b, is.few));
    stands = λ other valued. positive _ (and_parts _ _ valued).1;
    own = λ other valued. (let none = no_format other (denied (list_any is_strange other) (and_parts _ _ valued).0) (is_format other) refl in ap (λ b. if b then 7 + option_map_or length (conversions_of (drop 7 other)) 0 else 0) none);
    functions_apart = code.apart;
    literals = λ owner number. refl;
    letters = first_memory.within;
    letters_apart = first_memory.apart;
  }

  there : (name : List ℕ) (f : Definition) → function_named t name ≡ Some f → StandsThere S name f
  there name f e = record { code = code.function name f e; small = let b = code.within name f e in omega (arith, b, is.few) }

  fit : FramesFit S (frames u)
  fit = record { level = λ charge words. refl; top = is.room }

  text : TextStands S t rules n.uses n.rate c.may
  text = record {
    names = refl;
    agrees = λ name f calls own. agrees name f (world_of t input name calls) own.2 refl refl;
    there = λ name f own. there name f own.2;
    is = λ name f calls own. is.functions name f calls own;
  }

  helpers : HelpersStand S t h n.spare_rate c.may_help
  helpers = record {
    unknown = is.unknown;
    through = is.through;
    agrees = λ name f calls own. agrees name f (helper_world t input name calls) own.1 refl refl;
    there = λ name f own. there name f own.1;
    is = λ name f calls own. is.helpers name f calls own;
  }

  -- what functions that print call
  piece : (name : List ℕ) → is_known_to_helpers name ≡ false → PieceLands u h input n.rate n.spare_rate c.may_help name → (first bottom : ℕ) → bottom + 1024 < 2 ^ 24 → (deep roof : ℕ) (linking : Linking) (coded named : Names)
      → CallLands (calling (in_helper S n.rate n.spare_rate h.ration first bottom) deep roof linking coded named) name 0 (λ vs. helper_calls deep h t input name vs)
  piece name own (inl plain) first bottom top deep roof linking coded named = nested S t h n.rate n.spare_rate c.may_help is.helpers_can helpers first bottom top deep roof linking coded named name (inl plain)
  piece name own (inr (inr none)) first bottom top deep roof linking coded named = absent S t h n.rate n.spare_rate is.known name own none first bottom deep roof linking coded named
  piece name own (inr (inl speller)) first bottom top deep roof linking coded named =
      let f = speller.0 in
      let e = speller.1.found in
      speller_lands S t h n.rate n.spare_rate c.may_help is.helpers_can helpers is.known name f speller.1 (λ calls. agrees name f (helper_world t input name calls) e refl refl) (there name f e) own first bottom top deep roof linking coded named

  pieces : PiecesLand S t h n.rate n.spare_rate n.pieces c.may_print
  pieces = record {
    through = is.prints_through;
    built_in = is.prints_built_in;
    format = is.prints_format;
    bytes = is.helpers_can.bytes;
    known = is.known;
    paid = is.refilled;
    calls = λ name params called known first bottom top deep roof linking coded named. piece name known (is.prints name params called known) first bottom top deep roof linking coded named;
  }

  land : (deep roof : ℕ) (linking : Linking) (coded named : Names) (name : List ℕ) (operator : List Value → Run Value) → UseLands u h input n.rate n.uses n.pieces c.may_help c.may_print name operator → CallLands (calling S deep roof linking coded named) name n.uses (helps_to h t input name operator)
  land deep roof linking coded named name operator (inl plain) = use_lands S t h (frames u) n.rate n.spare_rate n.uses c.may_help refl fit is.helpers_can helpers is.paid deep roof linking coded named name plain.0.0 operator plain.0.1 plain.1
  land deep roof linking coded named name operator (inr (inl printer)) =
      let e = printer.1.found in
      printer_lands S t h (frames u) n.rate n.spare_rate n.pieces n.uses c.may_print refl fit pieces (let a = is.enough in let b = is.paid in omega (arith, a, b)) deep roof linking coded named name printer.0 operator printer.1 (λ calls. agrees name printer.0 (helper_world t input name calls) e refl refl) (there name printer.0 e) printer.2
  land deep roof linking coded named name operator (inr (inr lands)) = lands deep roof linking coded named

  uses_land : UsesLand S rules n.uses c.may
  uses_land deep roof linking coded named name help may_be e = by (h.operator name) refl e
    where
      by : (o : Option (List Value → Run Value)) → h.operator name ≡ o → option_map (λ operator. helps_to h t input name operator) o ≡ Some help → CallLands (calling S deep roof linking coded named) name n.uses help
      by None f e1 = absurd (cc e1)
      by (Some operator) f e1 =
          let same : helps_to h t input name operator ≡ help = cc e1 in
          subst (λ z. CallLands (calling S deep roof linking coded named) name n.uses z) same (land deep roof linking coded named name operator (is.land name operator may_be f))

  opens : Opens S t rules (frames u)
  opens = record {
    start = code.start;
    code = code.opening;
    some = omega arith;
    main = ap (option_map (λ operator. helps_to h t input (codes "main") operator)) is.main;
    bases = file_extents u;
    lies = first_memory.lies;
    letters = first_memory.letters;
    file = first_memory.names;
  }

  pub lowered_faithfully : (fuel : ℕ) → IsFaithful (lowered u) input fuel ((n.rate + 5) * (fuel + 1)) (meaning_in (eval rules t input fuel))
  lowered_faithfully fuel = faithful S t rules (frames u) n.uses n.rate fuel c.may is.some fit is.can text uses_land opens
