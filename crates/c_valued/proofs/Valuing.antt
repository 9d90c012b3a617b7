-- Each form of expression lands, from its parts.
use Rattle.std.proofs.Common.{◌≡◌, ℕ, ◌+◌, ◌%◌, ◌^◌, ◌<◌, ◌≤◌, Bool, true, false, not, List, [], length, Option, Some, None, refl, arith, if◌then◌else◌}
use Rattle.eir_core.specs.declared.ops.Reg.TheVariants.{A}
use Rattle.eir_core.specs.declared.ops.Op.{Op}
use Rattle.c_syntax.specs.Plain.{CExpr, Number, Str, Null, Var, Unary, Step, Binary, Assign, Cond as Choice, Comma, Cast, SizeTy, SizeOf, Index, Call, Member, Arrow}
use Rattle.c_syntax.specs.declared.tree.UnOp.{UnOp}
use Rattle.c_syntax.specs.declared.tree.UnOp.TheVariants as unary
use Rattle.c_syntax.specs.Words.{meaning}
use Rattle.c_types.specs.Types as type
use Rattle.c_types.specs.Scope.{Entity, Object as TheObject, Routine, BuiltIn, Printf, is_function, entity_of}
use Rattle.c_types.specs.Expressions.{names_function}
use Rattle.c_eval.specs.State as value
use Rattle.c_eval.specs.State.{Value, Run, OutsideObject}
use Rattle.c_eval.specs.Run.{◌>>=◌}
use Rattle.c_eval.specs.Operators.{used, pointer_to, value_at}
use Rattle.c_eval.specs.Environment.{Environment, value_type_in}
use Rattle.c_eval.specs.LiteralsIn.{literals_in}
use Rattle.c_eval.specs.Eval.{World, place_named, value_named, unary_value, unary_place, value_of, place_of}
use Rattle.c_helpers.specs.Frames.{waiting}
use Rattle.c_lowered.specs.Counts.{expr_jumps, truth_jumps}
use Rattle.c_lowered.specs.Locations.{Fixed, Direct, Exactly, address_direct, Linking, located, address_of, named_direct, known_place, direct}
use Rattle.c_lowered.specs.Operations.{load_to, loaded, direct_or}
use Rattle.c_lowered.specs.Expressions.{unary_code, tested, value_code, place_code, truth_code}
use Rattle.c_landing.specs.Landing.{Setting, placed, Lands, InA, PlaceInA}
use Rattle.c_landing.specs.Few.{Agrees, LiteralsAre, NameIsFew, IsFew}
use Rattle.c_landing.proofs.Landing.{lands_within, then_lands, then_still}
use Rattle.c_landing.proofs.Stilling.{still_then, give_still}
use Rattle.c_landing.proofs.Directly.{directs, knowns, name_known}
use Rattle.c_landing.proofs.Pieces.{quiet_lands, direct_lands, load_length}
use Rattle.c_landing.proofs.Tails.{not_goes, minus_goes, plus_goes, pointer_to_goes, fetched_behind_goes}
use Rattle.c_valued.specs.Decides.{Decides, Whatever}
use Rattle.c_valued.proofs.Deciding.{denied_decides}
use Rattle.c_valued.specs.Steps.{steps, truth_steps}
use Rattle.c_valued.specs.Laws.{Valued}
use Rattle.c_valued.proofs.Parts.{decides_used, undefined_lands, value_as_place, place_loads, used_lands, used_in_a, tested_value}

module _ (S : Setting) (w : World) (agrees : Agrees S w) (u : ℕ) where
  abbrev L : Linking
  L = S.linking

  abbrev V : CExpr → Environment → Type 0
  V e site = Valued S w u e site

  -- ---- what needs no evaluation

  pub directly : (e : CExpr) (site : Environment) → IsFew e S.ground.valued site.scope → LiteralsAre S.ground w.owner (literals_in site.scope e) site.literals_before → (v : Direct) (k d n i o c : ℕ) → 3 ≤ c → direct e L (placed S.coded i site) ≡ Some v
      → Lands S (load_to A v) k d n c (value_of e w (placed S.named o site)) (InA S)
  directly e site few ls v k d n i o c le is = lands_within n (length (load_to A v)) (omega arith) (omega (arith, le, load_length A v)) (direct_lands S v _ k d n (directs S w agrees e site i o few ls v is))

  -- a value that is tested as a condition
  pub condition : {code : List Op} {run : Run Value} (k d n c : ℕ) (wanted : Bool) (target : ℕ) → target < 2 ^ 24 → Lands S code k d n c run (InA S) → (c1 : ℕ) → c + 1 ≤ c1 → Decides S (tested wanted target code) k d n c1 (run >>= used) Whatever wanted target
  condition k d n c wanted target lt l c1 le = tested_value S w agrees c c1 wanted target l lt le

  exactly : (e : CExpr) (site : Environment) → IsFew e S.ground.valued site.scope → LiteralsAre S.ground w.owner (literals_in site.scope e) site.literals_before → (v : Direct) (k d n i o : ℕ) → direct e L (placed S.coded i site) ≡ Some v
      → Lands S (load_to A v) k d n (length (load_to A v)) (value_of e w (placed S.named o site)) (InA S)
  exactly e site few ls v k d n i o is = direct_lands S v _ k d n (directs S w agrees e site i o few ls v is)

  pub number_lands : (at n : ℕ) (unsigned : Bool) (site : Environment) → V (Number at n unsigned) site
  number_lands at n unsigned site = record {
    few = tt;
    literals = λ j t e. absurd (cc e);
    value = λ k d r i o le lt. exactly (Number at n unsigned) site tt (λ j t e. absurd (cc e)) (Exactly (n % 2 ^ 24)) k d r i o refl;
    place = λ k d r i o le lt. undefined_lands OutsideObject;
    truth = λ k d r i o wanted target le lt lt2. condition k d r 1 wanted target lt2 (exactly (Number at n unsigned) site tt (λ j t e. absurd (cc e)) (Exactly (n % 2 ^ 24)) k d r i o refl) 2 (omega arith);
  }

  pub null_lands : (at : ℕ) (site : Environment) → V (Null at) site
  null_lands at site = record {
    few = tt;
    literals = λ j t e. absurd (cc e);
    value = λ k d r i o le lt. exactly (Null at) site tt (λ j t e. absurd (cc e)) (Exactly 0) k d r i o refl;
    place = λ k d r i o le lt. undefined_lands OutsideObject;
    truth = λ k d r i o wanted target le lt lt2. condition k d r 1 wanted target lt2 (exactly (Null at) site tt (λ j t e. absurd (cc e)) (Exactly 0) k d r i o refl) 2 (omega arith);
  }

  pub text_lands : (at : ℕ) (text : List ℕ) (site : Environment) → LiteralsAre S.ground w.owner (literals_in site.scope (Str at text)) site.literals_before → V (Str at text) site
  text_lands at text site ls = record {
    few = tt;
    literals = ls;
    value = λ k d r i o le lt. exactly (Str at text) site tt ls (Exactly (L.literal L.owner site.literals_before)) k d r i o refl;
    place = λ k d r i o le lt. lands_within r 1 (omega arith) (omega arith) (place_loads S (Fixed (L.literal L.owner site.literals_before)) _ k d r (knowns S w agrees (Str at text) site i o tt ls _ refl));
    truth = λ k d r i o wanted target le lt lt2. condition k d r 1 wanted target lt2 (exactly (Str at text) site tt ls (Exactly (L.literal L.owner site.literals_before)) k d r i o refl) 2 (omega arith);
  }

  -- ---- names

  -- a struct as a value is nothing
  struct_named : (site : Environment) (i o : ℕ) (name : List ℕ) (x : Option Entity) → named_direct L (placed S.coded i site) name x ≡ None → (k d n : ℕ) → Lands S [] k d n 3 (value_named w (placed S.named o site) name x) (InA S)
  unfolding value_named value_at
  struct_named site i o name (Some (TheObject (type.Struct tag))) e k d n = lands_within n 0 (omega arith) (omega arith) (quiet_lands (record { quiet = tt; memory = λ m. refl; frame = λ m. refl }) (λ bs st m r. still_then st _ _ (place_named (meaning S.named name)) _ ((name_known S name).at bs st m d n r) (λ p q. give_still st (λ z. InA S z bs m) value.Missing tt)))
  struct_named site i o name (Some (TheObject type.Void)) e k d n = absurd (cc e)
  struct_named site i o name (Some (TheObject type.Int)) e k d n = absurd (cc e)
  struct_named site i o name (Some (TheObject type.Unsigned)) e k d n = absurd (cc e)
  struct_named site i o name (Some (TheObject type.Char)) e k d n = absurd (cc e)
  struct_named site i o name (Some (TheObject type.UChar)) e k d n = absurd (cc e)
  struct_named site i o name (Some (TheObject type.Null)) e k d n = absurd (cc e)
  struct_named site i o name (Some (TheObject (type.Pointer t))) e k d n = absurd (cc e)
  struct_named site i o name (Some (TheObject (type.Array t l))) e k d n = absurd (cc e)
  struct_named site i o name (Some (TheObject (type.Function t ts))) e k d n = absurd (cc e)
  struct_named site i o name (Some (Routine t begun)) e k d n = absurd (cc e)
  struct_named site i o name (Some (BuiltIn t)) e k d n = absurd (cc e)
  struct_named site i o name (Some Printf) e k d n = absurd (cc e)
  struct_named site i o name None e k d n = absurd (cc e)

  name_value : (at : ℕ) (name : List ℕ) (site : Environment) → NameIsFew S.ground.valued name (entity_of site.scope name) → (k d n i o : ℕ) (x : Option Direct) → named_direct L (placed S.coded i site) name (entity_of site.scope name) ≡ x
      → Lands S (loaded x) k d n 3 (value_of (Var at name) w (placed S.named o site)) (InA S)
  name_value at name site few k d n i o (Some v) e = directly (Var at name) site few (λ j t f. absurd (cc f)) v k d n i o 3 (omega arith) e
  name_value at name site few k d n i o None e = struct_named site i o name (entity_of site.scope name) e k d n

  pub name_lands : (at : ℕ) (name : List ℕ) (site : Environment) → NameIsFew S.ground.valued name (entity_of site.scope name) → V (Var at name) site
  name_lands at name site few = record {
    few = few;
    literals = λ j t e. absurd (cc e);
    value = λ k d n i o le lt. name_value at name site few k d n i o _ refl;
    place = λ k d n i o le lt. lands_within n (length (load_to A (address_of (located L (meaning S.coded name))))) (omega arith) (load_length A (address_of (located L (meaning S.coded name)))) (place_loads S (located L (meaning S.coded name)) _ k d n (name_known S name));
    truth = λ k d n i o wanted target le lt lt2. condition k d n 3 wanted target lt2 (name_value at name site few k d n i o _ refl) 4 (omega arith);
  }

  -- ---- operators on one operand

  -- a function's name needs no evaluation
  function_direct : (a : CExpr) (site : Environment) (i : ℕ) → names_function site.scope a ≡ true → direct a L (placed S.coded i site) ≡ None → ⊥
  function_direct (Var at name) site i e f = go (entity_of site.scope name) e f
    where
      go : (x : Option Entity) → is_function x ≡ true → named_direct L (placed S.coded i site) name x ≡ None → ⊥
      go (Some (Routine t begun)) e f = cc f
      go (Some (BuiltIn t)) e f = cc f
      go (Some Printf) e f = cc f
      go (Some (TheObject t)) e f = cc e
      go None e f = cc e
  function_direct (Number at n x) site i e f = cc e
  function_direct (Str at text) site i e f = cc e
  function_direct (Null at) site i e f = cc e
  function_direct (Unary at op a) site i e f = cc e
  function_direct (Step at op a) site i e f = cc e
  function_direct (Binary at op a b) site i e f = cc e
  function_direct (Assign at op a b) site i e f = cc e
  function_direct (Choice at a b c) site i e f = cc e
  function_direct (Comma at a b) site i e f = cc e
  function_direct (Cast at t a) site i e f = cc e
  function_direct (SizeTy at t) site i e f = cc e
  function_direct (SizeOf at a) site i e f = cc e
  function_direct (Index at a b) site i e f = cc e
  function_direct (Call at g es) site i e f = cc e
  function_direct (Member at a m) site i e f = cc e
  function_direct (Arrow at a m) site i e f = cc e

  unary_lands : (at : ℕ) (op : UnOp) (a : CExpr) (site : Environment) → IsFew (Unary at op a) S.ground.valued site.scope → V a site → (k d n i o : ℕ) → waiting a ≤ n → k + expr_jumps a < 2 ^ 24 → (x : Option Direct) → direct (Unary at op a) L (placed S.coded i site) ≡ x
      → Lands S (direct_or x (unary_code op (value_type_in site.scope a) (value_code a L (placed S.coded i site) k d) (place_code a L (placed S.coded i site) k d (value_code a L (placed S.coded i site) k d)))) k d n (steps u a + 3) (value_of (Unary at op a) w (placed S.named o site)) (InA S)
  unfolding unary_value
  unary_lands at op a site few x k d n i o le lt (Some v) e = directly (Unary at op a) site few x.literals v k d n i o (steps u a + 3) (omega arith) e
  unary_lands at unary.Address a site few x k d n i o le lt None e = go (names_function site.scope a) refl e
    where
      go : (b : Bool) → names_function site.scope a ≡ b → address_direct b (direct a L (placed S.coded i site)) (known_place a L (placed S.coded i site)) ≡ None
          → Lands S (place_code a L (placed S.coded i site) k d (value_code a L (placed S.coded i site) k d)) k d n (steps u a + 3) (if b then (value_of a w (placed S.named o site) >>= used) else place_of a w (placed S.named o site) >>= pointer_to w.inner) (InA S)
      go true f e = absurd (function_direct a site i f e)
      go false f e = lands_within n (steps u a) (omega arith) (omega arith) (then_still (x.place k d n i o le lt) (pointer_to_goes S w agrees _ d n))
  unary_lands at unary.Deref a site few x k d n i o le lt None e = lands_within n (steps u a + 1) (omega arith) (omega arith) (then_lands (used_in_a S w agrees (x.value k d n i o le lt)) (fetched_behind_goes S w agrees (value_type_in site.scope a) _ d n))
  unary_lands at unary.Not a site few x k d n i o le lt None e = lands_within n (steps u a + 1) (omega arith) (omega arith) (then_lands (used_lands S w agrees (x.value k d n i o le lt)) (not_goes S w agrees _ d n))
  unary_lands at unary.Minus a site few x k d n i o le lt None e = then_lands (used_in_a S w agrees (x.value k d n i o le lt)) (minus_goes S w agrees _ d n)
  unary_lands at unary.Plus a site few x k d n i o le lt None e = lands_within n (steps u a) (omega arith) (omega arith) (then_still (used_in_a S w agrees (x.value k d n i o le lt)) (plus_goes S w agrees _ d n))
  unary_lands at unary.Invert a site few x k d n i o le lt None e = absurd few.0

  unary_place_lands : (op : UnOp) (a : CExpr) (site : Environment) → V a site → (k d n i o : ℕ) → waiting a ≤ n → k + expr_jumps a < 2 ^ 24 → Lands S (value_code a L (placed S.coded i site) k d) k d n (steps u a + 3) (unary_place op (value_of a w (placed S.named o site) >>= used)) (PlaceInA S)
  unfolding unary_place
  unary_place_lands unary.Deref a site x k d n i o le lt = lands_within n (steps u a) (omega arith) (omega arith) (value_as_place (used_in_a S w agrees (x.value k d n i o le lt)))
  unary_place_lands unary.Address a site x k d n i o le lt = undefined_lands OutsideObject
  unary_place_lands unary.Not a site x k d n i o le lt = undefined_lands OutsideObject
  unary_place_lands unary.Minus a site x k d n i o le lt = undefined_lands OutsideObject
  unary_place_lands unary.Plus a site x k d n i o le lt = undefined_lands OutsideObject
  unary_place_lands unary.Invert a site x k d n i o le lt = undefined_lands OutsideObject

  denied_lands : (at : ℕ) (a : CExpr) (site : Environment) → V a site → (k d n i o : ℕ) (wanted : Bool) (target : ℕ) → waiting a ≤ n → k + truth_jumps a < 2 ^ 24 → target < 2 ^ 24
      → Decides S (truth_code a L (placed S.coded i site) k d (value_code a L (placed S.coded i site) k d) (not wanted) target) k d n (truth_steps u a) (value_of (Unary at unary.Not a) w (placed S.named o site) >>= used) Whatever wanted target
  unfolding unary_value
  denied_lands at a site x k d n i o wanted target le lt lt2 = decides_used (denied_decides S _ k d n (truth_steps u a) _ wanted target (x.truth k d n i o (not wanted) target le lt lt2))

  pub unary_valued : (at : ℕ) (op : UnOp) (a : CExpr) (site : Environment) → IsFew (Unary at op a) S.ground.valued site.scope → V a site → V (Unary at op a) site
  unary_valued at op a site few x = record {
    few = few;
    literals = x.literals;
    value = λ k d n i o le lt. unary_lands at op a site few x k d n i o le lt _ refl;
    place = λ k d n i o le lt. unary_place_lands op a site x k d n i o le lt;
    truth = by op few;
  }
    where
      by : (op : UnOp) → IsFew (Unary at op a) S.ground.valued site.scope → (k d n i o : ℕ) (wanted : Bool) (target : ℕ) → waiting a ≤ n → k + truth_jumps (Unary at op a) < 2 ^ 24 → target < 2 ^ 24
          → Decides S (truth_code (Unary at op a) L (placed S.coded i site) k d (value_code (Unary at op a) L (placed S.coded i site) k d) wanted target) k d n (truth_steps u (Unary at op a)) (value_of (Unary at op a) w (placed S.named o site) >>= used) Whatever wanted target
      by unary.Not few k d n i o wanted target le lt lt2 = denied_lands at a site x k d n i o wanted target le lt lt2
      by unary.Address few k d n i o wanted target le lt lt2 = condition k d n (steps u a + 3) wanted target lt2 (unary_lands at unary.Address a site few x k d n i o le (omega (arith, lt)) _ refl) (steps u a + 4) (omega arith)
      by unary.Deref few k d n i o wanted target le lt lt2 = condition k d n (steps u a + 3) wanted target lt2 (unary_lands at unary.Deref a site few x k d n i o le (omega (arith, lt)) _ refl) (steps u a + 4) (omega arith)
      by unary.Minus few k d n i o wanted target le lt lt2 = condition k d n (steps u a + 3) wanted target lt2 (unary_lands at unary.Minus a site few x k d n i o le (omega (arith, lt)) _ refl) (steps u a + 4) (omega arith)
      by unary.Plus few k d n i o wanted target le lt lt2 = condition k d n (steps u a + 3) wanted target lt2 (unary_lands at unary.Plus a site few x k d n i o le (omega (arith, lt)) _ refl) (steps u a + 4) (omega arith)
      by unary.Invert few k d n i o wanted target le lt lt2 = absurd few.0
