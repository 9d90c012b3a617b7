-- Forms with two operands or more.
use Rattle.std.proofs.Common.{◌≡◌, ℕ, zero, suc, ◌+◌, ◌^◌, ◌<◌, ◌≤◌, Bool, true, false, List, ◌++◌, Option, Some, None, refl, sym, ap, subst, arith, append_assoc, if◌then◌else◌}
use Rattle.std.specs.Prelude.{max}
use Rattle.eir_core.specs.declared.ops.Reg.{Reg}
use Rattle.eir_core.specs.declared.ops.Operand.{Operand}
use Rattle.eir_core.specs.declared.ops.Op.{Op}
use Rattle.c_syntax.specs.Plain.{CExpr, Step, Assign, Cond as Choice, Comma, Cast, Index, Member, Arrow}
use Rattle.c_syntax.specs.declared.tree.StepOp.{StepOp}
use Rattle.c_syntax.specs.declared.tree.BinOp.{BinOp}
use Rattle.c_types.specs.Types.{CType, is_void}
use Rattle.c_eval.specs.State as value
use Rattle.c_eval.specs.State.{Value, Run, OutsideObject}
use Rattle.c_eval.specs.Run.{◌>>=◌, give, choose}
use Rattle.c_eval.specs.Memory.{member_at}
use Rattle.c_eval.specs.Operators.{used, converted, sum, value_at}
use Rattle.c_eval.specs.Environment.{Environment, type_in, value_type_in, pointee, member_offset, past}
use Rattle.c_eval.specs.LiteralsIn.{literals_in}
use Rattle.c_eval.specs.Eval.{World, assignment, cast_value, element, value_of, place_of}
use Rattle.c_helpers.specs.Frames.{waiting}
use Rattle.c_place.specs.Code.{jumps}
use Rattle.c_place.specs.Place.{Machine}
use Rattle.c_lowered.specs.Counts.{expr_jumps, truth_jumps}
use Rattle.c_lowered.specs.Locations.{Location, Direct, Linking, known_place, direct, is_quiet}
use Rattle.c_lowered.specs.Operations.{direct_or, fetched, moved_on, operands, sum_code}
use Rattle.c_lowered.specs.Expressions.{value_code, place_code, truth_code}
use Rattle.c_lowered.proofs.Jumping.{place_is_quiet, direct_is_quiet, value_jumps, place_jumps, truth_jumps_are}
use Rattle.c_memory.specs.Lies.{Extent}
use Rattle.c_landing.specs.Landing.{Setting, placed, Lands, Goes, InA, PlaceInA, InOperands, on_both, IsDirect, IsKnown}
use Rattle.c_landing.specs.Few.{Agrees, LiteralsAre, IsNarrow, IsFew, IsObjectType}
use Rattle.c_landing.proofs.Landing.{lands_within, then_lands, then_goes, then_still}
use Rattle.c_landing.proofs.Stilling.{give_still, still_then, used_still}
use Rattle.c_landing.proofs.Directly.{directs, knowns}
use Rattle.c_landing.proofs.Pieces.{quiet_goes}
use Rattle.c_landing.specs.Tails.{IsPair, sum_tail}
use Rattle.c_landing.proofs.Tails.{sum_goes, member_goes, fetched_goes}
use Rattle.c_landing.proofs.Stores.{assigned_lands}
use Rattle.c_landing.proofs.Updates.{updated_lands, stepped_lands}
use Rattle.c_valued.specs.Decides.{Whatever}
use Rattle.c_valued.proofs.Deciding.{branches_land}
use Rattle.c_valued.specs.Steps.{steps, truth_steps}
use Rattle.c_valued.specs.Laws.{Valued}
use Rattle.c_valued.proofs.Parts.{max_left, max_right, at_block, undefined_lands, value_as_place, used_in_a, converted_goes, quiet_value, operands_lands}
use Rattle.c_valued.proofs.Valuing.{directly, condition}

module _ (S : Setting) (w : World) (agrees : Agrees S w) (u : ℕ) where
  abbrev L : Linking
  L = S.linking

  abbrev V : CExpr → Environment → Type 0
  V e site = Valued S w u e site

  -- one part behind another that takes nothing of it
  any_goes : {code : List Op} {k d n c : ℕ} {run : Run Value} → Lands S code k d n c run (InA S) → Goes S code k d n c (λ (v : Value). run) (InA S) (InA S)
  any_goes l = record { at = λ v s bs st m e stands r h. l.at s bs st m e stands r }

  count : (e : CExpr) (site : Environment) (i k d : ℕ) → jumps (value_code e L (placed S.coded i site) k d) ≡ expr_jumps e
  count e site i k d = (value_jumps e L (placed S.coded i site) k d).count

  -- ---- a comma, a cast

  comma_value : (a b : CExpr) (site : Environment) → V a site → V b (past a site) → (k d n i o : ℕ) → max (waiting a) (waiting b) ≤ n → k + (expr_jumps a + expr_jumps b) < 2 ^ 24
      → Lands S (value_code a L (placed S.coded i site) k d ++ value_code b L (placed S.coded i (past a site)) (k + expr_jumps a) d) k d n (steps u a + steps u b) (value_of a w (placed S.named o site) >>= λ x. value_of b w (placed S.named o (past a site))) (InA S)
  comma_value a b site x y k d n i o le lt =
      then_lands (x.value k d n i o (max_left _ _ n le) (omega (arith, lt)))
      (any_goes (at_block (k + expr_jumps a) _ (ap (λ z. k + z) (sym (count a site i k d))) (y.value (k + expr_jumps a) d n i o (max_right _ _ n le) (omega (arith, lt)))))

  pub comma_valued : (at : ℕ) (a b : CExpr) (site : Environment) → IsFew (Comma at a b) S.ground.valued site.scope → LiteralsAre S.ground w.owner (literals_in site.scope (Comma at a b)) site.literals_before → V a site → V b (past a site) → V (Comma at a b) site
  comma_valued at a b site few ls x y = record {
    few = few;
    literals = ls;
    value = λ k d n i o le lt. comma_value a b site x y k d n i o le lt;
    place = λ k d n i o le lt. undefined_lands OutsideObject;
    truth = λ k d n i o wanted target le lt lt2. condition S w agrees u k d n (steps u a + steps u b) wanted target lt2 (comma_value a b site x y k d n i o le (omega (arith, lt))) (steps u a + steps u b + 1) (omega arith);
  }

  cast_lands : (t : CType) {code : List Op} {k d n c : ℕ} {run : Run Value} → Lands S code k d n c run (InA S) → Lands S code k d n c (cast_value t run) (InA S)
  unfolding cast_value
  cast_lands t {code} {k} {d} {n} {c} {run} l = go (is_void t)
    where
      go : (b : Bool) → Lands S code k d n c (if b then (run >>= λ _. give value.Missing) else (run >>= used)) (InA S)
      go true = then_still l (quiet_goes (record { quiet = tt; memory = λ m. refl; frame = λ m. refl }) (λ v bs st m r h. give_still st (λ z. InA S z bs m) value.Missing tt))
      go false = used_in_a S w agrees l

  pub cast_valued : (at : ℕ) (t : _) (a : CExpr) (site : Environment) → V a site → V (Cast at t a) site
  cast_valued at t a site x = record {
    few = x.few;
    literals = x.literals;
    value = λ k d n i o le lt. cast_lands (type_in site.scope (Cast at t a)) (x.value k d n i o le lt);
    place = λ k d n i o le lt. undefined_lands OutsideObject;
    truth = λ k d n i o wanted target le lt lt2. condition S w agrees u k d n (steps u a) wanted target lt2 (cast_lands (type_in site.scope (Cast at t a)) (x.value k d n i o le (omega (arith, lt)))) (steps u a + 1) (omega arith);
  }

  -- ---- members

  -- ---- steps and assignments

  known_facts : (e : CExpr) (site : Environment) → V e site → (i o : ℕ) (l : Location) → known_place e L (placed S.coded i site) ≡ Some l → IsKnown S l (place_of e w (placed S.named o site))
  known_facts e site x i o l is = knowns S w agrees e site i o x.few x.literals l is

  used_direct : (v : Direct) (run : Run Value) → IsDirect S v run → IsDirect S v (run >>= used)
  used_direct v run h = record { at = λ bs st m d n r. still_then st _ _ run used (h.at bs st m d n r) (λ x q. used_still st _ x q) }

  direct_facts : (e : CExpr) (site : Environment) → V e site → (i o : ℕ) (v : Direct) → direct e L (placed S.coded i site) ≡ Some v → IsDirect S v (value_of e w (placed S.named o site) >>= used)
  direct_facts e site x i o v is = used_direct v _ (directs S w agrees e site i o x.few x.literals v is)

  pub step_valued : (at : ℕ) (op : StepOp) (a : CExpr) (site : Environment) → IsFew (Step at op a) S.ground.valued site.scope → V a site → V (Step at op a) site
  step_valued at op a site few x = record {
    few = few;
    literals = x.literals;
    value = λ k d n i o le lt. stepped_lands S w agrees site.scope.tags op (type_in site.scope a) k d n (steps u a) (known_place a L (placed S.coded i site)) _ _ few.0 (x.place k d n i o (omega (arith, le)) lt) (known_facts a site x i o);
    place = λ k d n i o le lt. undefined_lands OutsideObject;
    truth = λ k d n i o wanted target le lt lt2. condition S w agrees u k d n (steps u a + 6) wanted target lt2
        (stepped_lands S w agrees site.scope.tags op (type_in site.scope a) k d n (steps u a) (known_place a L (placed S.coded i site)) _ _ few.0 (x.place k d n i o (omega (arith, le)) (omega (arith, lt))) (known_facts a site x i o)) (steps u a + 7) (omega arith);
  }

  -- ---- two operands

  operand_needs : (wa wb n : ℕ) → max wa (wb + 1) ≤ n → (wa ≤ n) × (wb ≤ n) × (1 ≤ n) × ((k : ℕ) → n ≡ suc k → wb ≤ k)
  operand_needs wa wb n le = let r = max_right wa (wb + 1) n le in (max_left wa (wb + 1) n le, omega (arith, r), omega (arith, r), λ k e. omega (arith, r, e))

  -- operands, and what is made of them
  pub both_operands : {R : Type 0} (N : Reg → Operand → R → List Extent → Machine → Type 0) (a b : CExpr) (site : Environment) → V a site → V b (past a site) → (k d n i o : ℕ) → max (waiting a) (waiting b + 1) ≤ n → k + (expr_jumps a + expr_jumps b) < 2 ^ 24
      → (tail : Reg → Operand → List Op) (ct : ℕ) (f : Value → Value → Run R) → ((first : Reg) (second : Operand) (k : ℕ) → IsPair first second → Goes S (tail first second) k d n ct (on_both f) (InOperands S first second) (N first second))
      → (let p = operands d (is_quiet b) (direct a L (placed S.coded i site)) (direct b L (placed S.coded i (past a site))) (value_code a L (placed S.coded i site) k d) (λ d. value_code b L (placed S.coded i (past a site)) (k + expr_jumps a) d) in
      Lands S (p.code ++ tail p.first p.second) k d n (steps u a + (steps u b + (6 + ct))) ((value_of a w (placed S.named o site) >>= used) >>= λ x. (value_of b w (placed S.named o (past a site)) >>= used) >>= λ y. f x y) (N p.first p.second))
  both_operands N a b site x y k d n i o le lt tail ct f g =
      let needs = operand_needs (waiting a) (waiting b) n le in
      operands_lands N S tail k d n (expr_jumps a) (steps u a) (steps u b) ct (is_quiet b) (direct a L (placed S.coded i site)) (direct b L (placed S.coded i (past a site))) (value_code a L (placed S.coded i site) k d) (λ d. value_code b L (placed S.coded i (past a site)) (k + expr_jumps a) d)
      (value_of a w (placed S.named o site) >>= used) (value_of b w (placed S.named o (past a site)) >>= used) f (count a site i k d) (λ v is. direct_is_quiet a L (placed S.coded i site) v is) needs.2 (used_in_a S w agrees (x.value k d n i o needs.0 (omega (arith, lt))))
      (used_in_a S w agrees (y.value (k + expr_jumps a) d n i o needs.1 (omega (arith, lt)))) (λ j e. used_in_a S w agrees (y.value (k + expr_jumps a) (suc d) j i o (needs.3 j e) (omega (arith, lt)))) (λ v is. direct_facts a site x i o v is) (λ v is. direct_facts b (past a site) y i o v is)
      (λ q. quiet_value b w (placed S.named o (past a site)) q) g

  -- ---- elements

  element_lands : (a b : CExpr) (site : Environment) → IsNarrow site.scope.tags (value_type_in site.scope a) → IsNarrow site.scope.tags (value_type_in site.scope b) → V a site → V b (past a site) → (k d n i o : ℕ) → max (waiting a) (waiting b + 1) ≤ n → k + (expr_jumps a + expr_jumps b) < 2 ^ 24
      → Lands S (sum_code (operands d (is_quiet b) (direct a L (placed S.coded i site)) (direct b L (placed S.coded i (past a site))) (value_code a L (placed S.coded i site) k d) (λ d. value_code b L (placed S.coded i (past a site)) (k + expr_jumps a) d))) k d n (steps u a + steps u b + 10)
      (element w site.scope.tags (value_type_in site.scope a) (value_type_in site.scope b) (value_of a w (placed S.named o site) >>= used) (value_of b w (placed S.named o (past a site)) >>= used)) (InA S)
  unfolding element
  element_lands a b site na nb x y k d n i o le lt =
      lands_within n (steps u a + (steps u b + (6 + 4))) (omega arith) (omega arith) (both_operands (λ first second. InA S) a b site x y k d n i o le lt sum_tail 4 (λ p q. sum site.scope.tags (value_type_in site.scope a) (value_type_in site.scope b) p q) (λ first second k pair. sum_goes S w agrees site.scope.tags (value_type_in site.scope a) (value_type_in site.scope b) first second k d n pair na nb))

  pub index_valued : (at : ℕ) (a b : CExpr) (site : Environment) → IsFew (Index at a b) S.ground.valued site.scope → LiteralsAre S.ground w.owner (literals_in site.scope (Index at a b)) site.literals_before → V a site → V b (past a site) → V (Index at a b) site
  index_valued at a b site few ls x y = record {
    few = few;
    literals = ls;
    value = value;
    place = λ k d n i o le lt. value_as_place (lands_within n (steps u a + steps u b + 10) (omega arith) (omega arith) (element_lands a b site few.0 few.1 x y k d n i o le lt));
    truth = λ k d n i o wanted target le lt lt2. condition S w agrees u k d n (steps u a + steps u b + 11) wanted target lt2 (value k d n i o le (omega (arith, lt))) (steps u a + steps u b + 12) (omega arith);
  }
    where
      value : (k d n i o : ℕ) → max (waiting a) (waiting b + 1) ≤ n → k + (expr_jumps a + expr_jumps b) < 2 ^ 24 → Lands S (value_code (Index at a b) L (placed S.coded i site) k d) k d n (steps u a + steps u b + 11) (value_of (Index at a b) w (placed S.named o site)) (InA S)
      value k d n i o le lt = lands_within n (steps u a + steps u b + 10 + 1) (omega arith) (omega arith) (then_lands (value_as_place (element_lands a b site few.0 few.1 x y k d n i o le lt)) (fetched_goes S w agrees (type_in site.scope (Index at a b)) _ d n few.2))

  -- ---- members

  member_of : (j : ℕ) (t : CType) → IsObjectType t → {code : List Op} {k d n c : ℕ} {run : Run Value} → Lands S code k d n c run (PlaceInA S) → Lands S (code ++ (moved_on j ++ fetched t)) k d n (c + 2) (run >>= member_at j >>= value_at w.inner t) (InA S)
  member_of j t o {code} {k} {d} {n} {c} {run} l =
      subst (λ z. Lands S z k d n (c + 2) (run >>= member_at j >>= value_at w.inner t) (InA S)) (append_assoc code (moved_on j) (fetched t)) (lands_within n (c + 1 + 1) (omega arith) (omega arith) (then_lands (then_lands l (member_goes S w agrees j _ d n)) (fetched_goes S w agrees t _ d n o)))

  pub arrow_valued : (at : ℕ) (a : CExpr) (name : List ℕ) (site : Environment) → IsFew (Arrow at a name) S.ground.valued site.scope → V a site → V (Arrow at a name) site
  arrow_valued at a name site few x = record {
    few = few;
    literals = x.literals;
    value = λ k d n i o le lt. member_of _ (type_in site.scope (Arrow at a name)) few.0 (value_as_place (used_in_a S w agrees (x.value k d n i o le lt)));
    place = λ k d n i o le lt. lands_within n (steps u a + 1) (omega arith) (omega arith) (then_lands (value_as_place (used_in_a S w agrees (x.value k d n i o le lt))) (member_goes S w agrees (member_offset site.scope.tags (pointee (value_type_in site.scope a)) name) _ d n));
    truth = λ k d n i o wanted target le lt lt2. condition S w agrees u k d n (steps u a + 2) wanted target lt2 (member_of _ (type_in site.scope (Arrow at a name)) few.0 (value_as_place (used_in_a S w agrees (x.value k d n i o le (omega (arith, lt)))))) (steps u a + 3) (omega arith);
  }

  pub member_valued : (at : ℕ) (a : CExpr) (name : List ℕ) (site : Environment) → IsFew (Member at a name) S.ground.valued site.scope → V a site → V (Member at a name) site
  member_valued at a name site few x = record {
    few = few;
    literals = x.literals;
    value = λ k d n i o le lt. value k d n i o le lt _ refl;
    place = λ k d n i o le lt. lands_within n (steps u a + 1) (omega arith) (omega arith) (then_lands (x.place k d n i o le lt) (member_goes S w agrees (member_offset site.scope.tags (type_in site.scope a) name) _ d n));
    truth = λ k d n i o wanted target le lt lt2. condition S w agrees u k d n (steps u a + 3) wanted target lt2 (value k d n i o le (omega (arith, lt)) _ refl) (steps u a + 4) (omega arith);
  }
    where
      value : (k d n i o : ℕ) → waiting a ≤ n → k + expr_jumps a < 2 ^ 24 → (v : Option Direct) → direct (Member at a name) L (placed S.coded i site) ≡ v
          → Lands S (direct_or v (place_code a L (placed S.coded i site) k d (value_code a L (placed S.coded i site) k d) ++ (moved_on (member_offset site.scope.tags (type_in site.scope a) name) ++ fetched (type_in site.scope (Member at a name))))) k d n (steps u a + 3) (value_of (Member at a name) w (placed S.named o site)) (InA S)
      value k d n i o le lt (Some v) e = directly S w agrees u (Member at a name) site few x.literals v k d n i o (steps u a + 3) (omega arith) e
      value k d n i o le lt None e = lands_within n (steps u a + 2) (omega arith) (omega arith) (member_of _ (type_in site.scope (Member at a name)) few.0 (x.place k d n i o le lt))

  -- ---- assignments

  assign_needs : (wa wb n : ℕ) → max wa (wb + 2) ≤ n → (j : ℕ) → n ≡ suc j → (wa ≤ suc j) × (wb ≤ suc j) × (wb ≤ j)
  assign_needs wa wb n le j e = let l = max_left wa (wb + 2) n le in let r = max_right wa (wb + 2) n le in (omega (arith, l, e), omega (arith, r, e), omega (arith, r, e))

  place_count : (e : CExpr) (site : Environment) (i k d : ℕ) → jumps (place_code e L (placed S.coded i site) k d (value_code e L (placed S.coded i site) k d)) ≡ expr_jumps e
  place_count e site i k d = (place_jumps e L (placed S.coded i site) k d (value_code e L (placed S.coded i site) k d) (value_jumps e L (placed S.coded i site) k d)).count

  -- behind a place that is known, which has no jump
  behind_known : (a : CExpr) (site : Environment) (i k : ℕ) (l : Location) → known_place a L (placed S.coded i site) ≡ Some l → k + expr_jumps a ≡ k
  behind_known a site i k l is = omega (arith, place_is_quiet a L (placed S.coded i site) l is)

  assign_value : (at : ℕ) (op : Option BinOp) (a b : CExpr) (site : Environment) → IsFew (Assign at op a b) S.ground.valued site.scope → V a site → V b (past a site) → (k d n i o : ℕ) → max (waiting a) (waiting b + 2) ≤ n → k + (expr_jumps a + expr_jumps b) < 2 ^ 24
      → Lands S (value_code (Assign at op a b) L (placed S.coded i site) k d) k d n (steps u a + steps u b + 10) (value_of (Assign at op a b) w (placed S.named o site)) (InA S)
  unfolding assignment
  assign_value at op a b site few x y k d zero i o le lt = absurd (let r = max_right (waiting a) (waiting b + 2) 0 le in omega (arith, r))
  assign_value at None a b site few x y k d (suc n) i o le lt =
      let needs = assign_needs (waiting a) (waiting b) (suc n) le n refl in
      lands_within (suc n) (steps u a + (steps u b + 7)) (omega arith) (omega arith)
      (assigned_lands S w agrees (type_in site.scope a) k d n (steps u a) (steps u b) (known_place a L (placed S.coded i site)) (direct b L (placed S.coded i (past a site))) _ (λ d. value_code b L (placed S.coded i (past a site)) (k + expr_jumps a) d) _ _ (x.place k d (suc n) i o needs.0 (omega (arith, lt)))
      (λ l is. at_block (k + expr_jumps a) k (behind_known a site i k l is) (used_in_a S w agrees (y.value (k + expr_jumps a) d (suc n) i o needs.1 (omega (arith, lt)))))
      (at_block (k + expr_jumps a) _ (ap (λ z. k + z) (sym (place_count a site i k d))) (used_in_a S w agrees (y.value (k + expr_jumps a) (suc d) n i o needs.2 (omega (arith, lt))))) (λ l is. known_facts a site x i o l is) (λ v is. direct_facts b (past a site) y i o v is))
  assign_value at (Some op) a b site few x y k d (suc n) i o le lt =
      let needs = assign_needs (waiting a) (waiting b) (suc n) le n refl in
      lands_within (suc n) (steps u a + (steps u b + 10)) (omega arith) (omega arith)
      (updated_lands S w agrees site.scope.tags op (type_in site.scope a) (value_type_in site.scope b) k d n (steps u a) (steps u b) (known_place a L (placed S.coded i site)) (direct b L (placed S.coded i (past a site))) _ (λ d. value_code b L (placed S.coded i (past a site)) (k + expr_jumps a) d) _ _ few.0 few.1.0 few.1.1
      (x.place k d (suc n) i o needs.0 (omega (arith, lt))) (λ l is. at_block (k + expr_jumps a) k (behind_known a site i k l is) (used_in_a S w agrees (y.value (k + expr_jumps a) d (suc n) i o needs.1 (omega (arith, lt)))))
      (at_block (k + expr_jumps a) _ (ap (λ z. k + z) (sym (place_count a site i k d))) (used_in_a S w agrees (y.value (k + expr_jumps a) (suc d) n i o needs.2 (omega (arith, lt))))) (λ l is. known_facts a site x i o l is) (λ v is. direct_facts b (past a site) y i o v is))

  pub assign_valued : (at : ℕ) (op : Option BinOp) (a b : CExpr) (site : Environment) → IsFew (Assign at op a b) S.ground.valued site.scope → LiteralsAre S.ground w.owner (literals_in site.scope (Assign at op a b)) site.literals_before → V a site → V b (past a site) → V (Assign at op a b) site
  assign_valued at op a b site few ls x y = record {
    few = few;
    literals = ls;
    value = λ k d n i o le lt. assign_value at op a b site few x y k d n i o le lt;
    place = λ k d n i o le lt. undefined_lands OutsideObject;
    truth = λ k d n i o wanted target le lt lt2. condition S w agrees u k d n (steps u a + steps u b + 10) wanted target lt2 (assign_value at op a b site few x y k d n i o le (omega (arith, lt))) (steps u a + steps u b + 11) (omega arith);
  }

  -- ---- two branches

  choice_value : (at : ℕ) (a b c : CExpr) (site : Environment) → V a site → V b (past a site) → V c (past b (past a site)) → (k d n i o : ℕ) → max (waiting a) (max (waiting b) (waiting c)) ≤ n → k + (truth_jumps a + expr_jumps b + expr_jumps c + 2) < 2 ^ 24
      → Lands S (value_code (Choice at a b c) L (placed S.coded i site) k d) k d n (truth_steps u a + (steps u b + steps u c + 1)) (value_of (Choice at a b c) w (placed S.named o site)) (InA S)
  unfolding choose
  choice_value at a b c site x y z k d n i o le lt =
      let conv = converted_goes S w agrees (type_in site.scope (Choice at a b c)) in
      let s = truth_jumps a in
      let t = k + s + expr_jumps b + 1 in
      let test = truth_code a L (placed S.coded i site) k d (value_code a L (placed S.coded i site) k d) false t in
      let tests : jumps test ≡ s = (truth_jumps_are a L (placed S.coded i site) k d (value_code a L (placed S.coded i site) k d) (value_jumps a L (placed S.coded i site) k d) false t).count in
      let right = max_right (waiting a) (max (waiting b) (waiting c)) n le in
      let lb = at_block (k + s) (k + jumps test) (ap (λ q. k + q) (sym tests)) (y.value (k + s) d n i o (max_left (waiting b) (waiting c) n right) (omega (arith, lt))) in
      let lc = z.value t d n i o (max_right (waiting b) (waiting c) n right) (omega (arith, lt)) in
      branches_land S test (value_code b L (placed S.coded i (past a site)) (k + s) d) (value_code c L (placed S.coded i (past b (past a site))) t d) k d n (truth_steps u a) (steps u b) (steps u c) t (k + s + expr_jumps b + expr_jumps c + 2) _ _ Whatever
      (omega (arith, tests, count b (past a site) i (k + s) d)) (omega (arith, count c (past b (past a site)) i t d)) (omega (arith, lt)) (x.truth k d n i o false t (max_left (waiting a) (max (waiting b) (waiting c)) n le) (omega (arith, lt)) (omega (arith, lt)))
      (λ v mv is. subst (λ q. Lands S (value_code b L (placed S.coded i (past a site)) (k + s) d) (k + jumps test) d n (steps u b) (choose q (value_of b w (placed S.named o (past a site))) (value_of c w (placed S.named o (past b (past a site)))) >>= λ v. give (converted (type_in site.scope (Choice at a b c)) v)) (InA S)) (sym is) (then_still lb (conv _ d n)))
      (λ v mv is. subst (λ q. Lands S (value_code c L (placed S.coded i (past b (past a site))) t d) t d n (steps u c) (choose q (value_of b w (placed S.named o (past a site))) (value_of c w (placed S.named o (past b (past a site)))) >>= λ v. give (converted (type_in site.scope (Choice at a b c)) v)) (InA S)) (sym is) (then_still lc (conv _ d n)))

  pub choice_valued : (at : ℕ) (a b c : CExpr) (site : Environment) → IsFew (Choice at a b c) S.ground.valued site.scope → LiteralsAre S.ground w.owner (literals_in site.scope (Choice at a b c)) site.literals_before → V a site → V b (past a site) → V c (past b (past a site)) → V (Choice at a b c) site
  choice_valued at a b c site few ls x y z = record {
    few = few;
    literals = ls;
    value = λ k d n i o le lt. choice_value at a b c site x y z k d n i o le lt;
    place = λ k d n i o le lt. undefined_lands OutsideObject;
    truth = λ k d n i o wanted target le lt lt2. condition S w agrees u k d n (truth_steps u a + (steps u b + steps u c + 1)) wanted target lt2 (choice_value at a b c site x y z k d n i o le (omega (arith, lt))) (truth_steps u a + (steps u b + steps u c + 1) + 1) (omega arith);
  }
