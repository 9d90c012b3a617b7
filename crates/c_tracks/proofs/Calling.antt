-- Calls.
use Rattle.std.proofs.Common.{◌≡◌, ℕ, zero, suc, ◌+◌, ◌≤◌, Bool, true, false, List, [], ◌∷◌, ◌++◌, Option, Some, length, take, drop, map, refl, sym, ap, ◌∙◌, subst, if◌then◌else◌, append-nil, arith}
use Rattle.std.proofs.lemmas.List.{length-map}
use Rattle.std.proofs.lemmas.Bool.Decides.{nat_tests}
use Rattle.std.specs.Prelude.{slice_get, nat_le}
use Rattle.c_syntax.specs.Words.{meaning}
use Rattle.c_types.specs.Types.{CTypes, NoType, MoreType}
use Rattle.c_eval.specs.State as run
use Rattle.c_eval.specs.State.{Run}
use Rattle.c_eval.specs.Run.{◌>>=◌, after, give, undefined, objects_now, with_objects, paid}
use Rattle.c_eval.specs.Run as words
use Rattle.c_eval.specs.Memory as memory
use Rattle.c_eval.specs.Operators as operators
use Rattle.c_eval.specs.Meaning.{argument_objects}
use Rattle.c_code.specs.Code as instruction
use Rattle.c_code.specs.Machine as code
use Rattle.c_code.specs.Machine.{Control, step_of, with_top}
use Rattle.c_rule.specs.Stepping.{FlatCode, Store, fresh, fed}
use Rattle.c_store.specs.declared.act.Act.TheVariants as act
use Rattle.c_store.specs.declared.kind.Kind.{Kind}
use Rattle.c_store.specs.Values.{Value, Holds}
use Rattle.c_resolved.specs.Same.{Tables, Same, word, null, point, letter, function, missing, SameValues, no_value, more_values, SameBlock, lengths_of}
use Rattle.c_resolved.proofs.Blocks.{blocks_show}
use Rattle.c_plain.specs.declared.code.Entry.{Entry}
use Rattle.c_plain.specs.declared.instruction.Arguments.{Arguments}
use Rattle.c_plain.specs.declared.instruction.Instruction.TheVariants as plain
use Rattle.c_plain.specs.Machine as machine
use Rattle.c_plain.specs.Machine.{Machine, Step, quiet, fault, on_top}
use Rattle.c_plain.specs.Program.{Program, in_span}
use Rattle.c_plain.specs.Rule as rule
use Rattle.c_plain.specs.Rule.{step, entry_of, arguments_of}
use Rattle.c_plain.specs.Calls as calls
use Rattle.c_resolved.specs.Resolved.{kind_of}
use Rattle.c_resolved.specs.Means.{argument_kinds, AreArguments}
use Rattle.c_resolved.proofs.Meant.{conversions}
use Rattle.c_tracks.specs.Tracks.{TracksAt, Follows, goes, stops, SameSlots, Stands, in_call, SameEntry, no_entry, an_entry, told_charge}
use Rattle.c_tracks.proofs.Basics.{top, unit}
use Rattle.c_tracks.proofs.Simple.{drop_same, onto_same}
use Rattle.c_tracks.proofs.Entering.{values_more, get_front, slots_more, stands_more, grown, argument_lengths, argument_block, argument_slots_same}

-- ---- arguments

plain_kept : (n : ℕ) (ws : List Value) → calls.all_converted (argument_kinds NoType n) ws ≡ ws
plain_kept zero ws = refl
plain_kept (suc n) [] = refl
plain_kept (suc n) (w ∷ ws) = ap (λ (us : List Value). w ∷ us) (plain_kept n ws)

converted_same : (t : Tables) (lengths : List ℕ) (params : CTypes) (n : ℕ) → {vs : List run.Value} → {ws : List Value} → SameValues t lengths vs ws → length ws ≤ n → SameValues t lengths (operators.all_converted params vs) (calls.all_converted (argument_kinds params n) ws)
converted_same t lengths NoType n {vs} {ws} same h = subst (λ (us : List Value). SameValues t lengths vs us) (sym (plain_kept n ws)) same
converted_same t lengths (MoreType ty ts) zero no_value h = no_value
converted_same t lengths (MoreType ty ts) (suc n) no_value h = no_value
converted_same t lengths (MoreType ty ts) zero (more_values s rest) h = absurd (omega arith)
converted_same t lengths (MoreType ty ts) (suc n) (more_values {v} {w} {vs} {ws} s rest) h = more_values (conversions t lengths ty v w s) (converted_same t lengths ts n rest (omega arith))

few_arguments : (n : ℕ) (stack vs : List Value) → length (calls.arguments_onto n stack vs) ≤ n + length vs
few_arguments zero stack vs = omega arith
few_arguments (suc n) [] vs = omega arith
few_arguments (suc n) (v ∷ stack) vs = let less : length (calls.arguments_onto n stack (v ∷ vs)) ≤ n + suc (length vs) = few_arguments n stack (v ∷ vs) in omega arith

-- the arguments of a call, converted
pub arguments_same : (t : Tables) (lengths : List ℕ) (p : Program) (params : CTypes) (n : ℕ) (a : Arguments) → AreArguments p params n a → {vs : List run.Value} → {ws : List Value} → SameValues t lengths vs ws
    → SameValues t lengths (operators.all_converted params (code.arguments n vs)) (arguments_of p a ws)
arguments_same t lengths p params n a are {vs} {ws} same =
    let few : length (calls.arguments n ws) ≤ n = omega (arith, few_arguments n ws []) in
    subst (λ (k : ℕ). SameValues t lengths (operators.all_converted params (code.arguments n vs)) (calls.all_converted (in_span p.kinds a.kinds) (calls.arguments k ws))) (sym are.0)
    (subst (λ (ks : List Kind). SameValues t lengths (operators.all_converted params (code.arguments n vs)) (calls.all_converted ks (calls.arguments n ws))) (sym are.1)
    (converted_same t lengths params n (onto_same t lengths n same no_value) few))

-- ---- calls

same_call : (a b : ℕ) (values slots : ℕ) (k l : Kind) (m n c d : ℕ) → a ≡ b → k ≡ l → m ≡ n → c ≡ d → machine.Call a values slots k m c ≡ machine.Call b values slots l n d
same_call a b values slots k l m n c d e f g h =
    ap (λ (x : ℕ). machine.Call x values slots k m c) e ∙ (ap (λ (x : Kind). machine.Call b values slots x m c) f ∙ (ap (λ (x : ℕ). machine.Call b values slots l x c) g ∙ ap (λ (x : ℕ). machine.Call b values slots l n x) h))

no_more : (n k : ℕ) → k ≡ 0 → code.numbered n k ≡ (let none : List (Option ℕ) = [] in none)
no_more n k e = ap (code.numbered n) e

enters_call : {base : List ℕ} → (t : Tables) (c : Control) (s : Store) (m : Machine) → TracksAt base t c s m → (rest : List run.Value) (others : List Value) → SameValues t (lengths_of s.objects) rest others → (vs : List run.Value) (ws : List Value) → SameValues t (lengths_of s.objects) vs ws
    → (e : code.Entry) (g : Entry) → g.at ≡ e.at → g.params ≡ length e.params → g.result ≡ kind_of e.result → g.charge ≡ e.charge → e.more ≡ 0
    → Follows base t (after (memory.enter (argument_objects e.params vs) (record (fresh s) { charge = s.charge + e.charge })) (λ n. give (code.at_entry c rest e vs s.charge n))) (quiet (calls.at_entry m g others ws))
unfolding memory.enter objects_now with_objects ◌>>=◌ after give
enters_call t c s m tracks rest others below vs ws same e g at params result charge more =
    let os = s.objects in
    let new = map (λ (w : Value). 1) (take (length e.params) ws) in
    let ls : lengths_of (os ++ map memory.live_object (argument_objects e.params vs)) ≡ lengths_of os ++ new = grown os (argument_objects e.params vs) new (argument_lengths t (lengths_of os) e.params same) in
    let count : length (lengths_of os) ≡ length os = length-map os (λ (o : run.Object). length o.cells) in
    let next : m.memory.next ≡ length os = tracks.memory.next in
    let own = code.argument_slots e.params vs (length os) in
    let slots_are : own ++ code.numbered (length os + length (argument_objects e.params vs)) e.more ≡ own = ap (λ (ss : List (Option ℕ)). own ++ ss) (no_more (length os + length (argument_objects e.params vs)) e.more more) ∙ append-nil own in
    let args : SameSlots (lengths_of os ++ new) own (calls.argument_slots m.memory.next g.params ws) =
    subst (λ (k : ℕ). SameSlots (lengths_of os ++ new) own (calls.argument_slots m.memory.next k ws)) (sym params)
    (subst (λ (k : ℕ). SameSlots (lengths_of os ++ new) own (calls.argument_slots k (length e.params) ws)) (sym next)
    (subst (λ (k : ℕ). SameSlots (lengths_of os ++ new) (code.argument_slots e.params vs k) (calls.argument_slots k (length e.params) ws)) count (argument_slots_same t (lengths_of os) e.params same (lengths_of os))))
    in
    let call : machine.Call (suc m.at) (length m.values.below) (length m.slots.below) g.result m.memory.next m.charge ≡ machine.Call (suc c.at) (length m.values.below) (length m.slots.below) (kind_of e.result) (length os) s.charge =
    same_call (suc m.at) (suc c.at) (length m.values.below) (length m.slots.below) g.result (kind_of e.result) m.memory.next (length os) m.charge s.charge (ap suc tracks.at) result next tracks.charge
    in
    goes
    (record {
      at = at;
      values = no_value;
      slots =
          subst (λ (ns : List ℕ). SameSlots ns (own ++ code.numbered (length os + length (argument_objects e.params vs)) e.more) (calls.argument_slots m.memory.next g.params ws)) (sym ls)
          (subst (λ (ss : List (Option ℕ)). SameSlots (lengths_of os ++ new) ss (calls.argument_slots m.memory.next g.params ws)) (sym slots_are) args);
      opened =
          subst (λ (ns : List ℕ). Stands t ns (own ++ code.numbered (length os + length (argument_objects e.params vs)) e.more) [] (code.waiting c rest e (length os) s.charge ∷ c.frames) (others ++ m.values.below) (m.slots.below ++ m.slots.mine) (calls.call_of m g ∷ m.opened)) (sym ls)
          (subst (λ (o : machine.Open). Stands t (lengths_of os ++ new) (own ++ code.numbered (length os + length (argument_objects e.params vs)) e.more) [] (code.waiting c rest e (length os) s.charge ∷ c.frames) (others ++ m.values.below) (m.slots.below ++ m.slots.mine) (o ∷ m.opened)) (sym call)
          (in_call (code.waiting c rest e (length os) s.charge) others m.slots.mine (values_more t (lengths_of os) new below) (slots_more (lengths_of os) new tracks.slots) (stands_more t (lengths_of os) new tracks.opened)));
      memory =
          blocks_show t os m.memory (argument_objects e.params vs) (map (λ w. Holds w ∷ []) (take g.params ws)) tracks.memory
          (subst (λ (k : ℕ). SameBlock t (lengths_of (os ++ map memory.live_object (argument_objects e.params vs))) (argument_objects e.params vs) (map (λ w. Holds w ∷ []) (take k ws))) (sym params)
          (argument_block t (lengths_of (os ++ map memory.live_object (argument_objects e.params vs))) e.params (subst (λ (ns : List ℕ). SameValues t ns vs ws) (sym ls) (values_more t (lengths_of os) new same))));
      files = record { first = λ o n h. ap (λ (ns : List ℕ). slice_get ns o) ls ∙ get_front (lengths_of os) new o n (tracks.files.first o n h) };
      left = tracks.left;
      charge = ap (λ (k : ℕ). k + g.charge) tracks.charge ∙ ap (λ (k : ℕ). s.charge + k) charge;
    })
    refl

begins : {base : List ℕ} → (t : Tables) (s : Store) (f : Run Control) (z : Step) (n : ℕ) (b c : Bool) → b ≡ c → (b ≡ true → Follows base t (f (record (fresh s) { charge = s.charge + n })) z)
    → Follows base t (code.begun b n f (fresh s)) (if c then z else fault act.ChargeLimit)
unfolding code.begun
begins t s f z n true true h follows = follows refl
begins t s f z n false false h follows = stops act.ChargeLimit refl
begins t s f z n true false h follows = cc
begins t s f z n false true h follows = cc

-- what is told of a charge is within the limit where the charge is
told_alike : (charge n : ℕ) → nat_le (charge + n) words.most_charge ≡ nat_le (charge + told_charge n) calls.most_charge
told_alike charge n = by (nat_le (charge + n) words.most_charge) (nat_le (charge + told_charge n) calls.most_charge) refl refl
  where
    by : (b c : Bool) → nat_le (charge + n) words.most_charge ≡ b → nat_le (charge + told_charge n) calls.most_charge ≡ c → b ≡ c
    by true true p q = refl
    by false false p q = refl
    by true false p q = absurd (grind (arith, nat_tests, p, q))
    by false true p q = absurd (grind (arith, nat_tests, p, q))

-- and is then the charge itself
told_within : (charge n : ℕ) → nat_le (charge + n) words.most_charge ≡ true → told_charge n ≡ n
told_within charge n p = let below : charge + n ≤ words.most_charge = grind (arith, nat_tests, p) in omega (arith, below)

pub calls_on : {base : List ℕ} → (t : Tables) (c : Control) (s : Store) (m : Machine) → TracksAt base t c s m → (rest : List run.Value) (others : List Value) → SameValues t (lengths_of s.objects) rest others → (vs : List run.Value) (ws : List Value) → SameValues t (lengths_of s.objects) vs ws
    → {o : Option code.Entry} → {r : Option Entry} → SameEntry o r → Follows base t (code.called c rest o vs (fresh s)) (calls.called m r others ws)
unfolding code.called ◌>>=◌
calls_on t c s m tracks rest others below vs ws same no_entry = stops act.OutsideObject refl
calls_on t c s m tracks rest others below vs ws same (an_entry e g at params result charge more) =
    let total : s.charge + told_charge e.charge ≡ m.charge + g.charge = sym (ap (λ (k : ℕ). k + g.charge) tracks.charge ∙ ap (λ (k : ℕ). s.charge + k) charge) in
    begins t s (λ st. after (memory.enter (argument_objects e.params vs) st) (λ n. give (code.at_entry c rest e vs s.charge n))) (quiet (calls.at_entry m g others ws)) e.charge (nat_le (s.charge + e.charge) words.most_charge) (nat_le (m.charge + g.charge) calls.most_charge)
    (told_alike s.charge e.charge ∙ ap (λ (k : ℕ). nat_le k calls.most_charge) total)
    (λ within. enters_call t c s m tracks rest others below vs ws same e g at params result (charge ∙ told_within s.charge e.charge within) more)

module _ {base : List ℕ} (t : Tables) (p : Program) (f : FlatCode) (byte : ℕ) (c : Control) (s : Store) (m : Machine) (tracks : TracksAt base t c s m) (entries : (name : List ℕ) (g : ℕ) → slice_get t.names g ≡ Some name → SameEntry (meaning f.entries name) (entry_of p g)) where
  pub call_named : (name : List ℕ) (g : ℕ) (params : CTypes) (n : ℕ) (a : Arguments) → slice_get t.names g ≡ Some name → AreArguments p params n a
      → Follows base t (step_of (fed f byte) (instruction.Call name params n) c (fresh s)) (step p byte (plain.Call g a) m)
  unfolding step_of
  call_named name g params n a named are =
      unit t c s m tracks (code.called c (drop n c.stack) (meaning f.entries name) (operators.all_converted params (code.arguments n c.stack))) (λ d. calls.called d (entry_of p g) (drop a.count m.values.mine) (arguments_of p a m.values.mine))
      (λ left now.
      calls_on t c (record s { left = left }) (record m { left = left }) now (drop n c.stack) (drop a.count m.values.mine)
      (subst (λ (k : ℕ). SameValues t (lengths_of s.objects) (drop n c.stack) (drop k m.values.mine)) (sym are.0) (drop_same t (lengths_of s.objects) n tracks.values))
      (operators.all_converted params (code.arguments n c.stack)) (arguments_of p a m.values.mine) (arguments_same t (lengths_of s.objects) p params n a are tracks.values) (entries name g named))

  through : (rest : List run.Value) (others : List Value) → SameValues t (lengths_of s.objects) rest others → (vs : List run.Value) (ws : List Value) → SameValues t (lengths_of s.objects) vs ws → {v : run.Value} → {w : Value} → Same t (lengths_of s.objects) v w
      → Follows base t (code.called_through (fed f byte) c rest v vs (fresh s)) (machine.paid m (λ d. rule.called_through p d w others ws))
  unfolding code.called_through undefined
  through rest others below vs ws same (function g name e) =
      unit t c s m tracks (code.called c rest (meaning f.entries name) vs) (λ d. calls.called d (entry_of p g) others ws)
      (λ left now. calls_on t c (record s { left = left }) (record m { left = left }) now rest others below vs ws same (entries name g e))
  through rest others below vs ws same null = unit t c s m tracks (undefined run.NullCall) (λ d. fault act.NullCall) (λ left now. stops act.NullCall refl)
  through rest others below vs ws same (word n) = unit t c s m tracks (undefined run.OtherKind) (λ d. fault act.OtherKind) (λ left now. stops act.OtherKind refl)
  through rest others below vs ws same (point o n k e) = unit t c s m tracks (undefined run.OtherKind) (λ d. fault act.OtherKind) (λ left now. stops act.OtherKind refl)
  through rest others below vs ws same (letter owner l x k e own) = unit t c s m tracks (undefined run.OtherKind) (λ d. fault act.OtherKind) (λ left now. stops act.OtherKind refl)
  through rest others below vs ws same missing = unit t c s m tracks (undefined run.OtherKind) (λ d. fault act.OtherKind) (λ left now. stops act.OtherKind refl)

  pub call_pointer : (params : CTypes) (n : ℕ) (a : Arguments) → AreArguments p params n a → Follows base t (step_of (fed f byte) (instruction.CallThrough params n) c (fresh s)) (step p byte (plain.CallThrough a) m)
  unfolding step_of
  call_pointer params n a are =
      top t (lengths_of s.objects) (fresh s) refl (λ v rest. code.called_through (fed f byte) c rest v (operators.all_converted params (code.arguments n c.stack)))
      (λ v rest. machine.paid m (λ d. rule.called_through p d v rest (arguments_of p a m.values.mine)))
      (subst (λ (k : ℕ). SameValues t (lengths_of s.objects) (drop n c.stack) (drop k m.values.mine)) (sym are.0) (drop_same t (lengths_of s.objects) n tracks.values))
      (λ v rest w others alike below. through rest others below (operators.all_converted params (code.arguments n c.stack)) (arguments_of p a m.values.mine) (arguments_same t (lengths_of s.objects) p params n a are tracks.values) alike)
