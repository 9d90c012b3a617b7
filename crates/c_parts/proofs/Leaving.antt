-- What is open makes no difference to a machine that leaves it.
use Rattle.std.proofs.Common.{◌≡◌, ℕ, ◌+◌, List, [], ◌∷◌, ◌++◌, length, map, take, drop, min, Option, Some, None, true, refl, sym, ap, ◌∙◌, arith}
use Rattle.std.specs.Prelude.{replicate, nat_le, MatchOption}
use Rattle.std.proofs.lemmas.List.{length-map, take_min}
use Rattle.std.specs.List.{take-map}
use Rattle.c_store.specs.Values.{Value, Missing, Stack}
use Rattle.c_store.specs.Words.{left as without, entered_values}
use Rattle.c_store.specs.Shown.{value_of}
use Rattle.c_store.specs.declared.value.Value as rust_value
use Rattle.c_plain.specs.declared.code.Entry.{Entry}
use Rattle.c_plain.specs.Machine.{Open, Block, Loop, Switch, Call, Piled, Machine, Step, quiet}
use Rattle.c_plain.specs.Calls.{most_charge, pointers_from, argument_slots, call_of, called, returned, out_of_block, broken_off, continued, closed}
use Rattle.c_parts.specs.declared.opened.Open as rust
use Rattle.c_parts.specs.Opens.{open_of}
use Rattle.c_parts.proofs.Piles.{slots_of_call}

abbrev pub with_opened : List Open → Machine → Machine
with_opened a m = record m { opened = a }

pub returned_same : (os a : List Open) (v : Value) (m : Machine) → returned os v (with_opened a m) ≡ returned os v m
returned_same [] a v m = refl
returned_same (Block first slots ∷ os) a v m = returned_same os a v (record m { memory = without first m.memory })
returned_same (Loop again past ∷ os) a v m = returned_same os a v m
returned_same (Switch past ∷ os) a v m = returned_same os a v m
returned_same (Call back values slots result first charge ∷ os) a v m = refl

pub broken_same : (os a : List Open) (m : Machine) → broken_off os (with_opened a m) ≡ broken_off os m
broken_same [] a m = refl
broken_same (Block first slots ∷ os) a m = broken_same os a (out_of_block first slots m)
broken_same (Loop again past ∷ os) a m = refl
broken_same (Switch past ∷ os) a m = refl
broken_same (Call back values slots result first charge ∷ os) a m = refl

pub continued_same : (os a : List Open) (m : Machine) → continued os (with_opened a m) ≡ continued os m
continued_same [] a m = refl
continued_same (Block first slots ∷ os) a m = continued_same os a (out_of_block first slots m)
continued_same (Loop again past ∷ os) a m = refl
continued_same (Switch past ∷ os) a m = continued_same os a m
continued_same (Call back values slots result first charge ∷ os) a m = refl

-- a block is left on the way
pub past_block : (old new : List Open) (first slots : ℕ) (v : Value) (m : Machine) (memory : Stack) (s : Step) → old ≡ Block first slots ∷ new → memory ≡ without first m.memory → returned old v m ≡ s → returned new v (with_opened new (record m { memory = memory })) ≡ s
past_block old new first slots v m memory s e g f =
    ap (λ (x : Stack). returned new v (with_opened new (record m { memory = x }))) g
    ∙ (returned_same new new v (record m { memory = without first m.memory }) ∙ (sym (ap (λ (os : List Open). returned os v m) e) ∙ f))

pub broken_past_block : (old new : List Open) (first slots : ℕ) (m : Machine) (memory : Stack) (kept : Piled) (s : Step) → old ≡ Block first slots ∷ new → memory ≡ without first m.memory → kept ≡ record { mine = take slots m.slots.mine; below = m.slots.below } →
    broken_off old m ≡ s → broken_off new (with_opened new (record m { slots = kept; memory = memory })) ≡ s
broken_past_block old new first slots m memory kept s e g h f =
    ap (λ (x : Stack). broken_off new (with_opened new (record m { slots = kept; memory = x }))) g
    ∙ (ap (λ (x : Piled). broken_off new (with_opened new (record m { slots = x; memory = without first m.memory }))) h
    ∙ (broken_same new new (out_of_block first slots m) ∙ (sym (ap (λ (os : List Open). broken_off os m) e) ∙ f)))

pub continued_past_block : (old new : List Open) (first slots : ℕ) (m : Machine) (memory : Stack) (kept : Piled) (s : Step) → old ≡ Block first slots ∷ new → memory ≡ without first m.memory → kept ≡ record { mine = take slots m.slots.mine; below = m.slots.below } →
    continued old m ≡ s → continued new (with_opened new (record m { slots = kept; memory = memory })) ≡ s
continued_past_block old new first slots m memory kept s e g h f =
    ap (λ (x : Stack). continued new (with_opened new (record m { slots = kept; memory = x }))) g
    ∙ (ap (λ (x : Piled). continued new (with_opened new (record m { slots = x; memory = without first m.memory }))) h
    ∙ (continued_same new new (out_of_block first slots m) ∙ (sym (ap (λ (os : List Open). continued os m) e) ∙ f)))

pub continued_past_switch : (old new : List Open) (past : ℕ) (m : Machine) (s : Step) → old ≡ Switch past ∷ new → continued old m ≡ s → continued new (with_opened new m) ≡ s
continued_past_switch old new past m s e f = continued_same new new m ∙ (sym (ap (λ (os : List Open). continued os m) e) ∙ f)

pub past_loop : (old new : List Open) (again past : ℕ) (v : Value) (m : Machine) (s : Step) → old ≡ Loop again past ∷ new → returned old v m ≡ s → returned new v (with_opened new m) ≡ s
past_loop old new again past v m s e f = returned_same new new v m ∙ (sym (ap (λ (os : List Open). returned os v m) e) ∙ f)

pub past_switch : (old new : List Open) (past : ℕ) (v : Value) (m : Machine) (s : Step) → old ≡ Switch past ∷ new → returned old v m ≡ s → returned new v (with_opened new m) ≡ s
past_switch old new past v m s e f = returned_same new new v m ∙ (sym (ap (λ (os : List Open). returned os v m) e) ∙ f)

-- the innermost is closed
pub closes : (old new : List Open) (x : Open) → old ≡ x ∷ drop 1 old → closed (x ∷ drop 1 old) ≡ drop 1 old → new ≡ drop 1 old → new ≡ closed old
closes old new x e h t = t ∙ (sym h ∙ ap closed (sym e))

pub dropped_top : (old new : List Open) (r : Option rust.Open) → MatchOption r ((old ≡ []) × (new ≡ [])) (λ y. old ≡ open_of y ∷ new) → new ≡ drop 1 old
dropped_top old new None m = m.1 ∙ ap (drop 1) (sym m.0)
dropped_top old new (Some y) m = ap (drop 1) (sym m)

-- a function begins
pub begins : (m n : Machine) (e : Entry) (count used empty charge : ℕ) (o : Open) (items : List rust_value.Value) (vals : Piled) → used ≡ min (length items) e.params → used + empty ≡ e.params → nat_le (m.charge + e.charge) most_charge ≡ true → charge ≡ m.charge + e.charge →
    o ≡ call_of m e →
    n ≡ record m { slots = record { mine = pointers_from m.memory.next (replicate used 1) ++ replicate empty Missing; below = m.slots.below ++ m.slots.mine }; opened = o ∷ m.opened; memory = entered_values (map value_of (take used items)) m.memory } →
    vals ≡ record { mine = []; below = drop count m.values.mine ++ m.values.below } →
    called m (Some e) (drop count m.values.mine) (map value_of items) ≡ quiet (record n { at = e.at; values = vals; charge = charge })
begins m n e count used empty charge o items vals few sum within total same opens values =
    let vs : List Value = map value_of items in
    let l : length vs ≡ length items = length-map items value_of in
    let small : used ≡ min e.params (length vs) = omega arith in
    let slots = slots_of_call m.memory.next e.params used empty vs small sum in
    let taken : map value_of (take used items) ≡ take e.params vs = sym (take-map value_of used items) ∙ (ap (λ (k : ℕ). take k vs) small ∙ take_min e.params vs) in
    let Q : Open → List Value → List Value → ℕ → Piled → Machine = λ p xs ys k w. record { at = e.at; values = w; slots = record { mine = xs; below = m.slots.below ++ m.slots.mine }; opened = p ∷ m.opened; memory = entered_values ys m.memory; left = m.left; charge = k } in
    let W : Piled = record { mine = []; below = drop count m.values.mine ++ m.values.below } in
    let S : List Value = pointers_from m.memory.next (replicate used 1) ++ replicate empty Missing in
    let T : List Value = map value_of (take used items) in
    rw within (ap quiet (
    ap (λ (p : Open). Q p (argument_slots m.memory.next e.params vs) (take e.params vs) (m.charge + e.charge) W) (sym same)
    ∙ (ap (λ (xs : List Value). Q o xs (take e.params vs) (m.charge + e.charge) W) (sym slots)
    ∙ (ap (λ (ys : List Value). Q o S ys (m.charge + e.charge) W) (sym taken)
    ∙ (ap (λ (k : ℕ). Q o S T k W) (sym total)
    ∙ (ap (λ (w : Piled). Q o S T charge w) (sym values)
    ∙ ap (λ (p : Machine). record p { at = e.at; values = vals; charge = charge }) (sym opens)))))))
