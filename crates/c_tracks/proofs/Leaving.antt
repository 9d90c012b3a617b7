-- What is left: blocks, loops and functions.
use Rattle.std.proofs.Common.{◌≡◌, ℕ, zero, suc, ◌-◌, ◌≤◌, List, ◌∷◌, ◌++◌, Option, Some, length, take, drop, map, refl, sym, ap, ◌∙◌, subst, arith}
use Rattle.std.proofs.Common.{length-append}
use Rattle.std.proofs.Math.Seq.{take-append_seam, drop-append_seam, take-take}
use Rattle.std.proofs.lemmas.List.{length-take}
use Rattle.std.specs.Prelude.{slice_get}
use Rattle.c_eval.specs.State as run
use Rattle.c_eval.specs.State.{State, Outcome, Run}
use Rattle.c_eval.specs.Run.{◌>>=◌, after, give, undefined, recharged, objects_now, with_objects}
use Rattle.c_eval.specs.Memory as memory
use Rattle.c_eval.specs.Operators as operators
use Rattle.c_code.specs.Machine as code
use Rattle.c_code.specs.Machine.{Control, step_of, with_top}
use Rattle.c_rule.specs.Stepping.{Store, fresh}
use Rattle.c_store.specs.declared.act.Act.TheVariants as act
use Rattle.c_store.specs.Values.{Value, Missing, Stack}
use Rattle.c_store.specs.Words.{left as without}
use Rattle.c_resolved.specs.Same.{Tables, Same, missing, SameValues, more_values, lengths_of, Shows}
use Rattle.c_resolved.proofs.Blocks.{leaving_shows, leaving_keeps_lengths}
use Rattle.c_plain.specs.Machine as machine
use Rattle.c_plain.specs.Machine.{Machine, Piled, Step, quiet}
use Rattle.c_plain.specs.Operators.{converted}
use Rattle.c_plain.specs.Calls as calls
use Rattle.c_plain.specs.Calls.{resumed, out_of_block}
use Rattle.c_resolved.specs.Resolved.{kind_of}
use Rattle.c_resolved.proofs.Meant.{conversions}
use Rattle.c_tracks.specs.Tracks.{Follows, goes, stops, SameSlots, no_slot, more_slots, Stands, alone, in_block, in_loop, in_switch, in_call, Keeps}

-- ---- rows

take_slots : (lengths : List ℕ) (k : ℕ) → {ss : List (Option ℕ)} → {vs : List Value} → SameSlots lengths ss vs → SameSlots lengths (take k ss) (take k vs)
take_slots lengths zero same = no_slot
take_slots lengths (suc k) no_slot = no_slot
take_slots lengths (suc k) (more_slots s rest) = more_slots s (take_slots lengths k rest)

front_of : (xs ys : List Value) → take (length (xs ++ ys) - length ys) (xs ++ ys) ≡ xs
front_of xs ys = let size : length (xs ++ ys) - length ys ≡ length xs = omega (arith, length-append xs ys) in ap (λ (n : ℕ). take n (xs ++ ys)) size ∙ take-append_seam xs ys

back_of : (xs ys : List Value) → drop (length (xs ++ ys) - length ys) (xs ++ ys) ≡ ys
back_of xs ys = let size : length (xs ++ ys) - length ys ≡ length xs = omega (arith, length-append xs ys) in ap (λ (n : ℕ). drop n (xs ++ ys)) size ∙ drop-append_seam xs ys

-- ---- objects that die

abbrev pub left_objects : ℕ → List run.Object → List run.Object
left_objects n os = take n os ++ map memory.dead (drop n os)

abbrev pub left_store : ℕ → Store → Store
left_store n s = record s { objects = left_objects n s.objects }

-- the machine of these parts
abbrev pub parts : ℕ → List Value → List Value → List Value → List Value → List machine.Open → Stack → (left charge : ℕ) → Machine
parts at mine below slots slots_below opened memory left charge = record {
  at = at;
  values = record { mine = mine; below = below };
  slots = record { mine = slots; below = slots_below };
  opened = opened;
  memory = memory;
  left = left;
  charge = charge;
}

pub leaves : {base : List ℕ} → (t : Tables) (n : ℕ) (s : Store) (f : Unit {0} → Run Control) (z : Step) → Follows base t (f tt (fresh (left_store n s))) z → Follows base t (after (memory.leave n (fresh s)) f) z
unfolding memory.leave objects_now with_objects ◌>>=◌ after
leaves t n s f z follows = follows

-- a caller goes on
resumes : {base : List ℕ} → (t : Tables) (s : Store) (mem : Stack) → Shows t s.objects mem → (f : code.Frame) (frames : List code.Frame) (rest mine values below : List Value) (os : List machine.Open) → SameValues t (lengths_of s.objects) f.stack rest → SameSlots (lengths_of s.objects) f.slots mine
    → Stands t (lengths_of s.objects) f.slots f.opened frames values below os → (at left charge : ℕ) (own slots : List Value) (old : List machine.Open) → left ≡ s.left → Keeps base (lengths_of s.objects) → (v : run.Value) (w : Value) → Same t (lengths_of s.objects) v w
    → Follows base t (code.returned_to v (f ∷ frames) (fresh s)) (quiet (resumed (parts at own (rest ++ values) slots (below ++ mine) old mem left charge) f.back (length values) (length below) (kind_of f.result) f.first f.charge os w))
unfolding code.returned_to memory.leave objects_now with_objects ◌>>=◌ after give recharged
resumes t s mem shows f frames rest mine values below os same slots_same stands at left charge own slots old e files v w alike =
    let same_lengths : lengths_of (left_objects f.first s.objects) ≡ lengths_of s.objects = leaving_keeps_lengths s.objects f.first in
    goes
    (record {
      at = refl;
      values =
          more_values (subst (λ (ls : List ℕ). Same t ls (operators.converted f.result v) (converted (kind_of f.result) w)) (sym same_lengths) (conversions t (lengths_of s.objects) f.result v w alike))
          (subst (λ (ls : List ℕ). SameValues t ls f.stack (take (length (rest ++ values) - length values) (rest ++ values))) (sym same_lengths) (subst (λ (vs : List Value). SameValues t (lengths_of s.objects) f.stack vs) (sym (front_of rest values)) same));
      slots = subst (λ (ls : List ℕ). SameSlots ls f.slots (drop (length below) (below ++ mine))) (sym same_lengths) (subst (λ (vs : List Value). SameSlots (lengths_of s.objects) f.slots vs) (sym (drop-append_seam below mine)) slots_same);
      opened =
          subst (λ (ls : List ℕ). Stands t ls f.slots f.opened frames (drop (length (rest ++ values) - length values) (rest ++ values)) (take (length below) (below ++ mine)) os) (sym same_lengths)
          (subst (λ (vs : List Value). Stands t (lengths_of s.objects) f.slots f.opened frames vs (take (length below) (below ++ mine)) os) (sym (back_of rest values))
          (subst (λ (vs : List Value). Stands t (lengths_of s.objects) f.slots f.opened frames values vs os) (sym (take-append_seam below mine)) stands));
      memory = leaving_shows t s.objects mem f.first shows;
      files = record { first = λ o n h. ap (λ (ls : List ℕ). slice_get ls o) same_lengths ∙ files.first o n h };
      left = e;
      charge = refl;
    })
    refl

-- ---- out of what is open

again_values : (t : Tables) (n : ℕ) (s : Store) → {vs : List run.Value} → {ws : List Value} → SameValues t (lengths_of s.objects) vs ws → SameValues t (lengths_of (left_objects n s.objects)) vs ws
again_values t n s {vs} {ws} same = subst (λ (ls : List ℕ). SameValues t ls vs ws) (sym (leaving_keeps_lengths s.objects n)) same

again_slots : (n : ℕ) (s : Store) → {ss : List (Option ℕ)} → {vs : List Value} → SameSlots (lengths_of s.objects) ss vs → SameSlots (lengths_of (left_objects n s.objects)) ss vs
again_slots n s {ss} {vs} same = subst (λ (ls : List ℕ). SameSlots ls ss vs) (sym (leaving_keeps_lengths s.objects n)) same

again_stands : (t : Tables) (n : ℕ) (s : Store) → {slots : List (Option ℕ)} → {opened : List code.Open} → {frames : List code.Frame} → {values below : List Value} → {os : List machine.Open} → Stands t (lengths_of s.objects) slots opened frames values below os
    → Stands t (lengths_of (left_objects n s.objects)) slots opened frames values below os
again_stands t n s {slots} {opened} {frames} {values} {below} {os} same = subst (λ (ls : List ℕ). Stands t ls slots opened frames values below os) (sym (leaving_keeps_lengths s.objects n)) same

before_same : (lengths : List ℕ) (k : ℕ) (before slots : List (Option ℕ)) (mine : List Value) → before ≡ take k slots → SameSlots lengths slots mine → SameSlots lengths before (take k mine)
before_same lengths k before slots mine e same = subst (λ (ss : List (Option ℕ)). SameSlots lengths ss (take k mine)) (sym e) (take_slots lengths k same)

-- a jump to what a handler tells
pub jumps : {base : List ℕ} → (t : Tables) (s : Store) (mem : Stack) (at place : ℕ) (stack : List run.Value) (mine : List Value) (slots : List (Option ℕ)) (smine : List Value) (opened : List code.Open) (frames : List code.Frame) (values below : List Value) (os : List machine.Open) (left charge : ℕ)
    → place ≡ at → SameValues t (lengths_of s.objects) stack mine → SameSlots (lengths_of s.objects) slots smine → Stands t (lengths_of s.objects) slots opened frames values below os → Shows t s.objects mem → Keeps base (lengths_of s.objects) → left ≡ s.left → charge ≡ s.charge
    → Follows base t (give (record { at = at; stack = stack; slots = slots; opened = opened; frames = frames }) (fresh s)) (quiet (parts place mine values smine below os mem left charge))
unfolding give
jumps t s mem at place stack mine slots smine opened frames values below os left charge e v sl st sh fl l ch = goes (record { at = e; values = v; slots = sl; opened = st; memory = sh; files = fl; left = l; charge = ch }) refl

-- what is said of as many cells is said of these objects
values_of : (t : Tables) (ls : List ℕ) (s : Store) → lengths_of s.objects ≡ ls → {vs : List run.Value} → {ws : List Value} → SameValues t ls vs ws → SameValues t (lengths_of s.objects) vs ws
values_of t ls s e {vs} {ws} same = subst (λ (ns : List ℕ). SameValues t ns vs ws) (sym e) same

slots_of : (ls : List ℕ) (s : Store) → lengths_of s.objects ≡ ls → {ss : List (Option ℕ)} → {vs : List Value} → SameSlots ls ss vs → SameSlots (lengths_of s.objects) ss vs
slots_of ls s e {ss} {vs} same = subst (λ (ns : List ℕ). SameSlots ns ss vs) (sym e) same

stands_of : (t : Tables) (ls : List ℕ) (s : Store) → lengths_of s.objects ≡ ls → {slots : List (Option ℕ)} → {opened : List code.Open} → {frames : List code.Frame} → {values below : List Value} → {os : List machine.Open} → Stands t ls slots opened frames values below os
    → Stands t (lengths_of s.objects) slots opened frames values below os
stands_of t ls s e {slots} {opened} {frames} {values} {below} {os} same = subst (λ (ns : List ℕ). Stands t ns slots opened frames values below os) (sym e) same

keeps_of : {base : List ℕ} → (ls : List ℕ) (s : Store) → lengths_of s.objects ≡ ls → Keeps base ls → Keeps base (lengths_of s.objects)
keeps_of ls s e files = record { first = λ o n h. ap (λ (ns : List ℕ). slice_get ns o) e ∙ files.first o n h }

pub breaks : {base : List ℕ} → (t : Tables) (ls : List ℕ) (stack : List run.Value) (at : ℕ) (mine : List Value) (old : List machine.Open) (left charge : ℕ) → SameValues t ls stack mine → {slots : List (Option ℕ)} → {opened : List code.Open} → {frames : List code.Frame} → {values below : List Value}
    → {os : List machine.Open} → Stands t ls slots opened frames values below os → (s : Store) (mem : Stack) (smine : List Value) → lengths_of s.objects ≡ ls → SameSlots ls slots smine → Shows t s.objects mem → Keeps base ls → left ≡ s.left → charge ≡ s.charge
    → Follows base t (code.broken_off stack frames slots opened (fresh s)) (calls.broken_off os (parts at mine values smine below old mem left charge))
unfolding code.broken_off code.returned_to undefined ◌>>=◌
breaks t ls stack at mine old left charge v alone s mem smine e sl sh fl l ch = stops act.HelperLimit refl
breaks t ls stack at mine old left charge v (in_block {slots} {before} {opened} {frames} {values} {below} {os} n k f h rest) s mem smine e sl sh fl l ch =
    leaves t n s (λ _. code.broken_off stack frames before opened) (calls.broken_off os (parts at mine values (take k smine) below old (without n mem) left charge))
    (breaks t ls stack at mine old left charge v rest (left_store n s) (without n mem) (take k smine) (leaving_keeps_lengths s.objects n ∙ e) (before_same ls k before slots smine f sl) (leaving_shows t s.objects mem n sh) fl l ch)
breaks t ls stack at mine old left charge v (in_loop {slots} {opened} {frames} {values} {below} {os} again past rest) s mem smine e sl sh fl l ch =
    jumps t s mem past past stack mine slots smine opened frames values below os left charge refl (values_of t ls s e v) (slots_of ls s e sl) (stands_of t ls s e rest) sh (keeps_of ls s e fl) l ch
breaks t ls stack at mine old left charge v (in_switch {slots} {opened} {frames} {values} {below} {os} past rest) s mem smine e sl sh fl l ch =
    jumps t s mem past past stack mine slots smine opened frames values below os left charge refl (values_of t ls s e v) (slots_of ls s e sl) (stands_of t ls s e rest) sh (keeps_of ls s e fl) l ch
breaks t ls stack at mine old left charge v (in_call {slots} {frames} {values} {below} {os} f rest own same slots_same stands) s mem smine e sl sh fl l ch =
    resumes t s mem sh f frames rest own values below os (values_of t ls s e same) (slots_of ls s e slots_same) (stands_of t ls s e stands) at left charge mine smine old l (keeps_of ls s e fl) run.Missing Missing missing

pub continues : {base : List ℕ} → (t : Tables) (ls : List ℕ) (stack : List run.Value) (at : ℕ) (mine : List Value) (old : List machine.Open) (left charge : ℕ) → SameValues t ls stack mine → {slots : List (Option ℕ)} → {opened : List code.Open} → {frames : List code.Frame} → {values below : List Value}
    → {os : List machine.Open} → Stands t ls slots opened frames values below os → (s : Store) (mem : Stack) (smine : List Value) → lengths_of s.objects ≡ ls → SameSlots ls slots smine → Shows t s.objects mem → Keeps base ls → left ≡ s.left → charge ≡ s.charge
    → Follows base t (code.continued stack frames slots opened (fresh s)) (calls.continued os (parts at mine values smine below old mem left charge))
unfolding code.continued code.returned_to undefined ◌>>=◌
continues t ls stack at mine old left charge v alone s mem smine e sl sh fl l ch = stops act.HelperLimit refl
continues t ls stack at mine old left charge v (in_block {slots} {before} {opened} {frames} {values} {below} {os} n k f h rest) s mem smine e sl sh fl l ch =
    leaves t n s (λ _. code.continued stack frames before opened) (calls.continued os (parts at mine values (take k smine) below old (without n mem) left charge))
    (continues t ls stack at mine old left charge v rest (left_store n s) (without n mem) (take k smine) (leaving_keeps_lengths s.objects n ∙ e) (before_same ls k before slots smine f sl) (leaving_shows t s.objects mem n sh) fl l ch)
continues t ls stack at mine old left charge v (in_loop {slots} {opened} {frames} {values} {below} {os} again past rest) s mem smine e sl sh fl l ch =
    jumps t s mem again again stack mine slots smine (code.Handler (Some again) past ∷ opened) frames values below (machine.Loop again past ∷ os) left charge refl (values_of t ls s e v) (slots_of ls s e sl) (in_loop again past (stands_of t ls s e rest)) sh (keeps_of ls s e fl) l ch
continues t ls stack at mine old left charge v (in_switch past rest) s mem smine e sl sh fl l ch = continues t ls stack at mine old left charge v rest s mem smine e sl sh fl l ch
continues t ls stack at mine old left charge v (in_call {slots} {frames} {values} {below} {os} f rest own same slots_same stands) s mem smine e sl sh fl l ch =
    resumes t s mem sh f frames rest own values below os (values_of t ls s e same) (slots_of ls s e slots_same) (stands_of t ls s e stands) at left charge mine smine old l (keeps_of ls s e fl) run.Missing Missing missing

-- a block is left on the way out of a function
out_of : {base : List ℕ} → (t : Tables) (n : ℕ) (s : Store) (opened : List code.Open) (x : run.Value) (frames : List code.Frame) (z : Step) → Follows base t (after (code.unwind opened (fresh (left_store n s))) (λ _. code.returned_to x frames)) z
    → Follows base t (after (after (memory.leave n (fresh s)) (λ _. code.unwind opened)) (λ _. code.returned_to x frames)) z
unfolding memory.leave objects_now with_objects ◌>>=◌ after
out_of t n s opened x frames z follows = follows

pub returns : {base : List ℕ} → (t : Tables) (ls : List ℕ) (at : ℕ) (mine smine : List Value) (old : List machine.Open) (left charge : ℕ) (x : run.Value) (w : Value) → Same t ls x w → {slots : List (Option ℕ)} → {opened : List code.Open} → {frames : List code.Frame} → {values below : List Value}
    → {os : List machine.Open} → Stands t ls slots opened frames values below os → (s : Store) (mem : Stack) → lengths_of s.objects ≡ ls → Shows t s.objects mem → Keeps base ls → left ≡ s.left
    → Follows base t (after (code.unwind opened (fresh s)) (λ _. code.returned_to x frames)) (calls.returned os w (parts at mine values smine below old mem left charge))
unfolding code.unwind code.returned_to undefined ◌>>=◌ after give
returns t ls at mine smine old left charge x w same alone s mem e sh fl l = stops act.HelperLimit refl
returns t ls at mine smine old left charge x w same (in_block {slots} {before} {opened} {frames} {values} {below} {os} n k f h rest) s mem e sh fl l =
    out_of t n s opened x frames (calls.returned os w (parts at mine values smine below old (without n mem) left charge))
    (returns t ls at mine smine old left charge x w same rest (left_store n s) (without n mem) (leaving_keeps_lengths s.objects n ∙ e) (leaving_shows t s.objects mem n sh) fl l)
returns t ls at mine smine old left charge x w same (in_loop again past rest) s mem e sh fl l = returns t ls at mine smine old left charge x w same rest s mem e sh fl l
returns t ls at mine smine old left charge x w same (in_switch past rest) s mem e sh fl l = returns t ls at mine smine old left charge x w same rest s mem e sh fl l
returns t ls at mine smine old left charge x w same (in_call {slots} {frames} {values} {below} {os} f rest own alike slots_same stands) s mem e sh fl l =
    resumes t s mem sh f frames rest own values below os (values_of t ls s e alike) (slots_of ls s e slots_same) (stands_of t ls s e stands) at left charge mine smine old l (keeps_of ls s e fl) x w (subst (λ (ns : List ℕ). Same t ns x w) (sym e) same)

pub leaves_block : {base : List ℕ} → (t : Tables) (s : Store) (mem : Stack) (at place : ℕ) (stack : List run.Value) (mine smine : List Value) (left charge : ℕ) → {slots : List (Option ℕ)} → {opened : List code.Open} → {frames : List code.Frame} → {values below : List Value} → {os : List machine.Open}
    → Stands t (lengths_of s.objects) slots opened frames values below os → place ≡ at → SameValues t (lengths_of s.objects) stack mine → SameSlots (lengths_of s.objects) slots smine → Shows t s.objects mem → Keeps base (lengths_of s.objects) → left ≡ s.left → charge ≡ s.charge
    → Follows base t (code.left_block (record { at = at; stack = stack; slots = slots; opened = opened; frames = frames }) opened (fresh s)) (calls.left_block os (parts place mine values smine below os mem left charge))
unfolding code.left_block undefined ◌>>=◌
leaves_block t s mem at place stack mine smine left charge alone f v sl sh fl l ch = stops act.HelperLimit refl
leaves_block t s mem at place stack mine smine left charge (in_block {slots} {before} {opened} {frames} {values} {below} {os} n k e h rest) f v sl sh fl l ch =
    leaves t n s (λ _. give (record { at = suc at; stack = stack; slots = before; opened = opened; frames = frames })) (quiet (parts (suc place) mine values (take k smine) below os (without n mem) left charge))
    (jumps t (left_store n s) (without n mem) (suc at) (suc place) stack mine before (take k smine) opened frames values below os left charge (ap suc f) (again_values t n s v)
    (again_slots n s (before_same (lengths_of s.objects) k before slots smine e sl)) (again_stands t n s rest) (leaving_shows t s.objects mem n sh) (record { first = λ o j q. ap (λ (ls : List ℕ). slice_get ls o) (leaving_keeps_lengths s.objects n) ∙ fl.first o j q }) l ch)
leaves_block t s mem at place stack mine smine left charge (in_loop again past rest) f v sl sh fl l ch = stops act.HelperLimit refl
leaves_block t s mem at place stack mine smine left charge (in_switch past rest) f v sl sh fl l ch = stops act.HelperLimit refl
leaves_block t s mem at place stack mine smine left charge (in_call g rest own same slots_same stands) f v sl sh fl l ch = stops act.HelperLimit refl

-- behind a block more slots are there
widened : (t : Tables) (lengths : List ℕ) (k : ℕ) (slots : List (Option ℕ)) → {before : List (Option ℕ)} → {opened : List code.Open} → {frames : List code.Frame} → {values below : List Value} → {os : List machine.Open} → Stands t lengths before opened frames values below os → before ≡ take k slots
    → Stands t lengths slots opened frames values below os
widened t lengths k slots alone e = alone
widened t lengths k slots (in_block n j f h rest) e =
    let near : j ≤ length (take k slots) = subst (λ (ss : List (Option ℕ)). j ≤ length ss) e h in
    let small : j ≤ k = omega (arith, length-take k slots) in
    let within : j ≤ length slots = omega (arith, length-take k slots) in
    in_block n j (f ∙ (ap (take j) e ∙ take-take j k slots small)) within rest
widened t lengths k slots (in_loop again past rest) e = in_loop again past (widened t lengths k slots rest e)
widened t lengths k slots (in_switch past rest) e = in_switch past (widened t lengths k slots rest e)
widened t lengths k slots (in_call f rest own same slots_same stands) e = in_call f rest own same slots_same stands

-- what is open once a loop or a `switch` is done
pub closes : (t : Tables) (lengths : List ℕ) → {slots : List (Option ℕ)} → {opened : List code.Open} → {frames : List code.Frame} → {values below : List Value} → {os : List machine.Open} → Stands t lengths slots opened frames values below os
    → Stands t lengths slots (drop 1 opened) frames values below (calls.closed os)
closes t lengths alone = alone
closes t lengths (in_block {slots} n k e h rest) = widened t lengths k slots rest e
closes t lengths (in_loop again past rest) = rest
closes t lengths (in_switch past rest) = rest
closes t lengths (in_call f rest own same slots_same stands) = in_call f rest own same slots_same stands
