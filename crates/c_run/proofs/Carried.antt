-- What the run of plain code tells of the run of the code that it is.
use Rattle.std.proofs.Common.{◌≡◌, ◌≢◌, ℕ, suc, ◌+◌, ◌<◌, ◌≤◌, Bool, true, false, cond, List, [], ◌++◌, Option, Some, None, length, refl, sym, ap, ◌∙◌, subst, arith, append_assoc}
use Rattle.std.specs.Io.KnownBytes.{Appends, Consumes}
use Rattle.mach_core.specs.declared.machine.Status.{Status}
use Rattle.mach_core.specs.declared.machine.Status.TheVariants as status
use Rattle.mach_core.specs.declared.run.RunEnd.{RunEnd}
use Rattle.mach_core.specs.Put.{GotPrefix}
use Rattle.mach_core.specs.Ran as machine
use Rattle.mach_core.specs.Ran.{AsksAsNeeded, BeginsInput, OnInput, Ran, RanBroken, RanFewer}
use Rattle.mach_core.specs.Rule.{Moment, run, at_start}
use Rattle.mach_core.proofs.Growing.{taken_grows_to}
use Rattle.mach_core.proofs.Runs.{applied-going}
use Rattle.c_eval.specs.Meaning.{Meaning}
use Rattle.c_rule.specs.Stepping as rule
use Rattle.c_rule.specs.Stepping.{FlatCode, code_rule, standing_of}
use Rattle.c_rule.specs.Laws.{told, BeginsMeaning}
use Rattle.c_plain.specs.Machine.{Config}
use Rattle.c_plain.specs.Program.{Program}
use Rattle.c_plain.specs.Rule.{rule_of}
use Rattle.c_tracks.specs.Laws.{SameMoment}
use Rattle.c_tracks.specs.Tracks.{IsCode}
use Rattle.c_tracks.proofs.Whole.{steps, runs}
use Rattle.c_run.specs.declared.run.CEnd.{CEnd}
use Rattle.c_run.specs.Ends.{c_end, end_of}
use Rattle.c_run.specs.Runs.{Tells, TellsFront}
use Rattle.c_run.proofs.Ending.{end_told}

-- a prefix of what begins a text is one of the text
front_of : (before after : Option (List ℕ)) (xs rest whole : List ℕ) → xs ++ rest ≡ whole → GotPrefix before after xs → GotPrefix before after whole
front_of before after xs rest whole e g = record { sent = g.sent; rest = g.rest ++ rest; appended = g.appended; whole = sym (append_assoc g.sent g.rest rest) ∙ (ap (λ (ys : List ℕ). ys ++ rest) g.whole ∙ e) }

all_sent : (before after : Option (List ℕ)) (xs rest whole : List ℕ) → xs ++ rest ≡ whole → Appends before after xs → GotPrefix before after whole
all_sent before after xs rest whole e a = record { sent = xs; rest = rest; appended = a; whole = e }

-- more was needed
needs_more : (left left' : Option (List ℕ)) (given : List ℕ) (n m : ℕ) → n ≤ m → AsksAsNeeded left left' given n → AsksAsNeeded left left' given m
needs_more left left' given n m le asks = record { few = omega (arith, asks.few); none = λ e. asks.none (omega arith) }

not_limit : (s : Status) → (c : CEnd) → c_end (machine.end_of s) ≡ Some c → s ≢ status.Going
not_limit status.Going c e going = absurd cc
not_limit status.Ended c e going = absurd cc
not_limit (status.Fault code) c e going = absurd cc

some_same : (a b : CEnd) → Some a ≡ Some b → a ≡ b
some_same a b e = cc

-- code and plain code that start alike, and what the code's run comes to
module _ (names : List (List ℕ)) (p : Program) (f : FlatCode) (is : IsCode names p f) (input : List ℕ) (k : rule.Config) (l : Config) (alike : SameMoment names p (at_start k) (at_start l)) (m : Meaning)
    (far : (count : ℕ) × ((n : ℕ) → run (code_rule f) k input (count + n) ≡ told m)) (begun : (n : ℕ) → BeginsMeaning (run (code_rule f) k input n) m) where
  along : (n : ℕ) → SameMoment names p (run (code_rule f) k input n) (run (rule_of p) l input n)
  along n = runs names p f is (at_start k) (at_start l) input n alike

  stands_alike : (n : ℕ) → (rule_of p).standing (run (rule_of p) l input n).config ≡ (code_rule f).standing (run (code_rule f) k input n).config
  stands_alike n = (steps names p f is (run (code_rule f) k input n).config (run (rule_of p) l input n).config 0 (along n).config).standing

  -- what the plain code has written begins the output
  written : (n : ℕ) → (rest : List ℕ) × ((run (rule_of p) l input n).output ++ rest ≡ m.output)
  written n = let b = (begun n).output in (b.0, ap (λ (xs : List ℕ). xs ++ b.0) (along n).output ∙ b.1)

  -- it has taken no more than the code takes
  taken_within : (n : ℕ) → (run (rule_of p) l input n).taken ≤ m.taken
  taken_within n =
      let there : (run (code_rule f) k input (far.0 + n)).taken ≡ m.taken = ap (λ (x : Moment rule.Config). x.taken) (far.1 n) in
      let more : (run (code_rule f) k input n).taken ≤ (run (code_rule f) k input (far.0 + n)).taken = (taken_grows_to (code_rule f) k input n (far.0 + n) (omega arith)).0 in
      let same : (run (rule_of p) l input n).taken ≡ (run (code_rule f) k input n).taken = (along n).taken in
      omega arith

  -- where it wants a byte it takes one more
  wanted_within : (n : ℕ) → (rule_of p).standing (run (rule_of p) l input n).config ≡ status.Going → (rule_of p).wants (run (rule_of p) l input n).config ≡ true → (run (rule_of p) l input n).taken + 1 ≤ m.taken
  wanted_within n going wants =
      let after : n + 1 ≡ suc n = omega arith in
      let next : (run (rule_of p) l input (n + 1)).taken ≡ (run (rule_of p) l input n).taken + 1 =
      ap (λ (i : ℕ). (run (rule_of p) l input i).taken) after
      ∙ (ap (λ (x : Moment Config). x.taken) (applied-going (rule_of p) input (run (rule_of p) l input n) going)
      ∙ ap (λ (w : Bool). cond w ((run (rule_of p) l input n).taken + 1) (run (rule_of p) l input n).taken) wants)
      in
      let within : (run (rule_of p) l input (n + 1)).taken ≤ m.taken = taken_within (n + 1) in
      omega arith

  pub ended : (left left' : Option (List ℕ)) (given : List ℕ) (limit : ℕ) (end : RunEnd) (c : CEnd) (now : Config) (before after : Option (List ℕ)) → c_end end ≡ Some c
      → Ran (rule_of p) l left left' input given limit end now before after → Tells m left left' given c before after
  ended left left' given limit end c now before after e r =
      let stands : end ≡ machine.end_of ((code_rule f).standing (run (code_rule f) k input limit).config) = r.stands ∙ ap machine.end_of (stands_alike limit) in
      let still : standing_of (run (code_rule f) k input limit).config ≢ status.Going = not_limit (standing_of (run (code_rule f) k input limit).config) c (ap c_end (sym stands) ∙ e) in
      let over : run (code_rule f) k input limit ≡ told m = (begun limit).stopped still in
      record {
        ends = some_same c (end_of m.end) (sym e ∙ (ap c_end stands ∙ (ap (λ (x : Moment rule.Config). c_end (machine.end_of (standing_of x.config))) over ∙ end_told m.end)));
        output = subst (λ (xs : List ℕ). Appends before after xs) ((along limit).output ∙ ap (λ (x : Moment rule.Config). x.output) over) r.output;
        needed = subst (λ (n : ℕ). AsksAsNeeded left left' given n) ((along limit).taken ∙ ap (λ (x : Moment rule.Config). x.taken) over) r.needed;
      }

  pub ran_on : (left left' : Option (List ℕ)) (given : List ℕ) (limit : ℕ) (end : RunEnd) (now : Config) (before after : Option (List ℕ))
      → Ran (rule_of p) l left left' input given limit end now before after → TellsFront m left left' given before after
  ran_on left left' given limit end now before after r = record {
    front = let w = written limit in all_sent before after (run (rule_of p) l input limit).output w.0 m.output w.1 r.output;
    needed = needs_more left left' given (run (rule_of p) l input limit).taken m.taken (taken_within limit) r.needed;
  }

  pub broken : (left left' : Option (List ℕ)) (given : List ℕ) (limit : ℕ) (now : Config) (before after : Option (List ℕ))
      → RanBroken (rule_of p) l left left' input given limit now before after → TellsFront m left left' given before after
  broken left left' given limit now before after r = record {
    front = let w = written r.count in front_of before after (run (rule_of p) l input r.count).output w.0 m.output w.1 r.front;
    needed = needs_more left left' given (run (rule_of p) l input r.count).taken m.taken (taken_within r.count) r.needed;
  }

  -- a byte that is wanted counts as taken
  wanted : (n : ℕ) (wants : Bool) → (rule_of p).wants (run (rule_of p) l input n).config ≡ wants → (rule_of p).standing (run (rule_of p) l input n).config ≡ status.Going
      → cond wants ((run (rule_of p) l input n).taken + 1) (run (rule_of p) l input n).taken ≤ m.taken
  wanted n true e going = wanted_within n going e
  wanted n false e going = taken_within n

  pub fewer : (left left' : Option (List ℕ)) (given : List ℕ) (limit : ℕ) (now : Config) (before after : Option (List ℕ))
      → RanFewer (rule_of p) l left left' input given limit now before after → TellsFront m left left' given before after
  fewer left left' given limit now before after r =
      let going : (rule_of p).standing (run (rule_of p) l input r.count).config ≡ status.Going = ap (rule_of p).standing (sym r.config) ∙ r.going in
      record {
        front = let w = written r.count in all_sent before after (run (rule_of p) l input r.count).output w.0 m.output w.1 r.output;
        needed = needs_more left left' given (cond ((rule_of p).wants now) ((run (rule_of p) l input r.count).taken + 1) (run (rule_of p) l input r.count).taken) m.taken
            (wanted r.count ((rule_of p).wants now) (ap (rule_of p).wants (sym r.config)) going) r.needed;
      }

-- nothing has begun
pub unbegun : (m : Meaning) (left before : Option (List ℕ)) → Appends before before [] → TellsFront m left left [] before before
unbegun m left before none = record {
  front = record { sent = []; rest = m.output; appended = none; whole = refl };
  needed = record { few = omega arith; none = λ e. (refl, refl) };
}

-- a byte is wanted on both sides
pub wants_both : (names : List (List ℕ)) (p : Program) (f : FlatCode) → IsCode names p f → (a : Moment rule.Config) (b : Moment Config) (now : Config) → SameMoment names p a b → now ≡ b.config → (rule_of p).standing now ≡ status.Going → (rule_of p).wants now ≡ true
    → ((code_rule f).standing a.config ≡ status.Going) × ((code_rule f).wants a.config ≡ true)
wants_both names p f is a b now same e going wants =
    let s = steps names p f is a.config b.config 0 same.config in
    (sym s.standing ∙ (ap (rule_of p).standing (sym e) ∙ going), sym s.wants ∙ (ap (rule_of p).wants (sym e) ∙ wants))
