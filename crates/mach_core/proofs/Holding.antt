-- Steps between what is held of a source and what is held for a sink, one after the other.
use Rattle.std.proofs.Common.{◌≡◌, ℕ, zero, suc, ◌+◌, Bool, true, false, List, [], Option, None, Some, refl, sym, ap, ◌∙◌, append-nil, add-one, add-zero, add-suc}
use Rattle.std.specs.Io.KnownBytes.{Appends}
use Rattle.mach_core.specs.Rule.{Rule}
use Rattle.mach_core.specs.Feed.{ReadAhead, GivesWanted}
use Rattle.mach_core.specs.Silent.{StepsSilently}
use Rattle.mach_core.specs.Streams.{Streams, Reaches}
use Rattle.mach_core.specs.Held.{Buffers, TakesHeld, StepHeld, StepsHeld}
use Rattle.mach_core.proofs.Feeding.{feeds_held}
use Rattle.mach_core.proofs.Silently.{IsAt-silent}
use Rattle.mach_core.proofs.Running.{IsAt-more}

-- and one more
pub held_more : {C : Type 0} (rule : Rule C) (old c c' : C) (before there after : Buffers) (n : ℕ) → StepsHeld rule old before n c there → StepHeld rule c there c' after → StepsHeld rule old before (n + 1) c' after
held_more rule old c c' before there after n s one = rw add-one (c, there, s, one)

-- what is taken of the bytes held tells no end
takes_over : (wants : Bool) (old new : ReadAhead) (byte : ℕ) → TakesHeld wants old new byte → new.over ≡ old.over
takes_over true old new byte t = t.1
takes_over false old new byte t = ap (λ (h : ReadAhead). h.over) t

pub held_over : {C : Type 0} (rule : Rule C) (old c : C) (before after : Buffers) (n : ℕ) → StepsHeld rule old before n c after → after.held.over ≡ before.held.over
held_over rule old c before after zero s = ap (λ (b : Buffers). b.held.over) s.1
held_over rule old c before after (suc n) (mid, there, s, one) = takes_over (rule.wants mid) there.held after.held one.byte one.taken ∙ held_over rule old mid before there n s

-- a byte that is held is the next one
gives_held : (wants : Bool) (left : Option (List ℕ)) (old new : ReadAhead) (byte : ℕ) → TakesHeld wants old new byte → GivesWanted wants left old left new byte
gives_held true left old new byte t = feeds_held left old new byte (record { is = rw t.0 refl; rest = rw t.0 refl; over = t.1 }) (λ none. absurd cc)
gives_held false left old new byte t = (refl, t)

-- a byte that is taken of those held is one of them
held_is_some : (wants : Bool) (old new : ReadAhead) (byte : ℕ) → TakesHeld wants old new byte → wants ≡ true → old.bytes ≡ [] → ⊥
held_is_some true old new byte t it none = (let there = t.0 in cc)
held_is_some false old new byte t it none = cc

nothing_sent : (got : Option (List ℕ)) → Appends got got []
nothing_sent None = tt
nothing_sent (Some xs) = sym (append-nil xs)

-- what is held of the source and for the sink, between streams that aren't touched
abbrev pub between : Option (List ℕ) → Option (List ℕ) → Buffers → Streams
between left got b = record { left = left; held = b.held; got = got; put = b.put }

-- a machine between its streams stands at the later moment
pub IsAt-held : {C : Type 0} (rule : Rule C) (start at at' : C) (n k : ℕ) (from left got out : Option (List ℕ)) (before after : Buffers)
    → (given : List ℕ) × Reaches rule start n from given at got (between left out before) → StepsHeld rule at before k at' after → (given : List ℕ) × Reaches rule start (n + k) from given at' got (between left out after)
IsAt-held rule start at at' n zero from left got out before after r s = rw (s.0, s.1, add-zero n) r
IsAt-held rule start at at' n (suc k) from left got out before after r (mid, there, s, one) =
    let here = IsAt-held rule start at mid n k from left got out before there r s in
    rw (add-suc n k) (IsAt-more rule start (n + k) mid at' from got (between left out there) (between left out after) here one.going (record {
      byte = one.byte;
      fetched = gives_held (rule.wants mid) left there.held after.held one.byte one.taken;
      next = one.next;
      flushed = λ wants none shut. absurd (held_is_some (rule.wants mid) there.held after.held one.byte one.taken wants none);
      passes = record { sent = []; appended = nothing_sent out; whole = one.put };
    }) (λ over. here.1.is.follows.end (sym (takes_over (rule.wants mid) there.held after.held one.byte one.taken) ∙ over)))

-- first silent steps, then these
pub IsAt-both : {C : Type 0} (rule : Rule C) (start at mid at' : C) (n j k : ℕ) (from left got out : Option (List ℕ)) (before after : Buffers)
    → (given : List ℕ) × Reaches rule start n from given at got (between left out before) → StepsSilently rule at j mid → StepsHeld rule mid before k at' after → (given : List ℕ) × Reaches rule start (n + j + k) from given at' got (between left out after)
IsAt-both rule start at mid at' n j k from left got out before after r silent held =
    IsAt-held rule start mid at' (n + j) k from left got out before after (IsAt-silent rule start at mid n j from got (between left out before) r silent) held
