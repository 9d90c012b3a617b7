use Rattle.std.proofs.Common.{◌≡◌, ℕ, suc, ◌-◌, ◌<◌, List, [], length, ap, subst, arith}
use Rattle.c_syntax.specs.declared.token.Token.{Token}
use Rattle.c_grammar.specs.Values as machine
use Rattle.c_grammar.specs.declared.names.Symbol.{Symbol}
use Rattle.c_grammar.specs.Grammar.{rhs}
use Rattle.c_frames.specs.Stack.{opens}
use Rattle.c_frames.specs.declared.frame.Frame.{Frame}
use Rattle.c_frames.proofs.Lists.{next_within}
use Rattle.c_progress.specs.Progress.{Turns, begin_at}
use Rattle.c_progress.specs.declared.progress.Turn.{Turn}
use Rattle.c_progress.specs.declared.progress.Turn.TheVariants.{Passed, Ended}
use Rattle.c_progress.proofs.Begins.{begun_there, has_begun, ended_there, comes_from}
use Rattle.c_progress.proofs.begin.begin.Goals as goal

less_places : (a b : List Symbol) (m n : ℕ) → b ≡ a → n ≡ suc m → m < length a → length b - n < length a - m
less_places a b m n e k h = let l : length b ≡ length a = ap length e in omega (arith, l, k, h)

turned : (a b : Turn) (f : Frame) (t : Token) (old fs : List Frame) (r : machine.Progress) → a ≡ b → Turns a f t old fs r → Turns b f t old fs r
turned a b f t old fs r e h = subst (λ z. Turns z f t old fs r) e h

pub places-init : goal.places-init
places-init c = begun_there c.args.frame c.args.token.now c.args.stack.now.items c.requires.row c.requires.stands

pub next_place-requires : goal.next_place-requires
next_place-requires c = c.places.invariant.stands.frame.room

pub places-preserved : goal.places-preserved
places-preserved c = has_begun c.args.frame c.places.frame c.in-Passed.passed c.args.token.now c.args.stack.now.items c.places.stack.items c.begin_here.new.stack.items c.places.invariant
    (turned c.in_ok-turn.turn (Passed c.in-Passed.passed) c.places.frame c.args.token.now c.places.stack.items c.begin_here.new.stack.items (begin_at c.places.frame c.args.token.now (opens c.places.stack.items [])) c.in-Passed.is c.in_ok-turn.ensures)

pub places-smaller : goal.places-smaller
places-smaller c =
    let passes = turned c.in_ok-turn.turn (Passed c.in-Passed.passed) c.places.frame c.args.token.now c.places.stack.items c.begin_here.new.stack.items (begin_at c.places.frame c.args.token.now (opens c.places.stack.items [])) c.in-Passed.is c.in_ok-turn.ensures in
    let here = next_within (rhs c.places.frame.production) (length c.places.frame.done.items) c.in-Some.symbol c.in-Some.ensures in
    less_places (rhs c.places.frame.production) (rhs c.in-Passed.passed.production) (length c.places.frame.done.items) (length c.in-Passed.passed.done.items) (ap rhs passes.production) passes.further here

pub returns-in_default : goal.returns-in_default
returns-in_default c = ended_there c.args.frame c.places.frame c.args.token.now c.args.stack.now.items c.places.stack.items c.places.invariant c.in_default.ensures

pub returns-in-Ended : goal.returns-in-Ended
returns-in-Ended c = comes_from c.in-Ended.progress c.args.frame c.places.frame c.args.token.now c.args.stack.now.items c.places.stack.items c.begin_here.new.stack.items c.places.invariant
    (turned c.in_ok-turn.turn (Ended c.in-Ended.progress) c.places.frame c.args.token.now c.places.stack.items c.begin_here.new.stack.items (begin_at c.places.frame c.args.token.now (opens c.places.stack.items [])) c.in-Ended.is c.in_ok-turn.ensures)
