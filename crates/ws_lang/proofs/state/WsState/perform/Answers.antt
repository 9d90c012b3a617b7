use Rattle.std.proofs.Common.{ℕ, IfOk, subst, rules, w64, to_z, of_z}
use mir.Val.{SFits}
use Rattle.std.proofs.lemmas.Int.{to_z-of_z}
use Rattle.ws_lang.specs.declared.effect.Effect.TheVariants as effect
use Rattle.ws_lang.specs.Effect.{act_for}
use Rattle.std.specs.declared.result.Result.{Result}
use Rattle.std.proofs.lemmas.Result.{IfOk-weaker}
use Rattle.mach_core.specs.declared.machine.Moved.{Moved}
use Rattle.ws_lang.specs.Step.{Config, Act}
use Rattle.ws_lang.specs.Acts.{Acts}
use Rattle.ws_lang.proofs.state.WsState.perform.Goals as goal

-- what holds for each byte holds for the one that is fed
at_fed : {E : Type 0} (r : Result Moved E) (old new : Config) (act : Act) (fed : ℕ) → IfOk r (λ moved. (byte : ℕ) → Acts old act byte new moved) → IfOk r (λ moved. Acts old act fed new moved)
at_fed r old new act fed h = IfOk-weaker r (λ moved. (byte : ℕ) → Acts old act byte new moved) (λ moved. Acts old act fed new moved) (λ moved k. k fed) h

pub returns-in-Put-clause-ok : goal.returns-in-Put-clause-ok
returns-in-Put-clause-ok c =
    let f : SFits w64 c.in-Put.value = search rules in
    rw c.in-Put.is (subst (λ v. IfOk c.put.result (λ moved. Acts c.args.self.now (act_for c.args.self.now (effect.Put c.in-Put.count v)) c.args.fed c.put.new.self moved)) (to_z-of_z w64 c.in-Put.value f) (at_fed c.put.result c.args.self.now c.put.new.self _ c.args.fed c.put.ensures.ok))

pub returns-in-Discard-clause-ok : goal.returns-in-Discard-clause-ok
returns-in-Discard-clause-ok c = rw c.in-Discard.is (c.discard.ensures c.args.fed)

pub returns-in-Swap-clause-ok : goal.returns-in-Swap-clause-ok
returns-in-Swap-clause-ok c = rw c.in-Swap.is (c.swap.ensures c.args.fed)

pub returns-in-Jump-clause-ok : goal.returns-in-Jump-clause-ok
returns-in-Jump-clause-ok c = rw c.in-Jump.is (c.jump.ensures c.args.fed)

pub returns-in-Call-clause-ok : goal.returns-in-Call-clause-ok
returns-in-Call-clause-ok c = rw c.in-Call.is (at_fed c.call.result c.args.self.now c.call.new.self _ c.args.fed c.call.ensures.ok)

pub returns-in-Return-clause-ok : goal.returns-in-Return-clause-ok
returns-in-Return-clause-ok c = rw c.in-Return.is (c.go_back.ensures c.args.fed)

pub returns-in-End-clause-ok : goal.returns-in-End-clause-ok
returns-in-End-clause-ok c = rw c.in-End.is (c.end.ensures c.args.fed)

pub returns-in-Store-clause-ok : goal.returns-in-Store-clause-ok
returns-in-Store-clause-ok c =
    let f : SFits w64 c.in-Store.value = search rules in
    let g : SFits w64 c.in-Store.address = search rules in
    rw c.in-Store.is (subst (λ a. IfOk c.store.result (λ moved. Acts c.args.self.now (act_for c.args.self.now (effect.Store a c.in-Store.value)) c.args.fed c.store.new.self moved)) (to_z-of_z w64 c.in-Store.address g)
    (subst (λ v. IfOk c.store.result (λ moved. Acts c.args.self.now (act_for c.args.self.now (effect.Store (to_z w64 (of_z w64 c.in-Store.address)) v)) c.args.fed c.store.new.self moved)) (to_z-of_z w64 c.in-Store.value f) (at_fed c.store.result c.args.self.now c.store.new.self _ c.args.fed c.store.ensures.ok)))

pub returns-in-Write-clause-ok : goal.returns-in-Write-clause-ok
returns-in-Write-clause-ok c = rw c.in-Write.is (c.write.ensures c.args.fed)

pub returns-in-Spell-clause-ok : goal.returns-in-Spell-clause-ok
returns-in-Spell-clause-ok c =
    let f : SFits w64 c.in-Spell.value = search rules in
    rw c.in-Spell.is (subst (λ v. Acts c.args.self.now (act_for c.args.self.now (effect.Spell v)) c.args.fed c.spell.new.self c.spell.result) (to_z-of_z w64 c.in-Spell.value f) (c.spell.ensures c.args.fed))

pub returns-in-Await-clause-ok : goal.returns-in-Await-clause-ok
returns-in-Await-clause-ok c =
    let f : SFits w64 c.in-Await.address = search rules in
    rw c.in-Await.is (subst (λ a. Acts c.args.self.now (act_for c.args.self.now (effect.Await a)) c.args.fed c.begin_number.new.self c.begin_number.result) (to_z-of_z w64 c.in-Await.address f) (c.begin_number.ensures c.args.fed))

pub returns-in-Fault-clause-ok : goal.returns-in-Fault-clause-ok
returns-in-Fault-clause-ok c = rw c.in-Fault.is (c.fail.ensures c.args.fed)
