use Rattle.ws_lang.proofs.state.WsState.read_on.Goals as goal

pub returns-in-Outside-clause-ok : goal.returns-in-Outside-clause-ok
returns-in-Outside-clause-ok c = rw c.in-Outside.is (c.fail.ensures c.args.fed)
