-- What a dock of calls has called.
use Rattle.ipc_reverse.specs.declared.dock.ReverseDock.{ReverseDock}
use Rattle.ipc_reverse.specs.Calls.{CallsState}

-- What changes as it calls.
abbrev pub calls_of : {K L : Type 0} → ReverseDock K L → CallsState K L
calls_of dock = record { caller = dock.caller.now; given = dock.given; kept = dock.kept }
