use Rattle.daybook.proofs.Stepping.{run_holds, step_lawful}
use Rattle.daybook.proofs.law_stands.Goals as goal

pub returns : goal.returns
returns g c =
    let m = g.C.Counter.model in
    let keeps = g.met.C.Counter.keeps in
    record { runs = run_holds m keeps; steps = step_lawful m keeps }
