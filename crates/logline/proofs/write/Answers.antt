use Rattle.std.proofs.Common.{Ok, ◌++◌, drop, rules}
use Rattle.logline.specs.Events.{said}
use Rattle.logline.specs.Writing.{WroteAs}
use Rattle.logline.proofs.Returning.{reads_back}
use Rattle.logline.proofs.write.Goals as goal

pub returns-clause-reads_back : goal.returns-clause-reads_back
returns-clause-reads_back c =
    let wrote : WroteAs (said c.args.event.now) c.args.out.now (c.copy_from_slice.new.self ++ drop c.len.result c.args.out.now) (Ok c.len-2.result) = search rules in
    reads_back (said c.args.event.now) c.args.out.now _ (Ok c.len-2.result) wrote
