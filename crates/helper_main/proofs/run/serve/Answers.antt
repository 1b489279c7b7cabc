-- Where the script is too long, the line that says so was written.
use Rattle.helper_main.proofs.Bytes.{refuses-long}
use Rattle.helper_main.proofs.run.serve.Goals as goal

pub returns-then-put-clause-serves : goal.returns-then-put-clause-serves
returns-then-put-clause-serves g c =
    refuses-long c.args.work _ (g.S.Source.left c.args.source.now) (g.S.Source.left c.read_all.new.source) (g.K.Sink.taken c.args.sink.now) (g.K.Sink.taken c.put.new.sink)
    c.read_all.ensures.too_long (cc (c.in-Err-TooLong.is, c.in-Err-TooLong.field-0-is)) (c.put.ensures.all c.if-put.true)
