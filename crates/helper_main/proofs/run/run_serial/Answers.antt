-- With status Done the report keeps the headline.
use Rattle.std.proofs.Common.{subst}
use Rattle.helper_main.specs.declared.status.Status.{Status}
use Rattle.helper_main.specs.declared.work.Work.TheVariants.{Run}
use Rattle.helper_main.specs.Owed.{Serves}
use Rattle.helper_main.proofs.Headline.{has_headline}
use Rattle.helper_main.proofs.run.run_serial.Goals as goal

pub returns-clause-headline : goal.returns-clause-headline
returns-clause-headline g c = λ e.
    let left = g.S.Source.left c.args.source.now in
    let then = g.S.Source.left c.serve.new.source in
    let old = g.K.Sink.taken c.args.sink.now in
    let new = g.K.Sink.taken c.serve.new.sink in
    has_headline left then old new (subst (λ (z : Status). Serves Run z left then old new) e c.serve.ensures.serves)
