-- The phase is the sum of the first part and the row.
use Rattle.std.proofs.Common.{[], slice_index_or, arith, rules}
use Rattle.decrypt_protocol.proofs.Together.{opens-for-all}
use Rattle.decrypt_protocol.proofs.finish.dec_finish.Goals as goal

pub returns-clause-together : goal.returns-clause-together
returns-clause-together c =
    let p = c.args.ring.now.params in
    let row = slice_index_or c.args.sums.now 0 [] in
    opens-for-all p.q p.n p.t p.flood c.args.c0.now row c.in_ok-opened.opened (omega arith) (omega arith) (omega arith)
    (search rules)
