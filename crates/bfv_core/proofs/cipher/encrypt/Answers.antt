-- u, e0 and e1 are drawn one behind the other.
use Rattle.bfv_core.proofs.Places.{drawn-from}
use Rattle.bfv_core.proofs.cipher.encrypt.Goals as goal

pub returns-clause-value : goal.returns-clause-value
returns-clause-value c =
    let p = c.args.ring.now.params in
    drawn-from p.q p.n p.t p.err c.args.key.now c.args.m.now c.in_ok-u.u c.in_ok-e0.e0 c.in_ok-e1.e1
    c.args.tape.now c.copied-ahead.result c.ternary.new.tape c.small.new.tape c.in_ok-c.c
    c.copied-ahead.ensures c.in_ok-u.ensures.place c.in_ok-e0.ensures.place c.in_ok-u.ensures.value
    (cc c.in_ok-e0.ensures.value) (cc c.in_ok-e1.ensures.value) (cc c.in_ok-c.ensures.value)
