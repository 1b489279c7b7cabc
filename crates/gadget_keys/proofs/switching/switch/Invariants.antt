use Rattle.std.proofs.Common.{◌≡◌, length}
use Rattle.gadget_laws.specs.Totals.{product_b, product_a}
use Rattle.gadget_keys.specs.Gadgets.{gadget_of}
use Rattle.gadget_keys.specs.Sums.{SumsFit}
use Rattle.gadget_keys.proofs.Totals.{so_far}
use Rattle.gadget_keys.proofs.switching.switch.Given as goal

abbrev pub invariant-rows : goal.invariant-rows
invariant-rows l = record {
  places : length l.digits ≡ l.ring.params.n;
  fits : SumsFit l.ring.params l.i l.sums;
  b : l.sums.b.value.poly ≡ so_far l.ring.params.q l.ring.params.n (product_b l.ring.params.q l.ring.params.n (gadget_of l.ring.params) l.fn.key.rows l.f) l.i;
  a : l.sums.a.value.poly ≡ so_far l.ring.params.q l.ring.params.n (product_a l.ring.params.q l.ring.params.n (gadget_of l.ring.params) l.fn.key.rows l.f) l.i;
}
