use Rattle.param_set.proofs.Digits.{few_rows, rows_hold}
use Rattle.param_set.proofs.params.Params.rows.Goals as goal

pub returns-clause-few : goal.returns-clause-few
returns-clause-few c =
    let p = c.args.self.now in
    few_rows p.q c.bits.result p.digit_bits c.div_ceil.result p.modulus.1 c.bits.ensures.top p.noise.0 c.div_ceil.ensures

pub returns-clause-whole : goal.returns-clause-whole
returns-clause-whole c =
    let p = c.args.self.now in
    rows_hold p.q c.bits.result p.digit_bits c.div_ceil.result c.bits.ensures.below p.noise.0 c.div_ceil.ensures
