use Rattle.std.proofs.Common.{◌<◌, ◌^◌, length, get_or, sym, ◌∙◌, ap, subst, arith}
use Rattle.std.proofs.lemmas.Nat.{mod_below}
use Rattle.std.proofs.lemmas.List.{length-map, get_or-map, get_or_read}
use Rattle.ring_ntt.specs.Words.{quotient_of}
use Rattle.ring_ntt.specs.Nodes.{powers}
use Rattle.ring_ntt.proofs.Reversal.{reversed, length-powers, powers_at}
use Rattle.ring_ntt.proofs.twiddles.Twiddles.factor.Goals as goal

pub index-requires : goal.index-requires
index-requires c =
    let t = c.args.self.now in
    let n = ap length t.in_order ∙ length-powers t.modulus t.levels t.base t.above_one in
    omega (arith, n, c.requires, t.roots.ok.0)

pub index-requires-2 : goal.index-requires-2
index-requires-2 c =
    let t = c.args.self.now in
    let zs = powers t.modulus t.levels t.base in
    let n = ap length t.precomputed ∙ length-map zs (quotient_of t.modulus) ∙ length-powers t.modulus t.levels t.base t.above_one in
    omega (arith, n, c.requires, t.quotients.ok.0)

pub returns-clause-root : goal.returns-clause-root
returns-clause-root c =
    let t = c.args.self.now in
    let n = ap length t.in_order ∙ length-powers t.modulus t.levels t.base t.above_one in
    get_or_read t.roots.items c.args.k c.index.result.now (omega (arith, n, c.requires)) c.index.ensures 0 ∙ ap (λ z. get_or z c.args.k 0) t.in_order

pub returns-clause-residue : goal.returns-clause-residue
returns-clause-residue c =
    let t = c.args.self.now in
    let q = t.modulus in
    let n = ap length t.in_order ∙ length-powers q t.levels t.base t.above_one in
    let read = get_or_read t.roots.items c.args.k c.index.result.now (omega (arith, n, c.requires)) c.index.ensures 0
    ∙ ap (λ z. get_or z c.args.k 0) t.in_order ∙ powers_at q t.levels t.base c.args.k t.above_one c.requires in
    subst (λ z. z < q) (sym read) (mod_below (t.base ^ reversed t.levels c.args.k) q (omega (arith, t.above_one)))

pub returns-clause-precomputed : goal.returns-clause-precomputed
returns-clause-precomputed c =
    let t = c.args.self.now in
    let q = t.modulus in
    let k = c.args.k in
    let zs = powers q t.levels t.base in
    let m = length-powers q t.levels t.base t.above_one in
    let n = ap length t.in_order ∙ m in
    let n2 = ap length t.precomputed ∙ length-map zs (quotient_of q) ∙ m in
    let read = get_or_read t.roots.items k c.index.result.now (omega (arith, n, c.requires)) c.index.ensures 0 ∙ ap (λ z. get_or z k 0) t.in_order in
    get_or_read t.quotients.items k c.index-2.result.now (omega (arith, n2, c.requires)) c.index-2.ensures 0
    ∙ ap (λ z. get_or z k 0) t.precomputed
    ∙ get_or-map (quotient_of q) zs k 0 0 (omega (arith, m, c.requires))
    ∙ ap (quotient_of q) (sym read)
