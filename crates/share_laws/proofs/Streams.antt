-- No two purposes of a seed's words share a stream: its number tells the purpose.
use Rattle.std.proofs.Common.{◌≡◌, ℕ, zero, suc, ◌+◌, ◌*◌, ◌/◌, ◌%◌, ◌^◌, ◌<◌, sym, ap, ◌∙◌, refl, arith}
use Rattle.draw_spec.specs.Streams.{Purpose, Dealing, OfInstance, OfInput, Generating, Redealing, stream_for, Occurs}

-- the purpose of a stream, by how often 2^56 goes into its number, and by the rest
purpose_by : ℕ → ℕ → Purpose
purpose_by zero rest = Dealing
purpose_by (suc zero) rest = OfInstance rest
purpose_by (suc (suc zero)) rest = OfInput (rest / 65536) (rest % 65536)
purpose_by (suc (suc (suc zero))) rest = Generating
purpose_by (suc (suc (suc (suc more)))) rest = Redealing rest

purpose_of : ℕ → Purpose
purpose_of stream = purpose_by (stream / 2 ^ 56) (stream % 2 ^ 56)

purpose_again : (a : Purpose) → Occurs a → purpose_of (stream_for a) ≡ a
unfolding purpose_of purpose_by
purpose_again Dealing h = refl
purpose_again (OfInstance id) h =
    let times : (2 ^ 56 + id) / 2 ^ 56 ≡ 1 = omega arith in
    let rest : (2 ^ 56 + id) % 2 ^ 56 ≡ id = omega arith in
    rw (times, rest) refl
purpose_again (OfInput circuit input) h =
    let at : ℕ = circuit * 2 ^ 16 + input in
    let small : at < 2 ^ 32 = let (c, i) = h in omega arith in
    let times : (2 * 2 ^ 56 + circuit * 2 ^ 16 + input) / 2 ^ 56 ≡ 2 = omega arith in
    let rest : (2 * 2 ^ 56 + circuit * 2 ^ 16 + input) % 2 ^ 56 ≡ circuit * 65536 + input = omega arith in
    let first : (circuit * 65536 + input) / 65536 ≡ circuit = omega arith in
    let second : (circuit * 65536 + input) % 65536 ≡ input = omega arith in
    rw (times, rest, first, second) refl
purpose_again Generating h = refl
purpose_again (Redealing group) h =
    let times : (4 * 2 ^ 56 + group) / 2 ^ 56 ≡ 4 = omega arith in
    let rest : (4 * 2 ^ 56 + group) % 2 ^ 56 ≡ group = omega arith in
    rw (times, rest) refl

pub streams_differ : (a b : Purpose) → Occurs a → Occurs b → stream_for a ≡ stream_for b → a ≡ b
streams_differ a b h k same = sym (purpose_again a h) ∙ ap purpose_of same ∙ purpose_again b k
