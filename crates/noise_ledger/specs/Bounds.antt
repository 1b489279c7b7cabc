-- The bound on the noise of a node, one row a kind of node. All numbers are whole, and each division
-- by 2 is exact, since n is even. docs/MATHEMATICS.md, 'Noise bounds', has the argument.
use Rattle.std.specs.Prelude.{ℕ, ◌+◌, ◌-◌, ◌*◌, ◌/◌, ◌%◌, ◌^◌, cond}
use Rattle.param_set.specs.Moduli.{noise_limit, digit_rows}
use Rattle.param_set.specs.Numbers.{Numbers, numbers_of}
use Rattle.param_set.specs.declared.params.Params.{Params}

-- ---- the numbers that bounds are made of

-- those of a session, with another T
abbrev pub numbers_for : Params → ℕ → Numbers
numbers_for p threshold = record (numbers_of p) { threshold = threshold }

-- L, the greatest bound under which an output is decrypted
abbrev pub limit : Numbers → ℕ
limit p = noise_limit p.q p.t

-- r = q mod t
abbrev pub rest : Numbers → ℕ
rest p = p.q % p.t

-- ---- key switches

-- W, which no digit of the gadget passes in absolute value: 2^b - 1, and 2^(b-1) where digits are balanced
abbrev pub widest_digit : Numbers → ℕ
widest_digit p = cond p.balanced (2 ^ (p.digit_bits - 1)) (2 ^ p.digit_bits - 1)

-- what a key switch adds where the noise of each row of its key has size at most e: l products of a
-- polynomial of n digits, each of size at most W, with a row's noise
unfoldable pub switched : Numbers → ℕ → ℕ
switched p e = digit_rows p.q p.digit_bits * p.n * widest_digit p * e

-- the noise of a row of a rotation key: T * B
abbrev pub rotation_noise : Numbers → ℕ
rotation_noise p = p.threshold * p.err

-- the noise of a row of the relinearisation key: T * B * (n * (N + T) + 2)
abbrev pub relin_noise : Numbers → ℕ
relin_noise p = p.threshold * p.err * (p.n * (p.parties + p.threshold) + 2)

-- ---- products

-- n * N, which bounds the sum of the sizes of a secret's coefficients
abbrev pub weight : Numbers → ℕ
weight p = p.n * p.parties

-- K, which bounds the multiple of q by which a phase over the whole numbers is off
abbrev pub wraps : Numbers → ℕ
wraps p = weight p / 2 + 1

-- the noise of both factors, times the other factor
unfoldable pub crossed : Numbers → ℕ → ℕ → ℕ
crossed p v1 v2 = p.n * (wraps p + 1) * (p.t * (v1 + v2) + 2 * rest p * (p.t - 1))

-- what the rounding of a scaled product adds: (n * N + n^2 * N^2) / 2, and 1
unfoldable pub rounding : Numbers → ℕ
rounding p = (weight p + weight p * weight p) / 2 + 1

-- ---- the rows

-- an input: F = B * (1 + n * (T + N))
unfoldable pub input_bound : Numbers → ℕ
input_bound p = p.err * (1 + p.n * (p.threshold + p.parties))

-- a constant
abbrev pub const_bound : ℕ
const_bound = 0

-- a sum or a difference: V1 + V2 + r
unfoldable pub sum_bound : Numbers → ℕ → ℕ → ℕ
sum_bound p v1 v2 = v1 + v2 + rest p

-- a negative: V + r
unfoldable pub neg_bound : Numbers → ℕ → ℕ
neg_bound p v = v + rest p

-- a product with a constant: n * (t - 1) * (V + r)
unfoldable pub plain_mul_bound : Numbers → ℕ → ℕ
plain_mul_bound p v = p.n * (p.t - 1) * (v + rest p)

-- a rotation: V + r, and the key switch
unfoldable pub rot_bound : Numbers → ℕ → ℕ
rot_bound p v = v + rest p + switched p (rotation_noise p)

-- a product of two nodes that aren't constants
unfoldable pub mul_bound : Numbers → ℕ → ℕ → ℕ
mul_bound p v1 v2 = crossed p v1 v2 + rounding p + switched p (relin_noise p)

-- the output: V + T * D_f
unfoldable pub output_bound : Numbers → ℕ → ℕ
output_bound p v = v + p.threshold * p.flood
