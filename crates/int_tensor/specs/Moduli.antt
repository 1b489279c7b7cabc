-- The two primes by whose residues whole numbers are known.
use Rattle.std.specs.Prelude.{ℕ}

-- those of the fixed tables: 62 bits each, and 1 modulo 8192
abbrev pub first_modulus : ℕ
first_modulus = 4611686018427322369

abbrev pub second_modulus : ℕ
second_modulus = 4611686018427289601

-- the inverse of the first modulo the second
abbrev pub first_inverse : ℕ
first_inverse = 4611545280938934276

-- their product, above 2^123
abbrev pub both_moduli : ℕ
both_moduli = 21267647932557898397047025864548384769
