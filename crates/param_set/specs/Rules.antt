-- The rules that the given numbers of a session have to keep, one a field.
use Rattle.std.specs.Prelude.{◌≡◌, ℕ, ◌-◌, ◌*◌, ◌/◌, ◌%◌, ◌^◌, ◌≤◌, Bool, Option, None, Some, not, nat_eq, nat_le, ◌&&◌, if◌then◌else◌}
use Rattle.std.specs.Int.{is_power_of_two}
use Rattle.param_set.specs.Moduli.{indivisible}
use Rattle.param_set.specs.declared.raw.RawParams.{RawParams}
use Rattle.param_set.specs.declared.raw.Field.{Field}
use Rattle.param_set.specs.declared.raw.Field.TheVariants.{N, Q, T, Root, DigitBits, Err, Flood, Parties, Threshold}

-- the number under a name
abbrev pub value_of : RawParams → Field → ℕ
value_of raw N = raw.n
value_of raw Q = raw.q
value_of raw T = raw.t
value_of raw Root = raw.root
value_of raw DigitBits = raw.digit_bits
value_of raw Err = raw.err
value_of raw Flood = raw.flood
value_of raw Parties = raw.parties
value_of raw Threshold = raw.threshold

-- both ends belong to it
abbrev pub within : ℕ → ℕ → ℕ → Bool
within least greatest x = nat_le least x && nat_le x greatest

-- n is a power of two from 8 to 4096
unfoldable pub is_degree : ℕ → Bool
is_degree n = within 8 4096 n && is_power_of_two n

-- q is from 2^40 to 2^55 - 1, is 1 modulo 2n, and has no common divisor above 1 with any of 2 to 32,
-- which says that none of these divides it
unfoldable pub is_modulus : ℕ → ℕ → Bool
is_modulus n q = within (2 ^ 40) (2 ^ 55 - 1) q && nat_eq (q % (2 * n)) 1 && indivisible q 31

-- the same of q in full: no d above 1 divides both q and one of 2 to 32
abbrev pub SharesNoDivisor : ℕ → Type 0
SharesNoDivisor q = (d m : ℕ) → 2 ≤ d → 2 ≤ m → m ≤ 32 → q % d ≡ 0 → m % d ≡ 0 → ⊥

-- the first field, in the order of the type, that breaks its rule; a rule that speaks of another field
-- takes its given value
unfoldable pub first_bad : RawParams → Option Field
first_bad raw =
    if not (is_degree raw.n) then Some N
    else if not (is_modulus raw.n raw.q) then Some Q
    else if not (within 2 65537 raw.t) then Some T
    else if not (within 2 (raw.q - 1) raw.root) then Some Root
    else if not (within 1 16 raw.digit_bits) then Some DigitBits
    else if not (within 1 255 raw.err) then Some Err
    else if not (within 0 (2 ^ 40) raw.flood) then Some Flood
    else if not (within 1 32 raw.parties) then Some Parties
    else if not (within 1 raw.parties raw.threshold) then Some Threshold
    else None

-- the root psi that `root` stands for
unfoldable pub root_of : RawParams → ℕ
root_of raw = raw.root ^ ((raw.q - 1) / (2 * raw.n)) % raw.q

-- its n-th power, which has to be -1
unfoldable pub root_power : RawParams → ℕ
root_power raw = root_of raw ^ raw.n % raw.q
