-- Where no field breaks its rule, each rule holds.
use Rattle.std.proofs.Common.{◌≡◌, ℕ, ◌-◌, ◌*◌, ◌%◌, ◌^◌, ◌≤◌, ◌<◌, true, false, refl, sym, arith}
use Rattle.std.specs.Prelude.{Bool, Option, None, Some, IsTrue, not, nat_eq, nat_le, ◌&&◌, if◌then◌else◌}
use Rattle.std.specs.Int.{is_power_of_two}
use Rattle.std.proofs.lemmas.Bool.{and_parts, eqb-true, leb-true}
use Rattle.std.proofs.lemmas.Option.{none-some}
use Rattle.param_set.specs.Moduli.{indivisible}
use Rattle.param_set.specs.Rules.{within, is_degree, is_modulus, first_bad}
use Rattle.param_set.specs.declared.raw.RawParams.{RawParams}
use Rattle.param_set.specs.declared.raw.Field.{Field}

pub ends : (a b x : ℕ) → within a b x ≡ true → (a ≤ x) × (x ≤ b)
ends a b x h = let both = and_parts (nat_le a x) (nat_le x b) h in (leb-true a x both.0, leb-true x b both.1)

pub degree_is : (n : ℕ) → is_degree n ≡ true → (8 ≤ n) × (n ≤ 4096) × IsTrue (is_power_of_two n)
unfolding is_degree
degree_is n h =
    let both = and_parts (within 8 4096 n) (is_power_of_two n) h in
    let e = ends 8 4096 n both.0 in
    (e.0, e.1, both.1)

pub record ModulusIs (n q : ℕ) : Type 0 where
  pub least : 2 ^ 40 ≤ q
  pub greatest : q < 2 ^ 55
  pub one : q % (2 * n) ≡ 1
  pub no_factor : IsTrue (indivisible q 31)

pub modulus_is : (n q : ℕ) → is_modulus n q ≡ true → ModulusIs n q
unfolding is_modulus
modulus_is n q h =
    let outer = and_parts (within (2 ^ 40) (2 ^ 55 - 1) q && nat_eq (q % (2 * n)) 1) (indivisible q 31) h in
    let inner = and_parts (within (2 ^ 40) (2 ^ 55 - 1) q) (nat_eq (q % (2 * n)) 1) outer.0 in
    let e = ends (2 ^ 40) (2 ^ 55 - 1) q inner.0 in
    record { least = e.0; greatest = omega (arith, e.1); one = eqb-true (q % (2 * n)) 1 inner.1; no_factor = outer.1 }

pub record Passed (raw : RawParams) : Type 0 where
  pub degree : (8 ≤ raw.n) × (raw.n ≤ 4096) × IsTrue (is_power_of_two raw.n)
  pub modulus : ModulusIs raw.n raw.q
  pub plain : (2 ≤ raw.t) × (raw.t ≤ 65537)
  pub digits : (1 ≤ raw.digit_bits) × (raw.digit_bits ≤ 16)
  pub err : (1 ≤ raw.err) × (raw.err ≤ 255)
  pub flood : raw.flood ≤ 2 ^ 40
  pub parties : raw.parties ≤ 32
  pub threshold : (1 ≤ raw.threshold) × (raw.threshold ≤ raw.parties)

-- a rule that isn't broken, and what comes behind it
next : (b : Bool) (f : Field) (rest : Option Field) → (if not b then Some f else rest) ≡ None → (b ≡ true) × (rest ≡ None)
next true f rest e = (refl, e)
next false f rest e = absurd (none-some f (sym e))

pub passed : (raw : RawParams) → first_bad raw ≡ None → Passed raw
unfolding first_bad
passed raw e =
    let n = next (is_degree raw.n) _ _ e in
    let q = next (is_modulus raw.n raw.q) _ _ n.1 in
    let t = next (within 2 65537 raw.t) _ _ q.1 in
    let root = next (within 2 (raw.q - 1) raw.root) _ _ t.1 in
    let digit_bits = next (within 1 16 raw.digit_bits) _ _ root.1 in
    let err = next (within 1 255 raw.err) _ _ digit_bits.1 in
    let flood = next (within 0 (2 ^ 40) raw.flood) _ _ err.1 in
    let parties = next (within 1 32 raw.parties) _ _ flood.1 in
    let threshold = next (within 1 raw.parties raw.threshold) _ _ parties.1 in
    record {
      degree = degree_is raw.n n.0;
      modulus = modulus_is raw.n raw.q q.0;
      plain = ends 2 65537 raw.t t.0;
      digits = ends 1 16 raw.digit_bits digit_bits.0;
      err = ends 1 255 raw.err err.0;
      flood = (ends 0 (2 ^ 40) raw.flood flood.0).1;
      parties = (ends 1 32 raw.parties parties.0).1;
      threshold = ends 1 raw.parties raw.threshold threshold.0;
    }
