-- What a session is about: a circuit of a constant, and one of the inputs of the parties 2 and 1, modulo 1009 with two
-- coefficients and plaintexts modulo 4, for any two of three parties.
use Rattle.std.proofs.Common.{◌≡◌, ℕ, ◌<◌, false, List, [], ◌∷◌, length, All, Option, Some, None, refl, sym, ap, subst, true≢false, arith}
use Rattle.std.specs.Prelude.{IsTrue, unwrap_or}
use Rattle.std.specs.Int.{is_power_of_two}
use Rattle.std.proofs.lemmas.List.Elements.{All-cons, All-nil}
use lib.Count.{ones}
use Rattle.ring_spec.specs.Ring.{IsPoly, residue, residues, ring_sum}
use Rattle.param_set.specs.Moduli.{binary_digits, digits_up_to, indivisible}
use Rattle.param_set.specs.declared.params.Params.{Params}
use Rattle.circuit_form.specs.declared.node.Node.TheVariants.{Input, Const, Add, Rot}
use Rattle.circuit_form.specs.Circuits.{first_wrong, first_fault, may_stand, owners}
use Rattle.circuit_form.specs.Values.{node_value, given_after, values_from, plain_value}
use Rattle.param_set.specs.Numbers.{Numbers, numbers_of}
use Rattle.noise_ledger.specs.Bounds.{input_bound, sum_bound, output_bound}
use Rattle.noise_ledger.specs.Ledger.{node_bound, bounds_from, node_bounds, place_bound, first_above, first_over}
use Rattle.cipher_spec.specs.Ciphers.{is_switch_free}
use Rattle.proto_names.specs.Names.{rows_of}
use Rattle.proto_names.specs.declared.signature.Signature.TheVariants.{Pk, Rlk1}
use Rattle.proto_names.specs.declared.signature.Signature.TheVariants.{Rot as TurnKey}
use Rattle.proto_names.specs.declared.instance.Stage.TheVariants.{Opened}
use Rattle.instance_table.specs.Tables.{no_sums, row_counts}
use Rattle.spec_rows.proofs.Tables.{issued}
use Rattle.session_rules.specs.declared.state.CircuitState.TheVariants.{Idle}
use Rattle.session_rules.specs.Fixing.{begins_as, plan_of, fixed_from}
use Rattle.session_spec.specs.Settings.{Offer, Setting, gadget_rows, rules, nodes_at, values_at, value_at, owner_at, input_count, plain_at, Keeps, Tells, IsSetting, HasValues, IsSwitchFree, NeedsNoSwitch}

abbrev pub numbers : Numbers
numbers = record { n = 2; q = 1009; t = 4; digit_bits = 5; balanced = false; err = 1; flood = 2; parties = 3; threshold = 2 }

-- 3 + 2X
abbrev pub constant : Offer
constant = record { nodes = Const (3 ∷ 2 ∷ []) ∷ []; values = Some [] }

abbrev pub sum : Offer
sum = record { nodes = Input 2 ∷ Input 1 ∷ Add 0 1 ∷ []; values = Some ((1 ∷ 2 ∷ []) ∷ (3 ∷ 3 ∷ []) ∷ []) }

-- the same, of which the values aren't told
abbrev pub untold : Offer
untold = record { nodes = Input 2 ∷ Input 1 ∷ Add 0 1 ∷ []; values = None }

abbrev pub w : Setting
w = record { numbers = numbers; public = 9 ∷ []; offers = constant ∷ sum ∷ untold ∷ [] }

pub rows : gadget_rows w ≡ 2
unfolding binary_digits digits_up_to
rows = refl

-- ---- circuit by circuit, and past the last one

pub nodes_of_each : (nodes_at w 0 ≡ Const (3 ∷ 2 ∷ []) ∷ []) × (nodes_at w 1 ≡ Input 2 ∷ Input 1 ∷ Add 0 1 ∷ []) × (nodes_at w 3 ≡ [])
nodes_of_each = (refl, refl, refl)

pub values_of_each : (values_at w 0 ≡ []) × (values_at w 1 ≡ (1 ∷ 2 ∷ []) ∷ (3 ∷ 3 ∷ []) ∷ []) × (values_at w 2 ≡ []) × (value_at w 1 0 ≡ 1 ∷ 2 ∷ []) × (value_at w 1 1 ≡ 3 ∷ 3 ∷ []) × (value_at w 1 2 ≡ [])
values_of_each = (refl, refl, refl, refl, refl, refl)

pub owners_of_each : (owner_at w 1 0 ≡ 2) × (owner_at w 1 1 ≡ 1) × (owner_at w 1 2 ≡ 0) × (input_count w 0 ≡ 0) × (input_count w 1 ≡ 2)
unfolding owners
owners_of_each = (refl, refl, refl, refl, refl)

pub plain_of_each : (plain_at w 0 ≡ 3 ∷ 2 ∷ []) × (plain_at w 1 ≡ 0 ∷ 1 ∷ [])
unfolding plain_at plain_value values_from node_value given_after ring_sum residues residue
plain_of_each = (refl, refl)

-- the rules see nodes, owners, products and rotations; all three circuits are admitted
pub rules_see : rules w ≡ record {
  numbers = numbers;
  threshold = 2;
  rows = 2;
  plans = record { nodes = Const (3 ∷ 2 ∷ []) ∷ []; owners = []; product = false; turns = []; opening = Idle }
      ∷ record { nodes = Input 2 ∷ Input 1 ∷ Add 0 1 ∷ []; owners = 2 ∷ 1 ∷ []; product = false; turns = []; opening = Idle }
      ∷ record { nodes = Input 2 ∷ Input 1 ∷ Add 0 1 ∷ []; owners = 2 ∷ 1 ∷ []; product = false; turns = []; opening = Idle } ∷ [];
  turns = [];
}
unfolding rules fixed_from plan_of begins_as owners first_over first_above place_bound output_bound node_bounds bounds_from node_bound input_bound sum_bound binary_digits digits_up_to
rules_see = refl

-- ---- what a setting has to keep, for parameters with eight coefficients, plaintexts modulo 16 and three parties

pub degree_is : IsTrue (is_power_of_two 8)
unfolding ones
degree_is = refl

pub no_factor : IsTrue (indivisible 31525197391593473 31)
unfolding indivisible
no_factor = refl

abbrev pub p : Params
p = record {
  n = 8;
  q = 31525197391593473;
  t = 16;
  digit_bits = 8;
  balanced = false;
  err = 1;
  flood = 1;
  parties = 3;
  threshold = 2;
  psi = 1791537114801093;
  degree = (omega arith, omega arith, degree_is);
  modulus = (omega arith, omega arith, refl);
  no_small_factor = no_factor;
  plain_modulus = (omega arith, omega arith);
  noise = (omega arith, omega arith, omega arith, omega arith, omega arith);
  group = (omega arith, omega arith, omega arith);
  root = (omega arith, refl);
}

abbrev pub seven : List ℕ
seven = 7 ∷ 0 ∷ 0 ∷ 0 ∷ 0 ∷ 0 ∷ 0 ∷ 15 ∷ []

abbrev pub small : Offer
small = record { nodes = Input 3 ∷ Const seven ∷ Add 0 1 ∷ []; values = Some (seven ∷ []) }

pub keeps : Keeps p small
unfolding first_fault first_wrong may_stand
keeps = record { rules = refl }

-- a rotation is kept too
abbrev pub turned : Offer
turned = record { nodes = Input 1 ∷ Rot 3 0 ∷ []; values = Some (seven ∷ []) }

pub keeps_rotation : Keeps p turned
unfolding first_fault first_wrong may_stand
keeps_rotation = record { rules = refl }

-- no node, an owner who is no party, and a rotation of a node behind it
pub keeps_no_node : Keeps p (record { nodes = []; values = Some [] }) → ⊥
unfolding first_fault
keeps_no_node k = let fault : ◌≡◌ {A = Option ℕ} (Some 0) None = k.rules in cc

pub keeps_no_owner : Keeps p (record { nodes = Input 4 ∷ []; values = Some (seven ∷ []) }) → ⊥
unfolding first_fault first_wrong may_stand
keeps_no_owner k = let fault : ◌≡◌ {A = Option ℕ} (Some 0) None = k.rules in cc

pub keeps_no_later_node : Keeps p (record { nodes = Input 1 ∷ Rot 3 1 ∷ []; values = Some (seven ∷ []) }) → ⊥
unfolding first_fault first_wrong may_stand
keeps_no_later_node k = let fault : ◌≡◌ {A = Option ℕ} (Some 1) None = k.rules in cc

-- ---- one plaintext is told for each input

abbrev IsBelow : ℕ → Type 0
IsBelow x = x < 16

seven_below : All IsBelow seven
seven_below =
    All-cons IsBelow 7 (0 ∷ 0 ∷ 0 ∷ 0 ∷ 0 ∷ 0 ∷ 15 ∷ []) (omega arith) (All-cons IsBelow 0 (0 ∷ 0 ∷ 0 ∷ 0 ∷ 0 ∷ 15 ∷ []) (omega arith)
    (All-cons IsBelow 0 (0 ∷ 0 ∷ 0 ∷ 0 ∷ 15 ∷ []) (omega arith) (All-cons IsBelow 0 (0 ∷ 0 ∷ 0 ∷ 15 ∷ []) (omega arith)
    (All-cons IsBelow 0 (0 ∷ 0 ∷ 15 ∷ []) (omega arith) (All-cons IsBelow 0 (0 ∷ 15 ∷ []) (omega arith)
    (All-cons IsBelow 0 (15 ∷ []) (omega arith) (All-cons IsBelow 15 [] (omega arith) (All-nil IsBelow))))))))

pub tells : Tells p small
unfolding owners
tells = record { values = seven ∷ []; told = refl; number = refl; plain = All-cons (IsPoly 16 8) seven [] (record { entries = refl; below = seven_below }) (All-nil (IsPoly 16 8)) }

-- they aren't told; one is wanting; and one isn't below 16
pub tells_none : Tells p (record { nodes = Input 3 ∷ []; values = None }) → ⊥
tells_none h = let same : None ≡ Some h.values = h.told in cc

told_are : (given : List (List ℕ)) (h : Tells p (record { nodes = Input 3 ∷ []; values = Some given })) → h.values ≡ given
told_are given h = sym (ap (λ (o : Option (List (List ℕ))). unwrap_or o []) h.told)

pub tells_too_few : Tells p (record { nodes = Input 3 ∷ []; values = Some [] }) → ⊥
unfolding owners
tells_too_few h = let none : length h.values ≡ 0 = ap length (told_are [] h) in absurd (omega (arith, none, h.number))

pub tells_too_much : Tells p (record { nodes = Input 3 ∷ []; values = Some ((16 ∷ 0 ∷ 0 ∷ 0 ∷ 0 ∷ 0 ∷ 0 ∷ 0 ∷ []) ∷ []) }) → ⊥
tells_too_much h =
    let big : List ℕ = 16 ∷ 0 ∷ 0 ∷ 0 ∷ 0 ∷ 0 ∷ 0 ∷ 0 ∷ [] in
    let plain : All (IsPoly 16 8) (big ∷ []) = subst (λ (vs : List (List ℕ)). All (IsPoly 16 8) vs) (told_are (big ∷ []) h) h.plain in
    let first : 16 < 16 = (plain 0 [] (omega arith)).below 0 0 (omega arith) in absurd (omega (arith, first))

-- ---- settings

abbrev pub framed : Setting
framed = record { numbers = numbers_of p; public = 9 ∷ []; offers = small ∷ [] }

pub setting : IsSetting p framed
setting = record { numbers = refl; circuits = All-cons (Keeps p) small [] keeps (All-nil (Keeps p)) }

pub has_values : HasValues p framed
has_values = All-cons (Tells p) small [] tells (All-nil (Tells p))

-- no key is needed but the public one; a rotation needs another, beside circuits that need none too
pub needs_no_switch : NeedsNoSwitch framed
unfolding is_switch_free
needs_no_switch = All-cons IsSwitchFree small [] refl (All-nil IsSwitchFree)

pub needs_a_switch : NeedsNoSwitch (record framed { offers = small ∷ turned ∷ [] }) → ⊥
unfolding is_switch_free
needs_a_switch h = true≢false (sym (h 1 small (omega arith)))

pub of_other_numbers : IsSetting p (record framed { numbers = numbers }) → ⊥
of_other_numbers s = let degrees : 2 ≡ 8 = ap (λ (m : Numbers). m.n) s.numbers in absurd (omega (arith, degrees))

pub keeps_no_circuit : IsSetting p (record framed { offers = small ∷ record { nodes = []; values = Some [] } ∷ [] }) → ⊥
keeps_no_circuit s = keeps_no_node (s.circuits 1 small (omega arith))

pub has_no_values : HasValues p (record framed { offers = record { nodes = Input 3 ∷ []; values = None } ∷ [] }) → ⊥
has_no_values h = tells_none (h 0 small (omega arith))

-- ---- the sums of an instance have as many rows as its shares: for seven rows of the gadget

pub sums_have : (no_sums p Pk ≡ (0 ∷ 0 ∷ 0 ∷ 0 ∷ 0 ∷ 0 ∷ 0 ∷ 0 ∷ []) ∷ []) × (length (no_sums p Rlk1) ≡ 14) × (row_counts p (issued 1 (TurnKey 3) 3 1 0 Opened 0) ≡ 7)
unfolding no_sums rows_of binary_digits digits_up_to
sums_have = (refl, refl, refl)
