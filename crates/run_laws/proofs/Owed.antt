-- How much a party owes.
use Rattle.std.proofs.Common.{◌≡◌, ◌∙◌, sym, subst, ℕ, ◌<◌, ◌≤◌, Bool, true, false, cond, ◌&&◌, inl, inr, [], length, map, filter, Contains, Some, arith}
use Rattle.std.specs.Prelude.{if◌then◌else◌}
use Rattle.std.specs.List.{range_with_len, flat_map}
use Rattle.std.proofs.lemmas.Bool.{cases_lt, and_parts, and_from}
use Rattle.std.proofs.lemmas.List.{get_or_past, length-map}
use Rattle.std.proofs.lemmas.List.Elements.{Contains-append_left, Contains-append_right}
use Rattle.share_spec.specs.Sets.{has}
use Rattle.proto_names.specs.Names.{same}
use Rattle.proto_names.specs.Instances.{lacks, id_of, owed_shares}
use Rattle.proto_names.specs.declared.signature.Signature.{Signature}
use Rattle.proto_names.specs.declared.signature.Signature.TheVariants.{Pk, Dec}
use Rattle.proto_names.specs.declared.instance.Instance.{Instance}
use Rattle.session_rules.specs.declared.call.Call.TheVariants as call
use Rattle.session_rules.specs.declared.reply.Reply.TheVariants as reply
use Rattle.session_rules.specs.declared.state.CircuitState.TheVariants.{Evaluated, Answered}
use Rattle.session_rules.specs.declared.fixed.Fixed.{Fixed}
use Rattle.session_rules.specs.States.{State, circuit, plan, no_plan, is_admitted, has_done}
use Rattle.session_rules.specs.Issues.{keys as needed_keys}
use Rattle.session_rules.specs.Steps.{lacks_input, place, owed_of, owed_inputs, pending, judge, step}
use Rattle.session_rules.specs.Tasks.{Lists, listed}
use Rattle.session_rules.specs.Facts.{Kept}
use Rattle.session_rules.specs.Grounds.{Grounded}
use Rattle.session_rules.proofs.Contained.{contains_map, contains_range}
use Rattle.session_rules.proofs.Marks.{same_is, same_self, opened_lives, lacks_is, numbered_at}
use Rattle.session_rules.proofs.Weights.{passing_all, range_length}
use Rattle.session_rules.proofs.Grounds.{KeptWell}
use Rattle.run_laws.specs.Lengths.{signatures, input_count, inputs}
use Rattle.run_laws.proofs.Few.{IsNamed, few_named, one_number, few_joined}

-- ---- shares

-- an instance of a signature that lacks a party's share
abbrev lacks_of : ℕ → Signature → Instance → Bool
lacks_of p σ i = lacks p i && same i.signature σ

circuit_within : (f : Fixed) (s : State) (c : ℕ) → Kept f s → circuit s.circuits c ≡ Evaluated → c < length f.plans
circuit_within f s c k e = elim (cases_lt c (length s.circuits)) [
  | inl less ↦ let many = k.circuits in omega arith
  | inr more ↦ let past : circuit s.circuits c ≡ Answered = get_or_past s.circuits c Answered more in let both : Evaluated ≡ Answered = sym e ∙ past in cc
]

-- what is opened is of a key, or decrypts one of the circuits
lacking_named : (f : Fixed) (s : State) (p : ℕ) (i : Instance) → Kept f s → Grounded f s → Contains s.instances i → lacks p i ≡ true → IsNamed (lacks_of p) (signatures f) i
unfolding signatures
lacking_named f s p i k g m e =
    let decryptions = map Dec (range_with_len 0 (length f.plans)) in
    let its = and_from (lacks p i) (same i.signature i.signature) e (same_self i.signature) in
    elim (g.asked i m) [
      | inl key ↦ record { name = i.signature; within = Contains-append_left (needed_keys f) decryptions i.signature key; is = its }
      | inr d ↦
          let l = circuit_within f s d.0 k ((k.decrypts i m).opened d.0 d.1 (lacks_is p i e).opened) in
          let there = contains_map Dec (range_with_len 0 (length f.plans)) d.0 (contains_range 0 (length f.plans) d.0 (omega arith) (omega arith)) in
          record {
            name = i.signature;
            within = Contains-append_right (needed_keys f) decryptions i.signature (subst (λ (z : Signature). Contains decryptions z) (sym d.1) there);
            is = its;
          }
    ]

few_lack : (f : Fixed) (s : State) (p : ℕ) → Kept f s → Grounded f s → length (filter (lacks p) s.instances) ≤ length (signatures f)
few_lack f s p k g =
    few_named (lacks_of p) s.instances (signatures f) (lacks p) (λ i m e. lacking_named f s p i k g m e)
    (λ σ. one_number id_of (lacks_of p σ) s.instances 1 (λ i m. let e = numbered_at s.instances i k.numbered m in omega arith)
    (λ i j m n a b.
    let x = and_parts (lacks p i) (same i.signature σ) a in
    let y = and_parts (lacks p j) (same j.signature σ) b in
    k.one i j m n (same_is i.signature σ x.1 ∙ sym (same_is j.signature σ y.1)) (opened_lives i (lacks_is p i x.0).opened) (opened_lives j (lacks_is p j y.0).opened)))

few_shares : (f : Fixed) (s : State) (p : ℕ) → Kept f s → Grounded f s → length (owed_shares p s.instances) ≤ length (signatures f)
unfolding owed_shares
few_shares f s p k g = omega (arith, length-map (filter (lacks p) s.instances) id_of, few_lack f s p k g)

-- ---- inputs

few_of : (f : Fixed) (s : State) (p c : ℕ) → length (owed_of f s p c) ≤ length (plan f c).owners
unfolding owed_of
few_of f s p c = at (is_admitted (plan f c))
  where
    at : (b : Bool) → length (cond b (map (place c) (filter (lacks_input f s p c) (range_with_len 0 (length (plan f c).owners)))) []) ≤ length (plan f c).owners
    at true =
        let range = range_with_len 0 (length (plan f c).owners) in
        omega (arith, length-map (filter (lacks_input f s p c) range) (place c), passing_all (lacks_input f s p c) range, range_length 0 (length (plan f c).owners))
    at false = omega arith

few_inputs : (f : Fixed) (s : State) (p : ℕ) → length (owed_inputs f s p) ≤ inputs f
unfolding owed_inputs inputs
few_inputs f s p = at (has_done Pk s.instances)
  where
    at : (b : Bool) → length (cond b (flat_map (owed_of f s p) (range_with_len 0 (length f.plans))) []) ≤ inputs f
    at true = few_joined input_count (owed_of f s p) 0 f.plans no_plan (λ k j e l.
        let same_ : j ≡ k = omega arith in
        subst (λ (z : ℕ). length (owed_of f s p j) ≤ length (plan f z).owners) same_ (few_of f s p j))
    at false = omega arith

-- ---- what a party is told that it owes

pub few_asked : (f : Fixed) (s : State) (who p : ℕ) (owed : Lists) → KeptWell f s → listed (step f s who (call.Pending p)).0 ≡ Some owed
    → (length owed.ids ≤ length (signatures f)) × (length owed.inputs ≤ inputs f)
unfolding step judge pending
few_asked f s who p owed g e = at (has s.present p) e
  where
    at : (b : Bool) → listed (if b then reply.List (owed_shares p s.instances) (owed_inputs f s p) else reply.Absent) ≡ Some owed → (length owed.ids ≤ length (signatures f)) × (length owed.inputs ≤ inputs f)
    at true e =
        let all : Lists = record { ids = owed_shares p s.instances; inputs = owed_inputs f s p } in
        let same_ : all ≡ owed = cc in
        subst (λ (z : Lists). (length z.ids ≤ length (signatures f)) × (length z.inputs ≤ inputs f)) same_ (few_shares f s p g.0 g.1, few_inputs f s p)
    at false e = cc
